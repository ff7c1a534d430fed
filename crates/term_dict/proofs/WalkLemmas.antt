-- A second walk over terms that were checked.
use Rattle.std.proofs.Common.{◌≡◌, ℕ, ◌+◌, ◌-◌, ◌<◌, ◌≤◌, ◌^◌, true, false, Bool, ltb, leb, not, ◌||◌, List, [], ◌∷◌, ◌++◌, length, get_or, take, drop, Some, None, refl, sym, ap, subst, ◌∙◌, append_assoc, arith, inl, inr}
use Rattle.std.specs.Prelude.{slice_get, slice_index_or, if◌then◌else◌}
use Rattle.std.specs.Str.{is_utf8}
use Rattle.std.proofs.lemmas.Bool.{cases_lt, leb-false, ltb-false}
use Rattle.lu_types.specs.RuleNumbers as number
use Rattle.lu_grammar.proofs.Parts.{IsBytes-drop}
use Rattle.term_dict.proofs.LoopLemmas.{last_term-push}
use Rattle.std.proofs.lemmas.List.{length-append, drop_at, length-take-le, drop-drop, get_or_at, get_or_past, length-drop}
use Rattle.std.proofs.lemmas.Option.{slice_get-get_or, slice_get_past}
use Rattle.std.proofs.Math.Seq.{take-append_seam}
use Rattle.std.proofs.lemmas.Str.{IsUtf8-from_is_utf8}
use Rattle.lu_grammar.specs.declared.bad.Bad.{Bad}
use Rattle.lu_grammar.specs.Bytes.{IsBytes, Cursor, place_in}
use Rattle.lu_grammar.specs.Reading.{read}
use Rattle.lu_grammar.specs.Records.{first_broken, read_shape}
use Rattle.lu_grammar.specs.Plans.{Plan, one, times, read_plan}
use Rattle.lu_grammar.specs.Meaning.{bytes_of}
use Rattle.lu_grammar.proofs.Records.{ok_pair, same_pair}
use Rattle.lu_grammar.proofs.Plans.{err_of, err_is_not_ok, reads-read_plan}
use Rattle.lu_grammar.proofs.Loops.{each-none, times-again, times-more, each-rest}
use Rattle.lu_types.specs.declared.term.TermNumbers.{TermNumbers}
use Rattle.term_dict.specs.Headings.{entry}
use Rattle.term_dict.specs.Entries.{TermRecord, entry_shape}
use Rattle.term_dict.specs.Terms.{DictionaryTerm, no_term, last_term, term_after}
use Rattle.term_dict.specs.Dictionary.{Dictionary, anywhere, Progress, no_terms, with_term, term_conditions, is_past_files, term_kind}
use Rattle.term_dict.specs.Last.{IsSoundTerm, Fits}
use Rattle.term_dict.specs.Content.{dictionary_in, IsRead}
use Rattle.term_dict.specs.Walk.{IsAt}
use Rattle.term_dict.proofs.FileLemmas.{dictionary_of}
use Rattle.term_dict.proofs.DictionaryRead.{Grows, good_entry, grows, all_read}

-- ---- one step of the walk

-- what is read from a place in some bytes ends at a place in them
stays : {V R : Type 0} (plan : Plan V R) (bytes : List ℕ) (p : ℕ) (v : V) (d : Cursor) → IsBytes bytes → p ≤ length bytes → read_plan plan (place_in bytes p) ≡ ok_pair v d → (d ≡ place_in bytes d.place) × (d.place ≤ length bytes)
stays plan bytes p v d fits le e =
    let r = reads-read_plan plan (place_in bytes p) v d (IsBytes-drop p bytes fits) e in
    let front = bytes_of r.records in
    let rest : d.rest ≡ drop d.place bytes =
    sym (drop_at front d.rest (length front) refl) ∙ ap (drop (length front)) (sym r.front) ∙ drop-drop (length front) p bytes ∙ ap (λ (n : ℕ). drop n bytes) (sym r.place) in
    (ap (λ (t : List ℕ). with_rest d.place t) rest, omega (arith, r.place, length-drop p bytes, ap length r.front, length-append front d.rest))
  where
    with_rest : ℕ → List ℕ → Cursor
    with_rest place rest = record { place = place; rest = rest }

three : (a b c : Bool) (r s t : ℕ) → (if a then Some r else if b then Some s else if c then Some t else None) ≡ None → (a ≡ false) × (b ≡ false) × (c ≡ false)
three true b c r s t e = cc
three false true c r s t e = cc
three false false true r s t e = cc
three false false false r s t e = (refl, refl, refl)

neither : (a b : Bool) → (a || b) ≡ false → (a ≡ false) × (b ≡ false)
neither true b e = cc
neither false b e = (refl, e)

not_false : (b : Bool) → not b ≡ false → b ≡ true
not_false true e = refl
not_false false e = cc

-- what is good after a term is so
entry_fits : (before : List DictionaryTerm) (e : TermRecord) → first_broken (term_conditions anywhere before e) ≡ None → Fits (last_term before) e
entry_fits before e good =
    let t = term_after (last_term before) e in
    let all = three (ltb (length (last_term before).text) e.prefix) (not (is_utf8 t.text)) (is_past_files t) number.term_prefix number.term_utf8 number.term_place good in
    let past = neither (leb (2 ^ 31) t.info.freq) (leb (2 ^ 31) t.info.prox) all.2 in
    record {
      prefix = ltb-false _ _ all.0;
      sound = record { text = IsUtf8-from_is_utf8 t.text (not_false (is_utf8 t.text) all.1); freq = leb-false _ _ past.0; prox = leb-false _ _ past.1 };
    }

-- the next term
pub record Next (bytes : List ℕ) (numbers : TermNumbers) (capacity passed place : ℕ) (last : DictionaryTerm) : Type 0 where
  pub e : TermRecord
  pub new : Cursor
  pub read : read_shape (entry_shape false numbers.skip_interval) (place_in bytes place) ≡ ok_pair e new
  pub fits : Fits last e
  pub room : e.prefix + length e.suffix ≤ capacity
  pub is_term : slice_get (dictionary_in bytes).terms passed ≡ Some (term_after last e)
  pub starts : (d : ℕ) → get_or (dictionary_in bytes).starts passed d ≡ place
  pub after : IsAt bytes numbers (passed + 1) new.place (term_after last e)

-- the terms that were passed are as many, and begin all terms
pub passed-length : (bytes : List ℕ) (numbers : TermNumbers) (passed place : ℕ) (last : DictionaryTerm) → (w : IsAt bytes numbers passed place last) → (length w.so_far.terms ≡ passed) × (length w.so_far.starts ≡ passed)
passed-length bytes numbers passed place last w =
    let g = grows anywhere numbers.skip_interval passed no_terms (place_in bytes 24) (w.so_far, place_in bytes place) w.read in
    (ap length g.terms ∙ g.count, ap length g.starts ∙ g.count_starts)

pub next_term : (bytes : List ℕ) (numbers : TermNumbers) (capacity passed place : ℕ) (last : DictionaryTerm) → IsBytes bytes → IsRead bytes numbers capacity → IsAt bytes numbers passed place last → passed < numbers.count
    → Next bytes numbers capacity passed place last
next_term bytes numbers capacity passed place last fits h w lt =
    let k = numbers.skip_interval in
    let start = place_in bytes 24 in
    let here = place_in bytes place in
    let all = all_read bytes numbers capacity fits h in
    let z = all.0 in
    let turn = times-again (term_kind anywhere k) passed numbers.count no_terms start w.so_far here (z, all.1) lt all.2.read w.read in
    let good = good_entry anywhere k w.so_far here turn.0 turn.1 turn.2 in
    let e = good.0 in
    let new = turn.1 in
    let t = term_after (last_term w.so_far.terms) e in
    let more = times-more (term_kind anywhere k) passed no_terms start w.so_far here (entry e) new w.read good.1.whole_record in
    let later = grows anywhere k (numbers.count - (passed + 1)) (with_term w.so_far place e) new (z, all.1)
    (sym (each-rest (one (term_kind anywhere k)) (passed + 1) numbers.count no_terms start (with_term w.so_far place e) new (omega arith) more) ∙ all.2.read) in
    let count = passed-length bytes numbers passed place last w in
    let terms : (dictionary_in bytes).terms ≡ w.so_far.terms ++ t ∷ later.more = ap (λ (v : Dictionary). v.terms) all.2.value ∙ later.terms ∙ append_assoc w.so_far.terms (t ∷ []) later.more in
    let starts : (dictionary_in bytes).starts ≡ w.so_far.starts ++ place ∷ later.more_starts = ap (λ (v : Dictionary). v.starts) all.2.value ∙ later.starts ∙ append_assoc w.so_far.starts (place ∷ []) later.more_starts in
    let is : get_or (dictionary_in bytes).terms passed no_term ≡ t = ap (λ (ts : List DictionaryTerm). get_or ts passed no_term) terms ∙ get_or_at w.so_far.terms t later.more no_term passed count.0 in
    let inside : passed < length (dictionary_in bytes).terms = omega (arith, ap length terms, length-append w.so_far.terms (t ∷ later.more), count.0) in
    let at_end = stays (times (term_kind anywhere k) (passed + 1) no_terms) bytes 24 (with_term w.so_far place e) new fits all.2.inside more in
    let entry_is = entry_fits w.so_far.terms e good.1.good in
    let here_is : t ≡ term_after last e = ap (λ (l : DictionaryTerm). term_after l e) w.is_last in
    let fit : Fits last e = subst (λ (l : DictionaryTerm). Fits l e) w.is_last entry_is in
    let long : length (take e.prefix last.text ++ e.suffix) ≤ capacity = subst (λ (x : DictionaryTerm). length x.text ≤ capacity) (is ∙ here_is) (h.within passed) in
    record {
      e = e;
      new = new;
      read = good.1.read;
      fits = fit;
      room = omega (arith, long, length-append (take e.prefix last.text) e.suffix, length-take-le e.prefix last.text fit.prefix);
      is_term = slice_get-get_or (dictionary_in bytes).terms passed no_term inside ∙ ap (λ (x : DictionaryTerm). Some x) (is ∙ here_is);
      starts = λ d. ap (λ (ns : List ℕ). get_or ns passed d) starts ∙ get_or_at w.so_far.starts place later.more_starts d passed count.1;
      after = record {
        so_far = with_term w.so_far place e;
        read = more ∙ ap (λ (x : Cursor). ok_pair (with_term w.so_far place e) x) at_end.0;
        is_last = last_term-push w.so_far.terms t ∙ here_is;
        sound = fit.sound;
        few = omega arith;
        inside = at_end.1;
      };
    }

-- ---- what the walk tells

-- before the first term
pub start_at : (bytes : List ℕ) (numbers : TermNumbers) (longest : ℕ) (last : DictionaryTerm) → IsBytes bytes → IsRead bytes numbers longest → last ≡ no_term → IsSoundTerm last → IsAt bytes numbers 0 24 last
start_at bytes numbers longest last fits h is sound = record {
  so_far = no_terms;
  read = each-none (one (term_kind anywhere numbers.skip_interval)) no_terms (place_in bytes 24);
  is_last = sym is;
  sound = sound;
  few = omega arith;
  inside = (all_read bytes numbers longest fits h).2.inside;
}

-- there are as many terms and places as the numbers say
pub dictionary_in-length : (bytes : List ℕ) (numbers : TermNumbers) (longest : ℕ) → IsBytes bytes → IsRead bytes numbers longest → (length (dictionary_in bytes).terms ≡ numbers.count) × (length (dictionary_in bytes).starts ≡ numbers.count)
dictionary_in-length bytes numbers longest fits h =
    let all = all_read bytes numbers longest fits h in
    let g = grows anywhere numbers.skip_interval numbers.count no_terms (place_in bytes 24) (all.0, all.1) all.2.read in
    (ap (λ (v : Dictionary). length v.terms) all.2.value ∙ ap length g.terms ∙ g.count, ap (λ (v : Dictionary). length v.starts) all.2.value ∙ ap length g.starts ∙ g.count_starts)

-- all terms are those that were passed and more
all_grow : (bytes : List ℕ) (numbers : TermNumbers) (longest passed place : ℕ) (last : DictionaryTerm) → IsBytes bytes → IsRead bytes numbers longest → (w : IsAt bytes numbers passed place last) → (z : Progress) × Grows w.so_far z (numbers.count - passed) × (dictionary_in bytes ≡ dictionary_of numbers (length bytes) z)
all_grow bytes numbers longest passed place last fits h w =
    let all = all_read bytes numbers longest fits h in
    let rest = each-rest (one (term_kind anywhere numbers.skip_interval)) passed numbers.count no_terms (place_in bytes 24) w.so_far (place_in bytes place) w.few w.read in
    (all.0, grows anywhere numbers.skip_interval (numbers.count - passed) w.so_far (place_in bytes place) (all.0, all.1) (sym rest ∙ all.2.read), all.2.value)

pub passed-terms : (bytes : List ℕ) (numbers : TermNumbers) (longest passed place : ℕ) (last : DictionaryTerm) → IsBytes bytes → IsRead bytes numbers longest → IsAt bytes numbers passed place last → last_term (take passed (dictionary_in bytes).terms) ≡ last
passed-terms bytes numbers longest passed place last fits h w =
    let all = all_grow bytes numbers longest passed place last fits h w in
    let count = passed-length bytes numbers passed place last w in
    let front : take passed (dictionary_in bytes).terms ≡ w.so_far.terms =
    ap (λ (v : Dictionary). take passed v.terms) all.2 ∙ ap (take passed) all.1.terms ∙ ap (λ (n : ℕ). take n (w.so_far.terms ++ all.1.more)) (sym count.0) ∙ take-append_seam w.so_far.terms all.1.more in
    ap last_term front ∙ w.is_last

-- where all terms were passed the file ends
at_end : (bytes : List ℕ) (numbers : TermNumbers) (longest passed place : ℕ) (last : DictionaryTerm) → IsBytes bytes → IsRead bytes numbers longest → IsAt bytes numbers passed place last → passed ≡ numbers.count → place ≡ length bytes
at_end bytes numbers longest passed place last fits h w is =
    let all = all_read bytes numbers longest fits h in
    let read : read_plan (times (term_kind anywhere numbers.skip_interval) passed no_terms) (place_in bytes 24) ≡ ok_pair all.0 all.1 =
    ap (λ (n : ℕ). read_plan (times (term_kind anywhere numbers.skip_interval) n no_terms) (place_in bytes 24)) is ∙ all.2.read in
    let same = same_pair w.so_far all.0 (place_in bytes place) all.1 (sym w.read ∙ read) in
    let none : length (drop place bytes) ≡ 0 = ap (λ (c : Cursor). length c.rest) same.1 ∙ all.2.whole_file in
    omega (arith, none, length-drop place bytes, w.inside)

pub place_is : (bytes : List ℕ) (numbers : TermNumbers) (longest passed place : ℕ) (last : DictionaryTerm) → IsBytes bytes → IsRead bytes numbers longest → IsAt bytes numbers passed place last
    → place ≡ slice_index_or (dictionary_in bytes).starts passed (dictionary_in bytes).size
place_is bytes numbers longest passed place last fits h w = elim (cases_lt passed numbers.count) [
  | inl lt ↦ sym ((next_term bytes numbers longest passed place last fits h w lt).starts (dictionary_in bytes).size)
  | inr ge ↦
      let ends = at_end bytes numbers longest passed place last fits h w (omega (arith, w.few)) in
      let past : length (dictionary_in bytes).starts ≤ passed = omega (arith, (dictionary_in-length bytes numbers longest fits h).1) in
      ends ∙ sym (ap (λ (v : Dictionary). v.size) (all_read bytes numbers longest fits h).2.value) ∙ sym (get_or_past (dictionary_in bytes).starts passed (dictionary_in bytes).size past)
]

-- with more room
pub IsRead-roomier : (bytes : List ℕ) (numbers : TermNumbers) (longest more : ℕ) → IsRead bytes numbers longest → longest ≤ more → IsRead bytes numbers more
IsRead-roomier bytes numbers longest more h le = record { read = h.read; numbers_are = h.numbers_are; bounded = h.bounded; within = λ i. omega (arith, h.within i); small = h.small; fits = h.fits }

-- after the last term there is none
pub none_left : (bytes : List ℕ) (numbers : TermNumbers) (longest passed : ℕ) → IsBytes bytes → IsRead bytes numbers longest → passed ≡ numbers.count → slice_get (dictionary_in bytes).terms passed ≡ None
none_left bytes numbers longest passed fits h is = slice_get_past (dictionary_in bytes).terms passed (omega (arith, (dictionary_in-length bytes numbers longest fits h).0))

-- the entry that was read is that of the next term
pub record IsNextOf (bytes : List ℕ) (numbers : TermNumbers) (capacity passed : ℕ) (last : DictionaryTerm) (e : TermRecord) (new : Cursor) : Type 0 where
  pub fits : Fits last e
  pub room : e.prefix + length e.suffix ≤ capacity
  pub is_term : slice_get (dictionary_in bytes).terms passed ≡ Some (term_after last e)
  pub after : IsAt bytes numbers (passed + 1) new.place (term_after last e)

pub next_of : (bytes : List ℕ) (numbers : TermNumbers) (capacity passed place : ℕ) (last : DictionaryTerm) (c : Cursor) (e : TermRecord) (new : Cursor) → IsRead bytes numbers capacity → IsAt bytes numbers passed place last → (passed ≡ numbers.count → ⊥)
    → c ≡ place_in bytes place → read_shape (entry_shape false numbers.skip_interval) c ≡ ok_pair e new → IsNextOf bytes numbers capacity passed last e new
next_of bytes numbers capacity passed place last c e new h w more at read =
    let next = next_term bytes numbers capacity passed place last h.fits h w (omega (arith, w.few, more)) in
    let same = same_pair next.e e next.new new (sym next.read ∙ ap (λ (x : Cursor). read_shape (entry_shape false numbers.skip_interval) x) (sym at) ∙ read) in
    let here : IsNextOf bytes numbers capacity passed last next.e next.new = record { fits = next.fits; room = next.room; is_term = next.is_term; after = next.after } in
    subst (λ (d : Cursor). IsNextOf bytes numbers capacity passed last e d) same.1 (subst (λ (x : TermRecord). IsNextOf bytes numbers capacity passed last x next.new) same.0 here)

-- and one was
pub next_there : (bytes : List ℕ) (numbers : TermNumbers) (capacity passed place : ℕ) (last : DictionaryTerm) (c : Cursor) (bad : Bad) → IsRead bytes numbers capacity → IsAt bytes numbers passed place last → (passed ≡ numbers.count → ⊥)
    → c ≡ place_in bytes place → read_shape (entry_shape false numbers.skip_interval) c ≡ err_of bad → ⊥
next_there bytes numbers capacity passed place last c bad h w more at unread =
    let next = next_term bytes numbers capacity passed place last h.fits h w (omega (arith, w.few, more)) in
    err_is_not_ok (sym unread ∙ ap (λ (x : Cursor). read_shape (entry_shape false numbers.skip_interval) x) at ∙ next.read)
