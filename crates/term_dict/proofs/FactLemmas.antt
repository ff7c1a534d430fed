-- What is so of every term of a good file.
use Rattle.std.proofs.Common.{◌≡◌, ℕ, ◌+◌, ◌-◌, ◌<◌, ◌^◌, Bool, true, false, eqb, ltb, leb, not, ◌||◌, List, [], ◌∷◌, ◌++◌, length, get_or, Option, Some, None, Ok, refl, sym, ap, subst, ◌∙◌, arith, inl, inr}
use Rattle.std.specs.Prelude.{if◌then◌else◌, All, AllPairs}
use Rattle.std.specs.Ordering.{is_lt}
use Rattle.std.specs.Option.{unwrap_or}
use Rattle.std.specs.Str.{is_utf8}
use Rattle.std.specs.Cmp.{IsTotalOrder}
use Rattle.std.specs.declared.cmp.Ordering.{Ordering}
use Rattle.std.specs.declared.cmp.Ordering.TheVariants.{Less, Equal, Greater}
use Rattle.std.proofs.lemmas.Bool.{cases_lt, cases_eq, eqb-true, eqb-false, ltb-false, leb-true, leb-false}
use Rattle.std.proofs.lemmas.Cmp.{on_total, then_total}
use Rattle.std.proofs.lemmas.List.{get_or_append_left, get_or_push, get_or_past, get_or_default, length-append}
use Rattle.std.proofs.lemmas.Str.{IsUtf8-from_is_utf8}
use Rattle.lu_grammar.specs.Bytes.{Cursor, start_of}
use Rattle.lu_grammar.specs.Parts.{num, vlong, bytes as some_bytes}
use Rattle.lu_grammar.specs.Reading.{read_part}
use Rattle.lu_grammar.specs.Records.{whole, part, optional, first_broken, read_shape, record_at}
use Rattle.lu_grammar.specs.Plans.{broken_at, times, read_plan, ended}
use Rattle.lu_grammar.specs.Meaning.{Reads}
use Rattle.lu_grammar.proofs.Files.{read_file-Reads}
use Rattle.lu_grammar.proofs.Loops.{then_ok, times-keeps, read_plan-and_then}
use Rattle.lu_grammar.proofs.Records.{ok_pair, same_pair}
use Rattle.lu_prims.proofs.Units.{text_order}
use Rattle.lu_types.specs.RuleNumbers as number
use Rattle.lu_types.specs.Tables.{TableField}
use Rattle.term_dict.specs.Headings.{header, heading_conditions, numbers_of, Line, heading_of, on_entry}
use Rattle.term_dict.specs.Entries.{TermRecord, entry_shape}
use Rattle.term_dict.specs.Terms.{DictionaryTerm, no_term, last_term, term_after, no_field, field_of, is_indexed, is_above, dictionary_term_cmp}
use Rattle.term_dict.specs.Dictionary.{Dictionary, Progress, no_terms, with_term, within, is_past_files, term_conditions, term_kind, terms_plan, dictionary_plan, tis_plan}
use Rattle.term_dict.specs.Facts.{IsTermOfSegment, AreGoodTerms}
use Rattle.term_dict.proofs.FileLemmas.{finish, dictionary_of}
use Rattle.term_dict.proofs.DictionaryRead.{good_entry, grows, was_ended}

-- ---- the order of terms

pub term_order : (fields : List TableField) → IsTotalOrder (dictionary_term_cmp fields)
term_order fields =
    then_total (on_total (λ (t : DictionaryTerm). (field_of fields t.info.field).name) text_order) (on_total (λ (t : DictionaryTerm). t.text) text_order)

-- ---- one term more

All-push : {X : Type 0} (P : X → Type 0) (xs : List X) (x : X) → All P xs → P x → All P (xs ++ x ∷ [])
All-push {X} P xs x all here = λ k d lt. elim (cases_lt k (length xs)) [
  | inl inside ↦ subst P (sym (get_or_append_left xs (x ∷ []) d k inside)) (all k d inside)
  | inr ge ↦ subst P (sym (get_or_push xs x d k (omega (arith, lt, length-append xs (x ∷ []))))) here
]

AllPairs-push : {X : Type 0} (R : X → X → Type 0) (xs : List X) (x : X) → AllPairs R xs → All (λ y. R y x) xs → AllPairs R (xs ++ x ∷ [])
AllPairs-push {X} R xs x all here = λ i j d less lt. elim (cases_lt j (length xs)) [
  | inl inside ↦ subst (R (get_or (xs ++ x ∷ []) i d)) (sym (get_or_append_left xs (x ∷ []) d j inside)) (subst (λ (y : X). R y (get_or xs j d)) (sym (get_or_append_left xs (x ∷ []) d i (omega arith))) (all i j d less inside))
  | inr ge ↦
      let first : i < length xs = omega (arith, lt, length-append xs (x ∷ [])) in
      subst (R (get_or (xs ++ x ∷ []) i d)) (sym (get_or_push xs x d j (omega (arith, lt, length-append xs (x ∷ []))))) (subst (λ (y : X). R y x) (sym (get_or_append_left xs (x ∷ []) d i first)) (here i d first))
]

was_lt : (o : Ordering) → is_lt o ≡ true → o ≡ Less
was_lt Less e = refl
was_lt Equal e = cc
was_lt Greater e = cc

-- a term that is above the last of some terms that rise is above each of them
above_all : (fields : List TableField) (before : List DictionaryTerm) (t : DictionaryTerm) → AllPairs (λ a b. dictionary_term_cmp fields a b ≡ Less) before → is_above fields before t ≡ true → All (λ a. dictionary_term_cmp fields a t ≡ Less) before
above_all fields before t rise above = λ i d lt.
    let last = length before - 1 in
    let least : dictionary_term_cmp fields (last_term before) t ≡ Less = was_lt _ (some_are (eqb (length before) 0) (is_lt (dictionary_term_cmp fields (last_term before) t)) refl (λ none. omega (arith, none, lt)) above) in
    let here : get_or before last d ≡ last_term before = get_or_default before last d no_term (omega (arith, lt)) in
    elim (cases_eq i last) [
      | inl e ↦ subst (λ (a : DictionaryTerm). dictionary_term_cmp fields a t ≡ Less) (sym (ap (λ (k : ℕ). get_or before k d) e ∙ here)) least
      | inr ne ↦ (term_order fields).trans (get_or before i d) (last_term before) t (subst (λ (a : DictionaryTerm). dictionary_term_cmp fields (get_or before i d) a ≡ Less) here (rise i last d (omega (arith, lt, ne)) (omega (arith, lt)))) least
    ]
  where
    some_are : (none above : Bool) → none ≡ eqb (length before) 0 → (length before ≡ 0 → ⊥) → (none || above) ≡ true → above ≡ true
    some_are true above e some so = absurd (some (eqb-true _ _ (sym e)))
    some_are false above e some so = so

-- ---- a record that is good

six : (a b c d e f : Bool) (p q r s t u : ℕ) → (if a then Some p else if b then Some q else if c then Some r else if d then Some s else if e then Some t else if f then Some u else None) ≡ None
    → (a ≡ false) × (b ≡ false) × (c ≡ false) × (d ≡ false) × (e ≡ false) × (f ≡ false)
six true b c d e f p q r s t u h = cc
six false true c d e f p q r s t u h = cc
six false false true d e f p q r s t u h = cc
six false false false true e f p q r s t u h = cc
six false false false false true f p q r s t u h = cc
six false false false false false true p q r s t u h = cc
six false false false false false false p q r s t u h = (refl, refl, refl, refl, refl, refl)

neither : (a b : Bool) → (a || b) ≡ false → (a ≡ false) × (b ≡ false)
neither true b e = cc
neither false b e = (refl, e)

holds : (b : Bool) → not b ≡ false → b ≡ true
holds true e = refl
holds false e = cc

-- a field that is indexed is there
is_there : (fields : List TableField) (number : ℕ) → is_indexed fields number ≡ true → number < length fields
is_there fields number is = elim (cases_lt number (length fields)) [
  | inl lt ↦ lt
  | inr ge ↦ let none : is_indexed fields number ≡ false = rw (get_or_past fields number no_field ge) refl in absurd (cc)
]

-- an entry of these parts
abbrev entry_made : ℕ → List ℕ → ℕ → ℕ → ℕ → ℕ → Option ℕ → TermRecord
entry_made prefix suffix field doc_freq freq prox skip = record { prefix = prefix; suffix = suffix; field = field; doc_freq = doc_freq; freq = freq; prox = prox; skip = unwrap_or skip 0 }

-- SkipDelta is 0 where it does not stand
skip_made : (interval prefix : ℕ) (suffix : List ℕ) (field doc_freq freq prox : ℕ) (c : Cursor) (e : TermRecord) (d : Cursor) (b : Bool) → leb interval doc_freq ≡ b
    → read_shape (optional b (part num (λ n. whole n)) (λ skip. whole (entry_made prefix suffix field doc_freq freq prox skip))) c ≡ ok_pair e d → e.doc_freq < interval → e.skip ≡ 0
skip_made interval prefix suffix field doc_freq freq prox c e d false test read few = ap (λ (x : TermRecord). x.skip) (sym (same_pair (entry_made prefix suffix field doc_freq freq prox None) e c d read).0)
skip_made interval prefix suffix field doc_freq freq prox c e d true test read few =
    let x = then_ok (read_part num c) (λ y. read_shape (whole (entry_made prefix suffix field doc_freq freq prox (Some y.0))) y.1) (e, d) read in
    let same = (same_pair (entry_made prefix suffix field doc_freq freq prox (Some x.0.0)) e x.0.1 d x.2).0 in
    absurd (omega (arith, few, ap (λ (y : TermRecord). y.doc_freq) same, leb-true _ _ test))

no_skip : (interval : ℕ) (c : Cursor) (e : TermRecord) (d : Cursor) → read_shape (entry_shape false interval) c ≡ ok_pair e d → e.doc_freq < interval → e.skip ≡ 0
no_skip interval c e d read =
    let prefix = then_ok (read_part num c) _ (e, d) read in
    let count = then_ok (read_part num prefix.0.1) _ (e, d) prefix.2 in
    let suffix = then_ok (read_part (some_bytes count.0.0) count.0.1) _ (e, d) count.2 in
    let field = then_ok (read_part num suffix.0.1) _ (e, d) suffix.2 in
    let doc_freq = then_ok (read_part num field.0.1) _ (e, d) field.2 in
    let freq = then_ok (read_part vlong doc_freq.0.1) _ (e, d) doc_freq.2 in
    let prox = then_ok (read_part vlong freq.0.1) _ (e, d) freq.2 in
    skip_made interval prefix.0.0 suffix.0.0 field.0.0 doc_freq.0.0 freq.0.0 prox.0.0 prox.0.1 e d (leb interval doc_freq.0.0) refl prox.2

-- what is so of some terms, and where each starts
pub record AreGoodSoFar (fields : List TableField) (documents interval : ℕ) (s : Progress) : Type 0 where
  pub each : All (IsTermOfSegment fields documents interval) s.terms
  pub rise : AllPairs (λ a b. dictionary_term_cmp fields a b ≡ Less) s.terms

good_more : (fields : List TableField) (documents interval place : ℕ) (s : Progress) (c : Cursor) (e : TermRecord) (d : Cursor) → AreGoodSoFar fields documents interval s → read_shape (entry_shape false interval) c ≡ ok_pair e d
    → first_broken (term_conditions (within fields documents) s.terms e) ≡ None → AreGoodSoFar fields documents interval (with_term s place e)
good_more fields documents interval place s c e d h read good =
    let t = term_after (last_term s.terms) e in
    let all = six (ltb (length (last_term s.terms).text) e.prefix) (not (is_utf8 t.text)) (not (is_indexed fields t.info.field)) (not (is_above fields s.terms t)) (eqb t.info.doc_freq 0 || ltb documents t.info.doc_freq) (is_past_files t) number.term_prefix number.term_utf8 number.term_field number.term_order number.doc_freq number.term_place good in
    let indexed = holds (is_indexed fields t.info.field) all.2 in
    let docs = neither (eqb t.info.doc_freq 0) (ltb documents t.info.doc_freq) all.4 in
    let past = neither (leb (2 ^ 31) t.info.freq) (leb (2 ^ 31) t.info.prox) all.5 in
    record {
      each = All-push (IsTermOfSegment fields documents interval) s.terms t h.each (record {
        field = is_there fields t.info.field indexed;
        indexed = indexed;
        text = IsUtf8-from_is_utf8 t.text (holds (is_utf8 t.text) all.1);
        some = omega (arith, eqb-false _ _ docs.0);
        most = ltb-false _ _ docs.1;
        freq = leb-false _ _ past.0;
        prox = leb-false _ _ past.1;
        no_skip = no_skip interval c e d read;
      });
      rise = AllPairs-push (λ a b. dictionary_term_cmp fields a b ≡ Less) s.terms t h.rise (above_all fields s.terms t h.rise (holds (is_above fields s.terms t) all.3));
    }

good_line : (fields : List TableField) (documents interval : ℕ) (s : Progress) (c : Cursor) (line : Line TermRecord) (d : Cursor) → AreGoodSoFar fields documents interval s
    → record_at ((term_kind (within fields documents) interval).shape s) ((term_kind (within fields documents) interval).conditions s c.place) c ≡ Ok (line, d)
    → AreGoodSoFar fields documents interval ((term_kind (within fields documents) interval).after s c.place line)
good_line fields documents interval s c line d h read =
    let good = good_entry (within fields documents) interval s c line d read in
    subst (λ (l : Line TermRecord). AreGoodSoFar fields documents interval (on_entry s (with_term s c.place) l)) (sym good.2) (good_more fields documents interval c.place s c good.0 d h good.1.read good.1.good)

-- ---- the whole file

pub good-terms : (fields : List TableField) (documents : ℕ) (bytes : List ℕ) (d : Dictionary) → Reads (tis_plan fields documents (length bytes)) bytes d → AreGoodTerms fields documents d
unfolding read_plan
good-terms fields documents bytes d reads =
    let size = length bytes in
    let c = start_of bytes in
    let standing = within fields documents in
    let file = then_ok (read_plan (dictionary_plan standing size) c) ended d (read_file-Reads (tis_plan fields documents size) bytes d reads) in
    let head = then_ok (broken_at 0 (record_at (header {E = TermRecord}) (λ line. heading_conditions (heading_of line)) c)) (λ x. read_plan (terms_plan standing size (numbers_of (heading_of x.0))) x.1) file.0 file.1 in
    let n = numbers_of (heading_of head.0.0) in
    let body = then_ok (read_plan (times (term_kind standing n.skip_interval) n.count no_terms) head.0.1) (λ x. read_plan (finish n size x.0) x.1) file.0
    (sym (read_plan-and_then (times (term_kind standing n.skip_interval) n.count no_terms) (finish n size) head.0.1) ∙ head.2) in
    let last = same_pair (dictionary_of n size body.0.0) file.0.0 body.0.1 file.0.1 body.2 in
    let value : d ≡ dictionary_of n size body.0.0 = sym (was_ended file.0 d file.2).0 ∙ sym last.0 in
    let start : AreGoodSoFar fields documents n.skip_interval no_terms = record { each = λ k x lt. absurd (omega (arith, lt)); rise = λ i j x less lt. absurd (omega (arith, lt)) } in
    let good = times-keeps (term_kind standing n.skip_interval) (AreGoodSoFar fields documents n.skip_interval) (good_line fields documents n.skip_interval) n.count no_terms head.0.1 body.0.0 body.0.1 start body.1 in
    let g = grows standing n.skip_interval n.count no_terms head.0.1 body.0 body.1 in
    subst (AreGoodTerms fields documents) (sym value) (record { each = good.each; rise = good.rise; count = ap length g.terms ∙ g.count; starts = ap length g.starts ∙ g.count_starts })
