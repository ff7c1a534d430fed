-- Terms that are spelled one after another are read as these terms.
use Rattle.lu_grammar.specs.Reading.{value_or}
use Rattle.std.proofs.Common.{◌≡◌, ℕ, zero, suc, ◌+◌, ◌-◌, ◌<◌, ◌≤◌, ◌^◌, true, false, Bool, eqb, leb, List, [], ◌∷◌, ◌++◌, length, take, drop, get_or, None, Result, Ok, refl, sym, ap, subst, ◌∙◌, append_assoc, arith, add-one}
use Rattle.std.specs.Prelude.{if◌then◌else◌}
use Rattle.std.specs.Option.{unwrap_or}
use Rattle.std.proofs.lemmas.List.{length-drop, append-nil, take_more}
use Rattle.std.proofs.lemmas.Bool.{eqb-true, leb-false}
use Rattle.lu_grammar.specs.Bytes.{IsBytes, Cursor, place_in}
use Rattle.lu_grammar.specs.Parts.{num, vint, vlong, spelling}
use Rattle.lu_grammar.specs.Records.{whole, part, optional, Spells, Condition, first_broken}
use Rattle.lu_grammar.specs.Plans.{Broken, one, times, read_plan}
use Rattle.lu_grammar.proofs.Records.{at, Spells-followed}
use Rattle.lu_grammar.proofs.Parts.{IsBytes-drop}
use Rattle.lu_grammar.proofs.Writers.{Writes, Writes-none, Writes-record}
use Rattle.term_dict.specs.Headings.{entry, on_entry}
use Rattle.term_dict.specs.Entries.{TermRecord, entry_shape, field_number_shape}
use Rattle.term_dict.specs.Terms.{DictionaryTerm, no_term, last_term, term_after}
use Rattle.term_dict.specs.Dictionary.{Progress, no_terms, with_term, terms_by}
use Rattle.term_dict.specs.Canonical.{shared, entry_between, skip_delta_bytes, term_record_bytes, terms_bytes, starts_of}
use Rattle.term_dict.specs.Writing.{FollowsTerm, IsSpellable, AreSpellable, any_terms, terms_in, IsBehind}
use Rattle.std.proofs.Math.Seq.{take-length}

-- ---- what two texts share

pub shared-within : (xs ys : List ℕ) → (shared xs ys ≤ length xs) × (shared xs ys ≤ length ys)
unfolding shared
shared-within [] ys = (omega arith, omega arith)
shared-within (x ∷ xs) [] = (omega arith, omega arith)
shared-within (x ∷ xs) (y ∷ ys) = go (eqb x y) (shared-within xs ys)
  where
    go : (b : Bool) → (shared xs ys ≤ length xs) × (shared xs ys ≤ length ys) → ((if b then suc (shared xs ys) else 0) ≤ length (x ∷ xs)) × ((if b then suc (shared xs ys) else 0) ≤ length (y ∷ ys))
    go true h = (omega (arith, h.0), omega (arith, h.1))
    go false h = (omega arith, omega arith)

-- the shared bytes and the others are the text
pub shared-again : (xs ys : List ℕ) → take (shared xs ys) xs ++ drop (shared xs ys) ys ≡ ys
unfolding shared
shared-again [] ys = refl
shared-again (x ∷ xs) [] = refl
shared-again (x ∷ xs) (y ∷ ys) = go (eqb x y) refl (shared-again xs ys)
  where
    go : (b : Bool) → eqb x y ≡ b → take (shared xs ys) xs ++ drop (shared xs ys) ys ≡ ys
        → take (if b then suc (shared xs ys) else 0) (x ∷ xs) ++ drop (if b then suc (shared xs ys) else 0) (y ∷ ys) ≡ y ∷ ys
    go true e h = ap (λ (n : ℕ). n ∷ (take (shared xs ys) xs ++ drop (shared xs ys) ys)) (eqb-true x y e) ∙ ap (λ (t : List ℕ). y ∷ t) h
    go false e h = refl

-- a term after another is read back from its entry
pub entry_between-again : (before t : DictionaryTerm) → before.info.freq ≤ t.info.freq → before.info.prox ≤ t.info.prox → term_after before (entry_between before t) ≡ t
entry_between-again before t f p =
    ap (λ (text : List ℕ). made text (before.info.freq + (t.info.freq - before.info.freq)) (before.info.prox + (t.info.prox - before.info.prox))) (shared-again before.text t.text)
    ∙ ap (λ (n : ℕ). made t.text n (before.info.prox + (t.info.prox - before.info.prox))) (omega (arith, f)) ∙ ap (made t.text t.info.freq) (omega (arith, p))
  where
    made : List ℕ → ℕ → ℕ → DictionaryTerm
    made text freq prox = record { text = text; info = record { field = t.info.field; doc_freq = t.info.doc_freq; freq = freq; prox = prox; skip = t.info.skip } }

-- ---- the bytes of one term more

-- the last of some terms after another
abbrev pub last_after : DictionaryTerm → List DictionaryTerm → DictionaryTerm
last_after before [] = before
last_after before (t ∷ ts) = last_after t ts

pub terms_bytes-push : (interval : ℕ) (before : DictionaryTerm) (ts : List DictionaryTerm) (t : DictionaryTerm) → terms_bytes interval before (ts ++ t ∷ []) ≡ terms_bytes interval before ts ++ term_record_bytes interval (entry_between (last_after before ts) t) []
terms_bytes-push interval before [] t = append-nil (term_record_bytes interval (entry_between before t) [])
terms_bytes-push interval before (u ∷ us) t =
    ap (λ (b : List ℕ). term_record_bytes interval (entry_between before u) [] ++ b) (terms_bytes-push interval u us t)
    ∙ sym (append_assoc (term_record_bytes interval (entry_between before u) []) (terms_bytes interval u us) (term_record_bytes interval (entry_between (last_after u us) t) []))

last_after-at : (u : DictionaryTerm) (us : List DictionaryTerm) → last_after u us ≡ get_or (u ∷ us) (length us) no_term
last_after-at u [] = refl
last_after-at u (t ∷ ts) = last_after-at t ts

pub last_after-last : (ts : List DictionaryTerm) → last_after no_term ts ≡ last_term ts
last_after-last [] = refl
last_after-last (u ∷ us) = last_after-at u us ∙ ap (λ (k : ℕ). get_or (u ∷ us) k no_term) (let e : length us ≡ length (u ∷ us) - 1 = omega arith in e)

-- what holds of each term of some
pub record SpellableAt (interval : ℕ) (before : DictionaryTerm) (ts : List DictionaryTerm) (n : ℕ) : Type 0 where
  pub here : IsSpellable interval (get_or ts n no_term)
  pub follows : FollowsTerm (last_after before (take n ts)).info (get_or ts n no_term).info

pub spellable-at : (interval : ℕ) (before : DictionaryTerm) (ts : List DictionaryTerm) (n : ℕ) → AreSpellable interval before ts → n < length ts → SpellableAt interval before ts n
spellable-at interval before [] n h lt = absurd (omega (arith, lt))
spellable-at interval before (t ∷ ts) zero h lt = record { here = h.0; follows = h.1 }
spellable-at interval before (t ∷ ts) (suc n) h lt = let later = spellable-at interval t ts n h.2 (omega (arith, lt)) in record { here = later.here; follows = later.follows }

pub spellable-push : (interval : ℕ) (before : DictionaryTerm) (ts : List DictionaryTerm) (t : DictionaryTerm) → AreSpellable interval before ts → IsSpellable interval t → FollowsTerm (last_after before ts).info t.info → AreSpellable interval before (ts ++ t ∷ [])
spellable-push interval before [] t h here follows = (here, follows, tt)
spellable-push interval before (u ∷ us) t h here follows = (h.0, h.1, spellable-push interval u us t h.2 here follows)

-- ---- one entry

-- an entry that has a spelling
pub record IsPlainEntry (any : Bool) (interval : ℕ) (e : TermRecord) : Type 0 where
  pub prefix : e.prefix < 2 ^ 31
  pub count : length e.suffix < 2 ^ 31
  pub suffix : IsBytes e.suffix
  pub field : Spells (field_number_shape any) e.field (spelling vint e.field)
  pub doc_freq : e.doc_freq < 2 ^ 31
  pub freq : e.freq < 2 ^ 63
  pub prox : e.prox < 2 ^ 63
  pub skip : e.skip < 2 ^ 31
  pub no_skip : e.doc_freq < interval → e.skip ≡ 0

-- what is said where skip data stand, or not
abbrev with_skip : TermRecord → ℕ → TermRecord
with_skip e skip = record { prefix = e.prefix; suffix = e.suffix; field = e.field; doc_freq = e.doc_freq; freq = e.freq; prox = e.prox; skip = skip }

skip-spells : (e : TermRecord) (b : Bool) → e.skip < 2 ^ 31 → (b ≡ false → e.skip ≡ 0)
    → Spells (optional b (part num (λ n. whole n)) (λ skip. whole (with_skip e (unwrap_or skip 0)))) e ((if b then spelling num e.skip else []) ++ [])
skip-spells e true small none = (e.skip, [], small, refl, (refl, refl))
skip-spells e false small none = (ap (with_skip e) (sym (none refl)), refl)

pub entry-spells : (any : Bool) (interval : ℕ) (e : TermRecord) → IsPlainEntry any interval e → Spells (entry_shape any interval) e (term_record_bytes interval e [])
entry-spells any interval e h =
    let after_prox = spelling vlong e.prox ++ (skip_delta_bytes interval e ++ []) in
    let after_freq = spelling vlong e.freq ++ after_prox in
    let after_field = spelling num e.doc_freq ++ after_freq in
    let after_suffix = spelling vint e.field ++ after_field in (
      e.prefix,
      spelling num (length e.suffix) ++ (e.suffix ++ after_suffix),
      h.prefix,
      refl,
      (
        length e.suffix,
        e.suffix ++ after_suffix,
        h.count,
        refl,
        (
          e.suffix,
          after_suffix,
          (refl, h.suffix),
          refl,
          Spells-followed (field_number_shape any) _ e.field e (spelling vint e.field) after_field h.field (
            e.doc_freq,
            after_freq,
            h.doc_freq,
            refl,
            (
              e.freq,
              after_prox,
              h.freq,
              refl,
              (e.prox, skip_delta_bytes interval e ++ [], h.prox, refl, skip-spells e (leb interval e.doc_freq) h.skip (λ f. h.no_skip (leb-false interval e.doc_freq f))),
            ),
          ),
        ),
      ),
    )

-- ---- so many terms

-- the entry of this term of some
abbrev pub entry_at : List DictionaryTerm → ℕ → TermRecord
entry_at ts n = entry_between (last_term (take n ts)) (get_or ts n no_term)

plain-entry : (interval : ℕ) (before t : DictionaryTerm) → IsSpellable interval t → FollowsTerm before.info t.info → IsPlainEntry false interval (entry_between before t)
plain-entry interval before t here follows = record {
  prefix = omega (arith, (shared-within before.text t.text).1, here.small);
  count = omega (arith, length-drop (shared before.text t.text) t.text, here.small);
  suffix = IsBytes-drop (shared before.text t.text) t.text here.bytes;
  field = (t.info.field, [], here.field, sym (append-nil (spelling vint t.info.field)), (refl, refl));
  doc_freq = follows.doc_freq;
  freq = omega (arith, places t.info.freq here.freq);
  prox = omega (arith, places t.info.prox here.prox);
  skip = follows.skip;
  no_skip = here.no_skip;
}
  where
    places : (n : ℕ) → n < 2 ^ 32 → n < 2 ^ 63
    places n lt = omega arith

-- so many terms were spelled
pub record Spelled (conditions : List DictionaryTerm → TermRecord → List Condition) (interval : ℕ) (ts : List DictionaryTerm) (n : ℕ) : Type 0 where
  pub s : Progress
  pub terms : s.terms ≡ take n ts
  pub starts : s.starts ≡ starts_of interval ts n
  pub writes : Writes (times (terms_by conditions interval) n no_terms) 24 (terms_bytes interval no_term (take n ts)) s

take-last : (ts : List DictionaryTerm) (n : ℕ) → last_after no_term (take n ts) ≡ last_term (take n ts)
take-last ts n = last_after-last (take n ts)

spelled-more : (conditions : List DictionaryTerm → TermRecord → List Condition) (interval : ℕ) (ts : List DictionaryTerm) (n : ℕ) → AreSpellable interval no_term ts → n < length ts → first_broken (conditions (take n ts) (entry_at ts n)) ≡ None → Spelled conditions interval ts n
    → Spelled conditions interval ts (n + 1)
spelled-more conditions interval ts n h lt good w =
    let t = get_or ts n no_term in
    let before = last_term (take n ts) in
    let at_n = spellable-at interval no_term ts n h lt in
    let follows : FollowsTerm before.info t.info = subst (λ (b : DictionaryTerm). FollowsTerm b.info t.info) (take-last ts n) at_n.follows in
    let e = entry_between before t in
    let place = 24 + length (terms_bytes interval no_term (take n ts)) in
    let plain = plain-entry interval before t at_n.here follows in
    let spells = Spells-followed (entry_shape false interval) (λ x. whole (entry x)) e (entry e) (term_record_bytes interval e []) [] (entry-spells false interval e plain) (refl, refl) in
    let none : first_broken (on_entry [] (conditions w.s.terms) (entry e)) ≡ None = ap (λ (us : List DictionaryTerm). first_broken (conditions us e)) w.terms ∙ good in
    let more = Writes-record (terms_by conditions interval) no_terms 24 n (terms_bytes interval no_term (take n ts)) w.s (entry e) (term_record_bytes interval e [] ++ []) w.writes spells none in
    let bytes_are : terms_bytes interval no_term (take n ts) ++ (term_record_bytes interval e [] ++ []) ≡ terms_bytes interval no_term (take (n + 1) ts) =
    ap (λ (b : List ℕ). terms_bytes interval no_term (take n ts) ++ b) (append-nil (term_record_bytes interval e []))
    ∙ sym (ap (terms_bytes interval no_term) (take_more ts n no_term lt) ∙ terms_bytes-push interval no_term (take n ts) t
    ∙ ap (λ (b : DictionaryTerm). terms_bytes interval no_term (take n ts) ++ term_record_bytes interval (entry_between b t) []) (take-last ts n)) in
    let new = with_term w.s place e in
    let new_terms : new.terms ≡ take (n + 1) ts =
    ap (λ (us : List DictionaryTerm). us ++ term_after (last_term us) e ∷ []) w.terms ∙ ap (λ (x : DictionaryTerm). take n ts ++ x ∷ []) (entry_between-again before t follows.freq follows.prox) ∙ sym (take_more ts n no_term lt) in
    record {
      s = new;
      terms = new_terms;
      starts = ap (λ (ns : List ℕ). ns ++ place ∷ []) w.starts ∙ ap (starts_of interval ts) (sym (add-one n));
      writes = subst (λ (b : List ℕ). Writes (times (terms_by conditions interval) (n + 1) no_terms) 24 b new) bytes_are more;
    }

pub spelled : (conditions : List DictionaryTerm → TermRecord → List Condition) (interval : ℕ) (ts : List DictionaryTerm) (n : ℕ) → AreSpellable interval no_term ts → n ≤ length ts → ((k : ℕ) → k < n → first_broken (conditions (take k ts) (entry_at ts k)) ≡ None)
    → Spelled conditions interval ts n
spelled conditions interval ts zero h le good = record {
  s = no_terms;
  terms = refl;
  starts = refl;
  writes = Writes-none (one (terms_by conditions interval)) 24 no_terms;
}
spelled conditions interval ts (suc n) h le good =
    let before = spelled conditions interval ts n h (omega arith) (λ k lt. good k (omega arith)) in
    subst (λ (k : ℕ). Spelled conditions interval ts k) (add-one n) (spelled-more conditions interval ts n h (omega arith) (good n (omega arith)) before)

-- the terms in the bytes
pub terms_in-spelled : (interval count : ℕ) (ts : List DictionaryTerm) (tis : List ℕ) → AreSpellable interval no_term ts → count ≡ length ts → IsBehind (terms_bytes interval no_term ts) tis → terms_in interval count tis ≡ ts
terms_in-spelled interval count ts tis h is behind =
    let w = spelled (λ before e. []) interval ts (length ts) h (omega arith) (λ k lt. refl) in
    let all : take (length ts) ts ≡ ts = take-length ts in
    let rest : drop 24 tis ≡ terms_bytes interval no_term (take (length ts) ts) ++ [] = behind.1 ∙ ap (terms_bytes interval no_term) (sym all) ∙ sym (append-nil (terms_bytes interval no_term (take (length ts) ts))) in
    let read : read_plan (times (any_terms interval) count no_terms) (place_in tis 24) ≡ Ok (w.s, at (24 + length (terms_bytes interval no_term (take (length ts) ts))) []) =
    ap (λ (n : ℕ). read_plan (times (any_terms interval) n no_terms) (place_in tis 24)) is ∙ ap (λ (b : List ℕ). read_plan (times (any_terms interval) (length ts) no_terms) (at 24 b)) rest ∙ w.writes.reads [] in
    ap (λ (r : Result (Progress × Cursor) Broken). (value_or (no_terms, place_in tis 24) r).0.terms) read ∙ w.terms ∙ all
