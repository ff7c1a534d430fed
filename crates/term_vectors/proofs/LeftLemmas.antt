-- What is left to read: one more is taken from it, and what a term that was read is made of.
use Rattle.std.proofs.Common.{◌≡◌, ℕ, suc, ◌≤◌, Bool, true, false, not, eqb, ltb, List, [], ◌∷◌, ◌++◌, length, take, Option, Some, None, Result, Ok, Err, refl, sym, ap, ◌∙◌}
use borrow.Author.Tests.{ltb-false}
use Rattle.std.specs.Option.{unwrap_or}
use Rattle.std.specs.Str.{IsUtf8, is_utf8}
use Rattle.std.proofs.lemmas.Str.{IsUtf8-from_is_utf8}
use Rattle.lu_grammar.specs.declared.bad.Bad.{Bad}
use Rattle.lu_grammar.specs.Bytes.{IsBytes, Cursor, place_in}
use Rattle.lu_grammar.specs.Reading.{value_or}
use Rattle.lu_grammar.specs.Records.{Shape, Condition, first_broken, read_shape, record_at}
use Rattle.lu_grammar.specs.Plans.{Plan, done, due, Broken, read_plan}
use Rattle.lu_grammar.proofs.Codecs.{ok_pair, same_pair, ok_of, err_is_not_ok, then_ok, due_was, read_due, record_at-was, read_plan-and_then, place_in-after}
use Rattle.lu_model.specs.Index.{Span, VectorTerm}
use Rattle.term_vectors.specs.Format.{bit_positions, bit_offsets, headed}
use Rattle.term_vectors.specs.Vectors.{TvfRecord, term, kept_count, is_above, position_shape, position_after, position_conditions, positions_plan, pair_shape, span_after, pair_conditions, spans_plan, term_shape, term_conditions, term_plan, terms_plan}
use Rattle.term_vectors.proofs.Steps.{headed_was}
use Rattle.term_vectors.proofs.OccurrenceLemmas.{reads_positions, reads_spans}
use Rattle.term_vectors.proofs.TermLemmas.{term_of, spans_after, rest_of_term, reads_terms}

-- a result that is some value is its value
pub settled_left : {A : Type 0} (r : Result (A × Cursor) Broken) (other : A × Cursor) (v : A) (d : Cursor) → r ≡ ok_pair v d → (r ≡ Ok ((value_or other r).0, d)) × (v ≡ (value_or other r).0)
settled_left {A} r other v d e =
    let is : v ≡ (value_or other r).0 = sym (ap (λ (x : Result (A × Cursor) Broken). (value_or other x).0) e) in (e ∙ ap (λ (w : A). ok_pair w d) is, is)

-- ---- positions and spans

pub positions-next : (n last : ℕ) (c : Cursor) (all : List ℕ) (d : Cursor) (r : TvfRecord) (b : Cursor) → reads_positions (suc n) last c ≡ Ok (all, d) → record_at position_shape (position_conditions last) c ≡ Ok (r, b)
    → (rest : List ℕ) × (reads_positions n (position_after last r) b ≡ Ok (rest, d)) × (all ≡ position_after last r ∷ rest)
unfolding positions_plan
positions-next n last c all d r b e here =
    headed_was (position_after last r) (positions_plan n (position_after last r)) b all d
    (sym (read_due position_shape (λ _ s. position_conditions last s) (λ _ s. headed (position_after last s) (positions_plan n (position_after last s))) c r b here) ∙ e)

pub spans-next : (n last : ℕ) (c : Cursor) (all : List Span) (d : Cursor) (r : TvfRecord) (b : Cursor) → reads_spans (suc n) last c ≡ Ok (all, d) → record_at pair_shape (pair_conditions last) c ≡ Ok (r, b)
    → (rest : List Span) × (reads_spans n (span_after last r).end b ≡ Ok (rest, d)) × (all ≡ span_after last r ∷ rest)
unfolding spans_plan
spans-next n last c all d r b e here =
    headed_was (span_after last r) (spans_plan n (span_after last r).end) b all d
    (sym (read_due pair_shape (λ _ s. pair_conditions last s) (λ _ s. headed (span_after last s) (spans_plan n (span_after last s).end)) c r b here) ∙ e)

-- ---- terms

pub terms-next : (bits n : ℕ) (before : Option (List ℕ)) (c : Cursor) (all : List VectorTerm) (d : Cursor) → reads_terms bits (suc n) before c ≡ Ok (all, d)
    → (x : VectorTerm × Cursor) × (read_plan (term_plan bits before) c ≡ ok_of x) × ((rest : List VectorTerm) × (reads_terms bits n (Some x.0.text) x.1 ≡ Ok (rest, d)) × (all ≡ x.0 ∷ rest))
unfolding terms_plan
terms-next bits n before c all d e =
    let rest = λ (t : VectorTerm). headed t (terms_plan bits n (Some t.text)) in
    let first = then_ok (read_plan (term_plan bits before) c) (λ x. read_plan (rest x.0) x.1) (all, d) (sym (read_plan-and_then (term_plan bits before) rest c) ∙ e) in
    (first.0, first.1, headed_was first.0.0 (terms_plan bits n (Some first.0.0.text)) first.0.1 all d first.2)

pub terms-end : (bits : ℕ) (before : Option (List ℕ)) (c : Cursor) (all : List VectorTerm) (d : Cursor) → reads_terms bits 0 before c ≡ Ok (all, d) → all ≡ []
unfolding terms_plan read_plan
terms-end bits before c all d e = sym (same_pair [] all c d e).0

-- a record that is read in some bytes ends in them
pub record_in : {R : Type 0} (shape : Shape R) (conditions : R → List Condition) (bytes : List ℕ) (at : ℕ) (r : R) (b : Cursor) → IsBytes bytes → at ≤ length bytes → record_at shape conditions (place_in bytes at) ≡ Ok (r, b)
    → (b ≡ place_in bytes b.place) × (b.place ≤ length bytes)
unfolding read_plan
record_in shape conditions bytes at r b fits le e =
    place_in-after (due shape (λ _ s. conditions s) (λ _ s. done s)) bytes at r b fits le (read_due shape (λ _ s. conditions s) (λ _ s. done s) (place_in bytes at) r b e)

-- a plan that is read where the bytes stand ends in them
pub plan_in : {V R : Type 0} (plan : Plan V R) (bytes : List ℕ) (c : Cursor) (v : V) (d : Cursor) → IsBytes bytes → (c ≡ place_in bytes c.place) × (c.place ≤ length bytes) → read_plan plan c ≡ Ok (v, d) → (d ≡ place_in bytes d.place) × (d.place ≤ length bytes)
plan_in plan bytes c v d fits (is, le) e = place_in-after plan bytes c.place v d fits le (ap (λ (x : Cursor). read_plan plan x) (sym is) ∙ e)

-- the parts of a term whose record was read
pub record TermFrom (tvf : List ℕ) (bits : ℕ) (before : Option (List ℕ)) (t : VectorTerm) (d : Cursor) (prefix : ℕ) (suffix : List ℕ) (freq : ℕ) (b : Cursor) : Type 0 where
  pub here : (b ≡ place_in tvf b.place) × (b.place ≤ length tvf)
  pub good : first_broken (term_conditions before (term prefix suffix freq)) ≡ None
  pub positions : List ℕ
  pub after : Cursor
  pub positioned : reads_positions (kept_count bit_positions bits freq) 0 b ≡ ok_pair positions after
  pub behind : (after ≡ place_in tvf after.place) × (after.place ≤ length tvf)
  pub spans : List Span
  pub spanned : reads_spans (kept_count bit_offsets bits freq) 0 after ≡ ok_pair spans d
  pub end : (d ≡ place_in tvf d.place) × (d.place ≤ length tvf)
  pub all : t ≡ term_of before (term prefix suffix freq) positions spans

module _ (tvf : List ℕ) (fits : IsBytes tvf) (place bits : ℕ) (le : place ≤ length tvf) (before : Option (List ℕ)) where
  pub term-no_err : (x : VectorTerm × Cursor) (bad : Bad) → read_plan (term_plan bits before) (place_in tvf place) ≡ ok_of x → read_shape term_shape (place_in tvf place) ≡ Err bad → ⊥
  term-no_err x bad e broken =
      let head = due_was term_shape (λ _ r. term_conditions before r) (λ _ r. rest_of_term bits before r) (place_in tvf place) x e in
      let judged = record_at-was term_shape (term_conditions before) (place_in tvf place) head.0.0 head.0.1 head.1 in
      err_is_not_ok (sym broken ∙ judged.0)

  pub term_from : (t : VectorTerm) (d : Cursor) (prefix : ℕ) (suffix : List ℕ) (freq : ℕ) (b : Cursor) → read_plan (term_plan bits before) (place_in tvf place) ≡ Ok (t, d)
      → read_shape term_shape (place_in tvf place) ≡ Ok (term prefix suffix freq, b) → TermFrom tvf bits before t d prefix suffix freq b
  unfolding read_plan
  term_from t d prefix suffix freq b e read =
      let head = due_was term_shape (λ _ r. term_conditions before r) (λ _ r. rest_of_term bits before r) (place_in tvf place) (t, d) e in
      let judged = record_at-was term_shape (term_conditions before) (place_in tvf place) head.0.0 head.0.1 head.1 in
      let r = term prefix suffix freq in
      let same = same_pair head.0.0 r head.0.1 b (sym judged.0 ∙ read) in
      let good : first_broken (term_conditions before r) ≡ None = ap (λ (s : TvfRecord). first_broken (term_conditions before s)) (sym same.0) ∙ judged.1 in
      let record_is : record_at term_shape (term_conditions before) (place_in tvf place) ≡ Ok (r, b) = head.1 ∙ ap (λ (s : TvfRecord). ok_pair s head.0.1) same.0 ∙ ap (λ (x : Cursor). ok_pair r x) same.1 in
      let rest : read_plan (rest_of_term bits before r) b ≡ ok_pair t d = ap (λ (s : TvfRecord). read_plan (rest_of_term bits before s) b) (sym same.0) ∙ ap (λ (x : Cursor). read_plan (rest_of_term bits before head.0.0) x) (sym same.1) ∙ head.2 in
      let first = then_ok (reads_positions (kept_count bit_positions bits freq) 0 b) (λ x. read_plan (spans_after bits before r x.0) x.1) (t, d) (sym (read_plan-and_then (positions_plan (kept_count bit_positions bits freq) 0) (spans_after bits before r) b) ∙ rest) in
      let second = then_ok (reads_spans (kept_count bit_offsets bits freq) 0 first.0.1) (λ x. ok_pair (term_of before r first.0.0 x.0) x.1) (t, d)
      (sym (read_plan-and_then (spans_plan (kept_count bit_offsets bits freq) 0) (λ spans. done (term_of before r first.0.0 spans)) first.0.1) ∙ first.2) in
      let ends = same_pair (term_of before r first.0.0 second.0.0) t second.0.1 d second.2 in
      let here = record_in term_shape (term_conditions before) tvf place r b fits le record_is in
      let behind = plan_in (positions_plan (kept_count bit_positions bits freq) 0) tvf b first.0.0 first.0.1 fits here first.1 in
      let spanned : reads_spans (kept_count bit_offsets bits freq) 0 first.0.1 ≡ ok_pair second.0.0 d = second.1 ∙ ap (λ (x : Cursor). ok_pair second.0.0 x) ends.1 in
      record {
        here = here;
        good = good;
        positions = first.0.0;
        after = first.0.1;
        positioned = first.1;
        behind = behind;
        spans = second.0.0;
        spanned = spanned;
        end = plan_in (spans_plan (kept_count bit_offsets bits freq) 0) tvf first.0.1 second.0.0 d fits behind spanned;
        all = sym ends.0;
      }

-- a good term's prefix is within the text before, and its text is UTF-8
pub term-kept : (before : Option (List ℕ)) (prefix : ℕ) (suffix : List ℕ) (freq : ℕ) → first_broken (term_conditions before (term prefix suffix freq)) ≡ None
    → (prefix ≤ length (unwrap_or before [])) × IsUtf8 (take prefix (unwrap_or before []) ++ suffix)
term-kept before prefix suffix freq good = go (ltb (length (unwrap_or before [])) prefix) (is_utf8 (take prefix (unwrap_or before []) ++ suffix)) refl refl good
  where
    others : List Condition
    others = record { rule = 110; broken = not (is_above before (take prefix (unwrap_or before []) ++ suffix)) } ∷ record { rule = 111; broken = eqb freq 0 } ∷ []

    go : (a b : Bool) → ltb (length (unwrap_or before [])) prefix ≡ a → is_utf8 (take prefix (unwrap_or before []) ++ suffix) ≡ b → first_broken (record { rule = 108; broken = a } ∷ record { rule = 109; broken = not b } ∷ others) ≡ None
        → (prefix ≤ length (unwrap_or before [])) × IsUtf8 (take prefix (unwrap_or before []) ++ suffix)
    go true b is utf8 h = cc
    go false false is utf8 h = cc
    go false true is utf8 h = (ltb-false (length (unwrap_or before [])) prefix is, IsUtf8-from_is_utf8 (take prefix (unwrap_or before []) ++ suffix) utf8)
