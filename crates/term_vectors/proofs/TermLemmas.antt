-- The terms of a vector, one after another.
use Rattle.std.proofs.Common.{◌≡◌, ℕ, suc, ◌<◌, ◌≤◌, true, false, not, eqb, ltb, List, [], ◌∷◌, ◌++◌, length, take, Option, Some, None, Result, Ok, Err, refl, sym, ap, subst, ◌∙◌, arith}
use Rattle.std.specs.Str.{is_utf8}
use Rattle.std.proofs.lemmas.Bool.{eq-eqb, ne_eqb, le-ltb}
use Rattle.lu_types.specs.declared.kind.FileKind.{FileKind}
use Rattle.lu_types.specs.declared.fault.Spot.{Spot}
use Rattle.lu_types.specs.declared.fault.CodecFault.{CodecFault}
use Rattle.lu_types.specs.Judging.{IsBroken, IsBrokenSo}
use Rattle.lu_grammar.specs.Bytes.{Cursor}
use Rattle.lu_grammar.specs.Reading.{◌>>=◌}
use Rattle.lu_grammar.specs.Records.{first_broken, record_at}
use Rattle.lu_grammar.specs.Plans.{Plan, done, and_then, Broken, read_plan}
use Rattle.lu_grammar.proofs.Codecs.{ok_pair, read_due, read_due_broken, read_plan-and_then}
use Rattle.lu_model.specs.Index.{Span, VectorTerm}
use Rattle.term_vectors.specs.declared.texts.LastText.{LastText}
use Rattle.term_vectors.specs.Format.{bit_positions, bit_offsets, headed}
use Rattle.term_vectors.specs.Vectors.{TvfRecord, term, is_above, text_after, freq_of, kept_count, term_shape, term_conditions, positions_plan, spans_plan, term_plan, terms_plan}
use Rattle.term_vectors.specs.InnerTexts.{text_before, IsSoundText}
use Rattle.term_vectors.proofs.Steps.{Continues, Continues-broken, then-left, then-broken, then-broken_so, led-left}
use Rattle.term_vectors.proofs.OrderLemmas.{text_or_none}
use Rattle.term_vectors.proofs.OccurrenceLemmas.{reads_positions, reads_spans}

-- ---- what is wrong with a term whose prefix is within the text before, and whose text is UTF-8

-- the first rule that is broken, by the text before
abbrev judged : Option (List ℕ) → ℕ → List ℕ → ℕ → List ℕ → Option ℕ
judged before prefix suffix freq t = first_broken (record { rule = 108; broken = ltb (length t) prefix } ∷ record { rule = 109; broken = not (is_utf8 (take prefix t ++ suffix)) }
    ∷ record { rule = 110; broken = not (is_above before (take prefix t ++ suffix)) } ∷ record { rule = 111; broken = eqb freq 0 } ∷ [])

module _ (last : LastText) (sound : IsSoundText last) (prefix : ℕ) (suffix : List ℕ) (freq : ℕ) (le : prefix ≤ length last.bytes.items) (valid : is_utf8 (take prefix last.bytes.items ++ suffix) ≡ true) where
  by_bytes : first_broken (term_conditions (text_before last) (term prefix suffix freq)) ≡ judged (text_before last) prefix suffix freq last.bytes.items
  by_bytes = ap (judged (text_before last) prefix suffix freq) (text_or_none last sound)

  within : ltb (length last.bytes.items) prefix ≡ false
  within = le-ltb (length last.bytes.items) prefix le

  pub term-below : is_above (text_before last) (take prefix last.bytes.items ++ suffix) ≡ false → first_broken (term_conditions (text_before last) (term prefix suffix freq)) ≡ Some 110
  term-below below = by_bytes ∙ rw (within, valid, below) refl

  pub term-never : is_above (text_before last) (take prefix last.bytes.items ++ suffix) ≡ true → freq ≡ 0 → first_broken (term_conditions (text_before last) (term prefix suffix freq)) ≡ Some 111
  term-never above none = let zero : eqb freq 0 ≡ true = eq-eqb freq 0 none in by_bytes ∙ rw (within, valid, above, zero) refl

  pub term-good : is_above (text_before last) (take prefix last.bytes.items ++ suffix) ≡ true → 0 < freq → first_broken (term_conditions (text_before last) (term prefix suffix freq)) ≡ None
  term-good above some = let other : eqb freq 0 ≡ false = ne_eqb freq 0 (λ none. omega arith) in by_bytes ∙ rw (within, valid, above, other) refl

  pub text-is : take prefix last.bytes.items ++ suffix ≡ text_after (text_before last) (term prefix suffix freq)
  text-is = ap (λ (t : List ℕ). take prefix t ++ suffix) (sym (text_or_none last sound))

-- ---- a term

abbrev pub term_of : Option (List ℕ) → TvfRecord → List ℕ → List Span → VectorTerm
term_of before r positions spans = record { text = text_after before r; frequency = freq_of r; positions = positions; spans = spans }

abbrev pub spans_after : ℕ → Option (List ℕ) → TvfRecord → List ℕ → Plan VectorTerm TvfRecord
spans_after bits before r positions = and_then (spans_plan (kept_count bit_offsets bits (freq_of r)) 0) (λ spans. done (term_of before r positions spans))

abbrev pub rest_of_term : ℕ → Option (List ℕ) → TvfRecord → Plan VectorTerm TvfRecord
rest_of_term bits before r = and_then (positions_plan (kept_count bit_positions bits (freq_of r)) 0) (spans_after bits before r)

module _ (bits : ℕ) (before : Option (List ℕ)) (c : Cursor) where
  pub term-broken : (rule : ℕ) → record_at term_shape (term_conditions before) c ≡ Err rule → read_plan (term_plan bits before) c ≡ Err (record { offset = c.place; rule = rule })
  term-broken rule e = read_due_broken term_shape (λ _ r. term_conditions before r) (λ _ r. rest_of_term bits before r) c rule e

  from_record : (r : TvfRecord) (d : Cursor) → record_at term_shape (term_conditions before) c ≡ Ok (r, d) → read_plan (term_plan bits before) c ≡ read_plan (rest_of_term bits before r) d
  from_record r d e = read_due term_shape (λ _ s. term_conditions before s) (λ _ s. rest_of_term bits before s) c r d e

  pub term-positions_broken : (kind : FileKind) (r : TvfRecord) (d : Cursor) (spot : Spot) → record_at term_shape (term_conditions before) c ≡ Ok (r, d)
      → IsBroken kind (reads_positions (kept_count bit_positions bits (freq_of r)) 0 d) spot → IsBroken kind (read_plan (term_plan bits before) c) spot
  term-positions_broken kind r d spot e (is, broken) =
      (is, from_record r d e ∙ then-broken (positions_plan (kept_count bit_positions bits (freq_of r)) 0) (spans_after bits before r) d (record { offset = spot.offset; rule = spot.rule }) broken)

  after_positions : (r : TvfRecord) (d b : Cursor) (positions : List ℕ) → record_at term_shape (term_conditions before) c ≡ Ok (r, d) → reads_positions (kept_count bit_positions bits (freq_of r)) 0 d ≡ Ok (positions, b)
      → Continues (read_plan (term_plan bits before) c) (read_plan (spans_after bits before r positions) b)
  after_positions r d b positions e there =
      subst (λ (x : Result (VectorTerm × Cursor) Broken). Continues x (read_plan (spans_after bits before r positions) b)) (sym (from_record r d e))
      (then-left (positions_plan (kept_count bit_positions bits (freq_of r)) 0) (spans_after bits before r) d positions b there)

  pub term-spans_broken : (kind : FileKind) (r : TvfRecord) (d b : Cursor) (positions : List ℕ) (spot : Spot) → record_at term_shape (term_conditions before) c ≡ Ok (r, d)
      → reads_positions (kept_count bit_positions bits (freq_of r)) 0 d ≡ Ok (positions, b)
      → IsBroken kind (reads_spans (kept_count bit_offsets bits (freq_of r)) 0 b) spot → IsBroken kind (read_plan (term_plan bits before) c) spot
  term-spans_broken kind r d b positions spot e there (is, broken) =
      Continues-broken kind (read_plan (term_plan bits before) c) (read_plan (spans_after bits before r positions) b) spot (after_positions r d b positions e there)
      (is, then-broken (spans_plan (kept_count bit_offsets bits (freq_of r)) 0) (λ spans. done (term_of before r positions spans)) b (record { offset = spot.offset; rule = spot.rule }) broken)

  pub term-read : (r : TvfRecord) (d b z : Cursor) (positions : List ℕ) (spans : List Span) → record_at term_shape (term_conditions before) c ≡ Ok (r, d)
      → reads_positions (kept_count bit_positions bits (freq_of r)) 0 d ≡ Ok (positions, b) → reads_spans (kept_count bit_offsets bits (freq_of r)) 0 b ≡ Ok (spans, z)
      → read_plan (term_plan bits before) c ≡ Ok (term_of before r positions spans, z)
  unfolding read_plan
  term-read r d b z positions spans e there behind =
      from_record r d e
      ∙ read_plan-and_then (positions_plan (kept_count bit_positions bits (freq_of r)) 0) (spans_after bits before r) d
      ∙ ap (λ (x : Result (List ℕ × Cursor) Broken). x >>= λ y. read_plan (spans_after bits before r y.0) y.1) there
      ∙ read_plan-and_then (spans_plan (kept_count bit_offsets bits (freq_of r)) 0) (λ ss. done (term_of before r positions ss)) b
      ∙ ap (λ (x : Result (List Span × Cursor) Broken). x >>= λ y. ok_pair (term_of before r positions y.0) y.1) behind

-- ---- terms

abbrev pub reads_terms : ℕ → ℕ → Option (List ℕ) → Cursor → Result (List VectorTerm × Cursor) Broken
reads_terms bits n before c = read_plan (terms_plan bits n before) c

pub terms-left : (bits n : ℕ) (before : Option (List ℕ)) (c : Cursor) (t : VectorTerm) (d : Cursor) → read_plan (term_plan bits before) c ≡ Ok (t, d) → Continues (reads_terms bits (suc n) before c) (reads_terms bits n (Some t.text) d)
unfolding terms_plan
terms-left bits n before c t d e = led-left (term_plan bits before) (λ u. terms_plan bits n (Some u.text)) c t d e

pub terms-broken : (kind : FileKind) (bits n : ℕ) (before : Option (List ℕ)) (c : Cursor) (fault : CodecFault) → IsBrokenSo kind (read_plan (term_plan bits before) c) fault → IsBrokenSo kind (reads_terms bits (suc n) before c) fault
unfolding terms_plan
terms-broken kind bits n before c fault e = then-broken_so kind (term_plan bits before) (λ u. headed u (terms_plan bits n (Some u.text))) c fault e

pub terms-done : (bits : ℕ) (before : Option (List ℕ)) (c : Cursor) → reads_terms bits 0 before c ≡ Ok ([], c)
unfolding terms_plan read_plan
terms-done bits before c = refl
