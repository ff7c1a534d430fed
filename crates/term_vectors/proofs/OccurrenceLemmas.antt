-- The positions and the pairs of a term, one after another.
use Rattle.std.proofs.Common.{◌≡◌, ℕ, suc, ◌+◌, ◌<◌, ◌≤◌, true, false, ltb, List, [], Result, Ok, Err, refl}
use Rattle.std.proofs.lemmas.Bool.{lt-ltb, le-ltb}
use Rattle.lu_grammar.specs.Bytes.{Cursor}
use Rattle.lu_grammar.specs.Parts.{vint}
use Rattle.lu_grammar.specs.Reading.{read_part}
use Rattle.lu_grammar.specs.Records.{record_at}
use Rattle.lu_grammar.specs.Plans.{Broken, read_plan}
use Rattle.lu_grammar.proofs.Codecs.{read_due_broken, alone_read, alone_breaks}
use Rattle.lu_types.specs.Stores.{greatest_place}
use Rattle.lu_model.specs.Index.{Span}
use Rattle.term_vectors.specs.Format.{headed}
use Rattle.term_vectors.specs.Vectors.{TvfRecord, position, position_shape, position_after, position_conditions, positions_plan, pair_shape, span_after, pair_conditions, spans_plan}
use Rattle.term_vectors.proofs.Steps.{Continues, record-left}

-- ---- positions

pub position_given : (last : ℕ) (c d : Cursor) (delta : ℕ) → read_part vint c ≡ Ok (delta, d) → last + delta ≤ greatest_place → record_at position_shape (position_conditions last) c ≡ Ok (position delta, d)
position_given last c d delta e le =
    let fits : ltb greatest_place (last + delta) ≡ false = le-ltb greatest_place (last + delta) le in
    alone_read vint (λ n. position n) (position_conditions last) c d delta e (rw fits refl)

pub position_broken : (last : ℕ) (c d : Cursor) (delta : ℕ) → read_part vint c ≡ Ok (delta, d) → greatest_place < last + delta → record_at position_shape (position_conditions last) c ≡ Err 112
position_broken last c d delta e lt =
    let over : ltb greatest_place (last + delta) ≡ true = lt-ltb greatest_place (last + delta) lt in
    alone_breaks vint (λ n. position n) (position_conditions last) c d delta 112 e (rw over refl)

abbrev pub reads_positions : ℕ → ℕ → Cursor → Result (List ℕ × Cursor) Broken
reads_positions n last c = read_plan (positions_plan n last) c

pub positions-left : (n last : ℕ) (c : Cursor) (r : TvfRecord) (d : Cursor) → record_at position_shape (position_conditions last) c ≡ Ok (r, d) → Continues (reads_positions (suc n) last c) (reads_positions n (position_after last r) d)
unfolding positions_plan
positions-left n last c r d e = record-left position_shape (λ _ s. position_conditions last s) (position_after last) (λ s. positions_plan n (position_after last s)) c r d e

pub positions-broken : (n last : ℕ) (c : Cursor) (rule : ℕ) → record_at position_shape (position_conditions last) c ≡ Err rule → reads_positions (suc n) last c ≡ Err (record { offset = c.place; rule = rule })
unfolding positions_plan
positions-broken n last c rule e = read_due_broken position_shape (λ _ s. position_conditions last s) (λ _ s. headed (position_after last s) (positions_plan n (position_after last s))) c rule e

pub positions-done : (last : ℕ) (c : Cursor) → reads_positions 0 last c ≡ Ok ([], c)
unfolding positions_plan read_plan
positions-done last c = refl

-- ---- pairs

abbrev pub reads_spans : ℕ → ℕ → Cursor → Result (List Span × Cursor) Broken
reads_spans n last c = read_plan (spans_plan n last) c

pub spans-left : (n last : ℕ) (c : Cursor) (r : TvfRecord) (d : Cursor) → record_at pair_shape (pair_conditions last) c ≡ Ok (r, d) → Continues (reads_spans (suc n) last c) (reads_spans n (span_after last r).end d)
unfolding spans_plan
spans-left n last c r d e = record-left pair_shape (λ _ s. pair_conditions last s) (span_after last) (λ s. spans_plan n (span_after last s).end) c r d e

pub spans-broken : (n last : ℕ) (c : Cursor) (rule : ℕ) → record_at pair_shape (pair_conditions last) c ≡ Err rule → reads_spans (suc n) last c ≡ Err (record { offset = c.place; rule = rule })
unfolding spans_plan
spans-broken n last c rule e = read_due_broken pair_shape (λ _ s. pair_conditions last s) (λ _ s. headed (span_after last s) (spans_plan n (span_after last s).end)) c rule e

pub spans-done : (last : ℕ) (c : Cursor) → reads_spans 0 last c ≡ Ok ([], c)
unfolding spans_plan read_plan
spans-done last c = refl
