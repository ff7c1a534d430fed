-- The records of `.tvx`, one after another.
use Rattle.std.proofs.Common.{◌≡◌, ℕ, suc, List, [], Option, Some, None, Result, Ok, Err, refl}
use Rattle.lu_grammar.specs.Bytes.{Cursor, start_of}
use Rattle.lu_grammar.specs.Records.{record_at}
use Rattle.lu_grammar.specs.Plans.{Broken, read_plan}
use Rattle.lu_grammar.proofs.Codecs.{read_due_broken}
use Rattle.term_vectors.specs.declared.layout.DocumentPlaces.{DocumentPlaces}
use Rattle.term_vectors.specs.Format.{vector_format, format_shape, format_rule, headed}
use Rattle.term_vectors.specs.Places.{TvxRecord, format, format_conditions, places_shape, places_conditions, stated_places, places_plan, tvx_plan}
use Rattle.term_vectors.proofs.Steps.{Continues, record-left}
use Rattle.term_vectors.proofs.FormatLemmas.{header-left, header-broken}

abbrev pub reads_places : ℕ → Option ℕ → Cursor → Result (List DocumentPlaces × Cursor) Broken
reads_places n before c = read_plan (places_plan n before) c

-- one more document
pub places-left : (n : ℕ) (before : Option ℕ) (c : Cursor) (r : TvxRecord) (d : Cursor) → record_at places_shape (places_conditions before) c ≡ Ok (r, d) → Continues (reads_places (suc n) before c) (reads_places n (Some (stated_places r).tvd) d)
unfolding places_plan
places-left n before c r d e = record-left places_shape (λ _ s. places_conditions before s) stated_places (λ s. places_plan n (Some (stated_places s).tvd)) c r d e

pub places-broken : (n : ℕ) (before : Option ℕ) (c : Cursor) (rule : ℕ) → record_at places_shape (places_conditions before) c ≡ Err rule → reads_places (suc n) before c ≡ Err (record { offset = c.place; rule = rule })
unfolding places_plan
places-broken n before c rule e = read_due_broken places_shape (λ _ s. places_conditions before s) (λ _ s. headed (stated_places s) (places_plan n (Some (stated_places s).tvd))) c rule e

pub places-done : (before : Option ℕ) (c : Cursor) → reads_places 0 before c ≡ Ok ([], c)
unfolding places_plan read_plan
places-done before c = refl

-- ---- the file

-- the header is passed
abbrev pub IsBehindFormat : ℕ → List ℕ → Cursor → Type 0
IsBehindFormat rule bytes here = record_at (format_shape (λ z. z)) (format_rule rule) (start_of bytes) ≡ Ok (vector_format, here)

pub tvx-from : (total : ℕ) (bytes : List ℕ) (from : Cursor) → IsBehindFormat 95 bytes from → read_plan (tvx_plan total) (start_of bytes) ≡ reads_places total None from
tvx-from total bytes from e = header-left format format_conditions 95 (λ z. refl) (places_plan total None) (start_of bytes) from vector_format e

pub tvx-broken : (total : ℕ) (bytes : List ℕ) (rule : ℕ) → record_at (format_shape (λ z. z)) (format_rule 95) (start_of bytes) ≡ Err rule → read_plan (tvx_plan total) (start_of bytes) ≡ Err (record { offset = 0; rule = rule })
tvx-broken total bytes rule e = header-broken format format_conditions 95 (λ z. refl) (places_plan total None) (start_of bytes) rule e
