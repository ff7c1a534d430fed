-- The vectors of `.tvf`, one after another.
use Rattle.std.proofs.Common.{◌≡◌, ◌≢◌, ℕ, ◌<◌, ◌≤◌, true, false, eqb, ltb, List, [], ◌∷◌, None, Result, Ok, Err, refl, sym, ap, subst, ◌∙◌}
use Rattle.std.proofs.lemmas.Bool.{eq-eqb, ne_eqb, lt-ltb, le-ltb}
use Rattle.lu_types.specs.declared.kind.FileKind.{FileKind}
use Rattle.lu_types.specs.declared.fault.CodecFault.{CodecFault}
use Rattle.lu_types.specs.Judging.{IsBrokenSo}
use Rattle.lu_grammar.specs.Bytes.{Cursor, start_of}
use Rattle.lu_grammar.specs.Parts.{byte, num}
use Rattle.lu_grammar.specs.Reading.{◌>>=◌, read_part}
use Rattle.lu_grammar.specs.Records.{record_at}
use Rattle.lu_grammar.specs.Plans.{Plan, done, and_then, Broken, read_plan}
use Rattle.lu_grammar.proofs.Codecs.{ok_pair, read_due, read_due_broken, read_plan-and_then}
use Rattle.lu_model.specs.Index.{VectorTerm}
use Rattle.term_vectors.specs.Format.{vector_format, format_shape, format_rule, headed}
use Rattle.term_vectors.specs.Fields.{VectorPlace}
use Rattle.term_vectors.specs.Vectors.{TvfRecord, StoredVector, format, heading, format_conditions, count_of_heading, bits_of_heading, heading_shape, heading_conditions, terms_plan, vector_plan, vectors_plan, all_plan, tvf_plan}
use Rattle.term_vectors.proofs.Steps.{Continues, led-left, then-broken_so}
use Rattle.term_vectors.proofs.FormatLemmas.{two_read, two_breaks, header-left, header-broken}
use Rattle.term_vectors.proofs.PlaceLemmas.{IsBehindFormat}
use Rattle.term_vectors.proofs.TermLemmas.{reads_terms}

-- ---- how many terms a vector has, and its bits

module _ (wanted : ℕ) (c b d : Cursor) (count bits : ℕ) (first : read_part num c ≡ Ok (count, b)) (second : read_part byte b ≡ Ok (bits, d)) where
  pub heading_given : c.place ≡ wanted → bits ≤ 3 → record_at heading_shape (heading_conditions wanted c.place) c ≡ Ok (heading count bits, d)
  heading_given is le =
      let same : eqb c.place wanted ≡ true = eq-eqb c.place wanted is in
      let fits : ltb 3 bits ≡ false = le-ltb 3 bits le in
      two_read num byte (λ n k. heading n k) (heading_conditions wanted c.place) c b d count bits first second (rw (same, fits) refl)

  pub heading_elsewhere : c.place ≢ wanted → record_at heading_shape (heading_conditions wanted c.place) c ≡ Err 106
  heading_elsewhere other =
      let differ : eqb c.place wanted ≡ false = ne_eqb c.place wanted other in
      two_breaks num byte (λ n k. heading n k) (heading_conditions wanted c.place) c b d count bits 106 first second (rw differ refl)

  pub heading_bits : c.place ≡ wanted → 3 < bits → record_at heading_shape (heading_conditions wanted c.place) c ≡ Err 107
  heading_bits is lt =
      let same : eqb c.place wanted ≡ true = eq-eqb c.place wanted is in
      let over : ltb 3 bits ≡ true = lt-ltb 3 bits lt in
      two_breaks num byte (λ n k. heading n k) (heading_conditions wanted c.place) c b d count bits 107 first second (rw (same, over) refl)

-- ---- a vector

abbrev pub vector_of : VectorPlace → TvfRecord → List VectorTerm → StoredVector
vector_of at r terms = record { field = at.field; bits = bits_of_heading r; terms = terms }

abbrev pub rest_of_vector : VectorPlace → TvfRecord → Plan StoredVector TvfRecord
rest_of_vector at r = and_then (terms_plan (bits_of_heading r) (count_of_heading r) None) (λ terms. done (vector_of at r terms))

module _ (at : VectorPlace) (c : Cursor) where
  pub vector-broken : (rule : ℕ) → record_at heading_shape (heading_conditions at.place c.place) c ≡ Err rule → read_plan (vector_plan at) c ≡ Err (record { offset = c.place; rule = rule })
  vector-broken rule e = read_due_broken heading_shape (λ place r. heading_conditions at.place place r) (λ _ r. rest_of_vector at r) c rule e

  from_heading : (r : TvfRecord) (d : Cursor) → record_at heading_shape (heading_conditions at.place c.place) c ≡ Ok (r, d) → read_plan (vector_plan at) c ≡ read_plan (rest_of_vector at r) d
  from_heading r d e = read_due heading_shape (λ place s. heading_conditions at.place place s) (λ _ s. rest_of_vector at s) c r d e

  pub vector-terms_broken : (kind : FileKind) (r : TvfRecord) (d : Cursor) (fault : CodecFault) → record_at heading_shape (heading_conditions at.place c.place) c ≡ Ok (r, d) → IsBrokenSo kind (reads_terms (bits_of_heading r) (count_of_heading r) None d) fault
      → IsBrokenSo kind (read_plan (vector_plan at) c) fault
  vector-terms_broken kind r d fault e broken =
      subst (λ (x : Result (StoredVector × Cursor) Broken). IsBrokenSo kind x fault) (sym (from_heading r d e)) (then-broken_so kind (terms_plan (bits_of_heading r) (count_of_heading r) None) (λ terms. done (vector_of at r terms)) d fault broken)

  pub vector-read : (r : TvfRecord) (d z : Cursor) (terms : List VectorTerm) → record_at heading_shape (heading_conditions at.place c.place) c ≡ Ok (r, d) → reads_terms (bits_of_heading r) (count_of_heading r) None d ≡ Ok (terms, z)
      → read_plan (vector_plan at) c ≡ Ok (vector_of at r terms, z)
  unfolding read_plan
  vector-read r d z terms e there =
      from_heading r d e ∙ read_plan-and_then (terms_plan (bits_of_heading r) (count_of_heading r) None) (λ ts. done (vector_of at r ts)) d
      ∙ ap (λ (x : Result (List VectorTerm × Cursor) Broken). x >>= λ y. ok_pair (vector_of at r y.0) y.1) there

-- ---- vectors

abbrev pub reads_vectors : List VectorPlace → Cursor → Result (List StoredVector × Cursor) Broken
reads_vectors slots c = read_plan (vectors_plan slots) c

pub vectors-left : (at : VectorPlace) (slots : List VectorPlace) (c : Cursor) (v : StoredVector) (d : Cursor) → read_plan (vector_plan at) c ≡ Ok (v, d) → Continues (reads_vectors (at ∷ slots) c) (reads_vectors slots d)
unfolding vectors_plan
vectors-left at slots c v d e = led-left (vector_plan at) (λ _. vectors_plan slots) c v d e

pub vectors-broken : (kind : FileKind) (at : VectorPlace) (slots : List VectorPlace) (c : Cursor) (fault : CodecFault) → IsBrokenSo kind (read_plan (vector_plan at) c) fault → IsBrokenSo kind (reads_vectors (at ∷ slots) c) fault
unfolding vectors_plan
vectors-broken kind at slots c fault e = then-broken_so kind (vector_plan at) (λ v. headed v (vectors_plan slots)) c fault e

pub vectors-done : (c : Cursor) → reads_vectors [] c ≡ Ok ([], c)
unfolding vectors_plan read_plan
vectors-done c = refl

-- ---- the vectors of documents

abbrev pub reads_all : List (List VectorPlace) → Cursor → Result (List (List StoredVector) × Cursor) Broken
reads_all documents c = read_plan (all_plan documents) c

pub all-left : (slots : List VectorPlace) (documents : List (List VectorPlace)) (c : Cursor) (v : List StoredVector) (d : Cursor) → reads_vectors slots c ≡ Ok (v, d) → Continues (reads_all (slots ∷ documents) c) (reads_all documents d)
unfolding all_plan
all-left slots documents c v d e = led-left (vectors_plan slots) (λ _. all_plan documents) c v d e

pub all-broken : (kind : FileKind) (slots : List VectorPlace) (documents : List (List VectorPlace)) (c : Cursor) (fault : CodecFault) → IsBrokenSo kind (reads_vectors slots c) fault → IsBrokenSo kind (reads_all (slots ∷ documents) c) fault
unfolding all_plan
all-broken kind slots documents c fault e = then-broken_so kind (vectors_plan slots) (λ v. headed v (all_plan documents)) c fault e

pub all-done : (c : Cursor) → reads_all [] c ≡ Ok ([], c)
unfolding all_plan read_plan
all-done c = refl

pub tvf-from : (documents : List (List VectorPlace)) (bytes : List ℕ) (from : Cursor) → IsBehindFormat 105 bytes from → read_plan (tvf_plan documents) (start_of bytes) ≡ reads_all documents from
tvf-from documents bytes from e = header-left format format_conditions 105 (λ z. refl) (all_plan documents) (start_of bytes) from vector_format e

pub tvf-broken : (documents : List (List VectorPlace)) (bytes : List ℕ) (rule : ℕ) → record_at (format_shape (λ z. z)) (format_rule 105) (start_of bytes) ≡ Err rule → read_plan (tvf_plan documents) (start_of bytes) ≡ Err (record { offset = 0; rule = rule })
tvf-broken documents bytes rule e = header-broken format format_conditions 105 (λ z. refl) (all_plan documents) (start_of bytes) rule e
