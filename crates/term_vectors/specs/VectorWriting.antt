-- A writer of vectors, and what it holds (format page, "Term vectors").
use Rattle.std.specs.Prelude.{◌≡◌, ℕ, suc, ◌+◌, ◌-◌, ◌==◌, if◌then◌else◌, List, [], ◌∷◌, ◌++◌, length, Option, Some, None}
use Rattle.std.specs.List.{flat_map}
use Rattle.lu_grammar.specs.Parts.{vint, num, vlong, spelling}
use Rattle.lu_model.specs.Index.{Span, VectorTerm}
use Rattle.term_vectors.specs.Format.{bit_positions, bit_offsets}
use Rattle.term_vectors.specs.Vectors.{StoredVector, kept_count}
use Rattle.term_vectors.specs.VectorBytes.{vector_header_bytes, vector_positions_bytes, span_bytes, vector_spans_bytes, term_front_bytes, vector_terms_bytes, vector_heading_bytes, vectors_bytes, tvf_bytes, vector_number_bytes, vector_length_bytes, differences_bytes, tvd_bytes, document_places_bytes, tvx_bytes}

-- a writer: the three files so far; how far apart the vectors of the last document stand, and where the last of them starts, if there is one; its bits;
-- the text, the position and the end that were handed last; and how many vectors the last document lacks, how many terms its last vector, and how many
-- positions and spans its last term
pub record VectorWriting : Type 0 where
  pub tvx : List ℕ
  pub tvd : List ℕ
  pub tvf : List ℕ
  pub differences : List ℕ
  pub start : Option ℕ
  pub bits : ℕ
  pub text : List ℕ
  pub position : ℕ
  pub end : ℕ
  pub lacks_vectors : ℕ
  pub lacks_terms : ℕ
  pub lacks_positions : ℕ
  pub lacks_spans : ℕ

-- ---- what lacks

-- the last term has its positions and its spans
pub record IsTermWhole (w : VectorWriting) : Type 0 where
  pub positions : w.lacks_positions ≡ 0
  pub spans : w.lacks_spans ≡ 0

-- the last vector has its terms
pub record IsVectorWhole (w : VectorWriting) : Type 0 where
  pub term : IsTermWhole w
  pub terms : w.lacks_terms ≡ 0

-- the last document has its vectors
pub record IsDocumentWhole (w : VectorWriting) : Type 0 where
  pub vector : IsVectorWhole w
  pub vectors : w.lacks_vectors ≡ 0

-- ---- the steps

-- a writer of no documents yet
abbrev pub no_vectors_written : VectorWriting
no_vectors_written = record {
  tvx = vector_header_bytes;
  tvd = vector_header_bytes;
  tvf = vector_header_bytes;
  differences = [];
  start = None;
  bits = 0;
  text = [];
  position = 0;
  end = 0;
  lacks_vectors = 0;
  lacks_terms = 0;
  lacks_positions = 0;
  lacks_spans = 0;
}

-- a document of so many vectors is begun
abbrev pub with_document_begun : ℕ → VectorWriting → VectorWriting
with_document_begun count w = record w {
  tvx = w.tvx ++ document_places_bytes (record { tvd = length w.tvd; tvf = length w.tvf });
  tvd = w.tvd ++ spelling num count;
  differences = [];
  start = None;
  lacks_vectors = count;
}

-- how far a vector that starts here stands behind the one before, if there is one
abbrev pub difference_from : Option ℕ → ℕ → List ℕ
difference_from None here = []
difference_from (Some start) here = spelling vlong (here - start)

-- the differences, with that of a vector that is begun
abbrev pub differences_with : VectorWriting → List ℕ
differences_with w = w.differences ++ difference_from w.start (length w.tvf)

-- all differences where the vector that is begun is the last, and none before
abbrev pub differences_at_last : ℕ → List ℕ → List ℕ
differences_at_last lacks differences = if lacks == 1 then differences else []

-- a vector of a field is begun, with these bits and so many terms
abbrev pub with_vector_begun : ℕ → ℕ → ℕ → VectorWriting → VectorWriting
with_vector_begun field bits count w = record w {
  tvd = w.tvd ++ (spelling num field ++ differences_at_last w.lacks_vectors (differences_with w));
  tvf = w.tvf ++ vector_heading_bytes count bits;
  differences = differences_with w;
  start = Some (length w.tvf);
  bits = bits;
  text = [];
  lacks_vectors = w.lacks_vectors - 1;
  lacks_terms = count;
}

-- a term is begun, which stands so often in the field
abbrev pub with_term_begun : List ℕ → ℕ → VectorWriting → VectorWriting
with_term_begun text freq w = record w {
  tvf = w.tvf ++ term_front_bytes w.text text freq;
  text = text;
  position = 0;
  end = 0;
  lacks_terms = w.lacks_terms - 1;
  lacks_positions = kept_count bit_positions w.bits freq;
  lacks_spans = kept_count bit_offsets w.bits freq;
}

-- a position is added
abbrev pub with_position : ℕ → VectorWriting → VectorWriting
with_position position w = record w {
  tvf = w.tvf ++ spelling vint (position - w.position);
  position = position;
  lacks_positions = w.lacks_positions - 1;
}

-- a span is added
abbrev pub with_span : Span → VectorWriting → VectorWriting
with_span s w = record w { tvf = w.tvf ++ span_bytes w.end s; end = s.end; lacks_spans = w.lacks_spans - 1 }

-- ---- what is held

-- the writer holds these documents, each with its vectors
pub record HoldsDocuments (documents : List (List StoredVector)) (w : VectorWriting) : Type 0 where
  pub tvx : w.tvx ≡ tvx_bytes documents
  pub tvd : w.tvd ≡ tvd_bytes documents
  pub tvf : w.tvf ≡ tvf_bytes documents
  pub whole : IsDocumentWhole w

-- `.tvx` behind these documents, with the places of one that is begun
abbrev pub begun_places_bytes : List (List StoredVector) → List ℕ
begun_places_bytes documents = tvx_bytes documents ++ document_places_bytes (record { tvd = length (tvd_bytes documents); tvf = length (tvf_bytes documents) })

-- where a vector starts behind these documents and these vectors
abbrev pub vector_start : List (List StoredVector) → List StoredVector → ℕ
vector_start documents vectors = length (tvf_bytes documents ++ vectors_bytes vectors)

-- where the last of the vectors starts, if there is one
unfoldable pub last_start : List (List StoredVector) → List StoredVector → List StoredVector → Option ℕ
last_start documents front [] = None
last_start documents front (v ∷ []) = Some (vector_start documents front)
last_start documents front (v ∷ w ∷ vectors) = last_start documents (front ++ v ∷ []) (w ∷ vectors)

-- besides, a document is begun that is to have so many vectors, and has these
pub record HoldsOpenDocument (documents : List (List StoredVector)) (count : ℕ) (vectors : List StoredVector) (w : VectorWriting) : Type 0 where
  pub tvx : w.tvx ≡ begun_places_bytes documents
  pub tvd : w.tvd ≡ tvd_bytes documents ++ (spelling num count ++ (flat_map vector_number_bytes vectors ++ (if w.lacks_vectors == 0 then differences_bytes vectors else [])))
  pub tvf : w.tvf ≡ tvf_bytes documents ++ vectors_bytes vectors
  pub differences : w.differences ≡ differences_bytes vectors
  pub start : w.start ≡ last_start documents [] vectors
  pub lacks : length vectors + w.lacks_vectors ≡ count
  pub whole : IsVectorWhole w

-- a vector that is begun: its field, its bits, and how many terms it is to have
pub record BegunVector : Type 0 where
  pub field : ℕ
  pub bits : ℕ
  pub count : ℕ

-- besides, of a vector that is begun these bytes stand behind its heading
pub record HoldsVectorBytes (documents : List (List StoredVector)) (count : ℕ) (vectors : List StoredVector) (v : BegunVector) (terms : List ℕ) (w : VectorWriting) : Type 0 where
  pub tvx : w.tvx ≡ begun_places_bytes documents
  pub tvd : w.tvd ≡ tvd_bytes documents ++ (spelling num count ++ ((flat_map vector_number_bytes vectors ++ spelling num v.field)
      ++ (if w.lacks_vectors == 0 then flat_map vector_length_bytes vectors else [])))
  pub tvf : w.tvf ≡ (tvf_bytes documents ++ vectors_bytes vectors) ++ (vector_heading_bytes v.count v.bits ++ terms)
  pub differences : w.differences ≡ flat_map vector_length_bytes vectors
  pub start : w.start ≡ Some (vector_start documents vectors)
  pub bits : w.bits ≡ v.bits
  pub lacks : suc (length vectors) + w.lacks_vectors ≡ count

-- the text of the last of the terms, empty where there is none
unfoldable pub last_vector_text : List ℕ → List VectorTerm → List ℕ
last_vector_text before [] = before
last_vector_text before (t ∷ ts) = last_vector_text t.text ts

-- besides, a vector is begun that has these terms
pub record HoldsOpenVector (documents : List (List StoredVector)) (count : ℕ) (vectors : List StoredVector) (v : BegunVector) (terms : List VectorTerm) (w : VectorWriting) : Type 0 where
  pub vector : HoldsVectorBytes documents count vectors v (vector_terms_bytes [] terms) w
  pub text : w.text ≡ last_vector_text [] terms
  pub lacks : length terms + w.lacks_terms ≡ v.count
  pub whole : IsTermWhole w

-- the last of the positions, or this one
unfoldable pub last_vector_position : ℕ → List ℕ → ℕ
last_vector_position last [] = last
last_vector_position last (p ∷ ps) = last_vector_position p ps

-- the end of the last of the spans, or this one
unfoldable pub last_vector_end : ℕ → List Span → ℕ
last_vector_end last [] = last
last_vector_end last (s ∷ ss) = last_vector_end s.end ss

-- besides, a term is begun, of which these positions and spans were handed: the spans after all positions
pub record HoldsOpenTerm (documents : List (List StoredVector)) (count : ℕ) (vectors : List StoredVector) (v : BegunVector) (terms : List VectorTerm) (t : VectorTerm)
    (w : VectorWriting) : Type 0 where
  pub vector : HoldsVectorBytes documents count vectors v (vector_terms_bytes [] terms
      ++ (term_front_bytes (last_vector_text [] terms) t.text t.frequency ++ (vector_positions_bytes 0 t.positions ++ vector_spans_bytes 0 t.spans))) w
  pub text : w.text ≡ t.text
  pub lacks : suc (length terms) + w.lacks_terms ≡ v.count
  pub position : w.position ≡ last_vector_position 0 t.positions
  pub end : w.end ≡ last_vector_end 0 t.spans
  pub lacks_positions : length t.positions + w.lacks_positions ≡ kept_count bit_positions v.bits t.frequency
  pub lacks_spans : length t.spans + w.lacks_spans ≡ kept_count bit_offsets v.bits t.frequency

-- ---- what is handed

-- the vector that is begun, with these terms
abbrev pub begun_vector : BegunVector → List VectorTerm → StoredVector
begun_vector v terms = record { field = v.field; bits = v.bits; terms = terms }

-- a term that is begun
abbrev pub begun_term : List ℕ → ℕ → VectorTerm
begun_term text freq = record { text = text; frequency = freq; positions = []; spans = [] }

-- a term with one more position
abbrev pub with_one_position : ℕ → VectorTerm → VectorTerm
with_one_position p t = record t { positions = t.positions ++ p ∷ [] }

-- a term with one more span
abbrev pub with_one_span : Span → VectorTerm → VectorTerm
with_one_span s t = record t { spans = t.spans ++ s ∷ [] }
