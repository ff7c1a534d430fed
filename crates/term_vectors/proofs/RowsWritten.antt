-- Worked rows on the written form.
use Rattle.std.proofs.Common.{◌≡◌, List, [], ◌∷◌, refl}
use Rattle.std.specs.Prelude.{codes}
use Rattle.lu_grammar.specs.Parts.{groups}
use Rattle.term_vectors.specs.Vectors.{StoredVector}
use Rattle.term_vectors.specs.VectorBytes.{vector_positions_bytes, vector_spans_bytes, shared_length, vector_terms_bytes, differences_bytes, written_places, tvx_bytes, tvd_bytes, tvf_bytes}

-- `hello world` in field 1, with positions and offsets
abbrev hello_world : List (List StoredVector)
hello_world =
    (record {
      field = 1;
      bits = 3;
      terms =
          record { text = codes "hello"; frequency = 1; positions = 0 ∷ []; spans = record { start = 0; end = 5 } ∷ [] }
          ∷ record { text = codes "world"; frequency = 1; positions = 1 ∷ []; spans = record { start = 6; end = 11 } ∷ [] } ∷ [];
    } ∷ []) ∷ []

hello_tvx : tvx_bytes hello_world ≡ 0 ∷ 0 ∷ 0 ∷ 4 ∷ 0 ∷ 0 ∷ 0 ∷ 0 ∷ 0 ∷ 0 ∷ 0 ∷ 4 ∷ 0 ∷ 0 ∷ 0 ∷ 0 ∷ 0 ∷ 0 ∷ 0 ∷ 4 ∷ []
unfolding written_places
hello_tvx = refl

hello_tvd : tvd_bytes hello_world ≡ 0 ∷ 0 ∷ 0 ∷ 4 ∷ 1 ∷ 1 ∷ []
unfolding differences_bytes groups
hello_tvd = refl

hello_tvf : tvf_bytes hello_world ≡ 0 ∷ 0 ∷ 0 ∷ 4 ∷ 2 ∷ 3 ∷ 0 ∷ 5 ∷ 0x68 ∷ 0x65 ∷ 0x6C ∷ 0x6C ∷ 0x6F ∷ 1 ∷ 0 ∷ 0 ∷ 5 ∷ 0 ∷ 5 ∷ 0x77 ∷ 0x6F ∷ 0x72 ∷ 0x6C ∷ 0x64 ∷ 1 ∷ 1 ∷ 6 ∷ 5 ∷ []
unfolding vector_terms_bytes vector_positions_bytes vector_spans_bytes shared_length groups
hello_tvf = refl

-- `aa` at 0, offsets 0 to 2, and at 1, offsets 1 to 3
abbrev overlapping : List (List StoredVector)
overlapping =
    (record {
      field = 0;
      bits = 3;
      terms = record { text = codes "aa"; frequency = 2; positions = 0 ∷ 1 ∷ []; spans = record { start = 0; end = 2 } ∷ record { start = 1; end = 3 } ∷ [] } ∷ [];
    } ∷ []) ∷ []

overlapping_tvf : tvf_bytes overlapping ≡ 0 ∷ 0 ∷ 0 ∷ 4 ∷ 1 ∷ 3 ∷ 0 ∷ 2 ∷ 0x61 ∷ 0x61 ∷ 2 ∷ 0 ∷ 1 ∷ 0 ∷ 2 ∷ 0xFF ∷ 0xFF ∷ 0xFF ∷ 0xFF ∷ 0x0F ∷ 2 ∷ []
unfolding vector_terms_bytes vector_positions_bytes vector_spans_bytes shared_length groups
overlapping_tvf = refl

-- three documents, the middle one without vectors, the last with two whose texts share bytes
abbrev three : List (List StoredVector)
three =
    (record { field = 1; bits = 0; terms = record { text = codes "a"; frequency = 1; positions = []; spans = [] } ∷ [] } ∷ [])
    ∷ []
    ∷ (record {
      field = 2;
      bits = 1;
      terms =
          record { text = codes "ab"; frequency = 1; positions = 3 ∷ []; spans = [] } ∷ record { text = codes "ac"; frequency = 1; positions = 4 ∷ []; spans = [] } ∷ [];
    } ∷ record { field = 1; bits = 0; terms = record { text = codes "ab"; frequency = 1; positions = []; spans = [] } ∷ [] } ∷ []) ∷ []

three_tvx : tvx_bytes three
    ≡ 0 ∷ 0 ∷ 0 ∷ 4
    ∷ 0 ∷ 0 ∷ 0 ∷ 0 ∷ 0 ∷ 0 ∷ 0 ∷ 4 ∷ 0 ∷ 0 ∷ 0 ∷ 0 ∷ 0 ∷ 0 ∷ 0 ∷ 4
    ∷ 0 ∷ 0 ∷ 0 ∷ 0 ∷ 0 ∷ 0 ∷ 0 ∷ 6 ∷ 0 ∷ 0 ∷ 0 ∷ 0 ∷ 0 ∷ 0 ∷ 0 ∷ 10
    ∷ 0 ∷ 0 ∷ 0 ∷ 0 ∷ 0 ∷ 0 ∷ 0 ∷ 7 ∷ 0 ∷ 0 ∷ 0 ∷ 0 ∷ 0 ∷ 0 ∷ 0 ∷ 10 ∷ []
unfolding written_places vector_terms_bytes vector_positions_bytes vector_spans_bytes shared_length differences_bytes groups
three_tvx = refl

three_tvd : tvd_bytes three ≡ 0 ∷ 0 ∷ 0 ∷ 4 ∷ 1 ∷ 1 ∷ 0 ∷ 2 ∷ 2 ∷ 1 ∷ 13 ∷ []
unfolding vector_terms_bytes vector_positions_bytes vector_spans_bytes shared_length differences_bytes groups
three_tvd = refl

three_tvf : tvf_bytes three ≡ 0 ∷ 0 ∷ 0 ∷ 4 ∷ 1 ∷ 0 ∷ 0 ∷ 1 ∷ 0x61 ∷ 1 ∷ 2 ∷ 1 ∷ 0 ∷ 2 ∷ 0x61 ∷ 0x62 ∷ 1 ∷ 3 ∷ 1 ∷ 1 ∷ 0x63 ∷ 1 ∷ 4 ∷ 1 ∷ 0 ∷ 0 ∷ 2 ∷ 0x61 ∷ 0x62 ∷ 1 ∷ []
unfolding vector_terms_bytes vector_positions_bytes vector_spans_bytes shared_length groups
three_tvf = refl
