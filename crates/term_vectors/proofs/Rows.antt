-- Worked rows on the definitions: what reading answers at chosen bytes.
use Rattle.std.proofs.Common.{◌≡◌, ℕ, List, [], ◌∷◌, ◌++◌, Result, Ok, Err, refl}
use Rattle.std.specs.Prelude.{codes}
use Rattle.std.specs.Str.{is_utf8, chars}
use Rattle.lu_types.specs.declared.stored.Window.{Window}
use Rattle.lu_types.specs.Tables.{TableField}
use Rattle.lu_grammar.specs.Reading.{read, read_groups}
use Rattle.lu_grammar.specs.Records.{record_at}
use Rattle.lu_grammar.specs.Plans.{Broken, read_plan, read_file}
use Rattle.term_vectors.specs.declared.layout.DocumentPlaces.{DocumentPlaces}
use Rattle.term_vectors.specs.Places.{places_plan, tvx_plan}
use Rattle.term_vectors.specs.Fields.{VectorPlace, numbers_plan, further_plan, placed, documents_plan, tvd_plan}
use Rattle.term_vectors.specs.Vectors.{StoredVector, positions_plan, spans_plan, terms_plan, vectors_plan, all_plan, tvf_plan}

abbrev broken : {A : Type 0} → ℕ → ℕ → Result A Broken
broken offset rule = Err (record { offset = offset; rule = rule })

abbrev whole : Window
whole = record { offset = 0; count = 1 }

-- a table of a field without vectors, and one with them
abbrev fields : List TableField
fields = record { name = codes "title"; bits = 0x10 } ∷ record { name = codes "body"; bits = 0x0F } ∷ []

-- `.tvx` of one document
abbrev tvx : List ℕ
tvx = 0 ∷ 0 ∷ 0 ∷ 4 ∷ 0 ∷ 0 ∷ 0 ∷ 0 ∷ 0 ∷ 0 ∷ 0 ∷ 4 ∷ 0 ∷ 0 ∷ 0 ∷ 0 ∷ 0 ∷ 0 ∷ 0 ∷ 4 ∷ []

abbrev at : DocumentPlaces
at = record { tvd = 4; tvf = 4 }

tvx_good : read_file (tvx_plan 1) tvx ≡ Ok (at ∷ [])
unfolding read read_plan record_at places_plan
tvx_good = refl

tvx_cut : read_file (tvx_plan 1) (0 ∷ 0 ∷ 0 ∷ 4 ∷ 0 ∷ 0 ∷ 0 ∷ 0 ∷ 0 ∷ 0 ∷ 0 ∷ 4 ∷ []) ≡ broken 4 1
unfolding read read_plan record_at places_plan
tvx_cut = refl

abbrev slots : List ℕ → Result (List (List VectorPlace)) Broken
slots tvd = read_file (tvd_plan fields whole (at ∷ [])) tvd

tvd_good : slots (0 ∷ 0 ∷ 0 ∷ 4 ∷ 1 ∷ 1 ∷ []) ≡ Ok ((record { field = 1; place = 4 } ∷ []) ∷ [])
unfolding read read_groups read_plan record_at numbers_plan further_plan placed documents_plan
tvd_good = refl

tvd_field : slots (0 ∷ 0 ∷ 0 ∷ 4 ∷ 1 ∷ 0 ∷ []) ≡ broken 5 100
unfolding read read_groups read_plan record_at numbers_plan further_plan placed documents_plan
tvd_field = refl

tvd_no_field : slots (0 ∷ 0 ∷ 0 ∷ 4 ∷ 1 ∷ 2 ∷ []) ≡ broken 5 100
unfolding read read_groups read_plan record_at numbers_plan further_plan placed documents_plan
tvd_no_field = refl

tvd_twice : slots (0 ∷ 0 ∷ 0 ∷ 4 ∷ 2 ∷ 1 ∷ 1 ∷ 0 ∷ []) ≡ broken 6 101
unfolding read read_groups read_plan record_at numbers_plan further_plan placed documents_plan
tvd_twice = refl

-- a document outside of the window may have any fields
tvd_outside : read_file (tvd_plan fields (record { offset = 0; count = 0 }) (at ∷ [])) (0 ∷ 0 ∷ 0 ∷ 4 ∷ 1 ∷ 2 ∷ []) ≡ Ok ((record { field = 2; place = 4 } ∷ []) ∷ [])
unfolding read read_groups read_plan record_at numbers_plan further_plan placed documents_plan
tvd_outside = refl

abbrev vectors : List ℕ → Result (List (List StoredVector)) Broken
vectors tvf = read_file (tvf_plan ((record { field = 1; place = 4 } ∷ []) ∷ [])) tvf

-- `hello world`
abbrev hello : ℕ → List ℕ
hello bits = 0 ∷ 0 ∷ 0 ∷ 4 ∷ 2 ∷ bits ∷ 0 ∷ 5 ∷ codes "hello" ++ 1 ∷ 0 ∷ 0 ∷ 5 ∷ 0 ∷ 5 ∷ codes "world" ++ 1 ∷ 1 ∷ 6 ∷ 5 ∷ []

tvf_good : vectors (hello 3) ≡ Ok ((record {
  field = 1;
  bits = 3;
  terms = record { text = codes "hello"; frequency = 1; positions = 0 ∷ []; spans = record { start = 0; end = 5 } ∷ [] }
      ∷ record { text = codes "world"; frequency = 1; positions = 1 ∷ []; spans = record { start = 6; end = 11 } ∷ [] } ∷ [];
} ∷ []) ∷ [])
unfolding read read_groups read_plan record_at positions_plan spans_plan terms_plan vectors_plan all_plan is_utf8 chars lib.Utf8.encode
tvf_good = refl

tvf_bits : vectors (hello 7) ≡ broken 4 107
unfolding read read_groups read_plan record_at positions_plan spans_plan terms_plan vectors_plan all_plan
tvf_bits = refl

-- a start below the end before it
tvf_back : vectors (0 ∷ 0 ∷ 0 ∷ 4 ∷ 1 ∷ 3 ∷ 0 ∷ 2 ∷ codes "aa" ++ 2 ∷ 0 ∷ 1 ∷ 0 ∷ 2 ∷ 0xFF ∷ 0xFF ∷ 0xFF ∷ 0xFF ∷ 0x0F ∷ 2 ∷ []) ≡ Ok ((record {
  field = 1;
  bits = 3;
  terms = record { text = codes "aa"; frequency = 2; positions = 0 ∷ 1 ∷ []; spans = record { start = 0; end = 2 } ∷ record { start = 1; end = 3 } ∷ [] } ∷ [];
} ∷ []) ∷ [])
unfolding read read_groups read_plan record_at positions_plan spans_plan terms_plan vectors_plan all_plan is_utf8 chars lib.Utf8.encode
tvf_back = refl

-- so often that no file could hold the positions, where none are kept
tvf_often : vectors (0 ∷ 0 ∷ 0 ∷ 4 ∷ 1 ∷ 0 ∷ 0 ∷ 1 ∷ codes "a" ++ 0xFF ∷ 0xFF ∷ 0xFF ∷ 0xFF ∷ 7 ∷ []) ≡ Ok ((record {
  field = 1;
  bits = 0;
  terms = record { text = codes "a"; frequency = 2147483647; positions = []; spans = [] } ∷ [];
} ∷ []) ∷ [])
unfolding read read_groups read_plan record_at positions_plan spans_plan terms_plan vectors_plan all_plan is_utf8 chars lib.Utf8.encode
tvf_often = refl
