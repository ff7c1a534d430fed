-- Worked rows on the choices of the writer.
use Rattle.std.proofs.Common.{◌≡◌, ℕ, List, [], ◌∷◌, refl}
use Rattle.lu_grammar.specs.Meaning.{Spelled}
use Rattle.term_vectors.specs.Vectors.{TvfRecord, heading, term, position}
use Rattle.term_vectors.specs.VectorBytes.{shared_length}
use Rattle.term_vectors.specs.WrittenChoices.{AllShareMost, StandAtEnds}

-- a record; its bytes do not matter here
abbrev spelled : TvfRecord → Spelled TvfRecord
spelled r = record { it = r; front = [] }

-- `aa` and `ab`, with a position between them: the second may share one byte
abbrev two_texts : ℕ → List ℕ → List (Spelled TvfRecord)
two_texts prefix suffix = spelled (heading 2 1) ∷ spelled (term 0 (0x61 ∷ 0x61 ∷ []) 1) ∷ spelled (position 0) ∷ spelled (term prefix suffix 1) ∷ []

one_shared : AllShareMost [] (two_texts 1 (0x62 ∷ []))
unfolding AllShareMost shared_length
one_shared = (tt, (refl, (tt, (refl, tt))))

none_shared : AllShareMost [] (two_texts 0 (0x61 ∷ 0x62 ∷ [])) → ⊥
unfolding AllShareMost shared_length
none_shared h = absurd (zero_one h.1.1.1.0)
  where
    zero_one : ◌≡◌ {A = ℕ} 0 1 → ⊥
    zero_one q = cc

-- a document without vectors at place 4, where those before it end, and at place 7
at_end : StandAtEnds 4 (record { tvd = 4; tvf = 4 } ∷ []) ([] ∷ [])
unfolding StandAtEnds
at_end = (λ _. refl, tt)

elsewhere : StandAtEnds 4 (record { tvd = 4; tvf = 7 } ∷ []) ([] ∷ []) → ⊥
unfolding StandAtEnds
elsewhere h = absurd (seven_four (h.0 refl))
  where
    seven_four : ◌≡◌ {A = ℕ} 7 4 → ⊥
    seven_four q = cc
