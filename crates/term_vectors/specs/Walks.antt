-- The walk over the terms of a vector (format page, "Term vectors").
use Rattle.std.specs.Prelude.{ℕ, Bool, true, false, List, [], ◌∷◌}
use Rattle.lu_model.specs.Index.{Span, VectorTerm}

-- the last term that was passed, those of its positions and of its spans that were not taken, and the terms that are left; before the first term
-- the last one has no text, stands nowhere and has neither
pub record VectorTermWalk : Type 0 where
  pub text : List ℕ
  pub frequency : ℕ
  pub positions : List ℕ
  pub spans : List Span
  pub left : List VectorTerm

-- before the first of these terms
abbrev pub walk_of : List VectorTerm → VectorTermWalk
walk_of terms = record { text = []; frequency = 0; positions = []; spans = []; left = terms }

-- with its last term, before these
abbrev pub walk_at : VectorTerm → List VectorTerm → VectorTermWalk
walk_at t terms = record { text = t.text; frequency = t.frequency; positions = t.positions; spans = t.spans; left = terms }

-- a term is left
abbrev pub has_left : List VectorTerm → Bool
has_left [] = false
has_left (t ∷ terms) = true

-- the next term is passed, if one is left
abbrev pub walk_on : VectorTermWalk → List VectorTerm → VectorTermWalk
walk_on w [] = w
walk_on w (t ∷ terms) = walk_at t terms
