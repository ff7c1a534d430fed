-- Walks over what is listed.
use Rattle.std.proofs.Common.{◌≡◌, true, false, List, [], ◌∷◌, refl, sym, ap, ◌∙◌}
use Rattle.lu_model.specs.Index.{VectorTerm}
use Rattle.term_vectors.specs.Walks.{VectorTermWalk, walk_at, has_left, walk_on}

-- ---- the terms of a vector

moved_on : (w new : VectorTermWalk) (left : List VectorTerm) → has_left left ≡ true → new ≡ walk_on w left → (t : VectorTerm) × (left ≡ t ∷ new.left) × (new ≡ walk_at t new.left)
moved_on w new [] more moved = absurd (cc more)
moved_on w new (t ∷ left) more moved =
    let same = ap (λ (x : VectorTermWalk). x.left) moved in
    (t, ap (λ (ts : List VectorTerm). t ∷ ts) (sym same), moved ∙ ap (walk_at t) (sym same))

-- the term that the walk moved to was the first that was left
pub moved-on : (w new : VectorTermWalk) → has_left w.left ≡ true → new ≡ walk_on w w.left → (t : VectorTerm) × (w.left ≡ t ∷ new.left) × (new ≡ walk_at t new.left)
moved-on w new more moved = moved_on w new w.left more moved

-- where it did not move, none was left
pub none-left : (left : List VectorTerm) → has_left left ≡ false → left ≡ []
none-left [] none = refl
none-left (t ∷ left) none = absurd (cc none)
