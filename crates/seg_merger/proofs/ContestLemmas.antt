-- The segment at the root of a tree, and the tree when it goes on.
use Rattle.std.proofs.Common.{◌≡◌, ◌≢◌, ℕ, zero, suc, ◌+◌, ◌/◌, ◌<◌, List, [], ◌∷◌, length, get_or, refl, ap, subst, arith}
use Rattle.std.specs.Prelude.{slice_set, None}
use Rattle.std.proofs.Math.ListN.{length-set}
use Rattle.seg_merger.specs.TermHeads.{IsNearly, IsTournament}
use Rattle.seg_merger.specs.TermRests.{ComesFirst, Rest, rest_heads}
use Rattle.seg_merger.proofs.TreeLemmas.{length-heads, nearly-changed, root-first}

-- the root is inside
pub root-in : (rests : List Rest) (tree : List ℕ) → IsTournament (rest_heads rests) tree → 0 < length rests → get_or tree 1 0 < length rests
root-in rests tree built some =
    let size = length-heads rests in
    let all = built.all in
    let low = built.below 1 (omega arith) (omega (arith, size, all, some)) in
    omega (arith, low, size)

pub comes-first : (rests : List Rest) (tree : List ℕ) → IsTournament (rest_heads rests) tree → 0 < length rests → ComesFirst rests (get_or tree 1 0)
comes-first rests tree built some = record {
  inside = root-in rests tree built some;
  least = λ j h. let size = length-heads rests in root-first (rest_heads rests) tree built j (omega (arith, h, size));
}

set-heads : (xs : List Rest) (r : Rest) (j i : ℕ) → i ≢ j → get_or (rest_heads (slice_set xs j r)) i None ≡ get_or (rest_heads xs) i None
set-heads [] r j i d = refl
set-heads (x ∷ xs) r zero zero d = absurd (d refl)
set-heads (x ∷ xs) r zero (suc i) d = refl
set-heads (x ∷ xs) r (suc j) zero d = refl
set-heads (x ∷ xs) r (suc j) (suc i) d = set-heads xs r j i (λ e. d (ap suc e))

-- one segment is changed
pub nearly-set : (rests : List Rest) (k : ℕ) (r : Rest) (tree : List ℕ) → IsTournament (rest_heads rests) tree → k < length rests → IsNearly (rest_heads (slice_set rests k r)) tree ((length (slice_set rests k r) + k) / 2)
nearly-set rests k r tree built h =
    let new = slice_set rests k r in
    let long : length new ≡ length rests = length-set rests k r in
    let size = length-heads rests in
    let now = length-heads new in
    subst (λ n. IsNearly (rest_heads new) tree ((n + k) / 2)) now
    (nearly-changed (rest_heads rests) (rest_heads new) tree k built (omega (arith, long, size, now)) (omega (arith, h, long, now)) (λ j differ. set-heads rests r k j differ))
