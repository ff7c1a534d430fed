-- Lists that are written item by item.
use Rattle.std.proofs.Common.{◌≡◌, ℕ, zero, suc, ◌+◌, ◌<◌, ◌≤◌, Result, Ok, Err, IfOk, arith, List, [], ◌∷◌, ◌++◌, length, take, get_or, flat_map, refl, sym, ap, ◌∙◌, append_assoc}
use Rattle.std.proofs.lemmas.List.{take_more, take_all, flat_map_more}

-- one item more behind what was there, a head and the items so far
pub put-more : {X : Type 0} (spell : X → List ℕ) (old head : List ℕ) (xs : List X) (i : ℕ) (x : X) (now next : List ℕ) → i < length xs → get_or xs i x ≡ x → now ≡ old ++ (head ++ flat_map spell (take i xs)) → next ≡ now ++ spell x
    → next ≡ old ++ (head ++ flat_map spell (take (i + 1) xs))
put-more {X} spell old head xs i x now next lt is so_far put =
    put ∙ ap (λ (t : List ℕ). t ++ spell x) so_far ∙ append_assoc old (head ++ flat_map spell (take i xs)) (spell x) ∙ ap (λ (t : List ℕ). old ++ t) (flat_map_more spell head (take i xs) x)
    ∙ ap (λ (ys : List X). old ++ (head ++ flat_map spell ys)) (ap (λ (y : X). take i xs ++ y ∷ []) (sym is) ∙ sym (take_more xs i x lt))

-- and all of them
pub put-all : {X : Type 0} (spell : X → List ℕ) (old head : List ℕ) (xs : List X) (i : ℕ) (now : List ℕ) → length xs ≤ i → now ≡ old ++ (head ++ flat_map spell (take i xs)) → now ≡ old ++ (head ++ flat_map spell xs)
put-all {X} spell old head xs i now le so_far = so_far ∙ ap (λ (ys : List X). old ++ (head ++ flat_map spell ys)) (take_all i xs le)

-- within a list the value that stands for no item does not matter
pub get_or-any : {X : Type 0} (xs : List X) (i : ℕ) (d e : X) → i < length xs → get_or xs i d ≡ get_or xs i e
get_or-any [] i d e lt = absurd (omega arith)
get_or-any (x ∷ xs) zero d e lt = refl
get_or-any (x ∷ xs) (suc i) d e lt = get_or-any xs i d e (omega arith)

-- what follows from what an Ok says
pub if_ok : {X E A B : Type 0} (r : Result X E) → (A → B) → IfOk r (λ _. A) → IfOk r (λ _. B)
if_ok (Ok x) f a = f a
if_ok (Err e) f a = tt

-- four pieces, one after another
pub put-four : (old a b c d one two three four : List ℕ) → one ≡ old ++ a → two ≡ one ++ b → three ≡ two ++ c → four ≡ three ++ d → four ≡ old ++ (a ++ (b ++ (c ++ d)))
put-four old a b c d one two three four e f g h =
    h ∙ ap (λ (t : List ℕ). t ++ d) (g ∙ ap (λ (t : List ℕ). t ++ c) (f ∙ ap (λ (t : List ℕ). t ++ b) e))
    ∙ append_assoc ((old ++ a) ++ b) c d ∙ append_assoc (old ++ a) b (c ++ d) ∙ append_assoc old a (b ++ (c ++ d))
