-- Texts of things that are numbered.
use Rattle.std.proofs.Common.{◌≡◌, ℕ, suc, ◌+◌, ◌<◌, ◌≤◌, List, [], ◌++◌, length, get_or, drop, ap, ◌∙◌, arith, drop-cons}
use Rattle.std.proofs.lemmas.List.{drop_all}
use Rattle.lu_listing.specs.Lines.{numbered}

module _ {A : Type 0} (text : ℕ → A → List ℕ) (xs : List A) (number : ℕ) where
  -- the text of the next, and of those behind it
  pub numbered-drop : (none : A) → number < length xs → numbered text number (drop number xs) ≡ text number (get_or xs number none) ++ numbered text (number + 1) (drop (number + 1) xs)
  numbered-drop none lt =
      ap (numbered text number) (drop-cons xs number none lt)
      ∙ ap (λ (n : ℕ). text number (get_or xs number none) ++ numbered text (number + 1) (drop n xs)) (let e : suc number ≡ number + 1 = omega arith in e)

  -- none is left
  pub numbered-drop_all : length xs ≤ number → numbered text number (drop number xs) ≡ []
  numbered-drop_all le = ap (numbered text number) (drop_all number xs le)
