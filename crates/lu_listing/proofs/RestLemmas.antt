-- The texts of some things, of which some are printed and the others are left.
use Rattle.std.proofs.Common.{◌≡◌, ℕ, List, [], ◌∷◌, ap}
use Rattle.std.specs.List.{flat_map}
use Rattle.lu_listing.specs.Printing.{Page, Prints}
use Rattle.lu_listing.proofs.PrintingLemmas.{Lacks, lacks-less, lacks-none}

module _ {A : Type 0} (text : A → List ℕ) (start here : Page) (whole : List ℕ) where
  -- the first of those that were left is printed
  pub lacks-next : (next : Page) (x : A) (all left : List A) → Lacks start here (flat_map text all) whole → all ≡ x ∷ left → Prints here next (text x) → Lacks start next (flat_map text left) whole
  lacks-next next x all left so_far split printed = lacks-less start here next (text x) (flat_map text left) (flat_map text all) whole so_far printed (ap (flat_map text) split)

  -- none is left
  pub lacks-end : (all : List A) → Lacks start here (flat_map text all) whole → all ≡ [] → Prints start here whole
  lacks-end all so_far none = lacks-none start here (flat_map text all) whole so_far (ap (flat_map text) none)
