use Rattle.std.proofs.Common.{◌+◌, ◌≤◌, List, ℕ, [], ◌∷◌, length, Option, IsSomeAnd, sym, ap, ◌∙◌, subst, lit≤}
use Rattle.lu_dir.specs.Files.{contents}
use Rattle.lu_dir.proofs.Contents.{contents-with_file-same}
use Rattle.base_tests.proofs.lu_dir_tests.folder.Goals as goal

-- the file that was put is there, and long enough
pub returns : goal.returns
returns c =
    subst (λ (there : Option (List ℕ)). IsSomeAnd there (λ bytes. 1 + 4 ≤ length bytes))
    (sym (ap (λ files. contents files (102 ∷ [])) c.in_ok-put.ensures.files ∙ contents-with_file-same (102 ∷ []) _ _)) (lit≤ tt)
