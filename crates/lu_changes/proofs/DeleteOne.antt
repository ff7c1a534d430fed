-- The outcome of `delete` that is due is one.
use Rattle.std.proofs.Common.{◌≡◌, ℕ, List, Some, sym, ◌∙◌}
use Rattle.lu_dir.specs.Files.{Files}
use Rattle.lu_outcomes.specs.declared.outcome.Outcome.{Outcome}
use Rattle.lu_changes.specs.Deleting.{MarksGive, DeleteDue}
use Rattle.lu_changes.proofs.FollowLemmas.{follow-one}

-- the outcome of `delete` that is due is one
pub delete-one : (told : Files) (field text : List ℕ) (one other : Outcome) → DeleteDue field text (Some told) one → DeleteDue field text (Some told) other → one ≡ other
delete-one told field text one other = follow-one (MarksGive field text) told one other (λ names before generation xs first second. first ∙ sym second)
