-- How a folder reads after an effect, and where it was stopped.
use Rattle.std.proofs.Common.{refl, sym, subst, inl, inr}
use Rattle.lu_dir.specs.Files.{Files}
use Rattle.segment_infos.proofs.WrittenCommits.{commit-reads}
use Rattle.lu_folder.specs.ChangeValues.{ChangeValue}
use Rattle.lu_folder.specs.Changes.{sealed, committed, IsMade, IsStopped}
use Rattle.lu_folder.proofs.SweepingLemmas.{RemovesOnly-none, RemovesOnly-all}
use Rattle.lu_folder.proofs.UnmadeLemmas.{unmade-kept, unmade-adds, unmade-old}
use Rattle.lu_folder.proofs.MadeLemmas.{sealed-kept, sealed-adds}
use Rattle.lu_folder.proofs.KeepsLemmas.{made-keeps}
use Rattle.lu_outcomes.specs.declared.outcome.Effect.{Effect}
use Rattle.lu_outcomes.specs.declared.outcome.Effect.TheVariants.{Nothing, Commit}
use Rattle.lu_outcomes.specs.Effects.{standing, LosesNothing, ReadsAs, StopsAs}

module _ (change : ChangeValue) (old : Files) (sound : LosesNothing (Commit change) old) where
  -- a commit that was made reads as itself, whatever was removed
  pub made-reads : (new : Files) → IsMade change old new → ReadsAs (Commit change) old new
  made-reads new made = let keeps = made-keeps change old sound.0 sound.1 sound.2 new made in (keeps.0, keeps.1, made)

  sealed-stops : StopsAs (Commit change) old (sealed change old)
  sealed-stops =
      let reads = made-reads (sealed change old) (RemovesOnly-none change.removable (sealed change old)) in
      (sealed-adds change old sound.0 sound.2, sealed-kept change old sound.0 sound.2, inr (reads.1, refl))

  -- a commit that was stopped loses nothing
  pub stopped-reads : (new : Files) → IsStopped change old new → StopsAs (Commit change) old new
  stopped-reads new (inl unmade) = (unmade-adds change old sound.0 sound.2 new unmade, unmade-kept change old sound.0 sound.2 new unmade, inl (unmade-old change old sound.0 sound.2 new unmade (commit-reads change.commit sound.1)))
  stopped-reads new (inr is) = subst (StopsAs (Commit change) old) (sym is) sealed-stops

-- an effect that is done reads as it is to
pub standing-reads : (effect : Effect) (old : Files) → LosesNothing effect old → ReadsAs effect old (standing effect old)
standing-reads Nothing old sound = refl
standing-reads (Commit change) old sound = made-reads change old sound (committed change old) (RemovesOnly-all change.removable (sealed change old))
