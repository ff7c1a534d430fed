use Rattle.std.proofs.Common.{◌≡◌, ◌+◌, ◌∙◌, ℕ, get_or, Option, IfSome, false, Ok, Some, refl, sym, subst, below_more, arith}
use Rattle.lu_grammar.specs.Bytes.{IsBytes}
use Rattle.lu_dir.specs.Files.{Files}
use Rattle.lu_types.specs.declared.fault.Spot.{Spot}
use Rattle.lu_folder.specs.Commits.{commit_file}
use Rattle.lu_folder.specs.Choosing.{IsFaulty, IsPassedOver, is_too_large}
use Rattle.lu_folder.specs.Looking.{Looks, IsFirst, IsSeen}
use Rattle.lu_folder.specs.declared.choosing.Look.{Look}
use Rattle.lu_folder.proofs.LookLemmas.{faulty-passed, IsFirst-more, IsSeen-more, IsNoIndex-fault}
use Rattle.lu_folder.proofs.choosing.first_good.Goals as goal

pub returns-in-Err-clause-empty : goal.returns-in-Err-clause-empty
returns-in-Err-clause-empty g c = IsNoIndex-fault c.in-Err.fault c.args.generations.now c.loop-generation.generation-index c.loop-generation-test.true c.in-Err.ensures.fault

pub loop-generation-preserved : goal.loop-generation-preserved
loop-generation-preserved g c =
    let generations = c.args.generations.now in
    let place = c.loop-generation.generation-index in
    let looked : (told : Files) → g.D.Dir.files c.args.dir.now ≡ Some told → IsFaulty (commit_file told (get_or generations place 0)) c.in-Ok-Faulty.spot × (is_too_large told (get_or generations place 0) ≡ false) × IfSome (commit_file told (get_or generations place 0)) IsBytes =
    (λ told is. subst (λ (l : Look). Looks told (get_or generations place 0) (Ok l)) c.in-Ok-Faulty.field-0-is (c.in-Ok-Faulty.ensures.told told (c.loop-generation.invariant.files ∙ is))) in
    record {
      passed = λ told is. below_more _ _ (c.loop-generation.invariant.passed told is) (faulty-passed told (get_or generations place 0) c.in-Ok-Faulty.spot (looked told is).0 (looked told is).1 (looked told is).2);
      first = λ told is. subst (IsFirst told generations (place + 1)) (sym c.first_of-first.ensures)
          (IsFirst-more told generations place (get_or generations place 0) c.loop-generation.first c.in-Ok-Faulty.spot refl (looked told is).0 (c.loop-generation.invariant.first told is));
      seen = subst (IsSeen (place + 1)) (sym c.first_of-first.ensures) (IsSeen-more place c.loop-generation.first (get_or generations place 0, c.in-Ok-Faulty.spot));
      files = c.in-Ok-Faulty.ensures.files ∙ c.loop-generation.invariant.files;
      asked = c.in-Ok-Faulty.ensures.asked ∙ c.loop-generation.invariant.asked;
      later = omega (arith, c.in-Ok-Faulty.ensures.cause.later, c.loop-generation.invariant.later);
    }
