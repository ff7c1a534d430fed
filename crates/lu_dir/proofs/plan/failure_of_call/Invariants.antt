use Rattle.std.proofs.Common.{◌≡◌, drop}
use Rattle.lu_dir.specs.Planned.{failure_of}
use Rattle.lu_dir.proofs.plan.failure_of_call.Given as goal

abbrev pub invariant-loop-fail : goal.invariant-loop-fail
invariant-loop-fail l = failure_of l.fails l.stop l.call ≡ failure_of (drop l.fail-index l.fails) l.stop l.call
