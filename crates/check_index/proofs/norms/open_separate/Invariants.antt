use Rattle.std.proofs.Common.{◌≡◌, length}
use Rattle.lu_types.specs.FilePlans.{StandFor}
use Rattle.check_index.specs.Norms.{separate_files}
use Rattle.check_index.proofs.norms.open_separate.Given as goal

abbrev pub invariant-loop-number : goal.invariant-loop-number
invariant-loop-number l = (length l.norms ≡ length l.fields) × StandFor (separate_files l.info.norm_gens l.fields l.info.size l.files l.number l.initial.norms) l.norms
