use Rattle.std.proofs.Common.{◌≡◌, take, map}
use Rattle.std.specs.Prelude.{option_copied}
use Rattle.check_index.proofs.NormLemmas.{without_norms}
use Rattle.check_index.proofs.norms.no_norms.Given as goal

abbrev pub invariant-loop-number : goal.invariant-loop-number
invariant-loop-number l = map option_copied l.columns.items ≡ without_norms (take l._number l.fields)
