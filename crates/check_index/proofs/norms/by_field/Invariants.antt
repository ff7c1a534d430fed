use Rattle.std.proofs.Common.{map}
use Rattle.std.specs.Prelude.{option_copied}
use Rattle.check_index.proofs.NormLemmas.{AreGiven}
use Rattle.check_index.proofs.norms.by_field.Given as goal

abbrev pub invariant-loop-number : goal.invariant-loop-number
invariant-loop-number l = AreGiven l.norms l.fields (map option_copied l.columns.items) l.number l.column
