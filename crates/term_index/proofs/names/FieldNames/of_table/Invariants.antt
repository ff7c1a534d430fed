use Rattle.std.proofs.Common.{◌≡◌, take, map}
use Rattle.term_index.specs.InnerSearch.{lent}
use Rattle.term_index.specs.Seeking.{names_of}
use Rattle.term_index.proofs.names.FieldNames.of_table.Given as goal

abbrev pub invariant-loop-number : goal.invariant-loop-number
invariant-loop-number l = map lent l.texts.items ≡ names_of (take l.number l.fields)
