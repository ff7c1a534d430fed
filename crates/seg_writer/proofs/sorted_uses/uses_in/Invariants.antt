use Rattle.std.proofs.Common.{◌≡◌, take, All, IsUtf8}
use Rattle.lu_types.specs.declared.document.Token.{Token}
use Rattle.seg_writer.specs.Columns.{all_uses, tokens_in_field}
use Rattle.seg_writer.proofs.sorted_uses.uses_in.Given as goal

abbrev pub invariant-loop-entry : goal.invariant-loop-entry
invariant-loop-entry l =
    (l.uses.items ≡ all_uses (take l.entry l.column))
    × All (λ a. All (λ (token : Token). IsUtf8 token.text) (tokens_in_field a)) (take l.entry l.column)
