use Rattle.std.proofs.Common.{◌≡◌, ◌++◌, take, All, IsUtf8}
use Rattle.lu_types.specs.declared.document.Token.{Token}
use Rattle.seg_writer.specs.Columns.{token_uses}
use Rattle.seg_writer.proofs.sorted_uses.push_uses.Given as goal

abbrev pub invariant-loop-number : goal.invariant-loop-number
invariant-loop-number l =
    (l.uses.items ≡ l.initial.uses.items ++ token_uses l.doc l.entry 0 (take l.number l.tokens))
    × All (λ (token : Token). IsUtf8 token.text) (take l.number l.tokens)
