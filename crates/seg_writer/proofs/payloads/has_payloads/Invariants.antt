use Rattle.std.proofs.Common.{◌≡◌, [], take, All}
use Rattle.lu_types.specs.declared.document.Token.{Token}
use Rattle.seg_writer.proofs.payloads.has_payloads.Given as goal

abbrev pub invariant-loop-token : goal.invariant-loop-token
invariant-loop-token l = All (λ (token : Token). token.payload ≡ []) (take l.token-index l.tokens)
