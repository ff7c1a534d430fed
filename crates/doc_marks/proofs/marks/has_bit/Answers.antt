use Rattle.std.proofs.Common.{sym}
use Rattle.doc_marks.proofs.FlagLemmas.{get-bits}
use Rattle.doc_marks.proofs.marks.has_bit.Goals as goal

pub returns : goal.returns
returns c = rw c.bit_value.ensures (sym (get-bits 8 c.args.byte c.args.bit c.requires))
