use Rattle.std.proofs.Common.{sym, ◌∙◌}
use Rattle.doc_marks.proofs.FlagLemmas.{is_in-marked, is_in-no_byte}
use Rattle.doc_marks.proofs.walk.is_marked.Goals as goal

pub returns-then-index-body : goal.returns-then-index-body
returns-then-index-body c = sym (is_in-no_byte c.args.doc c.args.body.now c.if-index-body.true)

pub returns : goal.returns
returns c = c.has_bit.ensures ∙ sym (is_in-marked c.args.doc c.args.body.now c.if-index-body.false)
