use Rattle.std.proofs.Common.{sym, ◌∙◌}
use Rattle.std.proofs.lemmas.Bool.{ne_eqb}
use Rattle.doc_marks.proofs.FlagLemmas.{is_in-marked_at, is_in-other_byte}
use Rattle.doc_marks.proofs.pair_walk.PairWalk.is_marked.Goals as goal

pub returns-then-self-doc : goal.returns-then-self-doc
returns-then-self-doc c = c.has_bit.ensures ∙ sym (is_in-marked_at c.args.self.now.passed.index c.args.doc c.args.self.now.marks c.if-self-doc.true)

pub returns-else-self-doc : goal.returns-else-self-doc
returns-else-self-doc c = ne_eqb _ _ c.if-self-doc.false ∙ sym (is_in-other_byte c.args.self.now.passed.index c.args.doc c.args.self.now.marks c.if-self-doc.false)
