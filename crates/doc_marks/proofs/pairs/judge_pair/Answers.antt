use Rattle.std.proofs.Common.{◌+◌, arith}
use Rattle.doc_marks.proofs.DelLemmas.{marked_at-some}
use Rattle.doc_marks.proofs.pairs.judge_pair.Goals as goal

pub returns-clause-some : goal.returns-clause-some
returns-clause-some c =
    omega (arith, c.byte_marks-found.ensures.documents, marked_at-some (c.args.passed.index + c.args.gap) c.args.marks c.ranges.marks.fits c.if-marks-eq0.false)
