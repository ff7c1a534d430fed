use Rattle.term_index.specs.Points.{last_term_of}
use Rattle.term_index.proofs.PointLoop.{HasPoints}
use Rattle.term_index.proofs.checking.check_points.Given as goal

abbrev pub invariant-loop-number : goal.invariant-loop-number
invariant-loop-number l = HasPoints l.fn.cursor.dictionary l.fn.cur l.number l.cur (last_term_of l.last) l.last.place l.cursor
