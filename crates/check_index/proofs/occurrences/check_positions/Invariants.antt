use Rattle.std.proofs.Common.{◌≡◌, ◌-◌, length}
use Rattle.check_index.specs.Terms.{lists_in}
use Rattle.check_index.specs.Positions.{HavePassedPositions}
use Rattle.check_index.proofs.occurrences.check_positions.Given as goal

abbrev pub invariant-loop-info : goal.invariant-loop-info
invariant-loop-info l =
    (l.cursor.dictionary ≡ l.opened.terms) × HavePassedPositions l.fields l.size l.opened.terms (lists_in l.fields l.size l.opened.terms l.opened.frq.now) l.prx l.cursor.passed l.at

abbrev pub decreases-loop-info : goal.decreases-loop-info
decreases-loop-info l = length l.opened.terms.terms - l.cursor.passed
