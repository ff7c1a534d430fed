use Rattle.std.proofs.Common.{◌≡◌, ◌-◌, length}
use Rattle.check_index.specs.Terms.{HavePassedTerms}
use Rattle.check_index.proofs.terms.check_entries.Given as goal

abbrev pub invariant-loop-info : goal.invariant-loop-info
invariant-loop-info l = (l.cursor.dictionary ≡ l.terms) × HavePassedTerms l.fields l.size l.terms l.frq l.cursor.passed l.at

abbrev pub decreases-loop-info : goal.decreases-loop-info
decreases-loop-info l = length l.terms.terms - l.cursor.passed
