use Rattle.std.proofs.Common.{◌≡◌, ◌+◌, ◌-◌, ◌/◌, ◌≤◌, ℕ, length}
use Rattle.lu_grammar.specs.Plans.{read_plan}
use Rattle.doc_marks.specs.Deletions.{PairsRead, no_pairs, pairs_plan}
use Rattle.doc_marks.proofs.pairs.pass_pairs.Given as goal

-- reading from the start is reading on from here, after these pairs
abbrev pub invariant-loop-passed : goal.invariant-loop-passed
invariant-loop-passed l =
    (s : PairsRead) × (more : ℕ) × (read_plan (pairs_plan l.segment.size l.segment.count l.segment.count no_pairs) l.fn.cur ≡ read_plan (pairs_plan l.segment.size l.segment.count more s) l.cur)
    × (s.index ≡ l.passed.index) × (length s.documents ≡ l.passed.documents) × (l.segment.count ≤ l.passed.documents + more) × (l.passed.index ≤ l.segment.size / 8) × (l.passed.documents ≤ l.segment.count)

abbrev pub decreases-loop-passed : goal.decreases-loop-passed
decreases-loop-passed l = l.segment.count - l.passed.documents
