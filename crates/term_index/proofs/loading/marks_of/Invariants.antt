use Rattle.term_index.specs.Points.{last_term_of}
use Rattle.term_index.specs.Seeking.{searched}
use Rattle.term_index.proofs.LoadLemmas.{IsLoading}
use Rattle.term_index.proofs.loading.marks_of.Given as goal

abbrev pub invariant-loop-number : goal.invariant-loop-number
invariant-loop-number l = IsLoading (searched l.terms l.names) l.initial.cur l.number l.cur (last_term_of l.last) l.last.place l.marks.items
