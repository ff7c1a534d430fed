use Rattle.std.proofs.Common.{◌-◌, length}
use Rattle.term_index.specs.Seeking.{searched}
use Rattle.term_index.proofs.SearchLemmas.{IsSearching}
use Rattle.term_index.proofs.search.find_from.Given as goal

abbrev pub invariant-loop-info : goal.invariant-loop-info
invariant-loop-info g l = IsSearching (searched l.fn.cursor.dictionary l.names) l.sought.field.now l.sought.text.now l.fn.steps l.fn.cursor.passed l.cursor l.steps

abbrev pub decreases-loop-info : goal.decreases-loop-info
decreases-loop-info g l = length l.fn.cursor.dictionary.terms - l.cursor.passed
