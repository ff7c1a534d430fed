use Rattle.std.proofs.Common.{◌≡◌, ◌<◌, List, length, map, true, false}
use Rattle.std.specs.List.{AllByRecursion}
use Rattle.lu_model.specs.Index.{IndexedEntry}
use Rattle.seg_merger.specs.TermRests.{IsGood, IsLeast, count, entries_of_all, past}
use Rattle.seg_merger.specs.TermSteps.{IsGoing, IsInTerm, TermPlace}
use Rattle.seg_merger.proofs.terms.merging.merge_entries.Given as goal

abbrev pub invariant-loop-contest : goal.invariant-loop-contest
invariant-loop-contest g l = record {
  good : AllByRecursion IsGood l.contest.rests;
  least : IsLeast l.current l.contest.rests;
  going : IsGoing l.bits (entries_of_all l.bits l.contest.rests l.current) l.writer;
  adds : (at : TermPlace) (all : List IndexedEntry) → IsInTerm at all (entries_of_all l.bits l.initial.contest.rests l.current) l.initial.writer → IsInTerm at all (entries_of_all l.bits l.contest.rests l.current) l.writer;
  passed : map (past l.current) l.contest.rests ≡ map (past l.current) l.initial.contest.rests;
  none : l.some ≡ false → entries_of_all l.bits l.contest.rests l.current ≡ entries_of_all l.bits l.initial.contest.rests l.current;
  some : l.some ≡ true → 0 < length (entries_of_all l.bits l.initial.contest.rests l.current);
}

abbrev pub decreases-loop-contest : goal.decreases-loop-contest
decreases-loop-contest g l = count l.contest.rests
