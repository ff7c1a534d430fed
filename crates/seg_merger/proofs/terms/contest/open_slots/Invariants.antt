use Rattle.std.proofs.Common.{◌≡◌, ◌+◌, ◌++◌, drop, take}
use Rattle.std.specs.List.{AllByRecursion}
use Rattle.lu_model.specs.Valid.{IsValid}
use Rattle.seg_merger.specs.Merged.{indexes_of}
use Rattle.seg_merger.specs.TermRests.{whole_rests}
use Rattle.seg_merger.proofs.OpenLemmas.{left_live}
use Rattle.seg_merger.proofs.terms.contest.open_slots.Given as goal

abbrev pub invariant-loop-place : goal.invariant-loop-place
invariant-loop-place l = record {
  slots : l.slots.items ++ whole_rests l.base (drop l.place (indexes_of l.readers)) (drop l.place l.numbers) ≡ whole_rests 0 (indexes_of l.readers) l.numbers;
  valid : AllByRecursion IsValid (take l.place (indexes_of l.readers));
  room : l.base + left_live (drop l.place (indexes_of l.readers)) ≡ left_live (indexes_of l.readers);
}
