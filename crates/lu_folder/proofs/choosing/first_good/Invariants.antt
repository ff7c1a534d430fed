use Rattle.std.proofs.Common.{◌≡◌, ◌≤◌}
use Rattle.std.specs.Option.{ForSome}
use Rattle.lu_folder.specs.Looking.{ArePassed, IsFirst, IsSeen}
use Rattle.lu_folder.proofs.choosing.first_good.Given as goal

abbrev pub invariant-loop-generation : goal.invariant-loop-generation
invariant-loop-generation g l = record {
  passed : ForSome (g.D.Dir.files l.initial.dir) (λ told. ArePassed told l.generations l.generation-index);
  first : ForSome (g.D.Dir.files l.initial.dir) (λ told. IsFirst told l.generations l.generation-index l.first);
  seen : IsSeen l.generation-index l.first;
  files : g.D.Dir.files l.dir ≡ g.D.Dir.files l.initial.dir;
  asked : g.D.Dir.asked l.dir ≡ g.D.Dir.asked l.initial.dir;
  later : g.D.Dir.faults l.initial.dir ≤ g.D.Dir.faults l.dir;
}
