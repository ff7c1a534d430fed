use Rattle.std.proofs.Common.{◌≡◌, take, ◌≤◌, None}
use Rattle.std.specs.Option.{ForSome}
use Rattle.lu_dir.specs.Loading.{first_over, texts}
use Rattle.lu_dir.specs.InnerLoading.{AreLoaded, AreOnly, HaveAtMost}
use Rattle.lu_dir.proofs.loading.load.Given as goal

abbrev pub invariant-loop-place : goal.invariant-loop-place
invariant-loop-place g l = record {
  loaded : ForSome (g.D.Dir.files l.initial.dir) (λ told. AreLoaded told (texts (take l.place l.names)) l.files);
  only : AreOnly (texts (take l.place l.names)) l.files;
  within : HaveAtMost l.limit l.files;
  fits : ForSome (g.D.Dir.files l.initial.dir) (λ told. first_over told l.limit (texts (take l.place l.names)) ≡ None);
  files : g.D.Dir.files l.dir ≡ g.D.Dir.files l.initial.dir;
  asked : g.D.Dir.asked l.dir ≡ g.D.Dir.asked l.initial.dir;
  later : g.D.Dir.faults l.initial.dir ≤ g.D.Dir.faults l.dir;
}
