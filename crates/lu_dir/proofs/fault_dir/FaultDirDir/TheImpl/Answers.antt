use Rattle.std.proofs.Common.{◌≡◌, IsErrOf, rules, refl}
use Rattle.lu_dir.specs.Files.{CreateLeaves, PatchLeaves, RemoveLeaves, before}
use Rattle.lu_dir.specs.Planned.{next_failure}
use Rattle.lu_dir.specs.declared.fail.DirFail.TheVariants.{OutOfMemory}
use Rattle.lu_dir.proofs.Leavings.{left-told, CreateLeaves-planned, PatchLeaves-planned, PatchLeaves-same, RemoveLeaves-planned}
use Rattle.lu_dir.proofs.fault_dir.FaultDirDir.TheImpl.Goals as goal

pub create-tells : goal.create-tells
create-tells c =
    let old = c.args.self.now.folder.files in
    let new = c.new.self.now.folder.files in
    record {
      made = search rules;
      left = left-told (CreateLeaves c.args.name.now c.args.bytes.now) c.result old new
          (λ failed. CreateLeaves-planned (next_failure c.args.self.now) c.args.name.now c.args.bytes.now old new (c.ensures.planned.failed failed) c.ensures.left)
          c.ensures.memory (before refl);
      memory = search rules;
      asked = search rules;
      cause = search rules;
    }

pub remove-tells : goal.remove-tells
remove-tells c =
    let old = c.args.self.now.folder.files in
    let new = c.new.self.now.folder.files in
    let memory : IsErrOf c.result OutOfMemory → new ≡ old = search rules in
    record {
      removed = search rules;
      left = left-told (RemoveLeaves c.args.name.now) c.result old new
          (λ failed. RemoveLeaves-planned (next_failure c.args.self.now) c.args.name.now old new (c.ensures.planned.failed failed) c.ensures.left)
          memory (before refl);
      memory = search rules;
      asked = search rules;
      cause = search rules;
    }

pub patch-tells : goal.patch-tells
patch-tells c =
    let old = c.args.self.now.folder.files in
    let new = c.new.self.now.folder.files in
    let memory : IsErrOf c.result OutOfMemory → new ≡ old = search rules in
    record {
      written = search rules;
      left = left-told (PatchLeaves c.args.name.now c.args.at c.args.bytes.now) c.result old new
          (λ failed. PatchLeaves-planned (next_failure c.args.self.now) c.args.name.now c.args.at c.args.bytes.now old new (c.requires old refl) (c.ensures.planned.failed failed) c.ensures.left)
          memory (PatchLeaves-same c.args.name.now c.args.at c.args.bytes.now old (c.requires old refl));
      memory = search rules;
      asked = search rules;
      cause = search rules;
    }
