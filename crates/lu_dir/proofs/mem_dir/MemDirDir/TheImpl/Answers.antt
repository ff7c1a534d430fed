use Rattle.std.proofs.Common.{rules}
use Rattle.lu_dir.proofs.Leavings.{CreateLeaves-made_or_not}
use Rattle.lu_dir.proofs.mem_dir.MemDirDir.TheImpl.Goals as goal

pub create-tells : goal.create-tells
create-tells c = record {
  made = search rules;
  left = CreateLeaves-made_or_not c.result c.args.name.now c.args.bytes.now c.args.self.now.files c.new.self.now.files c.ensures.files;
  memory = search rules;
  asked = search rules;
  cause = search rules;
}
