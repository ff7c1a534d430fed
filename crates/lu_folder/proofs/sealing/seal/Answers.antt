use Rattle.std.proofs.Common.{◌∙◌, arith}
use Rattle.lu_folder.proofs.SealingLemmas.{room, seal-failed, seal-written}
use Rattle.lu_folder.proofs.sealing.seal.Goals as goal

pub patch-requires : goal.patch-requires
patch-requires g c told is = room c.args.name.now c.args.bytes.now 8 (omega arith) c.requires.long told (c.requires.pending told is)

pub returns-in-Ok-sync-clause-sealed : goal.returns-in-Ok-sync-clause-sealed
returns-in-Ok-sync-clause-sealed g c =
    c.in-Ok-sync.ensures.files
    ∙ seal-written c.args.name.now c.args.bytes.now 8 (omega arith) c.requires.long (g.D.Dir.files c.args.dir.now) (g.D.Dir.files c.patch.new.self) c.requires.pending c.in-Ok.ensures.written

pub returns-in-Err-sync-clause-sealed : goal.returns-in-Err-sync-clause-sealed
returns-in-Err-sync-clause-sealed g c =
    c.in-Err-sync.ensures.files
    ∙ seal-written c.args.name.now c.args.bytes.now 8 (omega arith) c.requires.long (g.D.Dir.files c.args.dir.now) (g.D.Dir.files c.patch.new.self) c.requires.pending c.in-Ok.ensures.written

pub returns-in-Err-clause-left : goal.returns-in-Err-clause-left
returns-in-Err-clause-left g c =
    seal-failed c.args.name.now c.args.bytes.now 8 (omega arith) c.requires.long (g.D.Dir.files c.args.dir.now) (g.D.Dir.files c.patch.new.self) c.requires.pending c.in-Err.ensures.left
