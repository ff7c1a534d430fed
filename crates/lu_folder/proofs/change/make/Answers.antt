use Rattle.std.proofs.Common.{◌∙◌, ◌≤◌, ℕ, List, length, ap, sym, subst, inl}
use Rattle.segment_infos.specs.Spelling.{commit_bytes}
use Rattle.lu_dir.specs.Loading.{texts}
use Rattle.lu_folder.specs.declared.new_file.NewFile.{NewFile}
use Rattle.lu_folder.specs.Writing.{with_new_files}
use Rattle.lu_folder.specs.Sealing.{SealLeaves}
use Rattle.lu_folder.specs.Sweeping.{without_files, RemovesOnly}
use Rattle.lu_folder.specs.Changes.{written, sealed, committed, IsUnmade, IsMade, IsStopped}
use Rattle.lu_dir.proofs.Told.{Leaves-wider, Leaves-after, Leaves-changed, changed-changed}
use Rattle.lu_folder.proofs.SweepingLemmas.{RemovesOnly-none}
use Rattle.lu_folder.proofs.KeepsLemmas.{length-commit_bytes, pending-there, sealed-all, SealLeaves-stopped}
use Rattle.lu_folder.proofs.change.make.Goals as goal

pub returns-in-Err-clause-stopped : goal.returns-in-Err-clause-stopped
returns-in-Err-clause-stopped g c = Leaves-wider (IsUnmade c.args.change.now) (IsStopped c.args.change.now) (g.D.Dir.files c.args.dir.now) (g.D.Dir.files c.write_all.new.dir) (λ old new left. inl left) c.in-Err.ensures.left

pub seal-requires-clause-pending : goal.seal-requires-clause-pending
seal-requires-clause-pending g c =
    pending-there c.args.change.now c.as_str.result.now c.bytes.result.now (g.D.Dir.files c.args.dir.now) (g.D.Dir.files c.write_all.new.dir)
    (c.as_str.ensures.same ∙ ap (λ (file : NewFile). file.name) c.pending.ensures) c.bytes.ensures c.in-Ok.ensures.written

pub returns-in-Ok-Some-clause-behind : goal.returns-in-Ok-Some-clause-behind
returns-in-Ok-Some-clause-behind g c =
    Leaves-changed (sealed c.args.change.now) (IsMade c.args.change.now) (g.D.Dir.files c.args.dir.now) (g.D.Dir.files c.seal.new.dir)
    (sealed-all c.args.change.now c.as_str.result.now c.bytes.result.now (g.D.Dir.files c.args.dir.now) (g.D.Dir.files c.write_all.new.dir) (g.D.Dir.files c.seal.new.dir)
    (c.as_str.ensures.same ∙ ap (λ (file : NewFile). file.name) c.pending.ensures) c.bytes.ensures c.in-Ok.ensures.written c.in-Ok-Some.ensures.sealed)
    (λ files. RemovesOnly-none c.args.change.now.removable (sealed c.args.change.now files))

pub returns-in-Err-seal-clause-stopped : goal.returns-in-Err-seal-clause-stopped
returns-in-Err-seal-clause-stopped g c =
    Leaves-after (with_new_files (written c.args.change.now)) (SealLeaves c.as_str.result.now c.bytes.result.now) (IsStopped c.args.change.now) (g.D.Dir.files c.args.dir.now) (g.D.Dir.files c.write_all.new.dir) (g.D.Dir.files c.seal.new.dir)
    c.in-Ok.ensures.written
    (λ old new left. SealLeaves-stopped c.args.change.now old new
    (subst (λ (name : List ℕ). SealLeaves name (commit_bytes c.args.change.now.commit) (with_new_files (written c.args.change.now) old) new) (c.as_str.ensures.same ∙ ap (λ (file : NewFile). file.name) c.pending.ensures)
    (subst (λ (bytes : List ℕ). SealLeaves c.as_str.result.now bytes (with_new_files (written c.args.change.now) old) new) c.bytes.ensures left)))
    c.in-Err-seal.ensures.left

pub returns-in-Ok-sweep-clause-made : goal.returns-in-Ok-sweep-clause-made
returns-in-Ok-sweep-clause-made g c ok =
    changed-changed (sealed c.args.change.now) (without_files (texts c.removable.result.now)) (committed c.args.change.now) (g.D.Dir.files c.args.dir.now) (g.D.Dir.files c.seal.new.dir) (g.D.Dir.files c.sweep.new.dir)
    (sealed-all c.args.change.now c.as_str.result.now c.bytes.result.now (g.D.Dir.files c.args.dir.now) (g.D.Dir.files c.write_all.new.dir) (g.D.Dir.files c.seal.new.dir)
    (c.as_str.ensures.same ∙ ap (λ (file : NewFile). file.name) c.pending.ensures) c.bytes.ensures c.in-Ok.ensures.written c.in-Ok-None.ensures.sealed)
    c.in-Ok-sweep.ensures.removed
    (λ files. ap (λ (names : List (List ℕ)). without_files names (sealed c.args.change.now files)) c.removable.ensures)

pub returns-in-Ok-sweep-clause-behind : goal.returns-in-Ok-sweep-clause-behind
returns-in-Ok-sweep-clause-behind g c =
    Leaves-after (sealed c.args.change.now) (RemovesOnly (texts c.removable.result.now)) (IsMade c.args.change.now) (g.D.Dir.files c.args.dir.now) (g.D.Dir.files c.seal.new.dir) (g.D.Dir.files c.sweep.new.dir)
    (sealed-all c.args.change.now c.as_str.result.now c.bytes.result.now (g.D.Dir.files c.args.dir.now) (g.D.Dir.files c.write_all.new.dir) (g.D.Dir.files c.seal.new.dir)
    (c.as_str.ensures.same ∙ ap (λ (file : NewFile). file.name) c.pending.ensures) c.bytes.ensures c.in-Ok.ensures.written c.in-Ok-None.ensures.sealed)
    (λ old new left. subst (λ (names : List (List ℕ)). RemovesOnly names (sealed c.args.change.now old) new) c.removable.ensures left)
    c.sweep.ensures.left

pub returns-in-Err-sweep-clause-behind : goal.returns-in-Err-sweep-clause-behind
returns-in-Err-sweep-clause-behind g c =
    Leaves-after (sealed c.args.change.now) (RemovesOnly (texts c.removable.result.now)) (IsMade c.args.change.now) (g.D.Dir.files c.args.dir.now) (g.D.Dir.files c.seal.new.dir) (g.D.Dir.files c.sweep.new.dir)
    (sealed-all c.args.change.now c.as_str.result.now c.bytes.result.now (g.D.Dir.files c.args.dir.now) (g.D.Dir.files c.write_all.new.dir) (g.D.Dir.files c.seal.new.dir)
    (c.as_str.ensures.same ∙ ap (λ (file : NewFile). file.name) c.pending.ensures) c.bytes.ensures c.in-Ok.ensures.written c.in-Ok-None.ensures.sealed)
    (λ old new left. subst (λ (names : List (List ℕ)). RemovesOnly names (sealed c.args.change.now old) new) c.removable.ensures left)
    c.sweep.ensures.left

pub seal-requires-clause-long : goal.seal-requires-clause-long
seal-requires-clause-long g c = subst (λ (bytes : List ℕ). 8 ≤ length bytes) (sym c.bytes.ensures) (length-commit_bytes c.args.change.now.commit)
