use Rattle.std.proofs.Common.{◌≡◌, ◌-◌, ◌∷◌, length}
use Rattle.lu_model.specs.Contents.{kept}
use Rattle.posting_files.specs.States.{entry_begun}
use Rattle.seg_merger.proofs.PutLemmas.{entry-done, entry-not-begun}
use Rattle.seg_merger.proofs.terms.entries.add_entry.Goals as goal

pub returns-in-Err-clause-adds : goal.returns-in-Err-clause-adds
returns-in-Err-clause-adds c e h at all left k =
    entry-not-begun (λ n. (n ≡ length c.args.writer.now.prox.bytes - c.args.writer.now.prox.start) × (c.begin_entry.new.self ≡ entry_begun c.args.writer.now)) c.in-Err.fault c.fault_of.result c.args.writer.now c.fault_of.ensures c.in-Err.ensures
    at all (record { document = c.args.doc; occurrences = kept c.args.bits e.occurrences } ∷ left) k

pub returns-in-Ok-end_entry-clause-adds : goal.returns-in-Ok-end_entry-clause-adds
returns-in-Ok-end_entry-clause-adds c e h at all left k =
    entry-done (record { document = c.args.doc; occurrences = kept c.args.bits e.occurrences }) c.in-Ok.before c.in-Ok-add_kept.freq c.args.writer.now c.begin_entry.new.self c.add_kept.new.writer c.end_entry.new.self
    c.in-Ok.ensures (c.in-Ok-add_kept.ensures.frequency e h) (c.in-Ok-add_kept.ensures.begun e h) c.in-Ok-end_entry.ensures.ok at all left k
