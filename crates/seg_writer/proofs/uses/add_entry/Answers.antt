use Rattle.std.proofs.Common.{◌≡◌, ◌-◌, ◌<◌, ◌^◌, length, ap, sym, ◌∙◌, subst}
use Rattle.posting_files.specs.States.{PostingState, entry_begun, entry_put}
use Rattle.seg_writer.specs.Columns.{tokens_in_field}
use Rattle.seg_writer.specs.Entries.{MayFollow, entry_with, tokens_at}
use Rattle.seg_writer.proofs.OccurrenceLemmas.{begin-fault, entry-done, may-still}
use Rattle.seg_writer.proofs.PartlyLemmas.{no_use}
use Rattle.seg_writer.proofs.uses.add_entry.Goals as goal

pub returns-in-Err : goal.returns-in-Err
returns-in-Err c = begin-fault (λ n. (n ≡ length c.args.writer.now.prox.bytes - c.args.writer.now.prox.start) × (c.begin_entry.new.self ≡ entry_begun c.args.writer.now)) c.in-Err.fault c.fault_of.result
    (entry_with c.args.omit_tf c.args.here.now.doc (tokens_at (tokens_in_field c.args.here.now) c.args.run.now)) c.args.writer.now c.begin_entry.new.self c.fault_of.ensures c.in-Err.ensures

pub end_entry-requires-clause-order : goal.end_entry-requires-clause-order
end_entry-requires-clause-order c =
    let doc = c.requires.docs 0 no_use c.requires.some in
    subst (λ n. MayFollow n c.add_kept.new.writer) (sym doc)
    (may-still c.args.here.now.doc c.args.writer.now c.add_kept.new.writer (c.in-Ok-add_kept.ensures.lists ∙ ap (λ (s : PostingState). s.lists) c.in-Ok.ensures.1) c.requires.follows)

pub end_entry-requires-clause-doc_small : goal.end_entry-requires-clause-doc_small
end_entry-requires-clause-doc_small c =
    let doc = c.requires.docs 0 no_use c.requires.some in
    subst (λ n. n < 2 ^ 31) (sym doc) c.requires.small

pub returns-in-Ok-end_entry : goal.returns-in-Ok-end_entry
returns-in-Ok-end_entry c =
    let doc = c.requires.docs 0 no_use c.requires.some in
    let ends = c.in-Ok-end_entry.ensures.ok ∙ ap (λ n. entry_put c.add_kept.new.writer (record { doc = n; freq = c.in-Ok-add_kept.freq; prox = c.in-Ok.before })) doc in
    entry-done c.args.omit_tf c.args.here.now.doc (tokens_at (tokens_in_field c.args.here.now) c.args.run.now) c.in-Ok.before c.in-Ok-add_kept.freq c.args.writer.now c.begin_entry.new.self c.add_kept.new.writer c.end_entry.new.self c.in-Ok.ensures c.in-Ok-add_kept.ensures.frequency c.in-Ok-add_kept.ensures.begun ends
