use Rattle.std.proofs.Common.{sym, subst}
use Rattle.posting_files.specs.States.{IsEntryBegun}
use Rattle.seg_writer.specs.Columns.{tokens_in_field}
use Rattle.seg_writer.specs.Entries.{listed_occurrences, tokens_at}
use Rattle.seg_writer.proofs.uses.add_kept.Goals as goal

pub returns-in-Ok-clause-begun : goal.returns-in-Ok-clause-begun
returns-in-Ok-clause-begun c i limit ts omit payloads es b =
    subst (λ o. IsEntryBegun i limit ts omit payloads es (listed_occurrences o (tokens_at (tokens_in_field c.args.place.now) c.args.run.now)) c.add_occurrences.new.writer) (sym c.if-omit_tf.false) (c.in-Ok.ensures.begun i limit ts omit payloads es b)
