use Rattle.std.proofs.Common.{Err, ap, inl}
use Rattle.std.specs.Option.{option_copied}
use Rattle.lu_dir.specs.Faults.{Rose}
use Rattle.lu_listing.specs.Lines.{field_lines}
use Rattle.lu_reads.specs.declared.stopping.Stop.{Stop}
use Rattle.lu_reads.specs.Needs.{fields_kinds, table_files}
use Rattle.lu_reads.specs.FilesDue.{IsFaultIn, IsTooLong, FieldsSay, FilesDue}
use Rattle.lu_outcomes.proofs.AnswerLemmas.{Answers-printed}
use Rattle.lu_outcomes.proofs.CauseLemmas.{IsCaused-when, IsCaused-never}
use Rattle.lu_reads.proofs.PrintedLemmas.{due-lines, due-fault, table-found}
use Rattle.lu_reads.proofs.StopLemmas.{stop-wider, Answers-stopped}
use Rattle.lu_reads.proofs.reading.fields.Goals as goal

pub returns-in-Err-clause-answers : goal.returns-in-Err-clause-answers
returns-in-Err-clause-answers g c =
    let files = g.D.Dir.files c.args.dir.now in
    let IsDue = FilesDue c.args.segment.now fields_kinds (FieldsSay c.args.segment.now) files in
    let says = stop-wider (IsTooLong c.args.segment.now fields_kinds files) IsDue (λ outcome long. inl long) c.in-Err.stop c.in-Err.ensures.said in
    Answers-stopped IsDue c.in-Err.stop files (g.D.Dir.files c.fields_file.new.dir) (g.D.Dir.files c.stopped.new.dir) (g.D.Dir.faults c.args.dir.now) (g.D.Dir.faults c.fields_file.new.dir) (g.D.Dir.faults c.stopped.new.dir)
    (g.K.Sink.taken c.args.out.now) (g.K.Sink.taken c.stopped.new.out) c.stopped.result says c.in-Err.ensures.files c.in-Err.ensures.cause.later c.stopped.ensures.answers

pub returns-in-Err-clause-folder : goal.returns-in-Err-clause-folder
returns-in-Err-clause-folder g c =
    c.stopped.ensures.folder (g.D.Dir.faults c.args.dir.now)
    (IsCaused-when (g.D.Dir.faults c.args.dir.now) (g.D.Dir.faults c.fields_file.new.dir) c.in-Err.ensures.cause (λ is. ap (λ (stop : Stop). Err stop) is))

pub returns-in-Ok-opened_table-clause-answers : goal.returns-in-Ok-opened_table-clause-answers
returns-in-Ok-opened_table-clause-answers g c =
    let segment = c.args.segment.now in
    let files = g.D.Dir.files c.args.dir.now in
    let found = c.in-Ok.loaded.found in
    let table = c.in-Ok-opened_table.table in
    let fnm = option_copied c.at.result in
    let plan = table_files fnm in
    let says = table-found segment found fnm c.at.ensures in
    let due = due-lines segment fields_kinds plan (field_lines 0) files found c.in-Ok.ensures.found (FieldsSay segment) says table c.in-Ok-opened_table.ensures.stands in
    Answers-printed (FilesDue segment fields_kinds (FieldsSay segment) files) (Rose (g.D.Dir.faults c.args.dir.now) (g.D.Dir.faults c.fields_file.new.dir)) (field_lines 0 table)
    files (g.D.Dir.files c.fields_file.new.dir) (g.K.Sink.taken c.args.out.now) (g.K.Sink.taken c.print_table.new.out) c.print_table.result due c.in-Ok.ensures.files c.print_table.ensures.tells

pub returns-clause-answers : goal.returns-clause-answers
returns-clause-answers g c =
    let segment = c.args.segment.now in
    let files = g.D.Dir.files c.args.dir.now in
    let found = c.in-Ok.loaded.found in
    let stop = c.in-Err-opened_table.stop in
    let last = c.stopped-in-Err-opened_table in
    let IsDue = FilesDue segment fields_kinds (FieldsSay segment) files in
    let fnm = option_copied c.at.result in
    let plan = table_files fnm in
    let says = table-found segment found fnm c.at.ensures in
    let said = stop-wider (IsFaultIn segment plan) IsDue (due-fault segment fields_kinds plan (field_lines 0) files found c.in-Ok.ensures.found (FieldsSay segment) says) stop c.in-Err-opened_table.ensures.said in
    Answers-stopped IsDue stop files (g.D.Dir.files c.fields_file.new.dir) (g.D.Dir.files last.new.dir) (g.D.Dir.faults c.args.dir.now) (g.D.Dir.faults c.fields_file.new.dir) (g.D.Dir.faults last.new.dir)
    (g.K.Sink.taken c.args.out.now) (g.K.Sink.taken last.new.out) last.result said c.in-Ok.ensures.files c.in-Ok.ensures.cause.later last.ensures.answers

pub returns-clause-folder : goal.returns-clause-folder
returns-clause-folder g c =
    c.stopped-in-Err-opened_table.ensures.folder (g.D.Dir.faults c.args.dir.now)
    (IsCaused-never (g.D.Dir.faults c.args.dir.now) (g.D.Dir.faults c.fields_file.new.dir) c.in-Ok.ensures.cause (λ is. c.in-Err-opened_table.ensures.failed (ap (λ (stop : Stop). Err stop) is)))
