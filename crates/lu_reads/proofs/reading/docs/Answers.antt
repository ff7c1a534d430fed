use Rattle.std.proofs.Common.{Err, ap, inl}
use Rattle.std.specs.Option.{option_copied}
use Rattle.lu_dir.specs.Faults.{Rose}
use Rattle.lu_listing.specs.Lines.{doc_lines}
use Rattle.lu_reads.specs.declared.stopping.Stop.{Stop}
use Rattle.lu_reads.specs.Needs.{docs_kinds, document_files}
use Rattle.lu_reads.specs.FilesDue.{IsFaultIn, IsTooLong, DocsSay, FilesDue}
use Rattle.lu_outcomes.proofs.AnswerLemmas.{Answers-printed}
use Rattle.lu_outcomes.proofs.CauseLemmas.{IsCaused-when, IsCaused-never}
use Rattle.lu_reads.proofs.PrintedLemmas.{due-lines, due-fault, documents-found, found-short}
use Rattle.lu_reads.proofs.StopLemmas.{stop-wider, Answers-stopped}
use Rattle.lu_reads.proofs.reading.docs.Goals as goal

pub returns-in-Err-clause-answers : goal.returns-in-Err-clause-answers
returns-in-Err-clause-answers g c =
    let files = g.D.Dir.files c.args.dir.now in
    let IsDue = FilesDue c.args.segment.now docs_kinds (DocsSay c.args.segment.now) files in
    let says = stop-wider (IsTooLong c.args.segment.now docs_kinds files) IsDue (λ outcome long. inl long) c.in-Err.stop c.in-Err.ensures.said in
    Answers-stopped IsDue c.in-Err.stop files (g.D.Dir.files c.docs_files.new.dir) (g.D.Dir.files c.stopped.new.dir) (g.D.Dir.faults c.args.dir.now) (g.D.Dir.faults c.docs_files.new.dir) (g.D.Dir.faults c.stopped.new.dir)
    (g.K.Sink.taken c.args.out.now) (g.K.Sink.taken c.stopped.new.out) c.stopped.result says c.in-Err.ensures.files c.in-Err.ensures.cause.later c.stopped.ensures.answers

pub returns-in-Err-clause-folder : goal.returns-in-Err-clause-folder
returns-in-Err-clause-folder g c =
    c.stopped.ensures.folder (g.D.Dir.faults c.args.dir.now)
    (IsCaused-when (g.D.Dir.faults c.args.dir.now) (g.D.Dir.faults c.docs_files.new.dir) c.in-Err.ensures.cause (λ is. ap (λ (stop : Stop). Err stop) is))

pub returns-in-Ok-opened_documents-clause-answers : goal.returns-in-Ok-opened_documents-clause-answers
returns-in-Ok-opened_documents-clause-answers g c =
    let segment = c.args.segment.now in
    let files = g.D.Dir.files c.args.dir.now in
    let found = c.in-Ok.loaded.found in
    let view = c.in-Ok-opened_documents.view in
    let fnm = option_copied c.at-fnm.result in
    let fdx = option_copied c.at-fdx.result in
    let fdt = option_copied c.at-fdt.result in
    let plan = document_files fnm fdx fdt in
    let says = documents-found segment found fnm fdx fdt c.at-fnm.ensures c.at-fdx.ensures c.at-fdt.ensures in
    let due = due-lines segment docs_kinds plan (doc_lines 0) files found c.in-Ok.ensures.found (DocsSay segment) says view c.in-Ok-opened_documents.ensures.stands in
    Answers-printed (FilesDue segment docs_kinds (DocsSay segment) files) (Rose (g.D.Dir.faults c.args.dir.now) (g.D.Dir.faults c.docs_files.new.dir)) (doc_lines 0 view)
    files (g.D.Dir.files c.docs_files.new.dir) (g.K.Sink.taken c.args.out.now) (g.K.Sink.taken c.print_documents.new.out) c.print_documents.result due c.in-Ok.ensures.files c.print_documents.ensures.tells

pub returns-clause-answers : goal.returns-clause-answers
returns-clause-answers g c =
    let segment = c.args.segment.now in
    let files = g.D.Dir.files c.args.dir.now in
    let found = c.in-Ok.loaded.found in
    let stop = c.in-Err-opened_documents.stop in
    let last = c.stopped-in-Err-opened_documents in
    let IsDue = FilesDue segment docs_kinds (DocsSay segment) files in
    let fnm = option_copied c.at-fnm.result in
    let fdx = option_copied c.at-fdx.result in
    let fdt = option_copied c.at-fdt.result in
    let plan = document_files fnm fdx fdt in
    let says = documents-found segment found fnm fdx fdt c.at-fnm.ensures c.at-fdx.ensures c.at-fdt.ensures in
    let said = stop-wider (IsFaultIn segment plan) IsDue (due-fault segment docs_kinds plan (doc_lines 0) files found c.in-Ok.ensures.found (DocsSay segment) says) stop c.in-Err-opened_documents.ensures.said in
    Answers-stopped IsDue stop files (g.D.Dir.files c.docs_files.new.dir) (g.D.Dir.files last.new.dir) (g.D.Dir.faults c.args.dir.now) (g.D.Dir.faults c.docs_files.new.dir) (g.D.Dir.faults last.new.dir)
    (g.K.Sink.taken c.args.out.now) (g.K.Sink.taken last.new.out) last.result said c.in-Ok.ensures.files c.in-Ok.ensures.cause.later last.ensures.answers

pub returns-clause-folder : goal.returns-clause-folder
returns-clause-folder g c =
    c.stopped-in-Err-opened_documents.ensures.folder (g.D.Dir.faults c.args.dir.now)
    (IsCaused-never (g.D.Dir.faults c.args.dir.now) (g.D.Dir.faults c.docs_files.new.dir) c.in-Ok.ensures.cause (λ is. c.in-Err-opened_documents.ensures.failed (ap (λ (stop : Stop). Err stop) is)))

pub opened_documents-requires : goal.opened_documents-requires
opened_documents-requires g c = found-short c.in-Ok.loaded.found 1 (option_copied c.at-fdx.result) c.at-fdx.ensures c.in-Ok.ensures.found.each
