use Rattle.std.proofs.Common.{ap, ◌∙◌, subst, [], Ok, Err}
use Rattle.std.specs.List.{flat_map}
use Rattle.segment_files.specs.Parts.{intervals_of}
use Rattle.posting_files.specs.States.{canonical_postings, given_files}
use Rattle.seg_writer.specs.Answers.{Wrote}
use Rattle.seg_writer.specs.Terms.{kept_column_terms}
use Rattle.seg_writer.proofs.TermFileLemmas.{between-none, files-past, files-told, none-written, terms-past}
use Rattle.seg_writer.proofs.all_terms.write_terms.Goals as goal

pub write_columns-requires-clause-between : goal.write_columns-requires-clause-between
write_columns-requires-clause-between c = between-none (intervals_of c.args.options.now) c.args.options.now.limits.file_bytes c.in_ok-writer.writer c.in_ok-writer.ensures

pub returns-in-Err : goal.returns-in-Err
returns-in-Err c docs of =
    let i = intervals_of c.args.options.now in
    let limit = c.args.options.now.limits.file_bytes in
    let columns = c.as_slice.result.now in
    let written = c.in-Err.ensures.terms i limit [] (none-written i limit c.in_ok-writer.writer c.in_ok-writer.ensures) in
    subst (λ ts. Wrote given_files limit (canonical_postings i ts) (Err c.in-Err.fault)) (ap (flat_map kept_column_terms) c.as_slice.ensures.value ∙ c.in_ok-kept.ensures.terms docs of)
    (terms-past i limit (flat_map kept_column_terms columns) c.write_columns.new.writer c.in-Err.fault written)

pub returns-in-Ok-finish : goal.returns-in-Ok-finish
returns-in-Ok-finish c docs of =
    let i = intervals_of c.args.options.now in
    let limit = c.args.options.now.limits.file_bytes in
    let columns = c.as_slice.result.now in
    let written = c.in-Ok.ensures.terms i limit [] (none-written i limit c.in_ok-writer.writer c.in_ok-writer.ensures) in
    subst (λ ts. Wrote given_files limit (canonical_postings i ts) (Ok c.in-Ok-finish.files)) (ap (flat_map kept_column_terms) c.as_slice.ensures.value ∙ c.in_ok-kept.ensures.terms docs of)
    (files-told i limit (flat_map kept_column_terms columns) c.write_columns.new.writer c.in-Ok-finish.files written c.in-Ok-finish.ensures)

pub returns : goal.returns
returns c docs of =
    let i = intervals_of c.args.options.now in
    let limit = c.args.options.now.limits.file_bytes in
    let columns = c.as_slice.result.now in
    let written = c.in-Ok.ensures.terms i limit [] (none-written i limit c.in_ok-writer.writer c.in_ok-writer.ensures) in
    subst (λ ts. Wrote given_files limit (canonical_postings i ts) (Err c.fault_of.result)) (ap (flat_map kept_column_terms) c.as_slice.ensures.value ∙ c.in_ok-kept.ensures.terms docs of)
    (files-past i limit (flat_map kept_column_terms columns) c.write_columns.new.writer c.in-Err-finish.fault c.fault_of.result c.fault_of.ensures written c.in-Err-finish.ensures)
