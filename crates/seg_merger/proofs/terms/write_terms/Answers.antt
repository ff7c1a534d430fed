use Rattle.std.proofs.Common.{◌≡◌, ◌<◌, ◌^◌, List, length, Ok, Err, sym, ap, ◌∙◌, subst, arith}
use Rattle.segment_files.specs.Parts.{intervals_of}
use Rattle.segment_files.specs.Postings.{kept_terms}
use Rattle.posting_files.specs.States.{canonical_postings, given_files}
use Rattle.seg_writer.specs.Answers.{Wrote}
use Rattle.seg_writer.proofs.TermFileLemmas.{between-none, files-past, files-told, none-written, terms-past}
use Rattle.lu_model.specs.Contents.{merge_of}
use Rattle.lu_model.proofs.BySource.{size-merge}
use Rattle.posting_files.proofs.PostingLemmas.{begin-may}
use Rattle.seg_merger.specs.Merged.{indexes_of}
use Rattle.seg_merger.specs.TermRests.{CanMerge, Rest, terms_of_all}
use Rattle.seg_merger.proofs.OpenLemmas.{numbers-in, numbers-many, whole-length}
use Rattle.seg_merger.proofs.WholeLemmas.{live-few, whole-can, whole-terms}
use Rattle.seg_merger.proofs.terms.write_terms.Goals as goal

pub open_slots-requires-clause-few : goal.open_slots-requires-clause-few
open_slots-requires-clause-few g c = let same = live-few (indexes_of c.args.readers.now) in let few = c.requires.few_documents in omega (arith, same, few)

pub open_slots-requires-clause-numbers : goal.open_slots-requires-clause-numbers
open_slots-requires-clause-numbers g c = numbers-many c.args.fields.now c.args.readers.now c.args.numbers.now c.requires.numbers

pub merge_slots-requires-clause-can : goal.merge_slots-requires-clause-can
merge_slots-requires-clause-can g c =
    let table = c.args.fields.now in
    let indexes = indexes_of c.args.readers.now in
    let i = intervals_of c.args.options.now in
    let limit = c.args.options.now.limits.file_bytes in
    let numbers = numbers-in table c.args.readers.now c.args.numbers.now c.requires.numbers in
    let slots = c.in_ok-slots.slots.items in
    let sizes = live-few indexes in
    let lives = size-merge indexes in
    let few = c.requires.few_documents in
    subst (CanMerge table) (sym c.in_ok-slots.ensures.slots) (whole-can table indexes c.in_ok-slots.ensures.valid c.requires.fields c.args.numbers.now numbers c.requires.few_fields (omega (arith, sizes, lives, few)))

pub merge_slots-requires-clause-few : goal.merge_slots-requires-clause-few
merge_slots-requires-clause-few g c =
    let many = whole-length c.args.fields.now 0 c.args.readers.now c.args.numbers.now c.requires.numbers in
    let few = c.requires.few in
    subst (λ (rs : List Rest). length rs < 2 ^ 32) (sym c.in_ok-slots.ensures.slots) (omega (arith, many, few))

pub merge_slots-requires-clause-between : goal.merge_slots-requires-clause-between
merge_slots-requires-clause-between g c = between-none (intervals_of c.args.options.now) c.args.options.now.limits.file_bytes c.in_ok-writer.writer c.in_ok-writer.ensures

pub returns-in-Err : goal.returns-in-Err
returns-in-Err g c =
    let table = c.args.fields.now in
    let indexes = indexes_of c.args.readers.now in
    let i = intervals_of c.args.options.now in
    let limit = c.args.options.now.limits.file_bytes in
    let numbers = numbers-in table c.args.readers.now c.args.numbers.now c.requires.numbers in
    let slots = c.in_ok-slots.slots.items in
    let same : kept_terms table (terms_of_all table slots) ≡ kept_terms table (merge_of indexes).terms =
    ap (λ rs. kept_terms table (terms_of_all table rs)) c.in_ok-slots.ensures.slots ∙ ap (kept_terms table) (whole-terms table indexes c.args.numbers.now c.in_ok-slots.ensures.valid c.requires.fields numbers) in
    let fresh = none-written i limit c.in_ok-writer.writer c.in_ok-writer.ensures in
    let all = kept_terms table (terms_of_all table slots) in
    subst (λ ts. Wrote given_files limit (canonical_postings i ts) (Err c.in-Err.fault)) same (terms-past i limit all c.merge_slots.new.writer c.in-Err.fault (c.in-Err.ensures i limit fresh))

pub finish-requires : goal.finish-requires
finish-requires g c =
    let i = intervals_of c.args.options.now in
    let limit = c.args.options.now.limits.file_bytes in
    let table = c.args.fields.now in
    begin-may i limit (kept_terms table (terms_of_all table c.in_ok-slots.slots.items)) c.merge_slots.new.writer (c.in-Ok.ensures i limit (none-written i limit c.in_ok-writer.writer c.in_ok-writer.ensures))

pub returns-in-Ok-finish : goal.returns-in-Ok-finish
returns-in-Ok-finish g c =
    let table = c.args.fields.now in
    let indexes = indexes_of c.args.readers.now in
    let i = intervals_of c.args.options.now in
    let limit = c.args.options.now.limits.file_bytes in
    let numbers = numbers-in table c.args.readers.now c.args.numbers.now c.requires.numbers in
    let slots = c.in_ok-slots.slots.items in
    let same : kept_terms table (terms_of_all table slots) ≡ kept_terms table (merge_of indexes).terms =
    ap (λ rs. kept_terms table (terms_of_all table rs)) c.in_ok-slots.ensures.slots ∙ ap (kept_terms table) (whole-terms table indexes c.args.numbers.now c.in_ok-slots.ensures.valid c.requires.fields numbers) in
    let fresh = none-written i limit c.in_ok-writer.writer c.in_ok-writer.ensures in
    let all = kept_terms table (terms_of_all table slots) in
    subst (λ ts. Wrote given_files limit (canonical_postings i ts) (Ok c.in-Ok-finish.files)) same (files-told i limit all c.merge_slots.new.writer c.in-Ok-finish.files (c.in-Ok.ensures i limit fresh) c.in-Ok-finish.ensures)

pub returns-in-Err-finish : goal.returns-in-Err-finish
returns-in-Err-finish g c =
    let table = c.args.fields.now in
    let indexes = indexes_of c.args.readers.now in
    let i = intervals_of c.args.options.now in
    let limit = c.args.options.now.limits.file_bytes in
    let numbers = numbers-in table c.args.readers.now c.args.numbers.now c.requires.numbers in
    let slots = c.in_ok-slots.slots.items in
    let same : kept_terms table (terms_of_all table slots) ≡ kept_terms table (merge_of indexes).terms =
    ap (λ rs. kept_terms table (terms_of_all table rs)) c.in_ok-slots.ensures.slots ∙ ap (kept_terms table) (whole-terms table indexes c.args.numbers.now c.in_ok-slots.ensures.valid c.requires.fields numbers) in
    let fresh = none-written i limit c.in_ok-writer.writer c.in_ok-writer.ensures in
    let all = kept_terms table (terms_of_all table slots) in
    subst (λ ts. Wrote given_files limit (canonical_postings i ts) (Err c.fault_of.result)) same (files-past i limit all c.merge_slots.new.writer c.in-Err-finish.fault c.fault_of.result c.fault_of.ensures (c.in-Ok.ensures i limit fresh) c.in-Err-finish.ensures)
