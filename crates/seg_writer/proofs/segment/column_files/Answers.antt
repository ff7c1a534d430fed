use Rattle.std.proofs.Common.{refl, sym, subst, All}
use Rattle.std.specs.Global.{Global}
use Rattle.std.specs.declared.vec.Vec.{Vec}
use Rattle.segment_files.specs.Parts.{intervals_of}
use Rattle.seg_writer.specs.Appearing.{AreFieldColumns, AreFirst}
use Rattle.seg_writer.specs.Entries.{IsColumn}
use Rattle.seg_writer.specs.Orders.{AreColumnsOf}
use Rattle.seg_writer.specs.declared.appearance.Appearance.{Appearance}
use Rattle.seg_writer.proofs.SegmentDocumentLemmas.{columns-of-faultless, faultless-apart, faultless-columns}
use Rattle.seg_writer.proofs.SegmentLemmas.{columns-told, norms-fault, terms-fault}
use Rattle.seg_writer.proofs.TableLemmas.{table-first}
use Rattle.seg_writer.proofs.segment.column_files.Goals as goal

pub columns_of-requires-clause-first : goal.columns_of-requires-clause-first
columns_of-requires-clause-first c = subst AreFirst (sym c.requires.table) (table-first c.args.docs.now)

pub columns_of-requires-clause-apart : goal.columns_of-requires-clause-apart
columns_of-requires-clause-apart c = faultless-apart c.args.options.now.limits c.args.docs.now c.requires.faultless

pub write_terms-requires-clause-first : goal.write_terms-requires-clause-first
write_terms-requires-clause-first c = subst AreFirst (sym c.requires.table) (table-first c.args.docs.now)

pub write_terms-requires-clause-sound : goal.write_terms-requires-clause-sound
write_terms-requires-clause-sound c =
    subst (λ columns. All (λ (column : Vec Appearance Global). IsColumn column.items) columns) (sym c.as_slice.ensures.value)
    (faultless-columns c.args.options.now.limits c.args.table.now c.args.docs.now c.in_ok-columns.columns.items c.requires.few c.requires.faultless c.in_ok-columns.ensures)

pub returns-in-Err : goal.returns-in-Err
returns-in-Err c =
    let o = c.args.options.now in
    let docs = c.args.docs.now in
    let table = c.args.table.now in
    let columns = c.in_ok-columns.columns.items in
    let of = subst (AreColumnsOf table docs) (sym c.as_slice.ensures.value) (columns-of-faultless o.limits table docs columns c.requires.table c.requires.faultless c.in_ok-columns.ensures) in
    terms-fault (intervals_of o) o.limits.file_bytes docs table c.args.fields.now c.requires.table c.requires.fields c.in-Err.fault (c.in-Err.ensures docs of)

pub returns-in-Ok-write_norms : goal.returns-in-Ok-write_norms
returns-in-Ok-write_norms c =
    let o = c.args.options.now in
    let docs = c.args.docs.now in
    let table = c.args.table.now in
    let fields = c.args.fields.now in
    let columns = c.in_ok-columns.columns.items in
    let are = c.in_ok-columns.ensures in
    let of = subst (AreColumnsOf table docs) (sym c.as_slice.ensures.value) (columns-of-faultless o.limits table docs columns c.requires.table c.requires.faultless are) in
    let fields_are = subst (λ f. AreFieldColumns f docs c.as_slice-2.result.now) (sym c.requires.fields) (subst (AreFieldColumns table docs) (sym c.as_slice-2.ensures.value) are) in
    columns-told (intervals_of o) o.limits.file_bytes docs table fields c.requires.table c.requires.fields (record { postings = c.in-Ok.postings; nrm = c.in-Ok-write_norms.nrm }) (c.in-Ok.ensures docs of) (c.in-Ok-write_norms.ensures docs (fields_are, refl))

pub returns : goal.returns
returns c =
    let o = c.args.options.now in
    let docs = c.args.docs.now in
    let table = c.args.table.now in
    let fields = c.args.fields.now in
    let columns = c.in_ok-columns.columns.items in
    let are = c.in_ok-columns.ensures in
    let of = subst (AreColumnsOf table docs) (sym c.as_slice.ensures.value) (columns-of-faultless o.limits table docs columns c.requires.table c.requires.faultless are) in
    let fields_are = subst (λ f. AreFieldColumns f docs c.as_slice-2.result.now) (sym c.requires.fields) (subst (AreFieldColumns table docs) (sym c.as_slice-2.ensures.value) are) in
    let terms = c.in-Ok.ensures docs of in
    norms-fault (intervals_of o) o.limits.file_bytes docs table fields c.requires.table c.requires.fields c.in-Err-write_norms.fault terms.0 (c.in-Err-write_norms.ensures docs (fields_are, refl))
