use Rattle.std.proofs.Common.{rules, ◌≡◌, arith, to_z, of_z, w64}
use Rattle.lu_types.specs.declared.kind.FileKind.TheVariants.{Fdt}
use Rattle.lu_grammar.specs.Plans.{read_plan}
use Rattle.lu_types.proofs.SpotLemmas.{spot-broken}
use Rattle.stored_fields.specs.Entries.{lent_entry}
use Rattle.stored_fields.specs.Documents.{value, document_plan}
use Rattle.stored_fields.proofs.DocumentLemmas.{passed_no_value, passed_value, document_read, document_count_fault, document_value_fault}
use Rattle.stored_fields.proofs.documents.pass_document.Goals as goal

pub returns-in-Err : goal.returns-in-Err
returns-in-Err c =
    let e : to_z w64 (of_z w64 c.args.wanted) ≡ c.args.wanted = search rules in
    spot-broken Fdt c.place-start.result c.in-Err.rule c.at.result (read_plan (document_plan c.args.asked c.args.fields c.args.wanted) c.args.here.now) c.at.ensures
    (rw c.place-start.ensures (document_count_fault c.args.asked c.args.fields c.args.wanted c.args.here.now c.in-Err.rule (rw e at c.in-Err.ensures)))

pub loop-value-init : goal.loop-value-init
loop-value-init c = passed_no_value c.args.asked c.args.fields c.next_count.new.here

pub returns-in-Err-next_value : goal.returns-in-Err-next_value
returns-in-Err-next_value c =
    let e : to_z w64 (of_z w64 c.args.wanted) ≡ c.args.wanted = search rules in
    spot-broken Fdt c.place-place.result c.in-Err-next_value.rule c.at-in-Err-next_value.result (read_plan (document_plan c.args.asked c.args.fields c.args.wanted) c.args.here.now) c.at-in-Err-next_value.ensures
    (rw c.place-place.ensures (document_value_fault c.args.asked c.args.fields c.args.wanted c.args.here.now c.next_count.new.here c.in-Ok.count c.loop-value._value c.loop-value.here c.in-Err-next_value.rule
    (rw e at c.in-Ok.ensures) c.loop-value.invariant c.loop-value-test.true c.in-Err-next_value.ensures))

pub loop-value-preserved : goal.loop-value-preserved
loop-value-preserved c =
    passed_value c.args.asked c.args.fields c.next_count.new.here c.loop-value._value c.loop-value.here (value (lent_entry c.in_default.field-0)) c.next_value.new.here c.loop-value.invariant c.in_default.ensures

pub returns : goal.returns
returns c =
    let e : to_z w64 (of_z w64 c.args.wanted) ≡ c.args.wanted = search rules in
    document_read c.args.asked c.args.fields c.args.wanted c.args.here.now c.next_count.new.here c.in-Ok.count c.loop-value._value c.loop-value.here (rw e at c.in-Ok.ensures) c.loop-value.invariant (omega arith)
