use Rattle.std.proofs.Common.{◌≡◌, [], ◌≤◌, ◌+◌, ◌*◌, sym, ◌∙◌, arith, rules, ℤ, List, length, to_z, of_z, w64}
use Rattle.lu_types.specs.declared.kind.FileKind.TheVariants.{Fdt}
use Rattle.stored_fields.specs.Documents.{fdt_plan}
use Rattle.lu_grammar.specs.Plans.{read_file}
use Rattle.lu_grammar.proofs.Codecs.{Reads-from, settled}
use Rattle.lu_types.proofs.SpotLemmas.{spot-broken}
use Rattle.stored_fields.specs.Stores.{places_in, documents_in, document_here}
use Rattle.stored_fields.proofs.SpotLemmas.{first_fault}
use Rattle.stored_fields.proofs.PlaceLemmas.{has_places, place_is}
use Rattle.stored_fields.proofs.DocumentLemmas.{passed_no_document, passed_document, IsBehindFormat, fdt_header_fault, fdt_document_fault, fdt_trailing, fdt_read}
use Rattle.stored_fields.proofs.documents.check_documents.Goals as goal

pub returns-in-Err : goal.returns-in-Err
returns-in-Err c =
    let plan = fdt_plan c.args.window c.args.fields (places_in c.args.total c.args.window c.args.fdx.now) in
    first_fault Fdt plan c.args.fdt.now c.at.result (λ i. (c.type_inv.fdt i).fits)
    (spot-broken Fdt 0 c.in-Err.rule c.at.result (read_file plan c.args.fdt.now) c.at.ensures
    (fdt_header_fault c.args.window c.args.fields (places_in c.args.total c.args.window c.args.fdx.now) c.args.fdt.now c.in-Err.rule (rw (← c.at-here.ensures) c.in-Err.ensures)))

pub loop-number-init : goal.loop-number-init
loop-number-init c = passed_no_document c.args.window c.args.fields (places_in c.args.total c.args.window c.args.fdx.now) c.pass_header.new.here

pub place_at-wanted-requires : goal.place_at-wanted-requires
place_at-wanted-requires c =
    let has = has_places c.args.total c.args.window c.args.fdx.now (places_in c.args.total c.args.window c.args.fdx.now) c.requires in
    let e : 4 + 8 * (c.loop-number.number + 1) ≤ length c.args.fdx.now = omega (arith, has.long, c.loop-number-test.true) in e

pub returns-in-Err-pass_document : goal.returns-in-Err-pass_document
returns-in-Err-pass_document c =
    let places : List ℤ = places_in c.args.total c.args.window c.args.fdx.now in
    let has = has_places c.args.total c.args.window c.args.fdx.now places c.requires in
    let header : IsBehindFormat c.args.fdt.now c.pass_header.new.here = rw (← c.at-here.ensures) c.in_default.ensures in
    let e : to_z w64 (of_z w64 c.place_at-wanted.result) ≡ c.place_at-wanted.result = search rules in
    let place = place_is c.args.total c.args.window c.args.fdx.now places c.requires c.loop-number.number c.loop-number-test.true c.place_at-wanted.result c.place_at-wanted.ensures ∙ sym e in
    first_fault Fdt (fdt_plan c.args.window c.args.fields places) c.args.fdt.now c.in-Err-pass_document.fault (λ i. (c.type_inv.fdt i).fits)
    (fdt_document_fault c.args.window c.args.fields places c.args.fdt.now c.pass_header.new.here c.loop-number.number c.loop-number.here c.is_within-asked.result (to_z w64 (of_z w64 c.place_at-wanted.result)) c.in-Err-pass_document.fault header
    c.loop-number.invariant (omega (arith, has.many, c.loop-number-test.true)) c.is_within-asked.ensures place c.in-Err-pass_document.ensures)

pub loop-number-preserved : goal.loop-number-preserved
loop-number-preserved c =
    let places : List ℤ = places_in c.args.total c.args.window c.args.fdx.now in
    let e : to_z w64 (of_z w64 c.place_at-wanted.result) ≡ c.place_at-wanted.result = search rules in
    let place = place_is c.args.total c.args.window c.args.fdx.now places c.requires c.loop-number.number c.loop-number-test.true c.place_at-wanted.result c.place_at-wanted.ensures ∙ sym e in
    passed_document c.args.window c.args.fields places c.pass_header.new.here c.loop-number.number c.loop-number.here c.pass_document.new.here c.is_within-asked.result (to_z w64 (of_z w64 c.place_at-wanted.result))
    (document_here c.is_within-asked.result c.args.fields (to_z w64 (of_z w64 c.place_at-wanted.result)) c.loop-number.here) c.loop-number.invariant c.is_within-asked.ensures place c.in_default-pass_document.ensures

pub returns-then-left-gt0 : goal.returns-then-left-gt0
returns-then-left-gt0 c =
    let places : List ℤ = places_in c.args.total c.args.window c.args.fdx.now in
    let plan = fdt_plan c.args.window c.args.fields places in
    let s = c.at-then-left-gt0.result in
    let has = has_places c.args.total c.args.window c.args.fdx.now places c.requires in
    let header : IsBehindFormat c.args.fdt.now c.pass_header.new.here = rw (← c.at-here.ensures) c.in_default.ensures in
    first_fault Fdt plan c.args.fdt.now s (λ i. (c.type_inv.fdt i).fits)
    (spot-broken Fdt c.place.result 6 s (read_file plan c.args.fdt.now) c.at-then-left-gt0.ensures
    (rw c.place.ensures (fdt_trailing c.args.window c.args.fields places c.args.fdt.now c.pass_header.new.here c.loop-number.number c.loop-number.here header c.loop-number.invariant (omega (arith, has.many)) (omega arith))))

pub returns : goal.returns
returns c =
    let places : List ℤ = places_in c.args.total c.args.window c.args.fdx.now in
    let plan = fdt_plan c.args.window c.args.fields places in
    let has = has_places c.args.total c.args.window c.args.fdx.now places c.requires in
    let header : IsBehindFormat c.args.fdt.now c.pass_header.new.here = rw (← c.at-here.ensures) c.in_default.ensures in
    Reads-from plan c.args.fdt.now (documents_in c.args.fields c.args.total c.args.window c.args.fdx.now c.args.fdt.now) (λ i. (c.type_inv.fdt i).fits)
    (settled [] c.loop-number.invariant.documents (read_file plan c.args.fdt.now)
    (fdt_read c.args.window c.args.fields places c.args.fdt.now c.pass_header.new.here c.loop-number.number c.loop-number.here header c.loop-number.invariant (omega (arith, has.many)) (omega arith)))
