use Rattle.std.proofs.Common.{◌≡◌, ◌<◌, ◌≤◌, ◌+◌, ◌*◌, List, Bool, length, get_or, sym, ap, subst, ◌∙◌, arith}
use Rattle.lu_types.specs.declared.kind.FileKind.TheVariants.{Tvd}
use Rattle.lu_types.specs.Judging.{IsBrokenSo}
use Rattle.lu_grammar.specs.Bytes.{start_of}
use Rattle.lu_grammar.specs.Meaning.{Reads}
use Rattle.lu_grammar.specs.Plans.{read_plan}
use Rattle.lu_grammar.proofs.Codecs.{file-read}
use Rattle.lu_types.proofs.SpotLemmas.{spot-broken}
use Rattle.term_vectors.specs.declared.layout.DocumentPlaces.{DocumentPlaces}
use Rattle.term_vectors.specs.Fields.{document_plan, tvd_plan}
use Rattle.term_vectors.specs.Stores.{places_in}
use Rattle.term_vectors.proofs.TurnLemmas.{none-passed, one-passed, turn-broken_so, all-passed}
use Rattle.term_vectors.proofs.Endings.{file-broken, file-broken_so, file-trailing}
use Rattle.term_vectors.proofs.PlaceLemmas.{IsBehindFormat}
use Rattle.term_vectors.proofs.StatedLemmas.{tvx_stated, stated_once}
use Rattle.term_vectors.proofs.DocumentLemmas.{no_places, reads_documents, documents-left, documents-broken, documents-done, tvd-from, tvd-broken}
use Rattle.term_vectors.proofs.Unasked.{slots-read}
use Rattle.term_vectors.proofs.fields.check_fields.Goals as goal

pub returns-in-Err : goal.returns-in-Err
returns-in-Err c =
    let places = places_in c.args.part.total c.args.tvx.now in
    let plan = tvd_plan c.args.fields.now c.args.part.window places in
    file-broken Tvd plan c.args.tvd.now c.at.result (λ i. (c.type_inv.tvd i).fits)
    (spot-broken Tvd 0 c.in-Err.rule c.at.result (read_plan plan (start_of c.args.tvd.now)) c.at.ensures (tvd-broken c.args.fields.now c.args.part.window places c.args.tvd.now c.in-Err.rule (rw (← c.at-here.ensures) c.in-Err.ensures)))

pub loop-number-init : goal.loop-number-init
loop-number-init c = none-passed (reads_documents c.args.fields.now c.args.part.window (places_in c.args.part.total c.args.tvx.now)) c.args.part.total 0 c.pass_format.new.here

pub places_at-places-requires : goal.places_at-places-requires
places_at-places-requires c =
    let stated = tvx_stated c.args.part.total c.args.tvx.now (places_in c.args.part.total c.args.tvx.now) c.requires in
    let e : 4 + 16 * (c.loop-number.number + 1) ≤ length c.args.tvx.now = omega (arith, stated.long, c.loop-number-test.true) in e

pub returns-in-Err-pass_document : goal.returns-in-Err-pass_document
returns-in-Err-pass_document c =
    let fields = c.args.fields.now in
    let window = c.args.part.window in
    let total = c.args.part.total in
    let i = c.loop-number.number in
    let places : List DocumentPlaces = places_in total c.args.tvx.now in
    let stated = tvx_stated total c.args.tvx.now places c.requires in
    let lt : i < length places = omega (arith, stated.many, c.loop-number-test.true) in
    let is = stated_once c.args.tvx.now (4 + 16 * i) c.places_at-places.result (get_or places i no_places) c.places_at-places.ensures (stated.each i c.loop-number-test.true) in
    let header : IsBehindFormat 98 c.args.tvd.now c.pass_format.new.here = rw (← c.at-here.ensures) c.in_default.ensures in
    let here = subst (λ (b : Bool). IsBrokenSo Tvd (read_plan (document_plan b fields c.places_at-places.result) c.loop-number.here) c.in-Err-pass_document.fault) c.is_within-asked.ensures c.in-Err-pass_document.ensures in
    file-broken_so Tvd (tvd_plan fields window places) c.args.tvd.now c.in-Err-pass_document.fault (λ i. (c.type_inv.tvd i).fits)
    (subst (λ r. IsBrokenSo Tvd r c.in-Err-pass_document.fault) (sym (tvd-from fields window places c.args.tvd.now c.pass_format.new.here header))
    (turn-broken_so (reads_documents fields window places) total 0 c.pass_format.new.here Tvd i i c.loop-number.here c.in-Err-pass_document.fault c.loop-number.invariant c.loop-number-test.true
    (documents-broken fields window places Tvd i c.loop-number.here c.places_at-places.result c.in-Err-pass_document.fault lt is here)))

pub loop-number-preserved : goal.loop-number-preserved
loop-number-preserved c =
    let fields = c.args.fields.now in
    let window = c.args.part.window in
    let total = c.args.part.total in
    let i = c.loop-number.number in
    let places : List DocumentPlaces = places_in total c.args.tvx.now in
    let stated = tvx_stated total c.args.tvx.now places c.requires in
    let lt : i < length places = omega (arith, stated.many, c.loop-number-test.true) in
    let is = stated_once c.args.tvx.now (4 + 16 * i) c.places_at-places.result (get_or places i no_places) c.places_at-places.ensures (stated.each i c.loop-number-test.true) in
    let passed = c.in_default-pass_document.ensures in
    let here = ap (λ (b : Bool). read_plan (document_plan b fields c.places_at-places.result) c.loop-number.here) (sym c.is_within-asked.ensures) ∙ passed.1 in
    one-passed (reads_documents fields window places) total 0 c.pass_format.new.here i i (i + 1) c.loop-number.here c.pass_document.new.here c.loop-number.invariant c.loop-number-test.true
    (documents-left fields window places i c.loop-number.here c.places_at-places.result passed.0 c.pass_document.new.here lt is here)

pub returns-then-left-gt0 : goal.returns-then-left-gt0
returns-then-left-gt0 c =
    let fields = c.args.fields.now in
    let window = c.args.part.window in
    let total = c.args.part.total in
    let i = c.loop-number.number in
    let places : List DocumentPlaces = places_in total c.args.tvx.now in
    let stated = tvx_stated total c.args.tvx.now places c.requires in
    let header : IsBehindFormat 98 c.args.tvd.now c.pass_format.new.here = rw (← c.at-here.ensures) c.in_default.ensures in
    let end : i ≡ length places = omega (arith, stated.many) in
    let done = all-passed (reads_documents fields window places) total 0 c.pass_format.new.here i i c.loop-number.here c.loop-number.invariant (omega arith) (documents-done fields window places i c.loop-number.here end) in
    file-trailing Tvd (tvd_plan fields window places) c.args.tvd.now done.0 c.loop-number.here c.at-then-left-gt0.result (λ i. (c.type_inv.tvd i).fits)
    (tvd-from fields window places c.args.tvd.now c.pass_format.new.here header ∙ done.1) (omega arith) (rw (← c.place.ensures) c.at-then-left-gt0.ensures)

pub returns : goal.returns
returns c =
    let fields = c.args.fields.now in
    let window = c.args.part.window in
    let total = c.args.part.total in
    let i = c.loop-number.number in
    let places : List DocumentPlaces = places_in total c.args.tvx.now in
    let stated = tvx_stated total c.args.tvx.now places c.requires in
    let header : IsBehindFormat 98 c.args.tvd.now c.pass_format.new.here = rw (← c.at-here.ensures) c.in_default.ensures in
    let end : i ≡ length places = omega (arith, stated.many) in
    let done = all-passed (reads_documents fields window places) total 0 c.pass_format.new.here i i c.loop-number.here c.loop-number.invariant (omega arith) (documents-done fields window places i c.loop-number.here end) in
    let plan = tvd_plan fields window places in
    let read = tvd-from fields window places c.args.tvd.now c.pass_format.new.here header ∙ done.1 in
    let none : length c.loop-number.here.rest ≡ 0 = omega arith in
    subst (Reads plan c.args.tvd.now) (sym (slots-read fields window places c.args.tvd.now done.0 c.loop-number.here read none)) (file-read plan c.args.tvd.now done.0 c.loop-number.here (λ i. (c.type_inv.tvd i).fits) read none)
