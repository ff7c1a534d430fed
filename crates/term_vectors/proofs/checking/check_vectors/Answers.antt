use Rattle.std.proofs.Common.{◌≡◌, ◌<◌, ◌≤◌, ◌+◌, ◌*◌, List, [], Result, length, get_or, refl, sym, ap, subst, ◌∙◌, arith}
use Rattle.lu_types.specs.declared.kind.FileKind.TheVariants.{Tvf}
use Rattle.lu_types.specs.Judging.{IsBrokenSo}
use Rattle.lu_grammar.specs.Bytes.{Cursor, start_of}
use Rattle.lu_grammar.specs.Plans.{read_plan, Broken}
use Rattle.lu_types.proofs.SpotLemmas.{spot-broken}
use Rattle.term_vectors.specs.declared.layout.DocumentPlaces.{DocumentPlaces}
use Rattle.term_vectors.specs.Fields.{VectorPlace, no_window, documents_plan}
use Rattle.term_vectors.specs.Vectors.{StoredVector, tvf_plan}
use Rattle.term_vectors.specs.Stores.{places_in, slots_in}
use Rattle.term_vectors.proofs.Steps.{Continues-same}
use Rattle.term_vectors.proofs.Endings.{file-broken, file-broken_so, file-trailing, file-whole}
use Rattle.term_vectors.proofs.PlaceLemmas.{IsBehindFormat}
use Rattle.term_vectors.proofs.StatedLemmas.{tvx_stated, stated_once}
use Rattle.term_vectors.proofs.DocumentLemmas.{no_places}
use Rattle.term_vectors.proofs.VectorLemmas.{reads_all, tvf-from, tvf-broken}
use Rattle.term_vectors.proofs.WasRead.{tvd_was}
use Rattle.term_vectors.proofs.WalkLemmas.{next_document, passed-more, passed-fault, passed-all}
use Rattle.term_vectors.proofs.checking.check_vectors.Goals as goal

pub returns-in-Err : goal.returns-in-Err
returns-in-Err c =
    let slots = slots_in (places_in c.args.total c.args.tvx.now) c.args.tvd.now in
    file-broken Tvf (tvf_plan slots) c.args.tvf.now c.at.result (λ i. (c.type_inv.tvf i).fits)
    (spot-broken Tvf 0 c.in-Err.rule c.at.result (read_plan (tvf_plan slots) (start_of c.args.tvf.now)) c.at.ensures (tvf-broken slots c.args.tvf.now c.in-Err.rule (rw (← c.at-here.ensures) c.in-Err.ensures)))

pub at-beside-requires : goal.at-beside-requires
at-beside-requires c = (tvd_was (places_in c.args.total c.args.tvx.now) c.args.tvd.now (slots_in (places_in c.args.total c.args.tvx.now) c.args.tvd.now) c.requires.slots).0

pub loop-number-init : goal.loop-number-init
loop-number-init c =
    let places : List DocumentPlaces = places_in c.args.total c.args.tvx.now in
    let slots : List (List VectorPlace) = slots_in places c.args.tvd.now in
    let (le, (end, read)) = tvd_was places c.args.tvd.now slots c.requires.slots in (
      end,
      record {
        rest = slots;
        left = ap (λ (b : Cursor). read_plan (documents_plan [] no_window 0 places) b) c.at-beside.ensures ∙ read;
        vectors = Continues-same (reads_all slots c.pass_format.new.here) (reads_all slots c.pass_format.new.here) refl;
      },
    )

pub places_at-places-requires : goal.places_at-places-requires
places_at-places-requires c =
    let stated = tvx_stated c.args.total c.args.tvx.now (places_in c.args.total c.args.tvx.now) c.requires.places in
    let e : 4 + 16 * (c.loop-number.number + 1) ≤ length c.args.tvx.now = omega (arith, stated.long, c.loop-number-test.true) in e

pub pass_vectors-requires : goal.pass_vectors-requires
pass_vectors-requires c =
    let total = c.args.total in
    let i = c.loop-number.number in
    let places : List DocumentPlaces = places_in total c.args.tvx.now in
    let stated = tvx_stated total c.args.tvx.now places c.requires.places in
    let lt : i < length places = omega (arith, stated.many, c.loop-number-test.true) in
    let is = stated_once c.args.tvx.now (4 + 16 * i) c.places_at-places.result (get_or places i no_places) c.places_at-places.ensures (stated.each i c.loop-number-test.true) in
    let (end, w) = c.loop-number.invariant in
    let n = next_document places (slots_in places c.args.tvd.now) end c.pass_format.new.here i c.places_at-places.result c.loop-number.beside c.loop-number.here w lt is in
    ((n.it, n.behind), n.reads)

pub returns-in-Err-pass_vectors : goal.returns-in-Err-pass_vectors
returns-in-Err-pass_vectors c =
    let total = c.args.total in
    let i = c.loop-number.number in
    let places : List DocumentPlaces = places_in total c.args.tvx.now in
    let slots : List (List VectorPlace) = slots_in places c.args.tvd.now in
    let stated = tvx_stated total c.args.tvx.now places c.requires.places in
    let lt : i < length places = omega (arith, stated.many, c.loop-number-test.true) in
    let is = stated_once c.args.tvx.now (4 + 16 * i) c.places_at-places.result (get_or places i no_places) c.places_at-places.ensures (stated.each i c.loop-number-test.true) in
    let (end, w) = c.loop-number.invariant in
    let n = next_document places slots end c.pass_format.new.here i c.places_at-places.result c.loop-number.beside c.loop-number.here w lt is in
    let header : IsBehindFormat 105 c.args.tvf.now c.pass_format.new.here = rw (← c.at-here.ensures) c.in_default.ensures in
    file-broken_so Tvf (tvf_plan slots) c.args.tvf.now c.in-Err-pass_vectors.fault (λ i. (c.type_inv.tvf i).fits)
    (subst (λ (r : Result (List (List StoredVector) × Cursor) Broken). IsBrokenSo Tvf r c.in-Err-pass_vectors.fault) (sym (tvf-from slots c.args.tvf.now c.pass_format.new.here header))
    (passed-fault places slots end c.pass_format.new.here Tvf i c.places_at-places.result c.loop-number.beside c.loop-number.here c.in-Err-pass_vectors.fault w n (c.in-Err-pass_vectors.ensures n.it n.behind n.reads).0))

pub loop-number-preserved : goal.loop-number-preserved
loop-number-preserved c =
    let total = c.args.total in
    let i = c.loop-number.number in
    let places : List DocumentPlaces = places_in total c.args.tvx.now in
    let slots : List (List VectorPlace) = slots_in places c.args.tvd.now in
    let stated = tvx_stated total c.args.tvx.now places c.requires.places in
    let lt : i < length places = omega (arith, stated.many, c.loop-number-test.true) in
    let is = stated_once c.args.tvx.now (4 + 16 * i) c.places_at-places.result (get_or places i no_places) c.places_at-places.ensures (stated.each i c.loop-number-test.true) in
    let (end, w) = c.loop-number.invariant in
    let n = next_document places slots end c.pass_format.new.here i c.places_at-places.result c.loop-number.beside c.loop-number.here w lt is in
    let ((v, read), behind) = c.in_default-pass_vectors.ensures n.it n.behind n.reads in
    (end, passed-more places slots end c.pass_format.new.here i c.places_at-places.result c.loop-number.beside c.loop-number.here c.pass_vectors.new.beside c.pass_vectors.new.here w n v read behind)

pub returns-then-left-gt0 : goal.returns-then-left-gt0
returns-then-left-gt0 c =
    let i = c.loop-number.number in
    let places : List DocumentPlaces = places_in c.args.total c.args.tvx.now in
    let slots : List (List VectorPlace) = slots_in places c.args.tvd.now in
    let stated = tvx_stated c.args.total c.args.tvx.now places c.requires.places in
    let header : IsBehindFormat 105 c.args.tvf.now c.pass_format.new.here = rw (← c.at-here.ensures) c.in_default.ensures in
    let last : i ≡ length places = omega (arith, stated.many) in
    let (end, w) = c.loop-number.invariant in
    let (v, read) = passed-all places slots end c.pass_format.new.here i c.loop-number.beside c.loop-number.here w last in
    file-trailing Tvf (tvf_plan slots) c.args.tvf.now v c.loop-number.here c.at-then-left-gt0.result (λ i. (c.type_inv.tvf i).fits)
    (tvf-from slots c.args.tvf.now c.pass_format.new.here header ∙ read) (omega arith) (rw (← c.place.ensures) c.at-then-left-gt0.ensures)

pub returns : goal.returns
returns c =
    let i = c.loop-number.number in
    let places : List DocumentPlaces = places_in c.args.total c.args.tvx.now in
    let slots : List (List VectorPlace) = slots_in places c.args.tvd.now in
    let stated = tvx_stated c.args.total c.args.tvx.now places c.requires.places in
    let header : IsBehindFormat 105 c.args.tvf.now c.pass_format.new.here = rw (← c.at-here.ensures) c.in_default.ensures in
    let last : i ≡ length places = omega (arith, stated.many) in
    let (end, w) = c.loop-number.invariant in
    let (v, read) = passed-all places slots end c.pass_format.new.here i c.loop-number.beside c.loop-number.here w last in
    file-whole (tvf_plan slots) c.args.tvf.now [] v c.loop-number.here (λ i. (c.type_inv.tvf i).fits) (tvf-from slots c.args.tvf.now c.pass_format.new.here header ∙ read) (omega arith)
