use Rattle.std.proofs.Common.{◌≡◌, ◌≤◌, ◌<◌, ◌+◌, ◌*◌, ℕ, List, [], length, get_or, map, sym, ap, subst, ◌∙◌, arith}
use Rattle.lu_grammar.specs.Bytes.{Cursor, place_in}
use Rattle.lu_grammar.specs.Plans.{read_plan}
use Rattle.lu_grammar.specs.Reading.{read_part}
use Rattle.lu_grammar.specs.Parts.{num}
use Rattle.lu_grammar.proofs.Codecs.{same_pair, err_is_not_ok}
use Rattle.term_vectors.specs.declared.layout.DocumentPlaces.{DocumentPlaces}
use Rattle.term_vectors.specs.Fields.{VectorPlace}
use Rattle.term_vectors.specs.Vectors.{StoredVector}
use Rattle.term_vectors.specs.Stores.{places_in, slots_in}
use Rattle.term_vectors.specs.InnerViews.{slots_plan, vector_here, AreAllThere}
use Rattle.term_vectors.proofs.StatedLemmas.{tvx_stated, stated_once}
use Rattle.term_vectors.proofs.DocumentLemmas.{no_places}
use Rattle.term_vectors.proofs.LeftLemmas.{settled_left}
use Rattle.term_vectors.proofs.StandLemmas.{DocumentStands, store-documents, store-vectors, windowed-many, windowed-get}
use Rattle.term_vectors.proofs.view.VectorView.doc.Goals as goal

pub places_at-places-requires : goal.places_at-places-requires
places_at-places-requires c =
    let s = c.self.inside in
    let stated = tvx_stated s.total s.tvx.now (places_in s.total s.tvx.now) c.self.invariant.places in
    let many = windowed-many s.total s.window s.tvx.now s.tvd.now s.tvf.now c.self.invariant in
    let e : 4 + 16 * (s.window.offset + c.args.number + 1) ≤ length s.tvx.now = omega (arith, stated.long, c.self.invariant.within, many, ap length c.self.view_is, c.requires) in e

pub at-beside-requires : goal.at-beside-requires
at-beside-requires c =
    let s = c.self.inside in
    let inv = c.self.invariant in
    let n = s.window.offset + c.args.number in
    let places : List DocumentPlaces = places_in s.total s.tvx.now in
    let slots : List (List VectorPlace) = slots_in places s.tvd.now in
    let stated = tvx_stated s.total s.tvx.now places inv.places in
    let many = windowed-many s.total s.window s.tvx.now s.tvd.now s.tvf.now inv in
    let below : c.args.number < s.window.count = omega (arith, many, ap length c.self.view_is, c.requires) in
    let lt : n < s.total = omega (arith, inv.within) in
    let documents = store-documents s.total s.window s.tvx.now s.tvd.now s.tvf.now inv in
    let is = stated_once s.tvx.now (4 + 16 * n) c.places_at-places.result (get_or places n no_places) c.places_at-places.ensures (stated.each n lt) in
    let d : DocumentStands s.tvd.now c.places_at-places.result (get_or slots n []) =
    subst (λ (p : DocumentPlaces). DocumentStands s.tvd.now p (get_or slots n [])) (sym is) (documents.each n (omega (arith, stated.many))) in
    d.within

pub unreachable-requires : goal.unreachable-requires
unreachable-requires c =
    let s = c.self.inside in
    let inv = c.self.invariant in
    let n = s.window.offset + c.args.number in
    let places : List DocumentPlaces = places_in s.total s.tvx.now in
    let slots : List (List VectorPlace) = slots_in places s.tvd.now in
    let stated = tvx_stated s.total s.tvx.now places inv.places in
    let many = windowed-many s.total s.window s.tvx.now s.tvd.now s.tvf.now inv in
    let below : c.args.number < s.window.count = omega (arith, many, ap length c.self.view_is, c.requires) in
    let lt : n < s.total = omega (arith, inv.within) in
    let documents = store-documents s.total s.window s.tvx.now s.tvd.now s.tvf.now inv in
    let is = stated_once s.tvx.now (4 + 16 * n) c.places_at-places.result (get_or places n no_places) c.places_at-places.ensures (stated.each n lt) in
    let d : DocumentStands s.tvd.now c.places_at-places.result (get_or slots n []) =
    subst (λ (p : DocumentPlaces). DocumentStands s.tvd.now p (get_or slots n [])) (sym is) (documents.each n (omega (arith, stated.many))) in
    let counted = ap (λ (x : Cursor). read_part num x) (sym c.at-beside.ensures) in
    err_is_not_ok (sym (counted ∙ c.in-Err.ensures.takes.0) ∙ d.counted)

pub invariant_of-result : goal.invariant_of-result
invariant_of-result c =
    let s = c.self.inside in
    let inv = c.self.invariant in
    let n = s.window.offset + c.args.number in
    let places : List DocumentPlaces = places_in s.total s.tvx.now in
    let slots : List (List VectorPlace) = slots_in places s.tvd.now in
    let stated = tvx_stated s.total s.tvx.now places inv.places in
    let many = windowed-many s.total s.window s.tvx.now s.tvd.now s.tvf.now inv in
    let below : c.args.number < s.window.count = omega (arith, many, ap length c.self.view_is, c.requires) in
    let lt : n < s.total = omega (arith, inv.within) in
    let documents = store-documents s.total s.window s.tvx.now s.tvd.now s.tvf.now inv in
    let is = stated_once s.tvx.now (4 + 16 * n) c.places_at-places.result (get_or places n no_places) c.places_at-places.ensures (stated.each n lt) in
    let d : DocumentStands s.tvd.now c.places_at-places.result (get_or slots n []) =
    subst (λ (p : DocumentPlaces). DocumentStands s.tvd.now p (get_or slots n [])) (sym is) (documents.each n (omega (arith, stated.many))) in
    let there = ap (λ (x : Cursor). read_part num x) (sym c.at-beside.ensures) ∙ c.in-Ok.ensures.takes in
    let same = same_pair d.many c.in-Ok.count d.from c.num.new.self (sym d.counted ∙ there) in
    let place : c.place.result ≡ d.from.place = c.place.ensures ∙ ap (λ (x : Cursor). x.place) (sym same.1) in
    let from : place_in s.tvd.now c.place.result ≡ d.from = ap (λ (k : ℕ). place_in s.tvd.now k) place ∙ sym d.behind.0 in
    let here = place_in s.tvd.now c.place.result in
    let plan = slots_plan c.in-Ok.count c.places_at-places.result.tvf in
    let read = ap (λ (x : Cursor). read_plan plan x) from ∙ ap (λ (k : ℕ). read_plan (slots_plan k c.places_at-places.result.tvf) d.from) (sym same.0) ∙ d.read in
    let settled = settled_left (read_plan plan here) ([], here) (get_or slots n []) d.end read in
    let vectors = (store-vectors s.total s.window s.tvx.now s.tvd.now s.tvf.now inv).each n (omega (arith, stated.many, documents.many)) in
    record {
      within = omega (arith, place, d.behind.1);
      bytes = inv.tvf_bytes;
      end = d.end;
      slots = settled.0;
      vectors = subst (AreAllThere s.tvf.now) settled.1 vectors.0;
    }

pub returns : goal.returns
returns c =
    let s = c.self.inside in
    let inv = c.self.invariant in
    let n = s.window.offset + c.args.number in
    let places : List DocumentPlaces = places_in s.total s.tvx.now in
    let slots : List (List VectorPlace) = slots_in places s.tvd.now in
    let stated = tvx_stated s.total s.tvx.now places inv.places in
    let many = windowed-many s.total s.window s.tvx.now s.tvd.now s.tvf.now inv in
    let below : c.args.number < s.window.count = omega (arith, many, ap length c.self.view_is, c.requires) in
    let lt : n < s.total = omega (arith, inv.within) in
    let documents = store-documents s.total s.window s.tvx.now s.tvd.now s.tvf.now inv in
    let is = stated_once s.tvx.now (4 + 16 * n) c.places_at-places.result (get_or places n no_places) c.places_at-places.ensures (stated.each n lt) in
    let d : DocumentStands s.tvd.now c.places_at-places.result (get_or slots n []) =
    subst (λ (p : DocumentPlaces). DocumentStands s.tvd.now p (get_or slots n [])) (sym is) (documents.each n (omega (arith, stated.many))) in
    let there = ap (λ (x : Cursor). read_part num x) (sym c.at-beside.ensures) ∙ c.in-Ok.ensures.takes in
    let same = same_pair d.many c.in-Ok.count d.from c.num.new.self (sym d.counted ∙ there) in
    let place : c.place.result ≡ d.from.place = c.place.ensures ∙ ap (λ (x : Cursor). x.place) (sym same.1) in
    let from : place_in s.tvd.now c.place.result ≡ d.from = ap (λ (k : ℕ). place_in s.tvd.now k) place ∙ sym d.behind.0 in
    let here = place_in s.tvd.now c.place.result in
    let plan = slots_plan c.in-Ok.count c.places_at-places.result.tvf in
    let read = ap (λ (x : Cursor). read_plan plan x) from ∙ ap (λ (k : ℕ). read_plan (slots_plan k c.places_at-places.result.tvf) d.from) (sym same.0) ∙ d.read in
    let settled = settled_left (read_plan plan here) ([], here) (get_or slots n []) d.end read in
    let vectors = (store-vectors s.total s.window s.tvx.now s.tvd.now s.tvf.now inv).each n (omega (arith, stated.many, documents.many)) in
    ap (λ (ss : List VectorPlace). map (vector_here s.tvf.now) ss) (sym settled.1) ∙ sym vectors.1 ∙ sym (windowed-get s.total s.window s.tvx.now s.tvd.now s.tvf.now inv c.args.number below)
    ∙ ap (λ (vs : List (List StoredVector)). get_or vs c.args.number []) c.self.view_is
