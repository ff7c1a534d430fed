use Rattle.std.proofs.Common.{◌≡◌, ℕ, IfOk, List, [], None, get_or, sym, ap, subst, ◌∙◌, arith}
use Rattle.lu_grammar.specs.Bytes.{Cursor, place_in}
use Rattle.lu_grammar.specs.Records.{record_at}
use Rattle.lu_grammar.proofs.Codecs.{err_is_not_ok}
use Rattle.lu_model.specs.Index.{VectorTerm}
use Rattle.term_vectors.specs.Vectors.{StoredVector, heading_shape, heading_conditions}
use Rattle.term_vectors.specs.Walks.{walk_of}
use Rattle.term_vectors.specs.InnerVectors.{heading_record}
use Rattle.term_vectors.specs.InnerViews.{no_vector, vector_here, IsVectorThere, terms_left}
use Rattle.term_vectors.specs.InnerSlots.{slot_of}
use Rattle.term_vectors.proofs.TermLemmas.{reads_terms}
use Rattle.term_vectors.proofs.VectorLemmas.{vector-broken}
use Rattle.term_vectors.proofs.LeftLemmas.{settled_left, record_in}
use Rattle.term_vectors.proofs.SlotLemmas.{vector_was}
use Rattle.term_vectors.proofs.ThereLemmas.{there-many, there-at, there-vector}
use Rattle.term_vectors.proofs.document.VectorDoc.terms.Goals as goal

pub slot_at-slot-requires-clause-below : goal.slot_at-slot-requires-clause-below
slot_at-slot-requires-clause-below c =
    let s = c.self.inside in
    omega (arith, c.requires, there-many s.tvd.now s.numbers s.count s.place s.tvf.now c.self.invariant c.args.self.now c.self.view_is)

pub at-here-requires : goal.at-here-requires
at-here-requires c =
    let s = c.self.inside in
    let at = slot_of c.slot_at-slot.result in
    let there : IsVectorThere s.tvf.now at =
    subst (IsVectorThere s.tvf.now) (sym c.slot_at-slot.ensures) (there-at s.tvd.now s.numbers s.count s.place s.tvf.now c.self.invariant c.args.self.now c.self.view_is c.args.nth c.requires) in
    there.2

pub unreachable-requires : goal.unreachable-requires
unreachable-requires c =
    let s = c.self.inside in
    let at = slot_of c.slot_at-slot.result in
    let there : IsVectorThere s.tvf.now at =
    subst (IsVectorThere s.tvf.now) (sym c.slot_at-slot.ensures) (there-at s.tvd.now s.numbers s.count s.place s.tvf.now c.self.invariant c.args.self.now c.self.view_is c.args.nth c.requires) in
    let here = ap (λ (d : Cursor). record_at heading_shape (heading_conditions at.place d.place) d) (sym c.at-here.ensures) ∙ c.in-Err.ensures in
    err_is_not_ok (sym (vector-broken at (place_in s.tvf.now at.place) c.in-Err.field-0 here) ∙ there.1)

pub new-requires-clause-within : goal.new-requires-clause-within
new-requires-clause-within c =
    let s = c.self.inside in
    let at = slot_of c.slot_at-slot.result in
    let there : IsVectorThere s.tvf.now at =
    subst (IsVectorThere s.tvf.now) (sym c.slot_at-slot.ensures) (there-at s.tvd.now s.numbers s.count s.place s.tvf.now c.self.invariant c.args.self.now c.self.view_is c.args.nth c.requires) in
    let here = ap (λ (d : Cursor). record_at heading_shape (heading_conditions at.place d.place) d) (sym c.at-here.ensures) ∙ c.in-Ok.ensures in
    let was = vector_was at (place_in s.tvf.now at.place) (vector_here s.tvf.now at) there.0 (heading_record c.in-Ok.heading) c.next_heading.new.here there.1 here in
    let h = heading_record c.in-Ok.heading in
    let in_file = record_in heading_shape (heading_conditions at.place at.place) s.tvf.now at.place h c.next_heading.new.here c.self.invariant.bytes there.2 here in
    let place : c.place.result ≡ c.next_heading.new.here.place = c.place.ensures in
    let from : place_in s.tvf.now c.place.result ≡ c.next_heading.new.here = ap (λ (n : ℕ). place_in s.tvf.now n) place ∙ sym in_file.0 in
    let reads = ap (λ (d : Cursor). reads_terms c.in-Ok.heading.bits c.in-Ok.heading.count None d) from ∙ was.1 in
    let settled = settled_left (reads_terms c.in-Ok.heading.bits c.in-Ok.heading.count None (place_in s.tvf.now c.place.result)) ([], place_in s.tvf.now c.place.result) was.0 there.0 reads in
    omega (arith, in_file.1, place)

pub new-requires-clause-there : goal.new-requires-clause-there
new-requires-clause-there c =
    let s = c.self.inside in
    let at = slot_of c.slot_at-slot.result in
    let there : IsVectorThere s.tvf.now at =
    subst (IsVectorThere s.tvf.now) (sym c.slot_at-slot.ensures) (there-at s.tvd.now s.numbers s.count s.place s.tvf.now c.self.invariant c.args.self.now c.self.view_is c.args.nth c.requires) in
    let here = ap (λ (d : Cursor). record_at heading_shape (heading_conditions at.place d.place) d) (sym c.at-here.ensures) ∙ c.in-Ok.ensures in
    let was = vector_was at (place_in s.tvf.now at.place) (vector_here s.tvf.now at) there.0 (heading_record c.in-Ok.heading) c.next_heading.new.here there.1 here in
    let h = heading_record c.in-Ok.heading in
    let in_file = record_in heading_shape (heading_conditions at.place at.place) s.tvf.now at.place h c.next_heading.new.here c.self.invariant.bytes there.2 here in
    let place : c.place.result ≡ c.next_heading.new.here.place = c.place.ensures in
    let from : place_in s.tvf.now c.place.result ≡ c.next_heading.new.here = ap (λ (n : ℕ). place_in s.tvf.now n) place ∙ sym in_file.0 in
    let reads = ap (λ (d : Cursor). reads_terms c.in-Ok.heading.bits c.in-Ok.heading.count None d) from ∙ was.1 in
    let settled = settled_left (reads_terms c.in-Ok.heading.bits c.in-Ok.heading.count None (place_in s.tvf.now c.place.result)) ([], place_in s.tvf.now c.place.result) was.0 there.0 reads in
    (there.0, settled.0)

pub returns : goal.returns
returns c =
    let s = c.self.inside in
    let at = slot_of c.slot_at-slot.result in
    let there : IsVectorThere s.tvf.now at =
    subst (IsVectorThere s.tvf.now) (sym c.slot_at-slot.ensures) (there-at s.tvd.now s.numbers s.count s.place s.tvf.now c.self.invariant c.args.self.now c.self.view_is c.args.nth c.requires) in
    let is : get_or c.args.self.now c.args.nth no_vector ≡ vector_here s.tvf.now at =
    there-vector s.tvd.now s.numbers s.count s.place s.tvf.now c.self.invariant c.args.self.now c.self.view_is c.args.nth c.requires ∙ ap (vector_here s.tvf.now) (sym c.slot_at-slot.ensures) in
    let here = ap (λ (d : Cursor). record_at heading_shape (heading_conditions at.place d.place) d) (sym c.at-here.ensures) ∙ c.in-Ok.ensures in
    let was = vector_was at (place_in s.tvf.now at.place) (vector_here s.tvf.now at) there.0 (heading_record c.in-Ok.heading) c.next_heading.new.here there.1 here in
    let h = heading_record c.in-Ok.heading in
    let in_file = record_in heading_shape (heading_conditions at.place at.place) s.tvf.now at.place h c.next_heading.new.here c.self.invariant.bytes there.2 here in
    let place : c.place.result ≡ c.next_heading.new.here.place = c.place.ensures in
    let from : place_in s.tvf.now c.place.result ≡ c.next_heading.new.here = ap (λ (n : ℕ). place_in s.tvf.now n) place ∙ sym in_file.0 in
    let reads = ap (λ (d : Cursor). reads_terms c.in-Ok.heading.bits c.in-Ok.heading.count None d) from ∙ was.1 in
    let settled = settled_left (reads_terms c.in-Ok.heading.bits c.in-Ok.heading.count None (place_in s.tvf.now c.place.result)) ([], place_in s.tvf.now c.place.result) was.0 there.0 reads in
    let terms : terms_left c.in-Ok.heading.bits c.in-Ok.heading.count None (place_in s.tvf.now c.place.result) ≡ (get_or c.args.self.now c.args.nth no_vector).terms = sym settled.1 ∙ sym (ap (λ (v : StoredVector). v.terms) (is ∙ was.2)) in
    subst (λ (ts : List VectorTerm). IfOk c.new.result (λ walk. walk ≡ walk_of ts)) terms c.new.ensures
