use Rattle.std.proofs.Common.{◌≡◌, get_or, sym, ap, subst, ◌∙◌, arith}
use Rattle.lu_grammar.specs.Bytes.{Cursor, place_in}
use Rattle.lu_grammar.specs.Records.{record_at}
use Rattle.lu_grammar.proofs.Codecs.{err_is_not_ok}
use Rattle.term_vectors.specs.Vectors.{StoredVector, heading_shape, heading_conditions}
use Rattle.term_vectors.specs.InnerVectors.{heading_record}
use Rattle.term_vectors.specs.InnerViews.{no_vector, vector_here, IsVectorThere}
use Rattle.term_vectors.specs.InnerSlots.{slot_of}
use Rattle.term_vectors.proofs.VectorLemmas.{vector-broken}
use Rattle.term_vectors.proofs.SlotLemmas.{vector_was}
use Rattle.term_vectors.proofs.ThereLemmas.{there-many, there-at, there-vector}
use Rattle.term_vectors.proofs.document.VectorDoc.field.Goals as goal

pub slot_at-slot-requires-clause-below : goal.slot_at-slot-requires-clause-below
slot_at-slot-requires-clause-below c =
    let s = c.self.inside in
    omega (arith, c.requires, there-many s.tvd.now s.numbers s.count s.place s.tvf.now c.self.invariant c.args.self.now c.self.view_is)

pub at-here-requires : goal.at-here-requires
at-here-requires c =
    let s = c.self.inside in
    let at = slot_of c.slot_at-slot.result in
    let there : IsVectorThere s.tvf.now at =
    subst (IsVectorThere s.tvf.now) (sym c.slot_at-slot.ensures) (there-at s.tvd.now s.numbers s.count s.place s.tvf.now c.self.invariant c.args.self.now c.self.view_is c.args.nth c.requires) in
    there.2

pub unreachable-requires : goal.unreachable-requires
unreachable-requires c =
    let s = c.self.inside in
    let at = slot_of c.slot_at-slot.result in
    let there : IsVectorThere s.tvf.now at =
    subst (IsVectorThere s.tvf.now) (sym c.slot_at-slot.ensures) (there-at s.tvd.now s.numbers s.count s.place s.tvf.now c.self.invariant c.args.self.now c.self.view_is c.args.nth c.requires) in
    let here = ap (λ (d : Cursor). record_at heading_shape (heading_conditions at.place d.place) d) (sym c.at-here.ensures) ∙ c.in-Err.ensures in
    err_is_not_ok (sym (vector-broken at (place_in s.tvf.now at.place) c.in-Err.field-0 here) ∙ there.1)

pub returns-clause-number : goal.returns-clause-number
returns-clause-number c =
    let s = c.self.inside in
    let at = slot_of c.slot_at-slot.result in
    let there : IsVectorThere s.tvf.now at =
    subst (IsVectorThere s.tvf.now) (sym c.slot_at-slot.ensures) (there-at s.tvd.now s.numbers s.count s.place s.tvf.now c.self.invariant c.args.self.now c.self.view_is c.args.nth c.requires) in
    let is : get_or c.args.self.now c.args.nth no_vector ≡ vector_here s.tvf.now at =
    there-vector s.tvd.now s.numbers s.count s.place s.tvf.now c.self.invariant c.args.self.now c.self.view_is c.args.nth c.requires ∙ ap (vector_here s.tvf.now) (sym c.slot_at-slot.ensures) in
    let here = ap (λ (d : Cursor). record_at heading_shape (heading_conditions at.place d.place) d) (sym c.at-here.ensures) ∙ c.in-Ok.ensures in
    let was = vector_was at (place_in s.tvf.now at.place) (vector_here s.tvf.now at) there.0 (heading_record c.in-Ok.heading) c.next_heading.new.here there.1 here in
    sym (ap (λ (v : StoredVector). v.field) (is ∙ was.2))

pub returns-clause-bits : goal.returns-clause-bits
returns-clause-bits c =
    let s = c.self.inside in
    let at = slot_of c.slot_at-slot.result in
    let there : IsVectorThere s.tvf.now at =
    subst (IsVectorThere s.tvf.now) (sym c.slot_at-slot.ensures) (there-at s.tvd.now s.numbers s.count s.place s.tvf.now c.self.invariant c.args.self.now c.self.view_is c.args.nth c.requires) in
    let is : get_or c.args.self.now c.args.nth no_vector ≡ vector_here s.tvf.now at =
    there-vector s.tvd.now s.numbers s.count s.place s.tvf.now c.self.invariant c.args.self.now c.self.view_is c.args.nth c.requires ∙ ap (vector_here s.tvf.now) (sym c.slot_at-slot.ensures) in
    let here = ap (λ (d : Cursor). record_at heading_shape (heading_conditions at.place d.place) d) (sym c.at-here.ensures) ∙ c.in-Ok.ensures in
    let was = vector_was at (place_in s.tvf.now at.place) (vector_here s.tvf.now at) there.0 (heading_record c.in-Ok.heading) c.next_heading.new.here there.1 here in
    sym (ap (λ (v : StoredVector). v.bits) (is ∙ was.2))
