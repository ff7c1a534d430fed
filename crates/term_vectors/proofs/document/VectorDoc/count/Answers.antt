use Rattle.std.proofs.Common.{List, length, sym, ap, ◌∙◌}
use Rattle.std.proofs.lemmas.List.{length-map}
use Rattle.lu_grammar.specs.Bytes.{place_in}
use Rattle.term_vectors.specs.Vectors.{StoredVector}
use Rattle.term_vectors.specs.InnerViews.{vector_here, slots_here}
use Rattle.term_vectors.proofs.SlotLemmas.{slots-many}
use Rattle.term_vectors.proofs.document.VectorDoc.count.Goals as goal

pub returns : goal.returns
returns c =
    let s = c.self.inside in
    let here = place_in s.tvd.now s.numbers in
    let slots = slots_here s.count s.place here in
    sym (sym (ap (λ (vs : List StoredVector). length vs) c.self.view_is) ∙ length-map slots (vector_here s.tvf.now) ∙ slots-many s.count s.place here slots c.self.invariant.end c.self.invariant.slots)
