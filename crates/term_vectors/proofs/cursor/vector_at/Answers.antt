use Rattle.std.proofs.Common.{◌≡◌, ℕ, List, [], None, sym, ap, ◌∙◌, arith}
use Rattle.lu_grammar.specs.Bytes.{Cursor, place_in}
use Rattle.lu_grammar.specs.Records.{record_at}
use Rattle.lu_grammar.proofs.Codecs.{err_is_not_ok}
use Rattle.lu_model.specs.Index.{VectorTerm}
use Rattle.term_vectors.specs.Fields.{VectorPlace}
use Rattle.term_vectors.specs.Vectors.{StoredVector, heading_shape, heading_conditions}
use Rattle.term_vectors.specs.InnerVectors.{heading_record}
use Rattle.term_vectors.specs.InnerViews.{vector_here}
use Rattle.term_vectors.proofs.TermLemmas.{reads_terms}
use Rattle.term_vectors.proofs.VectorLemmas.{vector-broken}
use Rattle.term_vectors.proofs.LeftLemmas.{settled_left, record_in}
use Rattle.term_vectors.proofs.SlotLemmas.{vector_was}
use Rattle.term_vectors.proofs.cursor.vector_at.Goals as goal

abbrev at_place : ℕ → ℕ → VectorPlace
at_place field place = record { field = field; place = place }

pub unreachable-requires : goal.unreachable-requires
unreachable-requires c =
    let at = at_place c.args.field c.args.place in
    let here = ap (λ (d : Cursor). record_at heading_shape (heading_conditions at.place d.place) d) (sym c.at-here.ensures) ∙ c.in-Err.ensures in
    err_is_not_ok (sym (vector-broken at (place_in c.args.tvf.now at.place) c.in-Err.field-0 here) ∙ c.requires.1)

pub invariant_of-result : goal.invariant_of-result
invariant_of-result c =
    let at = at_place c.args.field c.args.place in
    let h = heading_record c.in-Ok.heading in
    let here = ap (λ (d : Cursor). record_at heading_shape (heading_conditions at.place d.place) d) (sym c.at-here.ensures) ∙ c.in-Ok.ensures in
    let was = vector_was at (place_in c.args.tvf.now at.place) (vector_here c.args.tvf.now at) c.requires.0 h c.next_heading.new.here c.requires.1 here in
    let in_file = record_in heading_shape (heading_conditions at.place at.place) c.args.tvf.now at.place h c.next_heading.new.here (λ i. (c.type_inv.tvf i).fits) c.requires.2 here in
    let from : place_in c.args.tvf.now c.place.result ≡ c.next_heading.new.here = ap (λ (n : ℕ). place_in c.args.tvf.now n) c.place.ensures ∙ sym in_file.0 in
    let reads = ap (λ (d : Cursor). reads_terms c.in-Ok.heading.bits c.in-Ok.heading.count None d) from ∙ was.1 in
    let settled = settled_left (reads_terms c.in-Ok.heading.bits c.in-Ok.heading.count None (place_in c.args.tvf.now c.place.result)) ([], place_in c.args.tvf.now c.place.result) was.0 c.requires.0 reads in
    record { within = omega (arith, in_file.1, c.place.ensures); there = (c.requires.0, settled.0) }

pub returns : goal.returns
returns c =
    let at = at_place c.args.field c.args.place in
    let h = heading_record c.in-Ok.heading in
    let here = ap (λ (d : Cursor). record_at heading_shape (heading_conditions at.place d.place) d) (sym c.at-here.ensures) ∙ c.in-Ok.ensures in
    let was = vector_was at (place_in c.args.tvf.now at.place) (vector_here c.args.tvf.now at) c.requires.0 h c.next_heading.new.here c.requires.1 here in
    let in_file = record_in heading_shape (heading_conditions at.place at.place) c.args.tvf.now at.place h c.next_heading.new.here (λ i. (c.type_inv.tvf i).fits) c.requires.2 here in
    let from : place_in c.args.tvf.now c.place.result ≡ c.next_heading.new.here = ap (λ (n : ℕ). place_in c.args.tvf.now n) c.place.ensures ∙ sym in_file.0 in
    let reads = ap (λ (d : Cursor). reads_terms c.in-Ok.heading.bits c.in-Ok.heading.count None d) from ∙ was.1 in
    let settled = settled_left (reads_terms c.in-Ok.heading.bits c.in-Ok.heading.count None (place_in c.args.tvf.now c.place.result)) ([], place_in c.args.tvf.now c.place.result) was.0 c.requires.0 reads in
    ap (λ (ts : List VectorTerm). made c.args.field c.in-Ok.heading.bits ts) (sym settled.1) ∙ sym was.2
  where
    made : ℕ → ℕ → List VectorTerm → StoredVector
    made field bits terms = record { field = field; bits = bits; terms = terms }
