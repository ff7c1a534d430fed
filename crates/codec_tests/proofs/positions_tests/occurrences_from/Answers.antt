use Rattle.std.proofs.Common.{ℕ, inl, refl, sym, subst, arith}
use Rattle.freq_skips.specs.declared.rules.RuledTerm.{RuledTerm}
use Rattle.freq_skips.specs.Points.{KnownTerm, IsPoint}
use Rattle.freq_skips.specs.Terms.{ruled_by}
use Rattle.positions.specs.Cursors.{IsPointIn}
use Rattle.positions.proofs.KnownPlaces.{known_places}
use Rattle.codec_tests.proofs.positions_tests.occurrences_from.Goals as goal

pub at-skips-requires-clause-places : goal.at-skips-requires-clause-places
at-skips-requires-clause-places c =
    let t = ruled_by c.args.info.now c.args.rules.now in
    let good = (c.in-Ok.ensures.good c.requires.some).1 in
    let stands = c.in-Ok-check_term.ensures.stands c.requires.some good.value good.end good.reads in
    let known = known_places t good.value c.args.prx.now stands.0 (λ i. (c.type_inv.prx i).fits) stands.1 (omega arith) c.requires.prx_small in
    record { value = good.value; end = good.end; reads = good.reads; prox = known.0; places = known.1 }

pub at-occurrences-requires : goal.at-occurrences-requires
at-occurrences-requires c =
    let good = (c.in-Ok.ensures.good c.requires.some).1 in
    let stands = c.in-Ok-check_term.ensures.stands c.requires.some good.value good.end good.reads in
    record { value = good.value; occurrences = stands.0; good = stands.1; is_point = record { number = 0; exists = inl refl; point = c.start-start.ensures } }

pub jump-requires : goal.jump-requires
jump-requires c =
    let t = ruled_by c.args.info.now c.args.rules.now in
    let good = (c.in-Ok.ensures.good c.requires.some).1 in
    let stands = c.in-Ok-check_term.ensures.stands c.requires.some good.value good.end good.reads in
    let o = c.at-occurrences.result in
    let among = c.at-occurrences.ensures good.value stands.0 stands.1 (record { number = 0; exists = inl refl; point = c.start-start.ensures }) in
    let found = subst (λ (k : KnownTerm). IsPoint k.term k.value c.find-point.result) (c.at-skips.ensures good.value good.end good.reads) c.find-point.ensures.found.point in
    subst (λ (x : RuledTerm). IsPointIn x o.prx c.find-point.result) (sym among.term_is) (record { value = good.value; occurrences = stands.0; good = among.good; is_point = found })
