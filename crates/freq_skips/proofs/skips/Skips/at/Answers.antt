use Rattle.std.proofs.Common.{ap, sym, subst, arith}
use Rattle.freq_skips.specs.ProxPlaces.{HasProxPlaces}
use Rattle.freq_skips.specs.Points.{KnownTerm}
use Rattle.freq_skips.specs.Terms.{TermData, ruled_by}
use Rattle.freq_skips.specs.Walks.{start_in}
use Rattle.freq_skips.proofs.WalkLemmas.{value_from-is}
use Rattle.freq_skips.proofs.skips.Skips.at.Goals as goal

pub invariant_of-result : goal.invariant_of-result
invariant_of-result c =
    let t = ruled_by c.args.info.now c.args.rules.now in
    let frq = c.args.frq.now in
    let places = c.requires.places in
    record {
      search = record {
        good = c.requires.good;
        bytes = λ i. (c.type_inv.frq i).fits;
        small = c.requires.small;
        documents = omega arith;
        count = omega arith;
        prox_small = omega arith;
        prox = places.prox;
        places = subst (λ (v : TermData). HasProxPlaces t v places.prox) (sym (value_from-is t (start_in t frq) places.value places.end places.reads)) places.places;
      };
      levels = c.level_count-count.ensures.count;
      power = c.level_count-count.ensures.power;
      few = c.level_count-count.ensures.few;
    }

pub returns : goal.returns
returns c = λ value end h.
    let t = ruled_by c.args.info.now c.args.rules.now in
    let state : TermData → KnownTerm = λ v. record { term = t; value = v } in
    ap state (value_from-is t (start_in t c.args.frq.now) value end h)
