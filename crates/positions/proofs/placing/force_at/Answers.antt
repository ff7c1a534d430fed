use Rattle.std.proofs.Common.{Bool, inl, sym, subst}
use Rattle.lu_grammar.specs.Bytes.{place_in}
use Rattle.positions.specs.Standing.{Skims}
use Rattle.positions.proofs.PassLemmas.{Skims-plain}
use Rattle.positions.proofs.placing.force_at.Goals as goal

pub returns-then-not-term : goal.returns-then-not-term
returns-then-not-term c = λ count force h.
    let start = place_in c.args.prx.now c.args.term.now.info.prox in
    let there = place_in c.args.prx.now c.args.place in
    inl (sym (Skims-plain start count force there (subst (λ (b : Bool). Skims b start count force there) c.if-not-term.true h)))
