use Rattle.positions.proofs.PlaceLemmas.{point-leads}
use Rattle.positions.proofs.placing.reading_at.Goals as goal

pub at-cur-requires : goal.at-cur-requires
at-cur-requires c =
    let q = c.requires in
    (point-leads c.args.term.now q.value c.args.prx.now q.occurrences c.args.point.now (λ i. (c.type_inv.prx i).fits) q.good c.if-term.false q.is_point).within

pub force_at-force-requires-clause-within : goal.force_at-force-requires-clause-within
force_at-force-requires-clause-within c =
    let q = c.requires in
    (point-leads c.args.term.now q.value c.args.prx.now q.occurrences c.args.point.now (λ i. (c.type_inv.prx i).fits) q.good c.if-term.false q.is_point).within
