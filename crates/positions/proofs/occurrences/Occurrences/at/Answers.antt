use Rattle.std.proofs.Common.{refl}
use Rattle.freq_skips.specs.Terms.{ruled_by}
use Rattle.positions.specs.Cursors.{CursorState}
use Rattle.positions.proofs.AmongLemmas.{among-begun}
use Rattle.positions.proofs.occurrences.Occurrences.at.Goals as goal

pub invariant_of-result : goal.invariant_of-result
invariant_of-result c = record { bytes = λ i. (c.type_inv.prx i).fits; payloads = c.reading_at-reading.ensures.payloads }

pub returns : goal.returns
returns c = λ value occurrences good is.
    let t = ruled_by c.args.info.now c.args.rules.now in
    let r = c.reading_at-reading.result in
    let s : CursorState = record { term = t; prx = c.args.prx.now; here = r.cur; force = r.force; position = r.position; left = 0 } in
    among-begun t value occurrences c.args.point.now s (λ i. (c.type_inv.prx i).fits) good is refl refl c.reading_at-reading.ensures.place c.reading_at-reading.ensures.force
