use Rattle.std.proofs.Common.{ℕ, sym, ap, ◌∙◌}
use Rattle.freq_skips.specs.Records.{Record, datum}
use Rattle.freq_skips.specs.Levels.{point_of}
use Rattle.freq_skips.proofs.datum.good_datum.Goals as goal

pub returns-in-Ok-clause-read : goal.returns-in-Ok-clause-read
returns-in-Ok-clause-read c =
    let r : Record = datum c.in-Ok.parts.0 in
    (r, c.in-Ok.ensures.parts, ap (λ (n : ℕ). point_of c.args.term.now c.args.last.now n r) (sym c.place-place.ensures) ∙ sym c.point_after.ensures.point)
