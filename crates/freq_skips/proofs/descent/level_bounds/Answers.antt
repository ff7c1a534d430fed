use Rattle.std.proofs.Common.{length, arith, ◌<◌, ◌^◌, ◌≡◌, ◌∙◌}
use Rattle.std.specs.Prelude.{◌==◌}
use Rattle.freq_skips.specs.Entries.{postings_from}
use Rattle.freq_skips.specs.Walks.{start_in}
use Rattle.freq_skips.proofs.BoundLemmas.{highest-above, level-unbroken, bounds-are}
use Rattle.freq_skips.proofs.descent.level_bounds.Goals as goal

pub returns-in-Err : goal.returns-in-Err
returns-in-Err c =
    let t = c.args.term.now in
    let frq = c.args.frq.now in
    let h = c.requires.left in
    let highest : c.args.highest ≡ (length h.above == 0) = c.requires.highest ∙ highest-above t c.args.number (length h.above) h.above_count in
    absurd (level-unbroken t frq c.args.number c.args.place _ h (c.in-Err.ensures.level (postings_from t (start_in t frq)) h.above highest).1)

pub returns-in-Ok : goal.returns-in-Ok
returns-in-Ok c =
    let t = c.args.term.now in
    let frq = c.args.frq.now in
    let h = c.requires.left in
    let highest : c.args.highest ≡ (length h.above == 0) = c.requires.highest ∙ highest-above t c.args.number (length h.above) h.above_count in
    let small : length frq < 2 ^ 64 = omega (arith, c.requires.small) in
    let both = bounds-are t frq c.args.number c.args.place c.in-Ok.data c.place_behind.result c.in-Ok.stated h (λ i. (c.type_inv.frq i).fits) c.requires.interval c.in-Ok.ensures.within small c.in-Ok.ensures.stated c.place_behind.ensures
    (c.in-Ok.ensures.level (postings_from t (start_in t frq)) h.above highest) in
    record { stands = both.0; left = both.1 }
