use Rattle.std.proofs.Common.{◌≡◌, ◌/◌, ◌<◌, inl, inr, sym, arith}
use Rattle.freq_skips.proofs.Powers.{greatest_power-is, power-high, power-low, power-few}
use Rattle.freq_skips.proofs.level.greatest_power.Goals as goal

pub returns-else-power-from-clause-count : goal.returns-else-power-from-clause-count
returns-else-power-from-clause-count c =
    let i = c.loop-count.invariant in
    let base = c.args.base in
    let high : c.args.number / base < c.loop-count.power = omega arith in
    let pos = c.requires in
    sym (greatest_power-is base c.args.number c.args.most c.loop-count.count (omega arith) i.within (power-low _ _ _ _ i.power i.low)
    (inr (power-high base c.args.number c.loop-count.count c.loop-count.power (omega arith) i.power high)))

pub returns-after-loop-count-clause-count : goal.returns-after-loop-count-clause-count
returns-after-loop-count-clause-count c =
    let i = c.loop-count.invariant in
    let all : c.loop-count.count ≡ c.args.most = omega arith in
    sym (greatest_power-is c.args.base c.args.number c.args.most c.loop-count.count (omega arith) i.within (power-low _ _ _ _ i.power i.low) (inl all))

pub returns-else-power-from-clause-few : goal.returns-else-power-from-clause-few
returns-else-power-from-clause-few c = let i = c.loop-count.invariant in power-few c.args.base c.loop-count.count c.args.number c.requires (power-low _ _ _ _ i.power i.low) (omega arith)

pub returns-after-loop-count-clause-few : goal.returns-after-loop-count-clause-few
returns-after-loop-count-clause-few c = let i = c.loop-count.invariant in power-few c.args.base c.loop-count.count c.args.number c.requires (power-low _ _ _ _ i.power i.low) (omega arith)
