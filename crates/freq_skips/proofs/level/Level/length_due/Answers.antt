use Rattle.std.proofs.Common.{◌<◌, suc, sym, subst, ℕ}
use Rattle.freq_skips.proofs.Powers.{power-pos}
use Rattle.freq_skips.proofs.level.Level.length_due.Goals as goal

pub nonzero_div-from : goal.nonzero_div-from
nonzero_div-from c = subst (λ (n : ℕ). 0 < n) (sym c.requires.stride) (power-pos c.args.term.now.rules.skip_interval (suc c.args.self.now.number) c.requires.interval)
