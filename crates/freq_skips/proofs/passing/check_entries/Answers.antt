use Rattle.std.proofs.Common.{arith}
use Rattle.freq_skips.proofs.EntryLemmas.{IsBehindEntries-none}
use Rattle.freq_skips.proofs.passing.check_entries.Goals as goal

pub loop-passing-init : goal.loop-passing-init
loop-passing-init c = record { within = omega arith; stands = IsBehindEntries-none c.args.term.now c.args.cur }
