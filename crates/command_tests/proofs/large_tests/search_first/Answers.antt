use Rattle.std.proofs.Common.{arith}
use Rattle.lu_reads.proofs.HoldingLemmas.{held-each, held-count}
use Rattle.command_tests.proofs.large_tests.search_first.Goals as goal

pub standing_segments-requires-clause-held : goal.standing_segments-requires-clause-held
standing_segments-requires-clause-held g c = held-each _ c.args.lines.now c.in-Ok.held.held.items c.in-Ok.held.too_large c.in-Ok.ensures.held

pub standing_segments-requires-clause-count : goal.standing_segments-requires-clause-count
standing_segments-requires-clause-count g c =
    omega (arith, held-count _ c.args.lines.now c.in-Ok.held.held.items c.in-Ok.held.too_large c.in-Ok.ensures.held, c.requires.count)
