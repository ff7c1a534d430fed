use Rattle.std.proofs.Common.{subst}
use Rattle.check_index.specs.Files.{IsShort}
use Rattle.check_index.proofs.occurrences.open_positions.Goals as goal

pub returns-in-Ok-check_positions-clause-posted : goal.returns-in-Ok-check_positions-clause-posted
returns-in-Ok-check_positions-clause-posted c = (c.check_positions.ensures.bytes, subst IsShort c.in-Ok.ensures c.requires.short, c.in-Ok-check_positions.ensures.posted)
