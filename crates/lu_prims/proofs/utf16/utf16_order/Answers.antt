use Rattle.lu_prims.proofs.Units.{level_same, text_order, units_same}
use Rattle.lu_prims.proofs.utf16.utf16_order.Goals as goal

pub returns-clause-total : goal.returns-clause-total
returns-clause-total c = text_order

pub returns-clause-apart : goal.returns-clause-apart
returns-clause-apart c = units_same

pub returns-clause-level : goal.returns-clause-level
returns-clause-level c = level_same
