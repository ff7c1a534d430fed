use Rattle.lu_changes.proofs.BuildNamesLemmas.{texts-sorted}
use Rattle.lu_changes.proofs.building.names_in_order.Goals as goal

pub returns-clause-names : goal.returns-clause-names
returns-clause-names g c told is =
    texts-sorted told c.in-Ok.names.items c.sort_unstable.new.self.items (c.in-Ok.ensures.names told is) c.sort_unstable.ensures.permutation c.sort_unstable.ensures.sorted
