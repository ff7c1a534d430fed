use Rattle.std.proofs.Common.{map, string_bytes, subst, sym}
use Rattle.segment_infos.specs.Generations.{AreGenerations}
use Rattle.segment_infos.proofs.ListedNames.{sorted-AreGenerations}
use Rattle.segment_infos.proofs.listing.generations.Goals as goal

pub returns : goal.returns
returns c =
    subst (AreGenerations (map string_bytes c.args.names.now)) (sym c.reverse.ensures.items)
    (sorted-AreGenerations (map string_bytes c.args.names.now) c.in_ok-found.found.items c.sort.new.self.items c.in_ok-found.ensures c.in_ok-sort.ensures.permutation c.in_ok-sort.ensures.sorted)
