use Rattle.std.proofs.Common.{◌≡◌, map, take, string_bytes}
use Rattle.segment_infos.specs.Generations.{listed_generations}
use Rattle.segment_infos.proofs.listing.listed_generations.Given as goal

abbrev pub invariant-loop-name : goal.invariant-loop-name
invariant-loop-name l = l.found.items ≡ listed_generations (map string_bytes (take l.name-index l.names))
