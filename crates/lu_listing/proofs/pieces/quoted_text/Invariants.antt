use Rattle.std.proofs.Common.{◌≡◌, ◌≤◌, ◌-◌, ◌∷◌, [], ◌++◌, take, drop}
use Rattle.std.specs.List.{flat_map}
use Rattle.lu_prims.specs.Quoted.{escaped, quoted_text}
use Rattle.lu_listing.specs.Printing.{page}
use Rattle.lu_listing.proofs.PrintingLemmas.{Lacks}
use Rattle.lu_listing.proofs.pieces.quoted_text.Given as goal

-- what is left begins with bytes that stand for themselves
abbrev pub invariant-loop-at : goal.invariant-loop-at
invariant-loop-at g l =
    (l.from ≤ l.at) × (flat_map escaped (take (l.at - l.from) (drop l.from l.text)) ≡ take (l.at - l.from) (drop l.from l.text))
    × Lacks (page l.fn.printer (g.K.Sink.taken l.fn.out) (g.K.Sink.faults l.fn.out)) (page l.printer (g.K.Sink.taken l.out) (g.K.Sink.faults l.out)) (flat_map escaped (drop l.from l.text) ++ 34 ∷ []) (quoted_text l.text)
