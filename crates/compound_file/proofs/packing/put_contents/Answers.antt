use Rattle.std.proofs.Common.{List, ℕ, ◌+◌, map, drop, ap, ◌++◌, ◌∙◌}
use Rattle.compound_file.specs.Packing.{part_contents}
use Rattle.compound_file.specs.Packs.{part_of}
use Rattle.compound_file.proofs.PackLemmas.{part_contents-left}
use Rattle.compound_file.proofs.packing.put_contents.Goals as goal

pub loop-part-preserved : goal.loop-part-preserved
loop-part-preserved c =
    ap (λ (t : List ℕ). t ++ part_contents (drop (c.loop-part.part-index + 1) (map part_of c.args.parts.now))) c.in_ok-extend_from_slice.ensures.items
    ∙ part_contents-left c.args.parts.now c.loop-part.part-index c.part-item.result c.loop-part-test.true c.part-item.is c.loop-part.out.items
    ∙ c.loop-part.invariant
