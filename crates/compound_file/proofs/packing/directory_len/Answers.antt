use Rattle.std.proofs.Common.{◌<◌, length, map, arith, sym, subst}
use Rattle.std.proofs.lemmas.List.{length-map}
use Rattle.compound_file.specs.declared.packing.Packed.{Packed}
use Rattle.compound_file.specs.Packs.{part_of}
use Rattle.compound_file.proofs.PackLemmas.{directory_size-few, entry_size-short, entries_left}
use Rattle.compound_file.proofs.packing.directory_len.Goals as goal

pub loop-part-init : goal.loop-part-init
loop-part-init c = record {
  left = sym (directory_size-few (map part_of c.args.parts.now) (omega (arith, length-map c.args.parts.now part_of, c.requires.few)));
  small = omega arith;
}

pub loop-part-preserved : goal.loop-part-preserved
loop-part-preserved c =
    let item = c.part-item.result in
    let short : length item.name < 128 = subst (λ (p : Packed). length p.name < 128) (sym c.part-item.is) (c.requires.short c.loop-part.part-index item c.loop-part-test.true) in
    let next = entries_left c.args.parts.now c.loop-part.part-index item c.loop-part-test.true c.part-item.is in
    let size = entry_size-short (part_of item) short in
    rw c.as_str.ensures.same (record {
      left = omega (arith, next, size, c.loop-part.invariant.left);
      small = omega (arith, short, c.loop-part.invariant.small);
    })
