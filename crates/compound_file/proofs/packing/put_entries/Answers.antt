use Rattle.std.proofs.Common.{◌≡◌, List, ℕ, ◌+◌, map, drop, length, ap, ◌++◌, ◌∙◌, arith, rules, pos, to_z, of_z, w64}
use Rattle.std.specs.Int.{to_be_bytes}
use Rattle.lu_grammar.specs.Parts.{spelling, int64, text}
use Rattle.compound_file.specs.Packing.{entries_bytes}
use Rattle.compound_file.specs.Packs.{part_of}
use Rattle.compound_file.proofs.PackLemmas.{entries_bytes-left, contents_size-left}
use Rattle.compound_file.proofs.packing.put_entries.Goals as goal

pub loop-part-preserved : goal.loop-part-preserved
loop-part-preserved c =
    let item = c.part-item.result in
    let next = contents_size-left c.args.parts.now c.loop-part.part-index item c.loop-part-test.true c.part-item.is in
    let rest = entries_bytes (c.loop-part.next + length item.bytes.now) (drop (c.loop-part.part-index + 1) (map part_of c.args.parts.now)) in
    let same : of_z w64 (to_z w64 c.loop-part.next) ≡ c.loop-part.next = search rules in
    let offset = c.in_ok-put_i64.ensures.ok ∙ ap (λ n. c.loop-part.out.items ++ to_be_bytes w64 n) same in
    record {
      left = ap (λ (t : List ℕ). t ++ rest) c.in_ok-put_text.ensures.ok
          ∙ ap (λ (t : List ℕ). t ++ spelling text c.as_str.result.now ++ rest) offset
          ∙ ap (λ (t : List ℕ). (c.loop-part.out.items ++ spelling int64 (pos c.loop-part.next)) ++ spelling text t ++ rest) c.as_str.ensures.same
          ∙ entries_bytes-left c.args.parts.now c.loop-part.part-index item c.loop-part-test.true c.part-item.is c.loop-part.out.items c.loop-part.next
          ∙ c.loop-part.invariant.left;
      room = omega (arith, next, c.loop-part.invariant.room);
    }
