use Rattle.std.proofs.Common.{◌≡◌, ◌<◌, true, get_or, refl, arith}
use Rattle.lu_grammar.specs.Reading.{read_groups}
use Rattle.lu_prims.proofs.GroupLemmas.{groups-zero, groups-last, groups-too_long, groups-more, groups-end, weight-more, below-more}
use Rattle.lu_prims.proofs.front.groups_at.Goals as goal
use Rattle.lu_prims.proofs.front.groups_at.Goals.{else-byte-eq0-via-then-byte-eq0+else-index-gt0, else-byte-eq0-via-else-byte-eq0}

pub returns-then-index-gt0-clause-number : goal.returns-then-index-gt0-clause-number
returns-then-index-gt0-clause-number c =
    groups-zero c.args.more c.loop-index.index c.args.bytes.now (get_or c.args.bytes.now c.loop-index.index 0) c.loop-index-test.true refl c.loop-index.value c.loop-index.weight
    (read_groups c.args.more true c.args.bytes.now) c.if-index-gt0.true c.if-byte-eq0.true c.loop-index.invariant.so_far

pub returns-then-byte-lt-HIGH_BIT-clause-number : goal.returns-then-byte-lt-HIGH_BIT-clause-number
returns-then-byte-lt-HIGH_BIT-clause-number c =
    let b = get_or c.args.bytes.now c.loop-index.index 0 in
    let last = elim c.else-byte-eq0.branch as (λ _. 0 < c.loop-index.index → b ≡ 0 → ⊥) [
      | else-byte-eq0-via-then-byte-eq0+else-index-gt0 w ↦ λ positive zero. omega arith
      | else-byte-eq0-via-else-byte-eq0 w ↦ λ positive zero. w.if-byte-eq0.false zero
    ] in
    rw c.from.ensures (groups-last c.args.more c.loop-index.index c.args.bytes.now b c.loop-index-test.true refl c.loop-index.value c.loop-index.weight
    (read_groups c.args.more true c.args.bytes.now) c.if-byte-lt-HIGH_BIT.true last c.loop-index.invariant.so_far)

pub returns-then-index-more-clause-number : goal.returns-then-index-more-clause-number
returns-then-index-more-clause-number c =
    groups-too_long c.args.more c.loop-index.index c.args.bytes.now (get_or c.args.bytes.now c.loop-index.index 0) c.loop-index-test.true refl c.loop-index.value c.loop-index.weight
    (read_groups c.args.more true c.args.bytes.now) c.if-byte-lt-HIGH_BIT.false c.if-index-more.true c.loop-index.invariant.so_far

pub loop-index-preserved : goal.loop-index-preserved
loop-index-preserved c =
    let b = get_or c.args.bytes.now c.loop-index.index 0 in
    let fits = (c.type_inv.bytes c.loop-index.index).fits in
    let low : c.from-in-loop-index.result < 128 = omega (arith, fits, c.from-in-loop-index.ensures) in
    record {
      so_far = rw (c.from-in-loop-index.ensures, c.from-weight.ensures) (groups-more c.args.more c.loop-index.index c.args.bytes.now b c.loop-index-test.true refl c.loop-index.value c.loop-index.weight
          (read_groups c.args.more true c.args.bytes.now) c.if-byte-lt-HIGH_BIT.false (omega arith) c.loop-index.invariant.so_far);
      weight = weight-more c.loop-index.weight c.loop-index.index c.from-weight.result c.loop-index.invariant.weight c.from-weight.ensures;
      below = below-more c.loop-index.value c.from-in-loop-index.result c.loop-index.weight c.from-weight.result c.loop-index.invariant.below low c.from-weight.ensures;
      within = omega arith;
    }

pub returns-clause-number : goal.returns-clause-number
returns-clause-number c =
    groups-end c.args.more c.loop-index.index c.args.bytes.now c.loop-index.value c.loop-index.weight (read_groups c.args.more true c.args.bytes.now) c.loop-index-test.false c.loop-index.invariant.so_far
