use Rattle.std.proofs.Common.{◌≢◌, ℕ, get_or, nat_cmp, sym, ap, ◌∙◌, arith}
use Rattle.lu_prims.specs.Order.{byte_rank}
use Rattle.lu_prims.proofs.OrderLemmas.{walk_decides, walk_ends}
use Rattle.lu_prims.proofs.Units.{ranks_apart}
use Rattle.lu_prims.proofs.utf16.tail_cmp.Goals as goal

pub returns-then-a-place : goal.returns-then-a-place
returns-then-a-place c =
    let xs = c.args.a.now in
    let ys = c.args.b.now in
    let k = c.loop-place.place in
    let apart : byte_rank (get_or xs k 0) ≢ byte_rank (get_or ys k 0) = ranks_apart (get_or xs k 0) (get_or ys k 0) (omega (arith, c.type_inv.a k)) (omega (arith, c.type_inv.b k)) c.if-a-place.true in
    let decides = walk_decides byte_rank xs ys k (omega arith) (omega arith) apart in
    c.cmp.ensures ∙ ap (λ (n : ℕ). nat_cmp n c.byte_rank-then-a-place.result) c.byte_rank.ensures ∙ ap (nat_cmp (byte_rank (get_or xs k 0))) c.byte_rank-then-a-place.ensures ∙ sym decides ∙ sym c.loop-place.invariant

pub returns : goal.returns
returns c = c.cmp-2.ensures ∙ sym (walk_ends byte_rank c.args.a.now c.args.b.now c.loop-place.place (omega arith) c.loop-place.invariant)
