use Rattle.std.proofs.Common.{◌≡◌, ◌+◌, ◌/◌, ◌<◌, length, get_or, sym, ap, ◌∙◌, subst, arith}
use Rattle.std.specs.Prelude.{slice_set}
use Rattle.std.proofs.lemmas.List.{get_or_default}
use Rattle.seg_merger.specs.TermHeads.{IsNearly}
use Rattle.seg_merger.specs.TermRests.{rest_heads}
use Rattle.seg_merger.proofs.ContestLemmas.{nearly-set, root-in}
use Rattle.seg_merger.proofs.TreeLemmas.{length-heads}
use Rattle.seg_merger.proofs.terms.contest.Contest.advance.Goals as goal

pub replay-requires-clause-nearly : goal.replay-requires-clause-nearly
replay-requires-clause-nearly c =
    let slots = c.self.inside.slots.items in
    let tree = c.self.inside.tree.items in
    let k = c.index.result.now in
    let built = c.self.invariant.tournament in
    let some = c.self.invariant.some in
    let size = length-heads slots in
    let all = built.all in
    let is : k ≡ get_or tree 1 0 = c.index.ensures ∙ get_or_default tree 1 k 0 (omega (arith, all, size, some)) in
    let inside : k < length slots = subst (λ n. n < length slots) (sym is) (root-in slots tree built some) in
    let place : (length (slice_set slots k c.advance.new.self) + k) / 2 ≡ (c.len.result + k) / 2 = ap (λ n. (n + k) / 2) (ap length (sym c.as_slice.ensures.value) ∙ c.as_slice.ensures.len ∙ sym c.len.ensures) in
    subst (λ ss. IsNearly (rest_heads ss) c.as_mut_slice.result.now ((c.len.result + k) / 2)) (sym c.as_slice.ensures.value)
    (subst (λ t. IsNearly (rest_heads (slice_set slots k c.advance.new.self)) t ((c.len.result + k) / 2)) (sym c.as_mut_slice.ensures.value)
    (subst (IsNearly (rest_heads (slice_set slots k c.advance.new.self)) tree) place (nearly-set slots k c.advance.new.self tree built inside)))
