use Rattle.std.proofs.Common.{◌++◌, List, ℕ, ap, ◌∙◌, arith}
use Rattle.lu_prims.proofs.PutLemmas.{writing-more, writing-last}
use Rattle.lu_prims.proofs.put.put_groups.Goals as goal

pub loop-rest-preserved : goal.loop-rest-preserved
loop-rest-preserved c = writing-more c.args.value c.loop-rest.bytes c.loop-rest.count c.loop-rest.rest c.loop-rest.invariant c.loop-rest-test.true

pub returns-clause-ok : goal.returns-clause-ok
returns-clause-ok c =
    let last = writing-last c.args.value c.loop-rest.bytes c.loop-rest.count c.loop-rest.rest c.loop-rest.invariant (omega arith) in
    c.in_ok-extend_from_slice.ensures.items ∙ ap (λ (t : List ℕ). c.args.out.now.items ++ t) last
