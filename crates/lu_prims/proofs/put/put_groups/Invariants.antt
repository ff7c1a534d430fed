use Rattle.lu_prims.proofs.PutLemmas.{IsWriting}
use Rattle.lu_prims.proofs.put.put_groups.Given as goal

abbrev pub invariant-loop-rest : goal.invariant-loop-rest
invariant-loop-rest l = IsWriting l.value l.bytes l.count l.rest

abbrev pub decreases-loop-rest : goal.decreases-loop-rest
decreases-loop-rest l = l.rest
