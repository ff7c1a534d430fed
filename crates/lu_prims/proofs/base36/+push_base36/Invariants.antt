use Rattle.lu_prims.proofs.base36.+push_base36.Given as goal

abbrev pub decreases-push_base36 : goal.decreases-push_base36
decreases-push_base36 l = l.value
