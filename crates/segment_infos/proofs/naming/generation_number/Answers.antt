use Rattle.std.proofs.Common.{◌≡◌, sym, ◌∙◌, arith}
use Rattle.lu_prims.proofs.Base36Lemmas.{base36_same}
use Rattle.segment_infos.proofs.naming.generation_number.Goals as goal

pub returns-then-generation-eq0 : goal.returns-then-generation-eq0
returns-then-generation-eq0 c n is same =
    let one : c.in_ok-generation.generation ≡ n = base36_same c.in_ok-generation.generation n (sym c.in_ok-generation.ensures.1 ∙ same) in
    omega arith
