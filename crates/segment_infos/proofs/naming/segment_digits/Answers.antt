use Rattle.std.proofs.Common.{◌≡◌, sym, ◌∙◌, arith}
use Rattle.lu_prims.proofs.Base36Lemmas.{base36_same}
use Rattle.segment_infos.proofs.naming.segment_digits.Goals as goal

pub returns-else-number : goal.returns-else-number
returns-else-number c n most same =
    let one : c.in_ok-number.number ≡ n = base36_same c.in_ok-number.number n (sym c.in_ok-number.ensures.1 ∙ same) in
    omega arith
