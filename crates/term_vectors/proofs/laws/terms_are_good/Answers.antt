use Rattle.std.proofs.Common.{◌≤◌, None, arith}
use Rattle.term_vectors.proofs.ValidVectors.{terms_are}
use Rattle.term_vectors.proofs.laws.terms_are_good.Goals as goal

pub returns : goal.returns
returns c bits n from terms to fits e low =
    let none : 0 ≤ from.place = omega arith in
    let are = terms_are bits n None from terms to fits none e in
    (are.many, are.rise, are.valid low)
