use Rattle.std.proofs.Common.{◌∙◌, arith}
use Rattle.std.proofs.lemmas.Bool.{iff_false}
use Rattle.lu_prims.proofs.Base36Lemmas.{plain_numeral, spelled_reads}
use Rattle.lu_prims.proofs.base36.base36_value.Goals as goal

pub returns-then-not-is_plain : goal.returns-then-not-is_plain
returns-then-not-is_plain c = λ v h e. iff_false c.is_plain.ensures c.if-not-is_plain.true (spelled_reads c.args.text.now v e).0

pub returns-then-value-lt-LIMIT : goal.returns-then-value-lt-LIMIT
returns-then-value-lt-LIMIT c =
    let plain = c.is_plain.ensures.0 c.if-not-is_plain.false in
    let reads = c.in-Ok.ensures.value in
    (c.if-value-lt-LIMIT.true, plain_numeral c.args.text.now c.in-Ok.value plain reads.0.0 reads.1)

pub returns-else-value-lt-LIMIT : goal.returns-else-value-lt-LIMIT
returns-else-value-lt-LIMIT c = λ v h e.
    let again = (spelled_reads c.args.text.now v e).2 in
    let same = c.in-Ok.ensures.value.1 ∙ again in
    omega arith

pub returns-in_default : goal.returns-in_default
returns-in_default c = λ v h e.
    let reads = spelled_reads c.args.text.now v e in
    c.in_default.ensures.value (reads.1, omega (arith, reads.2))
