use Rattle.std.proofs.Common.{arith}
use Rattle.lu_listing.proofs.DigitLemmas.{digits-hundredth, digits-one, digits-two, digits-most}
use Rattle.lu_listing.proofs.digits.digits.Goals as goal

pub overflow_add-count : goal.overflow_add-count
overflow_add-count c = omega (arith, c.loop-rest.invariant, digits-most c.args.number c.ranges.number.fits)

pub loop-rest-preserved : goal.loop-rest-preserved
loop-rest-preserved c = omega (arith, c.loop-rest.invariant, digits-hundredth c.loop-rest.rest c.loop-rest-test.true (omega (arith, c.loop-rest.auto.rest-fits)))

pub overflow_add-result : goal.overflow_add-result
overflow_add-result c = omega (arith, c.loop-rest.invariant, digits-most c.args.number c.ranges.number.fits)

pub returns-then-rest-lt10 : goal.returns-then-rest-lt10
returns-then-rest-lt10 c = omega (arith, c.loop-rest.invariant, digits-one c.loop-rest.rest c.if-rest-lt10.true)

pub returns-else-rest-lt10 : goal.returns-else-rest-lt10
returns-else-rest-lt10 c = omega (arith, c.loop-rest.invariant, digits-two c.loop-rest.rest c.if-rest-lt10.false c.loop-rest-test.false)
