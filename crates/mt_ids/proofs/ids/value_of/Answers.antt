use Rattle.std.proofs.Common.{arith}
use Rattle.mt_ids.proofs.DigitFacts.{value_more}
use Rattle.mt_ids.proofs.ids.value_of.Goals as goal

pub overflow_mul-value : goal.overflow_mul-value
overflow_mul-value c = omega (arith, value_more c.args.digits.now c.loop-digit.digit-index c.requires.digits c.requires.short c.loop-digit-test.true)

pub overflow_add-value : goal.overflow_add-value
overflow_add-value c = omega (arith, value_more c.args.digits.now c.loop-digit.digit-index c.requires.digits c.requires.short c.loop-digit-test.true)

pub loop-digit-preserved : goal.loop-digit-preserved
loop-digit-preserved c = omega (arith, value_more c.args.digits.now c.loop-digit.digit-index c.requires.digits c.requires.short c.loop-digit-test.true)
