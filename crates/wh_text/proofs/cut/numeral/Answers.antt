use Rattle.std.proofs.Common.{arith}
use Rattle.wh_text.proofs.Runs.{past_limit}
use Rattle.wh_text.proofs.cut.numeral.Goals as goal

pub returns-then-value-gt65535 : goal.returns-then-value-gt65535
returns-then-value-gt65535 c =
    past_limit c.args.digits.now c.loop-digit.digit-index c.loop-digit.value c.loop-digit.invariant.goes_on c.loop-digit-test.true (omega arith)
