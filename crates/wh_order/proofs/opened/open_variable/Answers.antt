use Rattle.std.proofs.Common.{arith}
use Rattle.wh_types.specs.Erase.{ty}
use Rattle.wh_order.proofs.OpenLemmas.{low_variable, this_variable, beyond_variable}
use Rattle.wh_order.proofs.opened.open_variable.Goals as goal

pub returns-then-inner-depth-clause-same : goal.returns-then-inner-depth-clause-same
returns-then-inner-depth-clause-same c n = low_variable c.args.number (ty c.args.kind.now) c.args.depth c.args.inner c.if-inner-depth.true

pub returns-in_ok-copy-clause-same : goal.returns-in_ok-copy-clause-same
returns-in_ok-copy-clause-same c n = this_variable c.args.number (ty c.args.kind.now) _ c.args.depth c.args.inner c.if-inner-depth-2.true c.in_ok-copy.ensures

pub returns-else-inner-depth-2-clause-same : goal.returns-else-inner-depth-2-clause-same
returns-else-inner-depth-2-clause-same c n = beyond_variable c.args.number (ty c.args.kind.now) c.args.depth c.args.inner (omega (arith, c.if-inner-depth.false, c.if-inner-depth-2.false))
