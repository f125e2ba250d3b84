use Rattle.std.proofs.Common.{◌-◌, length, arith}
use Rattle.wh_terms.specs.Tree.{bound}
use Rattle.wh_terms.specs.Value.{parameters}
use Rattle.wh_terms.specs.Under.{ups, moved}
use Rattle.wh_terms.proofs.UnderLemmas.{ups_low}
use Rattle.wh_step.proofs.ExtentLemmas.{known_extent, known_parameter, beyond_parameters, measures_known}
use Rattle.wh_step.proofs.measuring.variable_extent.Goals as goal

pub returns-then-number-depth : goal.returns-then-number-depth
returns-then-number-depth c ts k known =
    known_extent (ups c.args.depth (parameters ts (moved k)) c.args.number) (bound c.args.number) c.leaf.result (ups_low c.args.depth (parameters ts (moved k)) c.args.number c.if-number-depth.true)
    (c.leaf.ensures.bound c.args.number)

pub returns-then-inward-values : goal.returns-then-inward-values
returns-then-inward-values c ts k known =
    let s = ups c.args.depth (parameters ts (moved k)) c.args.number in
    let values = c.args.values.now in
    measures_known s c.index-values-values.result (record {}) c.ok_or.result c.ok_or.ensures.value
    (known_parameter ts values k c.args.depth c.args.number (length values - 1 - (c.args.number - c.args.depth)) c.index-values-values.result known (omega arith) (omega arith) c.index-values-values.is)

pub returns-else-inward-values : goal.returns-else-inward-values
returns-else-inward-values c ts k known =
    let (j, is) = beyond_parameters ts c.args.values.now k c.args.depth c.args.number known (omega arith) (omega arith) in
    known_extent (ups c.args.depth (parameters ts (moved k)) c.args.number) (bound j) c.leaf-else-inward-values.result is (c.leaf-else-inward-values.ensures.bound j)
