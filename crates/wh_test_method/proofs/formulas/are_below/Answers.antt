use Rattle.std.proofs.Common.{◌<◌, get_or, arith}
use Rattle.std.proofs.lemmas.Option.{slice_get-get_or}
use Rattle.wh_sat_trail.specs.declared.literal.Literal.{Literal}
use Rattle.wh_sat_trail.specs.Watch.{nothing}
use Rattle.wh_pairs.proofs.ByPlace.{before_more}
use Rattle.wh_test_method.proofs.formulas.are_below.Goals as goal

pub loop-literal-preserved : goal.loop-literal-preserved
loop-literal-preserved c =
    let i = c.loop-literal.literal-index in
    let xs = c.args.clause.now in
    before_more (λ (x : Literal). x.variable < c.args.variables) xs i (get_or xs i nothing) c.loop-literal.invariant
    (slice_get-get_or xs i nothing c.loop-literal-test.true) (c.is_below.ensures.0 c.if-not-is_below.false)

pub returns : goal.returns
returns c = λ i d here.
    let xs = c.args.clause.now in
    c.loop-literal.invariant i (get_or xs i d) (omega (arith, here, c.loop-literal-test.false)) (slice_get-get_or xs i d here)
