use Rattle.std.proofs.Common.{◌+◌, ◌-◌, ◌++◌, ap, ◌∙◌}
use Rattle.wh_poly_blocking.specs.Literals.{literals_from}
use Rattle.wh_poly_blocking.specs.Sizes.{value_of}
use Rattle.wh_poly_blocking.proofs.LiteralLemmas.{literals_next}
use Rattle.wh_poly_blocking.proofs.clauses.push_literals.Goals as goal

pub loop-variable-preserved : goal.loop-variable-preserved
loop-variable-preserved c =
    let v = value_of c.args.values.now in
    let x = c.loop-variable.variable in
    ap (λ l. l ++ literals_from v (x + 1) (c.args.to - (x + 1))) c.in_ok-push.ensures.ok
    ∙ literals_next v x c.args.to (c.bit-positive.result) c.loop-variable.clause c.loop-variable-test.true c.bit-positive.ensures ∙ c.loop-variable.invariant
