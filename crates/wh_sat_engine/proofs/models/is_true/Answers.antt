use Rattle.std.proofs.Common.{◌≡◌, Bool, true, false, get_or, subst, rules}
use mathlib.Core.Bool.{beq}
use Rattle.wh_sat_trail.specs.Watch.{nothing}
use Rattle.wh_sat_engine.proofs.Truths.{true_at}
use Rattle.wh_sat_engine.proofs.models.is_true.Goals as goal

pub returns-then-value-literal : goal.returns-then-value-literal
returns-then-value-literal c =
    let cl = c.args.clause.now in
    let i = c.loop-literal.literal-index in
    let at : c.in-Some.value.now ≡ get_or c.args.values.now (get_or cl i nothing).variable false =
    search rules in
    true_at (λ v. get_or c.args.values.now v false) cl i nothing c.loop-literal-test.true
    (subst (λ (x : Bool). beq x (get_or cl i nothing).positive ≡ true) at c.if-value-literal.true)
