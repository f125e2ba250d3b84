use Rattle.std.proofs.Common.{◌≡◌, false, get_or, length, subst}
use Rattle.std.proofs.lemmas.Bool.{OnTrue_at, OnTrue_from}
use Rattle.wh_sat.specs.Solving.{Solves}
use Rattle.wh_sat_listed.proofs.solving.is_solution.Goals as goal

pub returns : goal.returns
returns c =
    let vs = c.args.values.now in
    let f = c.args.formula.now in
    OnTrue_from c.is_model.result ((length vs ≡ f.variables) × Solves (λ v. get_or vs v false) f.clauses)
    (λ t. (c.if-values-formula.false, subst (Solves (λ v. get_or vs v false)) c.as_slice.ensures (OnTrue_at t c.is_model.ensures)))
