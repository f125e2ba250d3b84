use Rattle.std.proofs.Common.{sym, ap, ◌∙◌, [], ◌∷◌, ◌++◌, get_or}
use Rattle.std.proofs.lemmas.List.{map_more}
use Rattle.wh_sat_trail.specs.Assignment.{negated}
use Rattle.wh_sat_trail.specs.Watch.{nothing}
use Rattle.wh_sat.proofs.learner.conflicts.negations.Goals as goal

pub loop-literal-preserved : goal.loop-literal-preserved
loop-literal-preserved c =
    let i = c.loop-literal.literal-index in
    let xs = c.args.literals.now in
    c.in_ok-push.ensures.ok ∙ ap (λ ys. ys ++ negated (get_or xs i nothing) ∷ []) c.loop-literal.invariant ∙ sym (map_more negated xs i nothing c.loop-literal-test.true)
