use Rattle.std.proofs.Common.{◌∙◌, ◌++◌, ◌∷◌, [], ap, sym, subst, get_or, map, take}
use Rattle.std.proofs.lemmas.List.{map-append}
use Rattle.wh_sat_trail.specs.Assignment.{negated}
use Rattle.wh_sat_trail.specs.Watch.{nothing}
use Rattle.wh_refute.specs.Told.{Tells}
use Rattle.wh_refute.proofs.Members.{next}
use Rattle.wh_sat_listed.proofs.hints.suppose.Goals as goal

pub loop-literal-preserved : goal.loop-literal-preserved
loop-literal-preserved c =
    let xs = take c.loop-literal.literal-index c.args.clause.now in
    let x = get_or c.args.clause.now c.loop-literal.literal-index nothing in
    let one = next c.args.clause.now c.loop-literal.literal-index nothing c.loop-literal-test.true in (
      subst (Tells c.args.variables c.assume.new.self)
          (ap (λ y. map negated xs ++ y ∷ []) c.negation.ensures ∙ sym (ap (map negated) one ∙ map-append negated xs (x ∷ [])))
          (c.assume.ensures.tells c.args.variables (map negated xs) c.loop-literal.invariant.0),
      c.assume.ensures.round ∙ c.loop-literal.invariant.1,
    )
