use Rattle.std.proofs.Common.{ℕ, ap, sym, ◌∙◌}
use Rattle.wh_types.specs.Erase.{tys}
use Rattle.wh_poly.specs.Erase.{atoms, factors}
use Rattle.wh_hopoly.specs.Evaluation.{type_at}
use Rattle.wh_poly_space.specs.Space.{filled, sum_of_variables, sort_variables}
use Rattle.wh_poly_space.specs.Spots.{factors_at}
use Rattle.wh_poly_space.proofs.BuildLemmas.{no_factor, one_factor, two_factors}
use Rattle.wh_poly_space.proofs.space.factors_at.Goals as goal
use Rattle.wh_poly_space.proofs.space.factors_at.Goals.{in-Constant, in-One+in_ok-factor-in-One+in_ok-push-in-One, in-Two+in_ok-factor-in-Two+in_ok-push-in-Two+in_ok-factor-in-Two-2+in_ok-push-in-Two-2}

pub returns : goal.returns
returns c =
    let Γ = tys c.args.scope.now in
    let args = λ (x : ℕ). ap (λ p. filled p (type_at Γ x)) c.requires.sum in
    elim c.match-spot.branch [
      | in-Constant w ↦ ap atoms w.atoms-is ∙ no_factor c.new-atoms.result c.new-atoms.ensures ∙ sym (ap (factors_at Γ) w.in-Constant.is)
      | in-One+in_ok-factor-in-One+in_ok-push-in-One w ↦
          ap atoms w.atoms-is
          ∙ one_factor w.push.new.self (factors c.new-atoms.result) w.in_ok-factor-in-One.field-0 w.in-One.x (filled (sum_of_variables (sort_variables Γ)) (type_at Γ w.in-One.x))
          c.new-atoms.ensures w.in_ok-push-in-One.ensures.ok w.in_ok-factor-in-One.ensures.head (w.in_ok-factor-in-One.ensures.args ∙ args w.in-One.x)
          ∙ sym (ap (factors_at Γ) w.in-One.is)
      | in-Two+in_ok-factor-in-Two+in_ok-push-in-Two+in_ok-factor-in-Two-2+in_ok-push-in-Two-2 w ↦
          ap atoms w.atoms-is
          ∙ two_factors w.push-in-Two-2.new.self (factors c.new-atoms.result) (factors w.push-in-Two.new.self) w.in_ok-factor-in-Two.field-0 w.in_ok-factor-in-Two-2.field-0
          w.in-Two.x w.in-Two.y (filled (sum_of_variables (sort_variables Γ)) (type_at Γ w.in-Two.x)) (filled (sum_of_variables (sort_variables Γ)) (type_at Γ w.in-Two.y))
          c.new-atoms.ensures w.in_ok-push-in-Two.ensures.ok w.in_ok-push-in-Two-2.ensures.ok w.in_ok-factor-in-Two.ensures.head (w.in_ok-factor-in-Two.ensures.args ∙ args w.in-Two.x)
          w.in_ok-factor-in-Two-2.ensures.head (w.in_ok-factor-in-Two-2.ensures.args ∙ args w.in-Two.y)
          ∙ sym (ap (factors_at Γ) w.in-Two.is)
    ]
