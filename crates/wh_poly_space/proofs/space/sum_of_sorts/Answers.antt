use Rattle.std.proofs.Common.{◌≡◌, ◌+◌, drop, sym, subst, ◌∙◌}
use Rattle.wh_types.specs.Erase.{tys}
use Rattle.wh_poly.specs.Arithmetic.{followed_by}
use Rattle.wh_poly.specs.Erase.{monomials, sum_of}
use Rattle.wh_poly_space.specs.Space.{sort_variables, sum_of_variables}
use Rattle.wh_poly_space.proofs.BuildLemmas.{left_over, sum_takes, sum_passes, sum_ended}
use Rattle.wh_poly_space.proofs.space.sum_of_sorts.Goals as goal
use Rattle.wh_poly_space.proofs.space.sum_of_sorts.Goals.{then-is_sort+in_ok-single+in_ok-push, else-is_sort}

pub loop-x-preserved : goal.loop-x-preserved
loop-x-preserved c =
    let scope = c.args.scope.now in
    let whole = sum_of_variables (sort_variables (tys scope)) in
    let out = monomials c.loop-x.sum in
    let x = c.loop-x.x in
    let k = c.index-scope-x.result in
    elim c.if-is_sort.branch [
      | then-is_sort+in_ok-single+in_ok-push w ↦
          subst (λ p. followed_by (sum_of (monomials p)) (left_over (x + 1) (drop (x + 1) scope)) ≡ whole) (sym w.sum-is)
          (sum_takes whole out scope x k c.loop-x-test.true c.index-scope-x.is c.loop-x.invariant (monomials w.push.new.self) _
          (sym c.is_sort.ensures ∙ w.if-is_sort.true) w.in_ok-push.ensures.ok w.in_ok-single.ensures.coefficient w.in_ok-single.ensures.factors)
      | else-is_sort w ↦
          subst (λ p. followed_by (sum_of (monomials p)) (left_over (x + 1) (drop (x + 1) scope)) ≡ whole) (sym w.sum-is)
          (sum_passes whole out scope x k c.loop-x-test.true c.index-scope-x.is c.loop-x.invariant (sym c.is_sort.ensures ∙ w.if-is_sort.false))
    ]

pub returns : goal.returns
returns c = sum_ended (sum_of_variables (sort_variables (tys c.args.scope.now))) c.loop-x.sum c.args.scope.now c.loop-x.x c.loop-x-test.false c.loop-x.invariant
