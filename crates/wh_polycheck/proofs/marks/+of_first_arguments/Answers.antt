-- One argument, and then the others.
use Rattle.std.proofs.Common.{◌≡◌, ◌<◌, ◌-◌, ap, ap₂, sym, ◌∙◌, subst, IfOk, take, arith}
use Rattle.wh_types.specs.Erase.{ty}
use Rattle.wh_types.specs.Ty.{Ty, ◌⇒◌, sort, arguments}
use Rattle.wh_polycheck.specs.Sides.{arrows}
use Rattle.wh_polycheck.proofs.Pushes.{one_taken}
use Rattle.wh_polycheck.proofs.marks.+of_first_arguments.Goals as goal

pub returns-in_ok-of_first_arguments-in-Arrow : goal.returns-in_ok-of_first_arguments-in-Arrow
returns-in_ok-of_first_arguments-in-Arrow t c =
    let A = ty c.in-Arrow.first.value in
    let B = ty c.in-Arrow.rest.value in
    let some : 0 < c.args.need = omega arith in
    let first : ty c.in_ok-first-in-Arrow.first ≡ A = c.in_ok-first-in-Arrow.ensures ∙ ap ty c.deref.ensures in
    let rest : ty c.in_ok-of_first_arguments-in-Arrow.field-0 ≡ arrows (take (c.args.need - 1) (arguments B)) (sort 0) =
    c.in_ok-of_first_arguments-in-Arrow.ensures
    ∙ ap (λ x. arrows (take (c.args.need - 1) (arguments (ty x))) (sort 0)) c.deref-in-Arrow.ensures in
    let whole : ty c.in_ok-first-in-Arrow.first ⇒ ty c.in_ok-of_first_arguments-in-Arrow.field-0
    ≡ arrows (take c.args.need (arguments (ty c.args.kind.now))) (sort 0) =
    ap₂ (λ a b. a ⇒ b) first rest
    ∙ sym (ap (λ k. arrows (take c.args.need (arguments (ty k))) (sort 0)) c.in-Arrow.is ∙ one_taken c.args.need A B (sort 0) some) in
    subst (λ (b : Ty). IfOk c.arrow.result (λ r. ty r ≡ b)) whole c.arrow.ensures
