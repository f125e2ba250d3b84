-- One variable more is made.
use Rattle.std.proofs.Common.{rules, ◌≡◌, suc, ◌+◌, ap, ap₂, sym, subst, ◌∙◌, arith, length}
use Rattle.wh_types.specs.Erase.{ty}
use Rattle.wh_types.specs.Ty.{◌⇒◌, arguments}
use Rattle.wh_poly.specs.Arithmetic.{atom}
use Rattle.wh_poly.specs.Added.{added, added_weight}
use Rattle.wh_poly.specs.Erase.{poly, list}
use Rattle.wh_poly.proofs.AddedLaws.{Adding, adding_steps, adding_ends}
use Rattle.wh_poly.proofs.variables.+added.Goals as goal

pub loop-here-preserved : goal.loop-here-preserved
loop-here-preserved t c =
    let A = ty c.in-Arrow.argument.value in
    let B = ty c.in-Arrow.rest.value in
    let n = c.args.count in
    let whole = added (ty c.args.kind.now) n c.args.first in
    let split : ty c.loop-here.here.now ≡ (A ⇒ B) = ap ty c.in-Arrow.is in
    let rest : ty c.deref-here.result.now ≡ B = ap ty c.deref-here.ensures in
    let more : c.in_ok-x.x ≡ c.loop-here.x + 1 = search rules in
    let after : suc c.loop-here.x ≡ c.in_ok-x.x = omega (arith, more) in
    let made : poly c.in_ok-one_factor.field-0 ≡ atom c.loop-here.x (added A (n + length (arguments A)) n) =
    c.in_ok-one_factor.ensures ∙ ap (atom c.loop-here.x) (c.in_ok-args.ensures
    ∙ ap₂ (λ A m. added A m n) (ap ty c.deref-in-Arrow.ensures) (c.in_ok-inner.ensures ∙ ap (λ kind. n + length (arguments (ty kind))) c.deref.ensures)) in
    record {
      adding = subst (λ B. Adding whole (list c.push.new.self) B n c.in_ok-x.x) (sym rest)
          (subst (Adding whole (list c.push.new.self) B n) after
          (adding_steps whole (list c.loop-here.out) (list c.push.new.self) A B n c.loop-here.x c.in_ok-one_factor.field-0
          (subst (λ T. Adding whole (list c.loop-here.out) T n c.loop-here.x) split c.loop-here.invariant.adding) c.in_ok-push.ensures.ok made));
      less = (let a = ap added_weight split in let b = ap added_weight rest in let l = c.loop-here.invariant.less in omega (arith, a, b, l));
    }

pub returns : goal.returns
returns t c =
    adding_ends (added (ty c.args.kind.now) c.args.count c.args.first) c.loop-here.out (ty c.loop-here.here.now) c.args.count c.loop-here.x _ (ap ty c.in_default.is) c.loop-here.invariant.adding
