use Rattle.std.proofs.Common.{◌≡◌, ap, sym, subst, ◌∙◌}
use Rattle.wh_types.specs.Erase.{ty}
use Rattle.wh_types.specs.Ty.{◌⇒◌, arguments}
use Rattle.wh_usable_first_order.specs.FirstOrder.{AreSorts}
use Rattle.wh_usable_first_order.proofs.TypeReads.{arguments_there, arguments_if}
use Rattle.wh_usable_first_order.proofs.kinds.+takes_sorts.Goals as goal

pub returns-then-is_sort : goal.returns-then-is_sort
returns-then-is_sort t c =
    let kind = ty c.args.kind.now in
    let first = ty c.in-Arrow.first.value in
    let rest = ty c.in-Arrow.rest.value in
    let is : kind ≡ (first ⇒ rest) = ap ty c.in-Arrow.is in
    let read = ap ty c.deref-then-is_sort.ensures in (
      λ yes. (let (s, e) = c.is_sort.ensures.0 c.if-is_sort.true in
          arguments_if kind first rest s is (sym (ap ty c.deref.ensures) ∙ e) (subst (λ k. AreSorts (arguments k)) read (c.takes_sorts.ensures.0 yes))),
      λ all. c.takes_sorts.ensures.1 (subst (λ k. AreSorts (arguments k)) (sym read) (arguments_there kind first rest is all).1),
    )

pub returns-else-is_sort : goal.returns-else-is_sort
returns-else-is_sort t c =
    let is : ty c.args.kind.now ≡ (ty c.in-Arrow.first.value ⇒ ty c.in-Arrow.rest.value) = ap ty c.in-Arrow.is in (
      λ yes. absurd (cc (yes, c.if-is_sort.false)),
      λ all. (let (s, e) = (arguments_there _ _ _ is all).0 in c.is_sort.ensures.1 (s, ap ty c.deref.ensures ∙ e)),
    )
