use Rattle.std.proofs.Common.{◌≡◌, ap, ◌∙◌}
use Rattle.wh_types.specs.Erase.{ty}
use Rattle.wh_types.specs.Ty.{◌⇒◌}
use Rattle.wh_usable_first_order.proofs.TypeReads.{first_there, some_number}
use Rattle.wh_usable_first_order.proofs.kinds.+first_are_sorts.Goals as goal

pub returns-else-is_sort : goal.returns-else-is_sort
returns-else-is_sort t c =
    let first = ty c.in-Arrow.first.value in
    let rest = ty c.in-Arrow.rest.value in
    let is : ty c.args.kind.now ≡ (first ⇒ rest) = ap ty c.in-Arrow.is in (
      λ yes. absurd (cc (yes, c.if-is_sort.false)),
      λ all. (let (s, e) = (first_there (ty c.args.kind.now) first rest c.args.count is (some_number c.args.count c.if-count-eq0.false) all).0 in
          c.is_sort.ensures.1 (s, ap ty c.deref.ensures ∙ e)),
    )
