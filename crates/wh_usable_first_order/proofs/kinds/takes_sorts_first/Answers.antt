use Rattle.std.proofs.Common.{List, take, sym, subst, refl}
use Rattle.wh_types.specs.declared.simple_type.SimpleType.{SimpleType}
use Rattle.wh_types.specs.Erase.{tys}
use Rattle.wh_types.specs.Ty.{arguments}
use Rattle.wh_hopoly.specs.Evaluation.{type_at}
use Rattle.wh_usable_first_order.specs.FirstOrder.{AreSorts}
use Rattle.wh_usable_first_order.proofs.TypeReads.{first_symbol, first_past}
use Rattle.wh_usable_first_order.proofs.kinds.takes_sorts_first.Goals as goal

pub returns-in-Some : goal.returns-in-Some
returns-in-Some c =
    let same = first_symbol c.as_slice.result.now c.args.symbol c.args.count c.in-Some.kind.now c.in-Some.ensures.lookup.3.0 c.in-Some.ensures.lookup.1 in
    let P = λ (ks : List SimpleType). AreSorts (take c.args.count (arguments (type_at (tys ks) c.args.symbol))) in (
      λ yes. subst P c.as_slice.ensures (same.0 (c.first_are_sorts.ensures.0 yes)),
      λ all. c.first_are_sorts.ensures.1 (same.1 (subst P (sym c.as_slice.ensures) all)),
    )

pub returns-in-None : goal.returns-in-None
returns-in-None c = (
  λ yes. subst (λ (ks : List SimpleType). AreSorts (take c.args.count (arguments (type_at (tys ks) c.args.symbol)))) c.as_slice.ensures
      (first_past c.as_slice.result.now c.args.symbol c.args.count c.in-None.ensures.lookup.3),
  λ all. refl,
)
