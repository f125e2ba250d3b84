use Rattle.std.proofs.Common.{◌≡◌, ◌==◌, true, List, length, ap, sym, subst, ◌∙◌, arith, tests, eq-eqb}
use Rattle.wh_terms.specs.Erase.{declared_metas, symbols}
use Rattle.wh_terms.specs.declared.term.Term.{Term}
use Rattle.wh_terms.proofs.TermLemmas.{tm_of_meta}
use Rattle.wh_usable_first_order.specs.FirstOrder.{IsFlatTree}
use Rattle.wh_usable.proofs.FlatSides.{flat_if, flat_then}
use Rattle.wh_usable.proofs.sides.+is_flat.Goals as goal

pub returns-then-is_empty : goal.returns-then-is_empty
returns-then-is_empty t c =
    let S = symbols c.args.signature.now in
    let M = declared_metas c.args.metas.now in
    let is = tm_of_meta c.args.term.now c.in-Meta.meta c.in-Meta.items c.in-Meta.is in
    let empty : (length c.as_slice.result.now == 0) ≡ true = sym c.is_empty.ensures ∙ c.if-is_empty.true in
    let short : length c.as_slice.result.now ≡ 0 = grind (arith, tests, empty) in
    let none : length c.in-Meta.items ≡ 0 = ap (λ (l : List Term). length l) (sym c.as_slice.ensures) ∙ short in (
      λ yes. subst (IsFlatTree S M) (sym is) (flat_if S M c.in-Meta.meta c.in-Meta.items none (c.is_nullary.ensures.0 yes)),
      λ flat. c.is_nullary.ensures.1 (flat_then S M c.in-Meta.meta c.in-Meta.items (subst (IsFlatTree S M) is flat)).1,
    )

pub returns-else-is_empty : goal.returns-else-is_empty
returns-else-is_empty t c =
    let S = symbols c.args.signature.now in
    let M = declared_metas c.args.metas.now in
    let is = tm_of_meta c.args.term.now c.in-Meta.meta c.in-Meta.items c.in-Meta.is in (
      λ yes. absurd (cc (yes, c.if-is_empty.false)),
      λ flat. (let none = (flat_then S M c.in-Meta.meta c.in-Meta.items (subst (IsFlatTree S M) is flat)).0 in
          c.is_empty.ensures ∙ eq-eqb _ _ (ap (λ (l : List Term). length l) c.as_slice.ensures ∙ none)),
    )
