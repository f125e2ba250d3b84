use Rattle.std.proofs.Common.{◌≡◌, ◌==◌, true, List, length, ap, sym, ◌∙◌, arith, tests, eq-eqb}
use Rattle.wh_types.specs.declared.simple_type.SimpleType.{SimpleType}
use Rattle.wh_pairs.proofs.ByPlace.{read}
use Rattle.wh_usable_first_order.proofs.TypeReads.{nullary_there, nullary_if, nullary_within}
use Rattle.wh_usable_first_order.proofs.kinds.is_nullary.Goals as goal

pub returns-then-is_empty : goal.returns-then-is_empty
returns-then-is_empty c =
    let metas = c.args.metas.now in
    let d = c.in-Some.declared.now in
    let at = read metas c.args.meta d c.in-Some.ensures.lookup.3.0 c.in-Some.ensures.lookup.1 in
    let empty : (length c.as_slice.result.now == 0) ≡ true = sym c.is_empty.ensures ∙ c.if-is_empty.true in
    let short : length c.as_slice.result.now ≡ 0 = grind (arith, tests, empty) in
    let none : length d.args ≡ 0 = ap (λ (l : List SimpleType). length l) (sym c.as_slice.ensures) ∙ short in (
      λ yes. (let (s, is) = c.is_sort.ensures.0 yes in nullary_if metas c.args.meta d s at none is),
      λ nullary. c.is_sort.ensures.1 (nullary_there metas c.args.meta d at nullary).1,
    )

pub returns-else-is_empty : goal.returns-else-is_empty
returns-else-is_empty c =
    let metas = c.args.metas.now in
    let d = c.in-Some.declared.now in
    let at = read metas c.args.meta d c.in-Some.ensures.lookup.3.0 c.in-Some.ensures.lookup.1 in (
      λ yes. absurd (cc (yes, c.if-is_empty.false)),
      λ nullary. (let none = (nullary_there metas c.args.meta d at nullary).0 in
          c.is_empty.ensures ∙ eq-eqb _ _ (ap (λ (l : List SimpleType). length l) c.as_slice.ensures ∙ none)),
    )

pub returns-in-None : goal.returns-in-None
returns-in-None c = (λ yes. absurd (cc yes), λ nullary. absurd (nullary_within c.args.metas.now c.args.meta c.in-None.ensures.lookup.3 nullary))
