use Rattle.std.proofs.Common.{◌≡◌, ◌<◌, Some, slice_get, length, map, subst, ap, ◌∙◌, arith, inl, inr}
use Rattle.std.proofs.lemmas.List.{length-map}
use Rattle.std.proofs.lemmas.List.Elements.{All-contains}
use Rattle.std.proofs.lemmas.Option.{slice_get_within}
use Rattle.wh_types.specs.Erase.{ty}
use Rattle.wh_types.specs.Ty.{Ty, arguments}
use Rattle.wh_terms.specs.Typing.{Symbols}
use Rattle.wh_system.specs.SystemView.{system_data}
use Rattle.wh_system.specs.WellMade.{IsTypeOver}
use Rattle.wh_pairs.proofs.ByPlace.{some_one, same_or_below, contains_at}
use Rattle.wh_order_inference.specs.Said.{written_filter}
use Rattle.wh_order_inference.specs.FilterText.{WrittenFilter}
use Rattle.wh_order_node.specs.Filterings.{IsProperAsWritten}
use Rattle.wh_order_check.proofs.NarrowTypes.{few_of_type}
use Rattle.wh_order_check.proofs.ReadAt.{read_of}
use Rattle.wh_order_check.proofs.proper.first_improper.Goals as goal

pub is_proper-requires : goal.is_proper-requires
is_proper-requires c =
    let S = (system_data c.args.system.now).symbols in
    let kinds = c.as_slice-kinds.result.now in
    let i = c.loop-i.i in
    let x = c.index-kinds-i.result in
    let same = ap (λ l. map ty l) c.as_slice-kinds.ensures ∙ ap (λ (S : Symbols). S.funs) c.signature.ensures in
    let within : i < length kinds = omega (arith, c.loop-i-test.true, ap length c.as_slice-filter-items.ensures, c.requires, ap length same, length-map kinds ty) in
    few_of_type S.sorts (ty x) (All-contains (IsTypeOver S.sorts) S.funs (ty x) c.is_well_made.ensures.symbol_types
    (contains_at S.funs i (ty x) (read_of ty kinds S.funs i x same within c.index-kinds-i.is)))

pub returns-then-not-is_proper : goal.returns-then-not-is_proper
returns-then-not-is_proper c =
    let S = (system_data c.args.system.now).symbols in
    let kinds = c.as_slice-kinds.result.now in
    let items = c.as_slice-filter-items.result.now in
    let i = c.loop-i.i in
    let same = ap (λ l. map ty l) c.as_slice-kinds.ensures ∙ ap (λ (S : Symbols). S.funs) c.signature.ensures in
    let within : i < length kinds = omega (arith, c.loop-i-test.true, ap length c.as_slice-filter-items.ensures, c.requires, ap length same, length-map kinds ty) in (
      ty c.index-kinds-i.result,
      written_filter c.filter-item.result,
      read_of ty kinds S.funs i c.index-kinds-i.result same within c.index-kinds-i.is,
      read_of written_filter items (map written_filter c.args.filters.now.funs) i c.filter-item.result
          (ap (λ l. map written_filter l) c.as_slice-filter-items.ensures) c.loop-i-test.true c.filter-item.is,
      (λ proper. cc (c.is_proper.ensures.1 proper, c.if-not-is_proper.true)),
      c.loop-i.invariant,
    )

pub loop-i-preserved : goal.loop-i-preserved
loop-i-preserved c g b u below at also =
    let S = (system_data c.args.system.now).symbols in
    let kinds = c.as_slice-kinds.result.now in
    let items = c.as_slice-filter-items.result.now in
    let filters = map written_filter c.args.filters.now.funs in
    let i = c.loop-i.i in
    let same = ap (λ l. map ty l) c.as_slice-kinds.ensures ∙ ap (λ (S : Symbols). S.funs) c.signature.ensures in
    let within : i < length kinds = omega (arith, c.loop-i-test.true, ap length c.as_slice-filter-items.ensures, c.requires, ap length same, length-map kinds ty) in
    let kind_at = read_of ty kinds S.funs i c.index-kinds-i.result same within c.index-kinds-i.is in
    let filter_at = read_of written_filter items filters i c.filter-item.result (ap (λ l. map written_filter l) c.as_slice-filter-items.ensures) c.loop-i-test.true c.filter-item.is in
    elim (same_or_below g i below) [
      | inr less ↦ c.loop-i.invariant g b u less at also
      | inl here ↦
          let kind = some_one kind_at (subst (λ k. slice_get S.funs k ≡ Some b) here at) in
          let filter = some_one filter_at (subst (λ k. slice_get filters k ≡ Some u) here also) in
          subst (λ (a : Ty). IsProperAsWritten (arguments a) u) kind
          (subst (λ (x : WrittenFilter). IsProperAsWritten (arguments (ty c.index-kinds-i.result)) x) filter
          (c.is_proper.ensures.0 c.if-not-is_proper.false))
    ]

pub returns : goal.returns
returns c f a w at also =
    let filters = c.args.filters.now.funs in
    let within = slice_get_within (map written_filter filters) f w also in
    c.loop-i.invariant f a w
    (omega (arith, within, length-map filters written_filter, ap length c.as_slice-filter-items.ensures, c.loop-i-test.false)) at also
