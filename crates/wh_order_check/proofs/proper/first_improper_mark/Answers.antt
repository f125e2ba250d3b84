use Rattle.std.proofs.Common.{◌<◌, ◌≤◌, length, map, refl, ap, sym, subst, ◌∙◌}
use Rattle.wh_types.specs.Ty.{arguments}
use Rattle.wh_system.specs.SystemView.{system_data}
use Rattle.wh_pairs.proofs.ByPlace.{before_more, map_length}
use Rattle.wh_order_inference.specs.Said.{written_filter}
use Rattle.wh_polycheck.specs.Marks.{marked_types}
use Rattle.wh_polycheck.proofs.MoreInterpretations.{arguments_of_arrows}
use Rattle.wh_order_node.specs.FilteringView.{mark_filter}
use Rattle.wh_order_node.specs.Filterings.{IsProperAsWritten}
use Rattle.wh_poly_covering.proofs.Walks.{at_each}
use Rattle.wh_order_check.proofs.NarrowTypes.{few_of_mark}
use Rattle.wh_order_check.proofs.ReadAt.{read_of}
use Rattle.wh_order_check.proofs.proper.first_improper_mark.Goals as goal

pub is_proper-requires : goal.is_proper-requires
is_proper-requires c =
    let d = system_data c.args.system.now in
    subst (λ a. length (arguments a) < 4294967296) (sym c.in_ok-kind.ensures)
    (few_of_mark d.symbols d.rules c.mark-item.result.symbol c.is_well_made.ensures.symbol_types)

pub returns-then-not-is_proper : goal.returns-then-not-is_proper
returns-then-not-is_proper c =
    let d = system_data c.args.system.now in
    let x = c.mark-item.result in
    let i = c.loop-mark.mark-index in
    let scope = ap arguments c.in_ok-kind.ensures ∙ arguments_of_arrows (marked_types d.symbols d.rules x.symbol) 0 in (
      i,
      mark_filter x,
      read_of mark_filter c.as_slice-mark-items.result.now (map mark_filter c.args.filters.now.marks) i x
          (ap (λ l. map mark_filter l) c.as_slice-mark-items.ensures) c.loop-mark-test.true c.mark-item.is,
      refl,
      (λ proper. cc (c.is_proper.ensures.1 (subst (λ Γ. IsProperAsWritten Γ (written_filter x.filter)) (sym scope) proper), c.if-not-is_proper.true)),
      c.loop-mark.invariant,
    )

pub loop-mark-preserved : goal.loop-mark-preserved
loop-mark-preserved c =
    let d = system_data c.args.system.now in
    let x = c.mark-item.result in
    let i = c.loop-mark.mark-index in
    let scope = ap arguments c.in_ok-kind.ensures ∙ arguments_of_arrows (marked_types d.symbols d.rules x.symbol) 0 in
    before_more (λ u. IsProperAsWritten (marked_types d.symbols d.rules u.symbol) u.filter) (map mark_filter c.args.filters.now.marks) i
    (mark_filter x) c.loop-mark.invariant
    (read_of mark_filter c.as_slice-mark-items.result.now (map mark_filter c.args.filters.now.marks) i x
    (ap (λ l. map mark_filter l) c.as_slice-mark-items.ensures) c.loop-mark-test.true c.mark-item.is)
    (subst (λ Γ. IsProperAsWritten Γ (written_filter x.filter)) scope (c.is_proper.ensures.0 c.if-not-is_proper.false))

pub returns : goal.returns
returns c i m at =
    let d = system_data c.args.system.now in
    let marks = c.args.filters.now.marks in
    at_each (λ u. IsProperAsWritten (marked_types d.symbols d.rules u.symbol) u.filter) (map mark_filter marks) c.loop-mark.mark-index
    c.loop-mark.invariant
    (map_length mark_filter marks c.loop-mark.mark-index
    (subst (λ l. length l ≤ c.loop-mark.mark-index) c.as_slice-mark-items.ensures c.loop-mark-test.false)) i m at
