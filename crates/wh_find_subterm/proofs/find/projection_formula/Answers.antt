use Rattle.std.proofs.Common.{List, ℕ, map, sym, subst}
use Rattle.wh_terms.proofs.Results.{IfOk-map}
use Rattle.wh_pairs.specs.PairData.{pair_data}
use Rattle.wh_system.specs.SystemView.{system_data}
use Rattle.wh_pairs.specs.declared.pair.Pair as code
use Rattle.wh_pairs.specs.Marked.{AreMarked}
use Rattle.wh_sat_trail.specs.declared.formula.Formula.{Formula}
use Rattle.wh_sat_trail.specs.Propagation.{Within}
use Rattle.wh_find_subterm.specs.Formula.{IsFormula, IsProjections}
use Rattle.wh_find_subterm.proofs.RowsMade.{AreRows, any_within, each_within, projections_made}
use Rattle.wh_find_subterm.proofs.Answering.{within_made}
use Rattle.wh_find_subterm.proofs.find.projection_formula.Goals as goal

pub formula_of-requires-clause-each : goal.formula_of-requires-clause-each
formula_of-requires-clause-each c =
    let rules = (system_data c.args.system.now).rules in
    let rows : AreRows rules c.deref.result.now c.in_ok-rows.rows.items.items c.in_ok-rows.rows.end = record { items_are = c.in_ok-rows.ensures.items; end_is = c.in_ok-rows.ensures.end } in
    each_within rows

pub formula_of-requires-clause-rows : goal.formula_of-requires-clause-rows
formula_of-requires-clause-rows c =
    let rules = (system_data c.args.system.now).rules in
    let rows : AreRows rules c.deref.result.now c.in_ok-rows.rows.items.items c.in_ok-rows.rows.end = record { items_are = c.in_ok-rows.ensures.items; end_is = c.in_ok-rows.ensures.end } in
    any_within rows

pub returns-clause-formula : goal.returns-clause-formula
returns-clause-formula c =
    let rules = (system_data c.args.system.now).rules in
    let rows : AreRows rules c.deref.result.now c.in_ok-rows.rows.items.items c.in_ok-rows.rows.end = record { items_are = c.in_ok-rows.ensures.items; end_is = c.in_ok-rows.ensures.end } in
    let ps = map pair_data c.args.pairs.now in
    let set = c.args.set.now in
    let items = c.in_ok-rows.rows.items.items in
    let end = c.in_ok-rows.rows.end in
    let marked : AreMarked ps set c.deref.result.now = subst (AreMarked ps set) (sym c.deref.ensures.value) c.in_ok-symbols.ensures in
    IfOk-map (λ (made : Formula). IsFormula items end (map pair_data c.as_slice.result.now) c.as_slice-2.result.now made.variables made.clauses)
    (λ made. IsProjections rules ps set made.variables made.clauses) c.formula_of.result
    (λ made f. projections_made ps set made.variables made.clauses rows marked
    (subst (λ (qs : List code.Pair). IsFormula items end (map pair_data qs) set made.variables made.clauses) c.as_slice.ensures
    (subst (λ (ns : List ℕ). IsFormula items end (map pair_data c.as_slice.result.now) ns made.variables made.clauses) c.as_slice-2.ensures.numbers f)))
    c.formula_of.ensures.formula

pub returns-clause-within : goal.returns-clause-within
returns-clause-within c =
    let rules = (system_data c.args.system.now).rules in
    let rows : AreRows rules c.deref.result.now c.in_ok-rows.rows.items.items c.in_ok-rows.rows.end = record { items_are = c.in_ok-rows.ensures.items; end_is = c.in_ok-rows.ensures.end } in
    let ps = map pair_data c.args.pairs.now in
    let set = c.args.set.now in
    let items = c.in_ok-rows.rows.items.items in
    let end = c.in_ok-rows.rows.end in
    let marked : AreMarked ps set c.deref.result.now = subst (AreMarked ps set) (sym c.deref.ensures.value) c.in_ok-symbols.ensures in
    IfOk-map (λ (made : Formula). IsFormula items end (map pair_data c.as_slice.result.now) c.as_slice-2.result.now made.variables made.clauses)
    (λ made. Within made.variables made.clauses) c.formula_of.result
    (λ made f. within_made ps set made.variables made.clauses rows marked
    (subst (λ (qs : List code.Pair). IsFormula items end (map pair_data qs) set made.variables made.clauses) c.as_slice.ensures
    (subst (λ (ns : List ℕ). IsFormula items end (map pair_data c.as_slice.result.now) ns made.variables made.clauses) c.as_slice-2.ensures.numbers f)))
    c.formula_of.ensures.formula
