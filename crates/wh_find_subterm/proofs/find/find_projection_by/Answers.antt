use Rattle.std.proofs.Common.{List, ℕ, ◌≡◌, ◌+◌, ◌<◌, false, length, get_or, map, All, sym, ap, subst, ◌∙◌}
use Rattle.std.proofs.lemmas.List.{length-map}
use Rattle.wh_pairs.specs.PairData.{IsIncreasing, pair_data}
use Rattle.wh_system.specs.SystemView.{system_data}
use Rattle.wh_pairs.specs.declared.pair.Pair as code
use Rattle.wh_sat.specs.Outcomes.{IsOutcome}
use Rattle.wh_sat.specs.Solving.{Solves}
use Rattle.wh_pairs.specs.Marked.{AreMarked}
use Rattle.wh_subterm.specs.SubtermRows.{chosen}
use Rattle.wh_find_subterm.specs.declared.rows.Row.{Row}
use Rattle.wh_find_subterm.specs.Formula.{IsFormula}
use Rattle.wh_find_subterm.specs.Reading.{IsBelowSet, chosen_by}
use Rattle.wh_find_subterm.proofs.RowsMade.{AreRows, any_within, each_below, each_within, projections_made, symbols_rising}
use Rattle.wh_find_subterm.proofs.Answering.{found_answer, nothing_answer, within_made}
use Rattle.wh_find_subterm.proofs.find.find_projection_by.Goals as goal

pub formula_of-requires-clause-each : goal.formula_of-requires-clause-each
formula_of-requires-clause-each c =
    let rules = (system_data c.args.system.now).rules in
    let rows : AreRows rules c.deref.result.now c.in_ok-rows.rows.items.items c.in_ok-rows.rows.end = record { items_are = c.in_ok-rows.ensures.items; end_is = c.in_ok-rows.ensures.end } in
    each_within rows

pub formula_of-requires-clause-rows : goal.formula_of-requires-clause-rows
formula_of-requires-clause-rows c =
    let rules = (system_data c.args.system.now).rules in
    let rows : AreRows rules c.deref.result.now c.in_ok-rows.rows.items.items c.in_ok-rows.rows.end = record { items_are = c.in_ok-rows.ensures.items; end_is = c.in_ok-rows.ensures.end } in
    any_within rows

pub solve_owned-requires : goal.solve_owned-requires
solve_owned-requires c =
    let rules = (system_data c.args.system.now).rules in
    let rows : AreRows rules c.deref.result.now c.in_ok-rows.rows.items.items c.in_ok-rows.rows.end = record { items_are = c.in_ok-rows.ensures.items; end_is = c.in_ok-rows.ensures.end } in
    let ps = map pair_data c.args.pairs.now in
    let set = c.args.set.now in
    let items = c.in_ok-rows.rows.items.items in
    let end = c.in_ok-rows.rows.end in
    let n = c.in_ok-formula.formula.variables in
    let clauses = c.in_ok-formula.formula.clauses in
    let marked : AreMarked ps set c.deref.result.now = subst (AreMarked ps set) (sym c.deref.ensures.value) c.in_ok-symbols.ensures in
    let formula : IsFormula items end ps set n clauses =
    subst (λ (qs : List code.Pair). IsFormula items end (map pair_data qs) set n clauses) c.as_slice.ensures
    (subst (λ (ns : List ℕ). IsFormula items end (map pair_data c.as_slice.result.now) ns n clauses) c.as_slice-2.ensures.numbers c.in_ok-formula.ensures.formula) in
    within_made ps set n clauses rows marked formula

pub read_model-requires-clause-rows : goal.read_model-requires-clause-rows
read_model-requires-clause-rows c =
    let rules = (system_data c.args.system.now).rules in
    let rows : AreRows rules c.deref.result.now c.in_ok-rows.rows.items.items c.in_ok-rows.rows.end = record { items_are = c.in_ok-rows.ensures.items; end_is = c.in_ok-rows.ensures.end } in
    let ps = map pair_data c.args.pairs.now in
    let set = c.args.set.now in
    let items = c.in_ok-rows.rows.items.items in
    let end = c.in_ok-rows.rows.end in
    let n = c.in_ok-formula.formula.variables in
    let clauses = c.in_ok-formula.formula.clauses in
    let marked : AreMarked ps set c.deref.result.now = subst (AreMarked ps set) (sym c.deref.ensures.value) c.in_ok-symbols.ensures in
    let formula : IsFormula items end ps set n clauses =
    subst (λ (qs : List code.Pair). IsFormula items end (map pair_data qs) set n clauses) c.as_slice.ensures
    (subst (λ (ns : List ℕ). IsFormula items end (map pair_data c.as_slice.result.now) ns n clauses) c.as_slice-2.ensures.numbers c.in_ok-formula.ensures.formula) in
    let outcome = subst (IsOutcome n clauses c.args.budget) c.in-Sat.is c.in_ok-values.ensures in
    let count : length c.deref-in-Sat.result.now ≡ end + length set = ap length c.deref-in-Sat.ensures.value ∙ outcome.1 ∙ formula.count in
    subst (λ (rs : List Row). All (λ (r : Row). r.first + r.need < length c.deref-in-Sat.result.now) rs) (sym c.deref-in-Sat-2.ensures.value)
    (each_below set (length c.deref-in-Sat.result.now) rows c.requires.some count)

pub read_model-requires-clause-symbols : goal.read_model-requires-clause-symbols
read_model-requires-clause-symbols c =
    let rules = (system_data c.args.system.now).rules in
    let rows : AreRows rules c.deref.result.now c.in_ok-rows.rows.items.items c.in_ok-rows.rows.end = record { items_are = c.in_ok-rows.ensures.items; end_is = c.in_ok-rows.ensures.end } in
    let ps = map pair_data c.args.pairs.now in
    let set = c.args.set.now in
    let items = c.in_ok-rows.rows.items.items in
    let end = c.in_ok-rows.rows.end in
    let n = c.in_ok-formula.formula.variables in
    let clauses = c.in_ok-formula.formula.clauses in
    let marked : AreMarked ps set c.deref.result.now = subst (AreMarked ps set) (sym c.deref.ensures.value) c.in_ok-symbols.ensures in
    let formula : IsFormula items end ps set n clauses =
    subst (λ (qs : List code.Pair). IsFormula items end (map pair_data qs) set n clauses) c.as_slice.ensures
    (subst (λ (ns : List ℕ). IsFormula items end (map pair_data c.as_slice.result.now) ns n clauses) c.as_slice-2.ensures.numbers c.in_ok-formula.ensures.formula) in
    subst (λ (rs : List Row). IsIncreasing (map (λ (r : Row). r.symbol) rs)) (sym c.deref-in-Sat-2.ensures.value) (symbols_rising rows marked.in_order)

pub returns-in-Sat : goal.returns-in-Sat
returns-in-Sat c =
    let rules = (system_data c.args.system.now).rules in
    let rows : AreRows rules c.deref.result.now c.in_ok-rows.rows.items.items c.in_ok-rows.rows.end = record { items_are = c.in_ok-rows.ensures.items; end_is = c.in_ok-rows.ensures.end } in
    let ps = map pair_data c.args.pairs.now in
    let set = c.args.set.now in
    let items = c.in_ok-rows.rows.items.items in
    let end = c.in_ok-rows.rows.end in
    let n = c.in_ok-formula.formula.variables in
    let clauses = c.in_ok-formula.formula.clauses in
    let marked : AreMarked ps set c.deref.result.now = subst (AreMarked ps set) (sym c.deref.ensures.value) c.in_ok-symbols.ensures in
    let formula : IsFormula items end ps set n clauses =
    subst (λ (qs : List code.Pair). IsFormula items end (map pair_data qs) set n clauses) c.as_slice.ensures
    (subst (λ (ns : List ℕ). IsFormula items end (map pair_data c.as_slice.result.now) ns n clauses) c.as_slice-2.ensures.numbers c.in_ok-formula.ensures.formula) in
    let outcome = subst (IsOutcome n clauses c.args.budget) c.in-Sat.is c.in_ok-values.ensures in
    let args = map chosen c.in_ok-found-in-Sat.found.args in
    let drop = c.in_ok-found-in-Sat.found.drop in
    let within = subst (λ (m : ℕ). All (λ (k : ℕ). k < m) set) (sym (length-map c.args.pairs.now pair_data)) c.requires.set in
    let solves = subst (λ vs. Solves (λ (x : ℕ). get_or vs x false) clauses) (sym c.deref-in-Sat.ensures.value) outcome.2 in
    let gathered : IsBelowSet ps set args (length set) drop =
    subst (λ (qs : List code.Pair). IsBelowSet (map pair_data qs) set args (length set) drop) c.as_slice-in-Sat.ensures
    (subst (λ (ns : List ℕ). IsBelowSet (map pair_data c.as_slice-in-Sat.result.now) ns args (length ns) drop) c.as_slice-in-Sat-2.ensures.numbers c.in_ok-found-in-Sat.ensures.drop) in
    let v = λ (x : ℕ). get_or c.deref-in-Sat.result.now x false in
    let answer = found_answer ps set n clauses v args drop within rows marked formula solves (c.in_ok-found-in-Sat.ensures.args ∙ ap (chosen_by v) c.deref-in-Sat-2.ensures.value) gathered in
    (outcome.0, answer.0, answer.1)

pub returns-in-Unsat : goal.returns-in-Unsat
returns-in-Unsat c =
    let rules = (system_data c.args.system.now).rules in
    let rows : AreRows rules c.deref.result.now c.in_ok-rows.rows.items.items c.in_ok-rows.rows.end = record { items_are = c.in_ok-rows.ensures.items; end_is = c.in_ok-rows.ensures.end } in
    let ps = map pair_data c.args.pairs.now in
    let set = c.args.set.now in
    let items = c.in_ok-rows.rows.items.items in
    let end = c.in_ok-rows.rows.end in
    let n = c.in_ok-formula.formula.variables in
    let clauses = c.in_ok-formula.formula.clauses in
    let marked : AreMarked ps set c.deref.result.now = subst (AreMarked ps set) (sym c.deref.ensures.value) c.in_ok-symbols.ensures in
    let formula : IsFormula items end ps set n clauses =
    subst (λ (qs : List code.Pair). IsFormula items end (map pair_data qs) set n clauses) c.as_slice.ensures
    (subst (λ (ns : List ℕ). IsFormula items end (map pair_data c.as_slice.result.now) ns n clauses) c.as_slice-2.ensures.numbers c.in_ok-formula.ensures.formula) in
    let outcome = subst (IsOutcome n clauses c.args.budget) c.in-Unsat.is c.in_ok-values.ensures in
    let within = subst (λ (m : ℕ). All (λ (k : ℕ). k < m) set) (sym (length-map c.args.pairs.now pair_data)) c.requires.set in
    (outcome.0, nothing_answer rules ps set n clauses within (projections_made ps set n clauses rows marked formula) outcome.1)
