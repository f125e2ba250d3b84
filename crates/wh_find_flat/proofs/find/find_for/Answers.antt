use Rattle.std.proofs.Common.{Bool, List, length, sym, subst}
use Rattle.wh_reduction_pairs.specs.TaskData.{TaskData}
use Rattle.wh_reduction_pairs.specs.TaskView.{task_data}
use Rattle.wh_sat.specs.Outcomes.{IsOutcome}
use Rattle.wh_sat.specs.Solving.{Solves}
use Rattle.wh_poly_guesses.specs.Conditions.{HasNoInterpretation}
use Rattle.wh_poly_guesses.proofs.NodeLemmas.{listing_is}
use Rattle.wh_poly_blocking.specs.Sizes.{value_of}
use Rattle.wh_find_flat.proofs.Flattened.{ready_rule, ready_pair}
use Rattle.wh_find_flat.specs.Answers.{IsFlatSpent}
use Rattle.wh_find_flat.proofs.Ended.{formula_is}
use Rattle.wh_find_flat.proofs.find.find_for.Goals as goal

pub circuit_of-requires-clause-rules : goal.circuit_of-requires-clause-rules
circuit_of-requires-clause-rules c r there = ready_rule (task_data c.args.task.now).symbols r (c.requires.flat.rules r there)

pub circuit_of-requires-clause-listed : goal.circuit_of-requires-clause-listed
circuit_of-requires-clause-listed c = c.requires.task.task.are_rules

pub circuit_of-requires-clause-pairs : goal.circuit_of-requires-clause-pairs
circuit_of-requires-clause-pairs c p there =
    let T = task_data c.args.task.now in
    ready_pair T.symbols (length T.symbols.funs) c.args.marked.now p (c.requires.flat.pairs_of_set p there)

pub node_by-requires-clause-lets_go : goal.node_by-requires-clause-lets_go
node_by-requires-clause-lets_go c =
    let f = c.formula.result.now in
    let e = c.formula.ensures in
    let formula = formula_is c.args.task.now c.args.marked.now c.in_ok-bits.bits.sizes.items c.in_ok-bits.ensures c.in_ok-circuit.circuit f.variables f.clauses
    c.is_well_made.ensures c.requires.task c.requires.flat c.requires.marked c.in_ok-circuit.ensures.circuit c.in_ok-circuit.ensures.few
    e.count e.within e.ordered e.sound e.complete in
    let solved = subst (IsOutcome f.variables f.clauses c.args.budget) c.in-Sat.is c.in_ok-outcome.ensures in
    formula.models (value_of c.deref.result.now)
    (subst (λ (l : List Bool). Solves (value_of l) f.clauses) (sym c.deref.ensures.value) solved.2)

pub returns-in-Unsat : goal.returns-in-Unsat
returns-in-Unsat c =
    let t = c.args.task.now in
    let f = c.formula.result.now in
    let e = c.formula.ensures in
    let formula = formula_is t c.args.marked.now c.in_ok-bits.bits.sizes.items c.in_ok-bits.ensures c.in_ok-circuit.circuit f.variables f.clauses
    c.is_well_made.ensures c.requires.task c.requires.flat c.requires.marked c.in_ok-circuit.ensures.circuit c.in_ok-circuit.ensures.few
    e.count e.within e.ordered e.sound e.complete in
    let unsolved = subst (IsOutcome f.variables f.clauses c.args.budget) c.in-Unsat.is c.in_ok-outcome.ensures in
    subst (λ (T : TaskData). HasNoInterpretation T) (listing_is t c.args.usable c.requires.usable)
    (λ R space go. (let (v, solves, by) = formula.all R space go in unsolved.1 v solves))

pub returns-in-Spent : goal.returns-in-Spent
returns-in-Spent c =
    let t = c.args.task.now in
    let f = c.formula.result.now in
    let e = c.formula.ensures in
    let formula = formula_is t c.args.marked.now c.in_ok-bits.bits.sizes.items c.in_ok-bits.ensures c.in_ok-circuit.circuit f.variables f.clauses
    c.is_well_made.ensures c.requires.task c.requires.flat c.requires.marked c.in_ok-circuit.ensures.circuit c.in_ok-circuit.ensures.few
    e.count e.within e.ordered e.sound e.complete in
    let spent = subst (IsOutcome f.variables f.clauses c.args.budget) c.in-Spent.is c.in_ok-outcome.ensures in
    let is : IsFlatSpent (task_data t) c.args.budget c.in-Spent.learnt = record {
      count = spent.0;
      marked = c.args.marked.now;
      are_marked = c.requires.marked;
      variables = f.variables;
      clauses = f.clauses;
      formula = formula;
      learnt = spent.1;
    } in
    subst (λ (T : TaskData). IsFlatSpent T c.args.budget c.in-Spent.learnt) (listing_is t c.args.usable c.requires.usable) is
