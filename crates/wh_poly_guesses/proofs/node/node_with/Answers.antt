use Rattle.std.proofs.Common.{◌≡◌, ◌≤◌, ℕ, List, Option, length, map, Some, slice_get, refl, sym, subst, ◌∙◌, arith}
use Rattle.std.proofs.lemmas.List.{length-map}
use Rattle.wh_system.specs.SystemView.{system_data}
use Rattle.wh_pairs.specs.PairData.{pair_data}
use Rattle.wh_pairs.proofs.ListLemmas.{map-map}
use Rattle.wh_reduction_pairs.specs.TaskData.{TaskData}
use Rattle.wh_reduction_pairs.specs.TaskView.{task_data}
use Rattle.wh_polycheck.specs.ReadingsView.{readings_data}
use Rattle.wh_polycheck.specs.declared.marks.MarkedSymbol.{MarkedSymbol}
use Rattle.wh_poly_covering.proofs.Walks.{kinds_are}
use Rattle.wh_cert.specs.Said.{said_interp, said_poly}
use Rattle.wh_cert.specs.declared.poly_node.Interp.{Interp}
use Rattle.wh_cert.specs.declared.poly_node.PolyNode.{PolyNode}
use Rattle.wh_proof.proofs.InterpretationLemmas.{symbols_read, marks_read}
use Rattle.wh_usable.specs.Closed.{IsUsable}
use Rattle.wh_poly_guesses.specs.Found.{IsInterpretationOver}
use Rattle.wh_poly_guesses.proofs.NodeLemmas.{AreAllLines, listing_is, interpretation_found}
use Rattle.wh_poly_guesses.proofs.node.node_with.Goals as goal

pub returns : goal.returns
returns c =
    let t = c.args.task.now in
    let d = system_data t.system.now in
    let T = task_data t in
    let R = readings_data c.args.readings.now in
    let symbols = c.args.readings.now.symbols.now in
    let marks = c.args.readings.now.marks.now in
    let funs = c.in_ok-funs.funs in
    let lines = c.in_ok-marks.marks in
    let few : length T.pairs ≤ 4096 = omega (arith, c.requires.few, length-map t.pairs.now pair_data) in
    let kinds = sym (kinds_are symbols) ∙ c.requires.readings.readings.kinds in
    let says = symbols_read d.fun_names d.symbols.funs funs symbols (c.in_ok-funs.ensures.names ∙ c.fun_names-names.ensures) kinds c.in_ok-funs.ensures.polynomials in
    let named = subst (λ (names : List (List ℕ)). map (λ (m : MarkedSymbol). slice_get names m.symbol) marks ≡ map (λ (l : Interp). Some l.name) lines) c.fun_names-names.ensures c.in_ok-marks.ensures.names in
    let polynomials = c.in_ok-marks.ensures.polynomials in
    let says_marks = marks_read d lines (map (λ (m : MarkedSymbol). m.symbol) marks) marks (map-map (λ n. slice_get d.fun_names n) (λ (m : MarkedSymbol). m.symbol) marks ∙ named) refl polynomials in
    let are : AreAllLines T R c.args.rules c.args.found.lines c.args.found.drop = record {
      task = c.requires.task.task;
      of_space = c.requires.readings;
      rule_lines = c.requires.rules;
      pair_lines = c.requires.pairs;
    } in
    let usable : Option (List ℕ) = c.args.usable in
    let same = listing_is t usable c.requires.usable in
    let lists = subst (λ (T : TaskData). AreAllLines T R c.args.rules c.args.found.lines c.args.found.drop) same are in
    subst (λ (x : PolyNode). IsInterpretationOver d T.pairs T.set usable (said_poly x)) (sym c.in_ok-new.ensures.ok)
    (interpretation_found d T.pairs T.set usable R (map said_interp funs) (map said_interp lines) c.args.rules c.args.found.lines c.args.found.drop
    c.is_well_made.ensures few lists (subst IsUsable same c.requires.usable.closed) c.requires.some says says_marks)
