use Rattle.std.proofs.Common.{ℕ, List, map, sym, subst, ◌∙◌}
use Rattle.wh_pairs.specs.PairData.{pair_data}
use Rattle.wh_pairs.specs.declared.pair.Pair.{Pair}
use Rattle.wh_system.specs.SystemView.{system_data}
use Rattle.wh_reduction_pairs.specs.TaskData.{task_over}
use Rattle.wh_polycheck.specs.Covering.{HaveTypedSides}
use Rattle.wh_poly_meaning.proofs.PairSides.{pair_sides}
use Rattle.wh_poly_guesses.specs.Guesses.{IsSearchTask}
use Rattle.wh_poly_guesses.proofs.GuessLemmas.{search_task}
use Rattle.wh_find_poly.proofs.find.find_interpretation.Goals as goal

pub find_for-requires-clause-task : goal.find_for-requires-clause-task
find_for-requires-clause-task c =
    let d = system_data c.args.system.now in
    let pairs = c.args.pairs.now in
    let covered = c.deref.result.now in
    let typed : HaveTypedSides d.symbols d.rules (map pair_data pairs) = λ marks p found l m. pair_sides d c.is_well_made.ensures (map pair_data pairs) c.requires.whole.are marks p found l m in
    subst (λ (l : List Pair). IsSearchTask (task_over d.symbols d.rules (map pair_data l) c.as_slice-2.result.now covered)) (sym c.as_slice.ensures)
    (subst (λ (l : List ℕ). IsSearchTask (task_over d.symbols d.rules (map pair_data pairs) l covered)) (sym c.as_slice-2.ensures.numbers)
    (search_task d.symbols d.rules pairs c.args.set.now covered typed c.requires.set c.as_slice-2.ensures.increasing
    (c.deref.ensures.value ∙ c.in_ok-covered.ensures)))
