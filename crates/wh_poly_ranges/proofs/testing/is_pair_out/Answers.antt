use Rattle.std.proofs.Common.{◌∙◌, true, false, length, get_or, ap, sym}
use Rattle.std.proofs.lemmas.List.{length-map}
use Rattle.wh_terms.specs.Erase.{declared_meta}
use Rattle.wh_pairs.specs.PairData.{pair_data}
use Rattle.wh_pairs.proofs.ByPlace.{number_at}
use Rattle.wh_reduction_pairs.specs.TaskView.{task_data}
use Rattle.wh_reduction_pairs.proofs.TaskLemmas.{pair_at}
use Rattle.wh_poly.specs.Erase.{poly}
use Rattle.wh_polycheck.specs.ReadingsView.{readings_data}
use Rattle.wh_polycheck.specs.Covering.{pair_run}
use Rattle.wh_poly_covering.specs.Lines.{IsSide}
use Rattle.wh_poly_guesses.specs.Lines.{HasNoSide}
use Rattle.wh_poly_guesses.proofs.LineLemmas.{matched_some}
use Rattle.wh_poly_guesses.proofs.GuessLemmas.{space_proper, sides_at}
use Rattle.wh_poly_ranges.proofs.OutLemmas.{refuted_same, told_of_pair}
use Rattle.wh_poly_ranges.proofs.testing.is_pair_out.Goals as goal

pub pair_side-requires-clause-proper : goal.pair_side-requires-clause-proper
pair_side-requires-clause-proper c = space_proper (task_data c.args.task.now) (readings_data c.args.ends.now.high) c.requires.high

pub pair_side-requires-clause-sides : goal.pair_side-requires-clause-sides
pair_side-requires-clause-sides c =
    sides_at c.args.task.now (readings_data c.args.ends.now.high) c.requires.high c.requires.task.typed c.args.place c.index-task-task.result c.requires.place

pub pair_side-requires-2-clause-proper : goal.pair_side-requires-2-clause-proper
pair_side-requires-2-clause-proper c = space_proper (task_data c.args.task.now) (readings_data c.args.ends.now.low) c.requires.low

pub pair_side-requires-2-clause-sides : goal.pair_side-requires-2-clause-sides
pair_side-requires-2-clause-sides c =
    sides_at c.args.task.now (readings_data c.args.ends.now.low) c.requires.low c.requires.task.typed c.args.place c.index-task-task.result c.requires.place

pub returns : goal.returns
returns c =
    let t = c.args.task.now in
    let T = task_data t in
    let low = readings_data c.args.ends.now.low in
    let high = readings_data c.args.ends.now.high in
    let n = get_or t.set.now c.args.place 0 in
    let made = get_or t.pairs.now n c.index-task-task.result in
    let p = pair_data made in
    let left = pair_run T.symbols T.rules high p false in
    let right = pair_run T.symbols T.rules low p true in
    let is_left = matched_some c.in_ok-left.field-0 c.in-Some.left (HasNoSide left) (λ p. IsSide left (poly p)) c.in-Some.is
    c.in_ok-left.ensures in
    let is_right = matched_some c.in_ok-right.field-0 c.in-Some-2.right (HasNoSide right) (λ p. IsSide right (poly p))
    c.in-Some-2.is c.in_ok-right.ensures in
    told_of_pair T low high c.args.place n p c.args.strict c.is_refuted.result (number_at t.set.now c.args.place c.requires.place)
    (pair_at t c.requires.task.typed.task c.args.place c.index-task-task.result c.requires.place)
    (refuted_same c.is_refuted.result (length c.as_slice.result.now) (length p.metas) (poly c.in-Some.left) (poly c.in-Some-2.right)
    left.result right.result c.args.strict (ap length c.as_slice.ensures ∙ sym (length-map made.metas declared_meta))
    is_left.is is_right.is c.is_refuted.ensures)
