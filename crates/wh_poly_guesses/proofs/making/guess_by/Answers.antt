use Rattle.std.proofs.Common.{◌≡◌, length, map, ap, sym, ◌∙◌}
use Rattle.std.proofs.lemmas.List.{length-map}
use Rattle.wh_types.specs.Erase.{ty}
use Rattle.wh_system.specs.SystemView.{system_data}
use Rattle.wh_reduction_pairs.specs.TaskView.{task_data}
use Rattle.wh_poly_guesses.proofs.ReadLemmas.{have_coefficients}
use Rattle.wh_poly_guesses.proofs.making.guess_by.Goals as goal

pub returns-clause-lists : goal.returns-clause-lists
returns-clause-lists c =
    let d = system_data c.args.task.now.system.now in
    let symbols = c.in_ok-symbols.symbols.items in
    let kinds = c.as_slice-kinds.result.now in
    let long : length symbols ≡ length kinds = sym (length-map symbols (λ s. ty s.kind)) ∙ ap length c.in_ok-symbols.ensures.kinds ∙ length-map kinds ty in
    have_coefficients (task_data c.args.task.now) (map (λ l. l.items) c.args.lists.now) symbols c.in_ok-marks.marks.items _ c.in_ok-symbols.ensures.read c.in_ok-marks.ensures.read
    (sym long)
