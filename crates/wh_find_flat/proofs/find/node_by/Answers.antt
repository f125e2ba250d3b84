use Rattle.std.proofs.Common.{◌≡◌, ℕ, List, map, subst}
use Rattle.std.specs.Global.{Vec}
use Rattle.wh_reduction_pairs.specs.TaskView.{task_data}
use Rattle.wh_poly_guesses.specs.Coefficients.{HaveCoefficients}
use Rattle.wh_poly_guesses.specs.Tasks.{guess_data}
use Rattle.wh_poly_guesses.specs.Weighing.{WeighsOver}
use Rattle.wh_poly_blocking.specs.Sizes.{lists_of, value_of}
use Rattle.wh_find_flat.proofs.Ended.{never_fails}
use Rattle.wh_find_flat.proofs.find.node_by.Goals as goal

pub unreachable-requires : goal.unreachable-requires
unreachable-requires c =
    let t = c.args.task.now in
    let g = c.in_ok-guess.guess in
    let made = c.in_ok-lists.lists.items in
    let values = c.args.values.now in
    let lists : map (λ l. l.items) made ≡ lists_of (value_of values) 0 c.args.bits.now.sizes.items =
    subst (λ (s : List ℕ). map (λ l. l.items) made ≡ lists_of (value_of values) 0 s) c.deref.ensures.value c.in_ok-lists.ensures in
    let has : HaveCoefficients (task_data t) (map (λ l. l.items) made) (guess_data g) =
    subst (λ (l : List (Vec ℕ)). HaveCoefficients (task_data t) (map (λ l. l.items) l) (guess_data g))
    c.deref-2.ensures.value c.in_ok-guess.ensures.lists in
    never_fails t c.args.marked.now c.args.bits.now.sizes.items c.requires.sizes values made g c.in-Failing.field-0 c.requires.lets_go lists
    c.in_ok-guess.ensures.guess c.in_ok-guess.ensures.marks has (subst (WeighsOver t c.args.usable (guess_data g)) c.in-Failing.is c.in_ok-node.ensures)
