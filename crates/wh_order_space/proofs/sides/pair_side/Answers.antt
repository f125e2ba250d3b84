use Rattle.std.proofs.Common.{ap₂, ◌∙◌}
use Rattle.wh_terms.specs.Tree.{fun, spine}
use Rattle.wh_system.specs.SystemView.{system_data}
use Rattle.wh_pairs.specs.PairData.{pair_data}
use Rattle.wh_polycheck.specs.Marks.{head_of_side}
use Rattle.wh_order_extended.specs.ExtendedSides.{marked_number}
use Rattle.wh_order_space.proofs.sides.pair_side.Goals as goal

pub returns-in_ok-made-in-Ok : goal.returns-in_ok-made-in-Ok
returns-in_ok-made-in-Ok c =
    let S = (system_data c.args.system.now).symbols in
    let p = pair_data c.args.pair.now in
    let whole = c.in-Ok.ensures (head_of_side p c.args.right) in
    c.in_ok-made-in-Ok.ensures ∙ ap₂ (λ f ts. spine (fun (marked_number S f)) ts) c.head_of_side.ensures whole.same
