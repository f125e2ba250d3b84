-- All pairs are to be proved.
use Rattle.std.proofs.Common.{ℕ, List, [], ◌∷◌, ◌++◌, None, refl, ap, ◌∙◌}
use Rattle.wh_system.specs.SystemView.{system_data}
use Rattle.wh_pairs.specs.Views.{pairs_data}
use Rattle.wh_cert.specs.Items.{yes_head}
use Rattle.wh_cert.specs.Written.{Node}
use Rattle.wh_polycheck.specs.Small.{with_limits}
use Rattle.wh_checker.specs.Faults.{IsFirstYesFault}
use Rattle.wh_checker_walk.proofs.Passing.{or_on}
use Rattle.wh_checker_walk.specs.Walking.{Leads, HasNothing, IsBlamed}
use Rattle.wh_checker_walk.proofs.NodesOn.{nodes_begun, nodes_unbegun}
use Rattle.wh_checker_walk.proofs.nodes.Nodes.new.Goals as goal

pub returns-in_err-whole : goal.returns-in_err-whole
returns-in_err-whole c = λ version.
    let d = system_data c.args.system.now in
    let ps = pairs_data c.args.pairs.now in
    let ranks = c.args.ranks.now in
    or_on c.from_residual.result c.in_err-whole.field-0.0 _ _ (λ f. (lines : List Node) → IsFirstYesFault with_limits d ps ranks c.args.count lines f)
    (λ f. Leads HasNothing (yes_head version ranks c.args.count) (IsBlamed d ps f)) c.from_residual.ensures.1 c.in_err-whole.ensures
    (λ f fault. nodes_unbegun d ps version ranks c.args.count f fault)

pub returns : goal.returns
returns c = λ version.
    nodes_begun (system_data c.args.system.now) (pairs_data c.args.pairs.now)
    (record { stack = c.push.new.self; next = 0; numbered = None }) c.in_ok-whole.whole version c.args.ranks.now c.args.count refl
    (c.in_ok-push.ensures.items ∙ ap (λ (s : List (List ℕ)). s ++ c.in_ok-whole.whole ∷ []) c.new-stack.ensures.items) tt c.in_ok-whole.ensures
