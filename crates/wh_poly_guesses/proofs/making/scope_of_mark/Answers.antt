use Rattle.std.proofs.Common.{ap, ◌∙◌}
use Rattle.wh_types.specs.Ty.{arguments}
use Rattle.wh_system.specs.SystemView.{system_data}
use Rattle.wh_polycheck.specs.Marks.{marked_types}
use Rattle.wh_polycheck.proofs.MoreInterpretations.{arguments_of_arrows}
use Rattle.wh_poly_guesses.proofs.OkLemmas.{ok_as}
use Rattle.wh_poly_guesses.proofs.making.scope_of_mark.Goals as goal

pub returns : goal.returns
returns c =
    let d = system_data c.args.system.now in
    ok_as c.arguments_of.result _ _ (λ kinds is. is ∙ ap arguments c.in_ok-kind.ensures ∙ arguments_of_arrows (marked_types d.symbols d.rules c.args.symbol) 0) c.arguments_of.ensures
