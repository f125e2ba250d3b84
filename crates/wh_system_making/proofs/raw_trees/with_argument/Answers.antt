use Rattle.std.proofs.Common.{ap, sym, ◌∙◌, refl}
use Rattle.wh_text.specs.RawTree.{spine}
use Rattle.wh_text.specs.Erase.{rtm, rtms}
use Rattle.wh_text.specs.declared.raw.RawTerm.{Spine}
use Rattle.wh_text.proofs.RawLemmas.{rtm_of_spine}
use Rattle.wh_system_making.proofs.CanonicalWalk.{rtms_last}
use Rattle.wh_system_making.proofs.raw_trees.with_argument.Goals as goal

pub returns : goal.returns
returns c =
    let h = c.in_ok-head.head in
    let at = c.in_ok-head.at in
    rtm_of_spine (Spine h c.push.new.self at) h c.push.new.self at refl
    ∙ ap (λ us. spine (rtm h.value) us at) (ap rtms c.in_ok-push.ensures.ok ∙ rtms_last _ c.args.argument)
    ∙ sym (c.in_ok-head.ensures (rtm c.args.argument))
