use Rattle.std.proofs.Common.{refl, ap, ◌∙◌}
use Rattle.wh_text.specs.RawTree.{spine}
use Rattle.wh_text.specs.Erase.{rtm, rtms}
use Rattle.wh_text.specs.declared.raw.RawTerm.{Spine}
use Rattle.wh_text.proofs.RawLemmas.{rtm_of_spine}
use Rattle.wh_gen.proofs.terms.call.Goals as goal

pub returns : goal.returns
returns c =
    let ts = c.args.arguments in
    let h = c.in_ok-head.head in
    rtm_of_spine (Spine h ts 0) h ts 0 refl ∙ ap (λ r. spine r (rtms ts) 0) (ap rtm c.in_ok-head.ensures.ok ∙ c.in_ok-plain.ensures)
