use Rattle.wh_text.specs.Erase.{rtm}
use Rattle.wh_system.specs.SystemView.{system_data}
use Rattle.wh_top_reducing.proofs.GivenTerms.{none_fits}
use Rattle.wh_top_reducing.proofs.given.given_term.Goals as goal

pub returns : goal.returns
returns c =
    let text = rw c.in-Some.is at c.in_ok-raw.ensures in
    none_fits (system_data c.args.system.now) c.args.text.now (rtm c.in-Some.raw) c.in_ok-meant.meant text c.in_ok-meant.ensures c.in-None.ensures
