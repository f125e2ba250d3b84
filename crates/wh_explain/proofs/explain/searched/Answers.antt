use Rattle.wh_system.specs.SystemView.{system_data}
use Rattle.wh_pairs.specs.Views.{pairs_data}
use Rattle.wh_cert.specs.Said.{said}
use Rattle.wh_explain.proofs.Texts.{found_said}
use Rattle.wh_explain.proofs.explain.searched.Goals as goal

pub weighed-requires-clause-certificate : goal.weighed-requires-clause-certificate
weighed-requires-clause-certificate c =
    let is = rw c.in-Yes.is at c.in_ok-certificate.ensures in
    is.fits

pub weighed-requires-in-No-clause-certificate : goal.weighed-requires-in-No-clause-certificate
weighed-requires-in-No-clause-certificate c =
    let is = rw c.in-No.is at c.in_ok-certificate.ensures in
    is.loops.fits

pub returns-in-No-clause-finds : goal.returns-in-No-clause-finds
returns-in-No-clause-finds c =
    let is = rw c.in-No.is at c.in_ok-certificate.ensures in
    found_said (system_data c.args.problem.now.system) (pairs_data c.args.problem.now.pairs) (said c.in-No.certificate) c.weighed-in-No.result
    is.loops.fits c.weighed-in-No.ensures.says
