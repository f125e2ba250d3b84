use Rattle.std.proofs.Common.{subst}
use Rattle.wh_terms.specs.Erase.{tm}
use Rattle.wh_terms.proofs.TypingLaws.{typed_loose, typed_term}
use Rattle.wh_text.specs.Erase.{rtm}
use Rattle.wh_step.proofs.RedexLemmas.{manageable_fit}
use Rattle.wh_system.specs.SystemView.{system_data}
use Rattle.wh_system_making.specs.Resolve.{Means, TellsMeant}
use Rattle.wh_test_terms.proofs.reading.term_in.Goals as goal

pub returns-in-Some-clause-shut : goal.returns-in-Some-clause-shut
returns-in-Some-clause-shut c =
    let means : Means (system_data c.args.system.now) (rtm c.args.raw.now) (tm c.in-Some.term) = subst (TellsMeant (system_data c.args.system.now) (rtm c.args.raw.now)) c.in-Some.is c.in_ok-term.ensures in
    typed_loose means.typed.1

pub returns-in-Some-clause-plain : goal.returns-in-Some-clause-plain
returns-in-Some-clause-plain c =
    let means : Means (system_data c.args.system.now) (rtm c.args.raw.now) (tm c.in-Some.term) = subst (TellsMeant (system_data c.args.system.now) (rtm c.args.raw.now)) c.in-Some.is c.in_ok-term.ensures in
    typed_term (tm c.in-Some.term) means.typed.1

pub returns-in-Some-clause-in_range : goal.returns-in-Some-clause-in_range
returns-in-Some-clause-in_range c =
    let means : Means (system_data c.args.system.now) (rtm c.args.raw.now) (tm c.in-Some.term) = subst (TellsMeant (system_data c.args.system.now) (rtm c.args.raw.now)) c.in-Some.is c.in_ok-term.ensures in
    manageable_fit (tm c.in-Some.term) (c.fits.ensures.0 c.if-fits.true) (typed_loose means.typed.1)
