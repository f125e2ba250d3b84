use Rattle.std.proofs.Common.{ap, ◌∙◌, sym}
use Rattle.wh_text.specs.Erase.{rtms, rtm}
use Rattle.wh_system_parts.specs.Faults.{first_fault}
use Rattle.wh_system_parts.specs.RuleTests.{open_tests, opens_tests}
use Rattle.wh_system_parts.proofs.FaultLemmas.{fault_after}
use Rattle.wh_system_resolve.proofs.AnswerLemmas.{first_along}
use Rattle.wh_text.proofs.RawLemmas.{rtm_of_meta, rtm_of_spine}
use Rattle.wh_system_resolve.proofs.open.+open.Goals as goal

pub check_open-returns-in-Meta : goal.check_open-returns-in-Meta
check_open-returns-in-Meta t c =
    first_along c.check_open_each.result (opens_tests (rtms c.in-Meta.items)) (open_tests (rtm c.args.side.now))
    (ap (λ u. first_fault (open_tests u)) (rtm_of_meta c.args.side.now c.in-Meta.field-0 c.in-Meta.items c.in-Meta.field-2 c.in-Meta.is)) c.check_open_each.ensures

pub check_open-returns-in_ok-check_open-in-Spine : goal.check_open-returns-in_ok-check_open-in-Spine
check_open-returns-in_ok-check_open-in-Spine t c =
    let head = sym (ap (λ h. first_fault (open_tests (rtm h))) c.deref-in-Spine.ensures) ∙ c.in_ok-check_open-in-Spine.ensures in
    first_along c.check_open_each-in-Spine.result (opens_tests (rtms c.in-Spine.items)) (open_tests (rtm c.args.side.now))
    (ap (λ u. first_fault (open_tests u)) (rtm_of_spine c.args.side.now c.in-Spine.head c.in-Spine.items c.in-Spine.field-2 c.in-Spine.is)
    ∙ fault_after (open_tests (rtm c.in-Spine.head.value)) (opens_tests (rtms c.in-Spine.items)) head) c.check_open_each-in-Spine.ensures
