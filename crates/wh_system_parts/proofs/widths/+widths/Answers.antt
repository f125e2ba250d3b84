use Rattle.std.proofs.Common.{◌≡◌, ◌+◌, ◌-◌, length, drop, ap, sym, ◌∙◌, arith}
use Rattle.wh_text.specs.Erase.{rtm, rtms, rty}
use Rattle.wh_system_parts.specs.Faults.{first_fault}
use Rattle.wh_system_parts.specs.Tests.{width_of_term, width_of_type, width_of_arguments, arguments_of}
use Rattle.wh_system_parts.proofs.FaultLemmas.{fault_after, fault_in_first}
use Rattle.wh_text.proofs.RawLemmas.{rtm_of_meta, rtm_of_spine}
use Rattle.wh_system_parts.proofs.RawTerms.{left_none}
use Rattle.wh_system_parts.proofs.WidthLemmas.{spare_fault, spare_whole, spare_spine, room_fault, argument_next_at, argument_fails_at, counted}
use Rattle.wh_system_parts.proofs.widths.+widths.Goals as goal

pub spare-returns-in_err-check_each_width-in-Meta : goal.spare-returns-in_err-check_each_width-in-Meta
spare-returns-in_err-check_each_width-in-Meta t c =
    spare_fault (rtm c.args.side.now) _ c.in_err-check_each_width-in-Meta.field-0.0 c.from_residual-in_err-check_each_width-in-Meta.ensures.1
    (ap (λ u. first_fault (width_of_term u)) (rtm_of_meta c.args.side.now c.in-Meta.field-0 c.in-Meta.items c.in-Meta.field-2 c.in-Meta.is) ∙ c.in_err-check_each_width-in-Meta.ensures)

pub spare-returns-in_err-check_width-in-Lam : goal.spare-returns-in_err-check_width-in-Lam
spare-returns-in_err-check_width-in-Lam t c =
    spare_fault (rtm c.args.side.now) _ c.in_err-check_width-in-Lam.field-0.0 c.from_residual-in_err-check_width-in-Lam.ensures.1
    (ap (λ u. first_fault (width_of_term (rtm u))) c.in-Lam.is
    ∙ fault_in_first (width_of_type (rty c.in-Lam.kind.value)) (width_of_term (rtm c.in-Lam.body.value)) c.in_err-check_width-in-Lam.field-0.0
    (sym (ap (λ k. first_fault (width_of_type (rty k))) c.deref-in-Lam.ensures) ∙ c.in_err-check_width-in-Lam.ensures))

pub spare-returns-in_err-_left-in-Lam : goal.spare-returns-in_err-_left-in-Lam
spare-returns-in_err-_left-in-Lam t c =
    let kind = sym (ap (λ k. first_fault (width_of_type (rty k))) c.deref-in-Lam.ensures) ∙ c.in_ok-check_width-in-Lam.ensures in
    let inner = sym (ap (λ h. first_fault (width_of_term (rtm h))) c.deref-in-Lam-2.ensures) ∙ c.in_err-_left-in-Lam.ensures in
    spare_fault (rtm c.args.side.now) _ c.in_err-_left-in-Lam.field-0.0 c.from_residual-in_err-_left-in-Lam.ensures.1
    (ap (λ u. first_fault (width_of_term (rtm u))) c.in-Lam.is
    ∙ fault_after (width_of_type (rty c.in-Lam.kind.value)) (width_of_term (rtm c.in-Lam.body.value)) kind ∙ inner)

pub spare-returns-in_err-room-in-Spine : goal.spare-returns-in_err-room-in-Spine
spare-returns-in_err-room-in-Spine t c =
    let head = sym (ap (λ h. first_fault (width_of_term (rtm h))) c.deref-in-Spine.ensures) ∙ c.in_err-room-in-Spine.ensures in
    spare_fault (rtm c.args.side.now) _ c.in_err-room-in-Spine.field-0.0 c.from_residual-in_err-room-in-Spine.ensures.1
    (ap (λ u. first_fault (width_of_term u)) (rtm_of_spine c.args.side.now c.in-Spine.head c.in-Spine.items c.in-Spine.field-2 c.in-Spine.is)
    ∙ fault_in_first (width_of_term (rtm c.in-Spine.head.value)) (width_of_arguments (arguments_of (rtm c.in-Spine.head.value)) (rtms c.in-Spine.items)) c.in_err-room-in-Spine.field-0.0 head)

pub spare-returns-in_ok-check_each_width-in-Meta : goal.spare-returns-in_ok-check_each_width-in-Meta
spare-returns-in_ok-check_each_width-in-Meta t c =
    let e = rtm_of_meta c.args.side.now c.in-Meta.field-0 c.in-Meta.items c.in-Meta.field-2 c.in-Meta.is in
    spare_whole (rtm c.args.side.now) (ap (λ u. first_fault (width_of_term u)) e ∙ c.in_ok-check_each_width-in-Meta.ensures) (ap arguments_of e)

pub spare-returns-in_ok-_left-in-Lam : goal.spare-returns-in_ok-_left-in-Lam
spare-returns-in_ok-_left-in-Lam t c =
    let kind = sym (ap (λ k. first_fault (width_of_type (rty k))) c.deref-in-Lam.ensures) ∙ c.in_ok-check_width-in-Lam.ensures in
    let inner = sym (ap (λ h. first_fault (width_of_term (rtm h))) c.deref-in-Lam-2.ensures) ∙ c.in_ok-_left-in-Lam.ensures.0 in
    spare_whole (rtm c.args.side.now)
    (ap (λ u. first_fault (width_of_term (rtm u))) c.in-Lam.is
    ∙ fault_after (width_of_type (rty c.in-Lam.kind.value)) (width_of_term (rtm c.in-Lam.body.value)) kind ∙ inner)
    (ap (λ u. arguments_of (rtm u)) c.in-Lam.is)

pub spare-returns-in_ok-room-in-Spine : goal.spare-returns-in_ok-room-in-Spine
spare-returns-in_ok-room-in-Spine t c =
    let h = c.in-Spine.head.value in
    let same = ap rtm c.deref-in-Spine.ensures in
    let passed = sym (ap (λ u. first_fault (width_of_term u)) same) ∙ c.in_ok-room-in-Spine.ensures.0 in
    let own : c.in_ok-room-in-Spine.room + arguments_of (rtm h) ≡ 32 = omega (arith, ap arguments_of same, c.in_ok-room-in-Spine.ensures.1) in
    spare_spine (rtm c.args.side.now) (rtm h) (rtms c.in-Spine.items) c.in-Spine.field-2 c.in_ok-room-in-Spine.room c.check_arguments.result
    (rtm_of_spine c.args.side.now c.in-Spine.head c.in-Spine.items c.in-Spine.field-2 c.in-Spine.is) passed own (c.check_arguments.ensures (omega (arith, own)))

pub check_arguments-returns-in_err-_left : goal.check_arguments-returns-in_err-_left
check_arguments-returns-in_err-_left t c =
    λ few.
    let k = 32 - c.args.room + c.loop-item.item-index in
    let inside : k ≡ 32 → ⊥ = λ e. omega (arith, few, c.loop-item.invariant.1, c.in_ok-left.ensures, e) in
    let xs = c.as_slice-item-items.result.now in
    room_fault c.args.room (rtms c.args.items.now) _ c.in_err-_left.field-0.0 c.from_residual-in_err-_left.ensures.1
    (ap (λ ys. first_fault (width_of_arguments (32 - c.args.room) (rtms ys))) (sym c.as_slice-item-items.ensures) ∙ c.loop-item.invariant.0 few
    ∙ argument_fails_at xs c.loop-item.item-index k c.item-item.result c.in_err-_left.field-0.0 c.loop-item-test.true c.item-item.is inside c.in_err-_left.ensures)

pub check_arguments-loop-item-preserved : goal.check_arguments-loop-item-preserved
check_arguments-loop-item-preserved t c = (
  λ few.
      let k = 32 - c.args.room + c.loop-item.item-index in
      let inside : k ≡ 32 → ⊥ = λ e. omega (arith, few, c.loop-item.invariant.1, c.in_ok-left.ensures, e) in
      let next : k + 1 ≡ 32 - c.args.room + (c.loop-item.item-index + 1) = omega arith in
      let xs = c.as_slice-item-items.result.now in
      c.loop-item.invariant.0 few
      ∙ argument_next_at xs c.loop-item.item-index k c.item-item.result c.loop-item-test.true c.item-item.is inside c.in_ok-_left.ensures.0
      ∙ ap (λ n. first_fault (width_of_arguments n (rtms (drop (c.loop-item.item-index + 1) xs)))) next,
  omega (arith, c.loop-item.invariant.1, c.in_ok-left.ensures),
)

pub check_arguments-returns : goal.check_arguments-returns
check_arguments-returns t c =
    λ few.
    let xs = c.as_slice-item-items.result.now in
    let k = 32 - c.args.room + c.loop-item.item-index in (
      ap (λ ys. first_fault (width_of_arguments (32 - c.args.room) (rtms ys))) (sym c.as_slice-item-items.ensures) ∙ c.loop-item.invariant.0 few
          ∙ ap (λ us. first_fault (width_of_arguments k us)) (left_none xs c.loop-item.item-index c.loop-item-test.false),
      omega (arith, c.loop-item.invariant.1, counted c.args.items.now, ap length c.as_slice-item-items.ensures, c.loop-item-test.false, c.loop-item.auto.item-index-end),
    )
