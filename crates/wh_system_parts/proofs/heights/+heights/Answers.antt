use Rattle.std.proofs.Common.{◌≡◌, ◌+◌, ◌==◌, max, length, true, false, ap, sym, ◌∙◌, arith}
use Rattle.wh_text.specs.Erase.{rtms, rtm}
use Rattle.wh_system_parts.specs.Tests.{raw_height, raw_heights}
use Rattle.wh_text.proofs.RawLemmas.{rtm_of_meta, rtm_of_spine}
use Rattle.wh_system_parts.proofs.SideLemmas.{height_none, height_some, low_refused, low_under, low_spine}
use Rattle.wh_system_parts.proofs.heights.+heights.Goals as goal

pub keep_low-returns-then-is_empty : goal.keep_low-returns-then-is_empty
keep_low-returns-then-is_empty t c =
    let empty : (length c.in-Meta.items == 0) ≡ true = ap (λ ys. length ys == 0) (sym c.as_slice.ensures) ∙ sym c.is_empty.ensures ∙ c.if-is_empty.true in
    let h : raw_height (rtm c.args.side.now) ≡ 0 =
    ap raw_height (rtm_of_meta c.args.side.now c.in-Meta.field-0 c.in-Meta.items c.in-Meta.field-2 c.in-Meta.is) ∙ height_none c.in-Meta.field-0 c.in-Meta.items c.in-Meta.field-2 empty in
    omega (arith, h)

pub keep_low-returns-in_err-checked_sub-in-Meta : goal.keep_low-returns-in_err-checked_sub-in-Meta
keep_low-returns-in_err-checked_sub-in-Meta t c =
    let some : (length c.in-Meta.items == 0) ≡ false = ap (λ ys. length ys == 0) (sym c.as_slice.ensures) ∙ sym c.is_empty.ensures ∙ c.if-is_empty.false in
    let h : raw_height (rtm c.args.side.now) ≡ 1 + raw_heights (rtms c.in-Meta.items) =
    ap raw_height (rtm_of_meta c.args.side.now c.in-Meta.field-0 c.in-Meta.items c.in-Meta.field-2 c.in-Meta.is) ∙ height_some c.in-Meta.field-0 c.in-Meta.items c.in-Meta.field-2 some in
    low_refused c.from_residual.result c.args.low (raw_height (rtm c.args.side.now)) c.from_residual.ensures (omega (arith, h, c.in_err-checked_sub-in-Meta.ensures))

pub keep_low-returns-in_ok-checked_sub-in-Meta : goal.keep_low-returns-in_ok-checked_sub-in-Meta
keep_low-returns-in_ok-checked_sub-in-Meta t c =
    let some : (length c.in-Meta.items == 0) ≡ false = ap (λ ys. length ys == 0) (sym c.as_slice.ensures) ∙ sym c.is_empty.ensures ∙ c.if-is_empty.false in
    low_under c.keep_all_low.result c.args.low c.in_ok-checked_sub-in-Meta.field-0 (raw_heights (rtms c.in-Meta.items)) (raw_height (rtm c.args.side.now)) (omega (arith, c.in_ok-checked_sub-in-Meta.ensures))
    (ap raw_height (rtm_of_meta c.args.side.now c.in-Meta.field-0 c.in-Meta.items c.in-Meta.field-2 c.in-Meta.is) ∙ height_some c.in-Meta.field-0 c.in-Meta.items c.in-Meta.field-2 some)
    c.keep_all_low.ensures

pub keep_low-returns-in_ok-keep_low-in-Spine : goal.keep_low-returns-in_ok-keep_low-in-Spine
keep_low-returns-in_ok-keep_low-in-Spine t c =
    low_spine c.keep_all_low-in-Spine.result c.args.low c.in_ok-below-in-Spine.below (raw_height (rtm c.deref-in-Spine.result.now)) (raw_heights (rtms c.in-Spine.items)) (raw_height (rtm c.args.side.now))
    (omega (arith, c.in_ok-below-in-Spine.ensures))
    (ap raw_height (rtm_of_spine c.args.side.now c.in-Spine.head c.in-Spine.items c.in-Spine.field-2 c.in-Spine.is)
    ∙ ap (λ h. 1 + max (raw_height (rtm h)) (raw_heights (rtms c.in-Spine.items))) (sym c.deref-in-Spine.ensures))
    c.in_ok-keep_low-in-Spine.ensures c.keep_all_low-in-Spine.ensures
