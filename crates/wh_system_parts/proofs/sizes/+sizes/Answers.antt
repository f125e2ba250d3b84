use Rattle.std.proofs.Common.{◌+◌, ap, sym, ◌∙◌, arith}
use Rattle.wh_text.specs.Erase.{rtms, rtm}
use Rattle.wh_system_parts.specs.Tests.{raw_size, raw_sizes, raw_spine_size}
use Rattle.wh_text.proofs.RawLemmas.{rtm_of_meta, rtm_of_spine}
use Rattle.wh_system_parts.proofs.SideLemmas.{spent_meta, spent_spine}
use Rattle.wh_system_parts.proofs.sizes.+sizes.Goals as goal

pub spend-returns-in_ok-checked_sub-in-Meta : goal.spend-returns-in_ok-checked_sub-in-Meta
spend-returns-in_ok-checked_sub-in-Meta t c =
    spent_meta c.spend_each.result c.args.room c.in_ok-checked_sub-in-Meta.field-0 (raw_sizes (rtms c.in-Meta.items)) (raw_size (rtm c.args.side.now))
    (omega (arith, c.in_ok-checked_sub-in-Meta.ensures)) (ap raw_size (rtm_of_meta c.args.side.now c.in-Meta.field-0 c.in-Meta.items c.in-Meta.field-2 c.in-Meta.is)) c.spend_each.ensures

pub spend-returns-in_ok-spend-in-Spine : goal.spend-returns-in_ok-spend-in-Spine
spend-returns-in_ok-spend-in-Spine t c =
    spent_spine c.spend_arguments.result c.args.room c.in_ok-spend-in-Spine.field-0 (raw_size (rtm c.deref-in-Spine.result.now)) (raw_spine_size (rtms c.in-Spine.items)) (raw_size (rtm c.args.side.now))
    c.in_ok-spend-in-Spine.ensures
    (ap raw_size (rtm_of_spine c.args.side.now c.in-Spine.head c.in-Spine.items c.in-Spine.field-2 c.in-Spine.is)
    ∙ ap (λ h. raw_size (rtm h) + raw_spine_size (rtms c.in-Spine.items)) (sym c.deref-in-Spine.ensures)) c.spend_arguments.ensures
