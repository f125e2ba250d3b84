use Rattle.std.proofs.Common.{ap, arith, length}
use Rattle.wh_text.specs.Erase.{rtm}
use Rattle.wh_system_parts.specs.Tests.{arguments_of}
use Rattle.wh_system_resolve.proofs.HeadLemmas.{arguments_size, arguments_spine}
use Rattle.wh_system_resolve.proofs.head.arguments_of.Goals as goal

pub overflow_cast-count : goal.overflow_cast-count
overflow_cast-count c =
    let one = arguments_spine c.loop-here.here.now c.in-Spine.head c.in-Spine.items c.in-Spine.field-2 c.in-Spine.is in
    let same = ap length c.as_slice.ensures in
    omega (arith, one, same, c.loop-here.invariant, arguments_size (rtm c.args.left.now), c.requires)

pub overflow_add-count : goal.overflow_add-count
overflow_add-count c =
    let one = arguments_spine c.loop-here.here.now c.in-Spine.head c.in-Spine.items c.in-Spine.field-2 c.in-Spine.is in
    let same = ap length c.as_slice.ensures in
    omega (arith, one, same, c.loop-here.invariant, arguments_size (rtm c.args.left.now), c.requires)

pub loop-here-preserved : goal.loop-here-preserved
loop-here-preserved c =
    let one = arguments_spine c.loop-here.here.now c.in-Spine.head c.in-Spine.items c.in-Spine.field-2 c.in-Spine.is in
    let same = ap length c.as_slice.ensures in
    omega (arith, one, same, c.loop-here.invariant, ap (λ h. arguments_of (rtm h)) c.deref-here.ensures)
