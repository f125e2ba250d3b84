use Rattle.std.proofs.Common.{ap}
use Rattle.wh_system.specs.Canonical.{with_argument}
use Rattle.wh_text.proofs.RawLemmas.{rtm_of_spine}
use Rattle.wh_system_making.proofs.raw_trees.spine_parts.Goals as goal

pub returns-in-Spine : goal.returns-in-Spine
returns-in-Spine c =
    λ u. ap (λ r. with_argument r u) (rtm_of_spine c.args.term c.in-Spine.head c.in-Spine.items c.in-Spine.at c.in-Spine.is)
