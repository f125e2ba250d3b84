use Rattle.std.proofs.Common.{ℕ, Option, subst, sym}
use Rattle.wh_order_node.specs.FilteringView.{filtering_data}
use Rattle.wh_order_known.specs.Least.{NotRefuted}
use Rattle.wh_order_known.specs.Counts.{IsLeastCount}
use Rattle.wh_order_known.proofs.known.Known.note_choice.Goals as goal

pub note-requires : goal.note-requires
note-requires c =
    subst (λ (r : Option ℕ). NotRefuted (IsLeastCount (filtering_data c.args.self.now.filters.now) c.args.room c.args.goal.now r))
    (sym c.count_of.ensures) c.requires
