use Rattle.std.proofs.Common.{refl}
use Rattle.wh_poly_space.proofs.PlaceLemmas.{walk_begins}
use Rattle.wh_poly_space.proofs.places.first_walk.Goals as goal

pub returns : goal.returns
returns c Γ sorts functional =
    walk_begins Γ _ c.args.sorts c.args.functional c.saturating_add-first.result sorts functional c.saturating_add-first.ensures refl refl c.saturating_add.ensures
