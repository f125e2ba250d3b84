use Rattle.std.proofs.Common.{refl, ◌∙◌}
use Rattle.wh_poly_space.proofs.PlaceLemmas.{walk_sort, walk_functional}
use Rattle.wh_poly_space.proofs.places.next_walk.Goals as goal

pub returns-then-of_sort : goal.returns-then-of_sort
returns-then-of_sort c Γ x within is sorts walk =
    walk_sort Γ x c.args.walk walk _ within (is ∙ c.if-of_sort.true) c.saturating_add.ensures refl refl

pub returns-else-of_sort : goal.returns-else-of_sort
returns-else-of_sort c Γ x within is sorts walk =
    walk_functional Γ x c.args.walk walk _ within c.args.sorts sorts (is ∙ c.if-of_sort.false) refl c.saturating_add-else-of_sort.ensures c.saturating_add-else-of_sort-2.ensures
