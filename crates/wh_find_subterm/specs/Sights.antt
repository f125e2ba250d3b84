-- Pairs with the numbers of their sides, where these were numbered.
use Rattle.std.specs.Prelude.{IfSome}
use Rattle.wh_pairs.specs.PairData.{pair_data}
use Rattle.wh_intern.specs.TableTrees.{trees}
use Rattle.wh_intern_pairs.specs.NumberedSides.{AreSidesOf}
use Rattle.wh_find_subterm.specs.declared.sight.Sight.{Sight}

-- the numbers, if there are any, are those of the sides of the pair
abbrev pub IsSight : Sight → Type 0
IsSight s = IfSome s.numbers (λ n. AreSidesOf (trees n.0.now) n.1.now (pair_data s.pair.now))
