-- Named pairs: all their symbols, sorts and meta-variables have a name.
use Rattle.std.specs.Prelude.{◌<◌, ◌≤◌, [], length, get_or, All}
use Rattle.wh_system.specs.Systems.{SystemData}
use Rattle.wh_system.specs.Canonical.{IsNamedBelow}
use Rattle.wh_pairs.specs.PairData.{PairData}
use Rattle.wh_system_print.specs.PairText.{names_of_pair}

-- the rule has names for its own meta-variables, which come first in the pair; there are names for the symbols of both
-- sides, for all that stands in their arguments, and for the meta-variable of each condition, which is the rule's own
-- (ours)
pub record IsNamedPair (d : SystemData) (p : PairData) : Type 0 where
  pub rule : p.rule < length d.meta_names
  pub own : length (get_or d.meta_names p.rule []) ≤ length p.metas
  pub left_fun : p.left_fun < length d.fun_names
  pub left : All (IsNamedBelow (names_of_pair d p) 0) p.left
  pub right_fun : p.right_fun < length d.fun_names
  pub right : All (IsNamedBelow (names_of_pair d p) 0) p.right
  pub conditions : All (λ c. c.meta < length (get_or d.meta_names p.rule [])) p.conditions
