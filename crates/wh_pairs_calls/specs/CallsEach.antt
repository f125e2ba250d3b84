-- The calls in several parts of a right side, one part after another.
use Rattle.std.specs.Prelude.{List, [], ◌∷◌, ◌++◌}
use Rattle.wh_types.specs.Ty.{Ty}
use Rattle.wh_terms.specs.Tree.{Tm}
use Rattle.wh_terms.specs.Rules.{RewriteRule}
use Rattle.wh_pairs.specs.PairData.{Within}
use Rattle.wh_pairs.specs.Calls.{Call, calls}

-- the calls in the arguments of a spine, one after another
abbrev pub calls_each : List RewriteRule → List Within → List Ty → List Tm → List Call
calls_each rules cs Γ [] = []
calls_each rules cs Γ (t ∷ ts) = calls rules cs Γ t [] ++ calls_each rules cs Γ ts
