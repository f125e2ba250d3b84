-- The numbers that a flat side comes to: its constant, and a factor for each meta-variable.
use Rattle.std.specs.Prelude.{ℕ, List}
use Rattle.wh_terms.specs.Tree.{Tm}
use Rattle.wh_poly_flat.specs.Worth.{worth, nothing, only}
use Rattle.wh_find_flat.specs.declared.part.Part.{Part}
use Rattle.wh_find_flat.specs.declared.part.Part.TheVariants.{Constant, Factor}

-- what 1 is worth where that number is asked for, and what the meta-variables are
abbrev pub one_of : Part → ℕ
one_of Constant = 1
one_of (Factor z) = 0

abbrev pub weights_of : Part → ℕ → ℕ
weights_of Constant = nothing
weights_of (Factor z) = only z

-- the number
abbrev pub number_at : Part → List (List ℕ) → Tm → ℕ
number_at part lists t = worth lists (one_of part) (weights_of part) t
