use Rattle.std.specs.Prelude.{Bool, false, List, [], ◌∷◌, eqb, ◌&&◌, ◌||◌}
use Rattle.wh_sat_trail.specs.declared.literal.Literal.{Literal}
use mathlib.Core.Bool.{beq}

-- the literal stands in the list
abbrev pub member : Literal → List Literal → Bool
member l [] = false
member l (x ∷ xs) = (eqb x.variable l.variable && beq x.positive l.positive) || member l xs
