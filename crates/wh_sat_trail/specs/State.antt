-- The state of a trail as its callers see it: its formula, and the literals that are true.
use Rattle.std.specs.Prelude.{ℕ, List, map}
use Rattle.wh_sat_trail.specs.declared.literal.Literal.{Literal}
use Rattle.wh_sat_trail.specs.declared.formula.Formula.{Formula}
use Rattle.wh_sat_trail.specs.declared.trail.Trail.{Trail}

abbrev pub formula_of : Trail → Formula
formula_of trail = trail.formula

-- the true literals, in the order in which they became so
abbrev pub assigned : Trail → List Literal
assigned trail = trail.assignment.literals.items

-- for each level, how many literals were true when it was opened
abbrev pub marks_of : Trail → List ℕ
marks_of trail = map (λ stop. stop.mark) trail.stops.items
