use Rattle.std.specs.Prelude.{ℕ, ◌+◌, ◌*◌, cond}
use Rattle.wh_sat_trail.specs.declared.literal.Literal.{Literal}

-- the number of a literal's list
abbrev pub code_of : Literal → ℕ
code_of l = 2 * l.variable + cond l.positive 1 0
