-- The answer of one look at a clause under an assignment.
use Rattle.std.specs.Prelude.{◌≡◌, ◌<◌, List, true, vec_len}
use Rattle.wh_sat_trail.specs.declared.literal.Literal.{Literal}
use Rattle.wh_sat_trail.specs.declared.assignment.Assignment.{Assignment}
use Rattle.wh_sat_trail.specs.declared.look.Look.{Look}
use Rattle.wh_sat_trail.specs.declared.look.Look.TheVariants.{Quiet, Refuted, Forces}
use Rattle.wh_sat_trail.specs.Assignment.{Fails}
use Rattle.wh_sat_trail.specs.Member.{member}
use Rattle.wh_sat_trail.specs.Propagation as propagation

-- quiet: neither false, nor does it force a literal
abbrev pub Looks : List Literal → List Literal → Look → Type 0
Looks t c Quiet = (propagation.IsRefuted t c → ⊥) × ((l : Literal) → propagation.Forces t c l → ⊥)
Looks t c Refuted = propagation.IsRefuted t c
Looks t c (Forces l) = propagation.Forces t c l

-- a literal of the clause that is not false
pub record IsCandidate (a : Assignment) (c : List Literal) (l : Literal) : Type 0 where
  pub in_clause : member l c ≡ true
  pub below : l.variable < vec_len a.values
  pub possible : Fails a.literals.items l → ⊥
