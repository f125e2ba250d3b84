-- A clause one of whose literals is true.
use Rattle.std.proofs.Common.{◌≡◌, ℕ, ◌<◌, Bool, true, false, not, cond, List, length, get_or, refl, arith}
use mathlib.Core.Bool.{beq}
use Rattle.wh_sat_trail.specs.declared.literal.Literal.{Literal}
use Rattle.wh_sat.specs.Solving.{clause_true}
use Rattle.wh_sat.proofs.Assuring.{clause_true_by}

is_sign : (p b : Bool) → beq b p ≡ true → cond p b (not b) ≡ true
is_sign true true e = refl
is_sign true false e = absurd (grind (arith, e))
is_sign false true e = absurd (grind (arith, e))
is_sign false false e = refl

-- a literal whose variable has its value
pub true_at : (v : ℕ → Bool) (c : List Literal) (i : ℕ) (d : Literal) → i < length c → beq (v (get_or c i d).variable) (get_or c i d).positive ≡ true
    → clause_true v c ≡ true
true_at v c i d within e = clause_true_by v c i d within (is_sign (get_or c i d).positive (v (get_or c i d).variable) e)
