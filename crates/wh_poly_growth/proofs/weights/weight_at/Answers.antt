-- The weight at the variable's number, or 0 past the last.
use Rattle.std.proofs.Common.{◌≡◌, ℕ, zero, suc, ◌<◌, List, [], ◌∷◌, length, get_or, ap, sym, arith}
use Rattle.wh_poly_growth.specs.declared.weights.Weight.{Weight}
use Rattle.wh_poly_growth.specs.Weights.{constant_at, factor_at}
use Rattle.wh_poly_growth.proofs.WeightLaws.{constant_past, factor_past}
use Rattle.wh_poly_growth.proofs.weights.weight_at.Goals as goal

constant_read : (ws : List Weight) (x : ℕ) (w : Weight) → x < length ws → w ≡ get_or ws x w → w.constant ≡ constant_at ws x
constant_read [] x w h e = absurd (omega (arith, h))
constant_read (v ∷ ws) zero w h e = ap (λ (w : Weight). w.constant) e
constant_read (v ∷ ws) (suc x) w h e = constant_read ws x w (omega (arith, h)) e

factor_read : (ws : List Weight) (x : ℕ) (w : Weight) → x < length ws → w ≡ get_or ws x w → w.factor ≡ factor_at ws x
factor_read [] x w h e = absurd (omega (arith, h))
factor_read (v ∷ ws) zero w h e = ap (λ (w : Weight). w.factor) e
factor_read (v ∷ ws) (suc x) w h e = factor_read ws x w (omega (arith, h)) e

pub returns-in-Some-clause-constant : goal.returns-in-Some-clause-constant
returns-in-Some-clause-constant c =
    constant_read c.args.weights.now c.args.variable c.in-Some.weight.now c.in-Some.ensures.lookup.3.0 c.in-Some.ensures.lookup.1

pub returns-in-Some-clause-factor : goal.returns-in-Some-clause-factor
returns-in-Some-clause-factor c =
    factor_read c.args.weights.now c.args.variable c.in-Some.weight.now c.in-Some.ensures.lookup.3.0 c.in-Some.ensures.lookup.1

pub returns-in-None-clause-constant : goal.returns-in-None-clause-constant
returns-in-None-clause-constant c = sym (constant_past c.args.weights.now c.args.variable c.in-None.ensures.lookup.3)

pub returns-in-None-clause-factor : goal.returns-in-None-clause-factor
returns-in-None-clause-factor c = sym (factor_past c.args.weights.now c.args.variable c.in-None.ensures.lookup.3)
