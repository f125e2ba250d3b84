-- A variable of a linear polynomial that is replaced by a linear polynomial.
use Rattle.std.proofs.Common.{◌≡◌, ℕ, suc, ◌+◌, ◌*◌, ◌-◌, ◌<◌, ◌≤◌, ◌^◌, ◌==◌, nat_lt, if◌then◌else◌, Bool, true, false, List, [], ◌∷◌, length, refl, ap, ◌∙◌, sym, subst, arith}
use Rattle.wh_types.specs.Ty.{Ty}
use Rattle.wh_poly.specs.Polynomials.{Polynomial, zero_poly, plus, Factors, no_factors, times, Arguments, no_arguments, argument}
use Rattle.wh_poly.specs.Arithmetic.{sum_poly, multiply, constant, atom}
use Rattle.wh_hopoly.specs.Evaluation.{Run, one, next, without, down, replace, replace_factors, widened}
use Rattle.wh_hopoly.proofs.RunLaws.{Within, within_one, within_both}
use Rattle.wh_poly_flat.proofs.Totals.{IsUnit, IsLinear, weighed, total, spread, total_sum, total_multiply, total_renumber, total_alike, spread_sum, spread_multiply, spread_renumber, spread_alike, linear_sum, linear_multiply, linear_renumber}
use Rattle.wh_poly_flat.proofs.Light.{each_one, each_two, light_fits}

-- the weights where the variable n is gone and what stands for it has a weight of its own
abbrev pub put_at : ℕ → ℕ → (ℕ → ℕ) → ℕ → ℕ
put_at n here at x = if x == n then here else at (down n x)

below : (n m i : ℕ) → i < n → (if nat_lt i n then i else m + (i - n)) ≡ i
below n m i h = grind (arith, h)

below_more : (n m b i : ℕ) → n ≤ m → i < n → (if nat_lt i n then i else b + (i - n)) < m
below_more n m b i le h = subst (λ k. k < m) (sym (below n b i h)) (omega (arith, le, h))

down_below : (n m x : ℕ) → n ≤ m → x < suc m → (x == n) ≡ false → down n x < m
down_below n m x le h e = grind (arith, le, h, e)

module _ (n m : ℕ) (le : n ≤ m) (q : Polynomial) (lq : IsLinear n q) where
  -- what stands for the variable
  abbrev value_in : List Ty → Polynomial
  value_in Δ = widened n Δ q

  value_total : (first : ℕ) (at : ℕ → ℕ) (Δ : List Ty) → total first at (value_in Δ) ≡ total first at q
  value_total first at Δ = total_renumber first at _ q ∙ total_alike n first _ at q lq (λ i h. ap at (below n (length Δ) i h))

  value_spread : (first : ℕ) (at : ℕ → ℕ) (Δ : List Ty) → spread first at (value_in Δ) ≡ spread first at q
  value_spread first at Δ = spread_renumber first at _ q ∙ spread_alike n first _ at q lq (λ i h. ap at (below n (length Δ) i h))

  value_linear : (Δ : List Ty) → IsLinear m (value_in Δ)
  value_linear Δ = linear_renumber n m _ q (λ i h. below_more n m (length Δ) i le h) lq

  -- what a variable becomes
  abbrev factor : Bool → List Ty → ℕ → Run Polynomial
  factor b Δ x = if b then one (value_in Δ) else one (atom (down n x) no_arguments)

  factor_total : (first : ℕ) (at : ℕ → ℕ) (Δ : List Ty) (x : ℕ) (b : Bool)
      → total first at (factor b Δ x).result ≡ (if b then total first at q else at (down n x))
  factor_total first at Δ x true = value_total first at Δ
  factor_total first at Δ x false = omega arith

  factor_spread : (first : ℕ) (at : ℕ → ℕ) (Δ : List Ty) (x : ℕ) (b : Bool)
      → spread first at (factor b Δ x).result ≡ (if b then spread first at q else at (down n x))
  factor_spread first at Δ x true = value_spread first at Δ
  factor_spread first at Δ x false = omega arith

  factor_linear : (Δ : List Ty) (x : ℕ) (b : Bool) → x < suc m → (x == n) ≡ b → IsLinear m (factor b Δ x).result
  factor_linear Δ x true h e = value_linear Δ
  factor_linear Δ x false h e = (down_below n m x le h e, tt)

  factor_within : (Δ : List Ty) (x : ℕ) (b : Bool) → total 1 each_one q < 2 ^ 128 → spread 1 each_two q ≤ 65536
      → Within (factor b Δ x).values
  factor_within Δ x true h k = within_one _ (light_fits _ (record {
    scope = m;
    linear = value_linear Δ;
    small = subst (λ t. t < 2 ^ 128) (sym (value_total 1 each_one Δ)) h;
    few = subst (λ t. t ≤ 65536) (sym (value_spread 1 each_two Δ)) k;
  }))
  factor_within Δ x false h k = within_one (atom (down n x) no_arguments) (light_fits (atom (down n x) no_arguments) (record {
    scope = suc (down n x);
    linear = (omega arith, tt);
    small = omega arith;
    few = omega arith;
  }))

  -- the run that begins with a coefficient and multiplies in the one factor
  abbrev step : Bool → ℕ → List Ty → ℕ → Run Polynomial
  step b c Δ x = next (factor b Δ x) (λ a. next (one (constant c)) (λ product. one (multiply product a)))

  step_within : (c : ℕ) (Δ : List Ty) (x : ℕ) (b : Bool) → x < suc m → (x == n) ≡ b → total 1 each_one q < 2 ^ 128 → spread 1 each_two q ≤ 65536
      → c < 2 ^ 128 → c * (if b then total 1 each_one q else 1) < 2 ^ 128 → Within (step b c Δ x).values
  step_within c Δ x b h e small few fits product =
      let a = (factor b Δ x).result in
      let same = factor_total 1 each_one Δ x b in
      let wide = factor_spread 1 each_two Δ x b in
      let more : (b : Bool) → (if b then spread 1 each_two q else 2) ≤ 65536 = λ b. elim b as (λ b. (if b then spread 1 each_two q else 2) ≤ 65536)
      [ true ↦ few | false ↦ omega arith ] in
      within_both (factor b Δ x).values _ (factor_within Δ x b small few)
      (within_both (constant c ∷ []) (multiply (constant c) (factor b Δ x).result ∷ []) (within_one (constant c) (light_fits (constant c) (record { scope = 0; linear = (tt, tt); small = omega (arith, fits); few = omega arith })))
      (within_one _ (light_fits _ (record {
        scope = m;
        linear = linear_multiply m c a (factor_linear Δ x b h e);
        small = subst (λ t. t < 2 ^ 128) (sym (total_multiply 1 each_one c a ∙ ap (λ t. c * t) same)) product;
        few = (let s = spread_multiply 1 each_two c a in let f = more b in omega (arith, s, wide, f));
      }))))

  -- all values stay within the limits where the coefficients are small on the whole and the monomials few
  pub record AreSmall (sum p : Polynomial) : Type 0 where
    pub value_small : total 1 each_one q < 2 ^ 128
    pub value_few : spread 1 each_two q ≤ 65536
    pub own_small : total 1 each_one p < 2 ^ 128
    pub all_small : total 1 each_one sum + total 1 (put_at n (total 1 each_one q) each_one) p < 2 ^ 128
    pub all_few : spread 1 each_two sum + spread 1 (put_at n (spread 1 each_two q) each_two) p ≤ 65536

  module _ (Γ : List Ty) where
    abbrev head : List Ty → Arguments → Run Polynomial
    head Δ qs = one (value_in Δ)

    abbrev monomial : ℕ → Factors → Run Polynomial
    monomial c us = replace_factors head n Γ (constant c) us

    monomial_total : (first : ℕ) (at : ℕ → ℕ) (c : ℕ) (us : Factors) → IsUnit (suc m) us
        → total first at (monomial c us).result ≡ c * weighed first (put_at n (total first at q) at) us
    monomial_total first at c no_factors u = omega arith
    monomial_total first at c (times x no_arguments no_factors) u =
        total_multiply first at c (factor (x == n) (without n Γ) x).result
        ∙ ap (λ t. c * t) (factor_total first at (without n Γ) x (x == n))
    monomial_total first at c (times x no_arguments (times y qs vs)) u = absurd u
    monomial_total first at c (times x (argument p ps) us) u = absurd u

    monomial_spread : (first : ℕ) (at : ℕ → ℕ) (c : ℕ) (us : Factors) → IsUnit (suc m) us
        → spread first at (monomial c us).result ≤ weighed first (put_at n (spread first at q) at) us
    monomial_spread first at c no_factors u = omega arith
    monomial_spread first at c (times x no_arguments no_factors) u =
        let a = spread_multiply first at c (factor (x == n) (without n Γ) x).result in
        let b = factor_spread first at (without n Γ) x (x == n) in
        omega (arith, a, b)
    monomial_spread first at c (times x no_arguments (times y qs vs)) u = absurd u
    monomial_spread first at c (times x (argument p ps) us) u = absurd u

    monomial_linear : (c : ℕ) (us : Factors) → IsUnit (suc m) us → IsLinear m (monomial c us).result
    monomial_linear c no_factors u = (tt, tt)
    monomial_linear c (times x no_arguments no_factors) u =
        linear_multiply m c (factor (x == n) (without n Γ) x).result (factor_linear (without n Γ) x (x == n) u refl)
    monomial_linear c (times x no_arguments (times y qs vs)) u = absurd u
    monomial_linear c (times x (argument p ps) us) u = absurd u

    monomial_within : (c : ℕ) (us : Factors) → IsUnit (suc m) us → total 1 each_one q < 2 ^ 128 → spread 1 each_two q ≤ 65536
        → c < 2 ^ 128 → c * weighed 1 (put_at n (total 1 each_one q) each_one) us < 2 ^ 128 → Within (monomial c us).values
    monomial_within c no_factors u small few fits product =
        within_one (constant c) (light_fits (constant c) (record { scope = 0; linear = (tt, tt); small = omega (arith, fits); few = omega arith }))
    monomial_within c (times x no_arguments no_factors) u small few fits product =
        step_within c (without n Γ) x (x == n) u refl small few fits product
    monomial_within c (times x no_arguments (times y qs vs)) u small few fits product = absurd u
    monomial_within c (times x (argument p ps) us) u small few fits product = absurd u

    pub replaced_total : (first : ℕ) (at : ℕ → ℕ) (sum p : Polynomial) → IsLinear (suc m) p
        → total first at (replace head n Γ sum p).result ≡ total first at sum + total first (put_at n (total first at q) at) p
    replaced_total first at sum zero_poly l = omega arith
    replaced_total first at sum (plus c us p) l =
        let a = replaced_total first at (sum_poly (monomial c us).result sum) p l.1 in
        let b = total_sum first at (monomial c us).result sum in
        let d = monomial_total first at c us l.0 in
        omega (arith, a, b, d)

    pub replaced_spread : (first : ℕ) (at : ℕ → ℕ) (sum p : Polynomial) → IsLinear (suc m) p
        → spread first at (replace head n Γ sum p).result ≤ spread first at sum + spread first (put_at n (spread first at q) at) p
    replaced_spread first at sum zero_poly l = omega arith
    replaced_spread first at sum (plus c us p) l =
        let a = replaced_spread first at (sum_poly (monomial c us).result sum) p l.1 in
        let b = spread_sum first at (monomial c us).result sum in
        let d = monomial_spread first at c us l.0 in
        omega (arith, a, b, d)

    pub replaced_linear : (sum p : Polynomial) → IsLinear m sum → IsLinear (suc m) p → IsLinear m (replace head n Γ sum p).result
    replaced_linear sum zero_poly k l = k
    replaced_linear sum (plus c us p) k l =
        replaced_linear (sum_poly (monomial c us).result sum) p (linear_sum m (monomial c us).result sum (monomial_linear c us l.0) k) l.1

    pub replaced_within : (sum p : Polynomial) → IsLinear m sum → IsLinear (suc m) p → AreSmall sum p
        → Within (replace head n Γ sum p).values
    replaced_within sum zero_poly k l small = within_one _ (light_fits _ (record {
      scope = m;
      linear = k;
      small = (let h = small.all_small in omega (arith, h));
      few = (let h = small.all_few in omega (arith, h));
    }))
    replaced_within sum (plus c us p) k l small =
        let mono = (monomial c us).result in
        let next_sum = sum_poly mono sum in
        let t = total_sum 1 each_one mono sum in
        let s = spread_sum 1 each_two mono sum in
        let mt = monomial_total 1 each_one c us l.0 in
        let ms = monomial_spread 1 each_two c us l.0 in
        let all = small.all_small in
        let wide = small.all_few in
        let own = small.own_small in
        let one_each = weighed_one us l.0 in
        let lk = linear_sum m mono sum (monomial_linear c us l.0) k in
        let rest : AreSmall next_sum p = record {
          value_small = small.value_small;
          value_few = small.value_few;
          own_small = omega (arith, own);
          all_small = omega (arith, all, t, mt);
          all_few = omega (arith, wide, s, ms);
        } in
        within_both (monomial c us).values _
        (monomial_within c us l.0 small.value_small small.value_few (own_fits c us (total 1 each_one p) l.0 own) (omega (arith, all)))
        (within_both (next_sum ∷ []) _ (within_one _ (light_fits _ (record {
          scope = m;
          linear = lk;
          small = omega (arith, all, t, mt);
          few = omega (arith, wide, s, ms);
        })))
        (replaced_within next_sum p lk l.1 rest))
      where
        weighed_one : (us : Factors) → IsUnit (suc m) us → weighed 1 each_one us ≡ 1
        weighed_one no_factors u = refl
        weighed_one (times x ps us) u = refl

        own_fits : (c : ℕ) (us : Factors) (rest : ℕ) → IsUnit (suc m) us → c * weighed 1 each_one us + rest < 2 ^ 128 → c < 2 ^ 128
        own_fits c no_factors rest u h = omega (arith, h)
        own_fits c (times x ps us) rest u h = omega (arith, h)
