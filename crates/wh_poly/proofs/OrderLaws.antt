-- The order of polynomials is a total order.
use Rattle.std.proofs.Common.{◌≡◌, ℕ, refl, ap, ap₂, ◌∙◌, sym, subst, arith, Ordering, Less, Equal, Greater, nat_cmp}
use Rattle.std.specs.Ordering.{ordering_then, ordering_reverse}
use Rattle.std.proofs.lemmas.Cmp.{nat_cmp_total}
use Rattle.wh_poly.specs.Polynomials.{Polynomial, zero_poly, plus, Factors, no_factors, times, Arguments, no_arguments, argument, compare_polynomials, compare_factors, compare_arguments}

pub then_equal : (o u : Ordering) → ordering_then o u ≡ Equal → (o ≡ Equal) × (u ≡ Equal)
then_equal Less u h = grind arith
then_equal Equal u h = (refl, h)
then_equal Greater u h = grind arith

reverse_then : (o u : Ordering) → ordering_then (ordering_reverse o) (ordering_reverse u) ≡ ordering_reverse (ordering_then o u)
reverse_then Less u = refl
reverse_then Equal u = refl
reverse_then Greater u = refl

pub nat_equal : (x y : ℕ) → nat_cmp x y ≡ Equal → x ≡ y
nat_equal x y h = grind arith

nat_same : (x : ℕ) → nat_cmp x x ≡ Equal
nat_same x = grind arith

-- only equal ones compare_polynomials as equal
mutual
  pub poly_equal : (p q : Polynomial) → compare_polynomials p q ≡ Equal → p ≡ q
  poly_equal zero_poly zero_poly h = refl
  poly_equal zero_poly (plus d vs q) h = grind arith
  poly_equal (plus c us p) zero_poly h = grind arith
  poly_equal (plus c us p) (plus d vs q) h =
      let a = then_equal (compare_factors us vs) (ordering_then (nat_cmp c d) (compare_polynomials p q)) h in
      let b = then_equal (nat_cmp c d) (compare_polynomials p q) a.1 in
      cc (factors_equal us vs a.0, nat_equal c d b.0, poly_equal p q b.1)

  pub factors_equal : (us vs : Factors) → compare_factors us vs ≡ Equal → us ≡ vs
  factors_equal no_factors no_factors h = refl
  factors_equal no_factors (times y qs vs) h = grind arith
  factors_equal (times x ps us) no_factors h = grind arith
  factors_equal (times x ps us) (times y qs vs) h =
      let a = then_equal (ordering_then (nat_cmp x y) (compare_arguments ps qs)) (compare_factors us vs) h in
      let b = then_equal (nat_cmp x y) (compare_arguments ps qs) a.0 in
      cc (nat_equal x y b.0, arguments_equal ps qs b.1, factors_equal us vs a.1)

  pub arguments_equal : (ps qs : Arguments) → compare_arguments ps qs ≡ Equal → ps ≡ qs
  arguments_equal no_arguments no_arguments h = refl
  arguments_equal no_arguments (argument q qs) h = grind arith
  arguments_equal (argument p ps) no_arguments h = grind arith
  arguments_equal (argument p ps) (argument q qs) h =
      let a = then_equal (compare_polynomials p q) (compare_arguments ps qs) h in
      cc (poly_equal p q a.0, arguments_equal ps qs a.1)

-- and equal ones do
mutual
  pub poly_same : (p : Polynomial) → compare_polynomials p p ≡ Equal
  poly_same zero_poly = refl
  poly_same (plus c us p) = ap₂ ordering_then (factors_same us) (ap₂ ordering_then (nat_same c) (poly_same p))

  pub factors_same : (us : Factors) → compare_factors us us ≡ Equal
  factors_same no_factors = refl
  factors_same (times x ps us) = ap₂ ordering_then (ap₂ ordering_then (nat_same x) (arguments_same ps)) (factors_same us)

  pub arguments_same : (ps : Arguments) → compare_arguments ps ps ≡ Equal
  arguments_same no_arguments = refl
  arguments_same (argument p ps) = ap₂ ordering_then (poly_same p) (arguments_same ps)

pub both_reverse : (a b a' b' : Ordering) → a ≡ ordering_reverse a' → b ≡ ordering_reverse b' → ordering_then a b ≡ ordering_reverse (ordering_then a' b')
both_reverse a b a' b' h k = ap₂ ordering_then h k ∙ reverse_then a' b'

mutual
  pub poly_reverse : (p q : Polynomial) → compare_polynomials p q ≡ ordering_reverse (compare_polynomials q p)
  poly_reverse zero_poly zero_poly = refl
  poly_reverse zero_poly (plus d vs q) = refl
  poly_reverse (plus c us p) zero_poly = refl
  poly_reverse (plus c us p) (plus d vs q) = both_reverse _ _ _ _ (factors_reverse us vs) (both_reverse _ _ _ _ (nat_cmp_total.antisymm c d) (poly_reverse p q))

  pub factors_reverse : (us vs : Factors) → compare_factors us vs ≡ ordering_reverse (compare_factors vs us)
  factors_reverse no_factors no_factors = refl
  factors_reverse no_factors (times y qs vs) = refl
  factors_reverse (times x ps us) no_factors = refl
  factors_reverse (times x ps us) (times y qs vs) = both_reverse _ _ _ _ (both_reverse _ _ _ _ (nat_cmp_total.antisymm x y) (arguments_reverse ps qs)) (factors_reverse us vs)

  pub arguments_reverse : (ps qs : Arguments) → compare_arguments ps qs ≡ ordering_reverse (compare_arguments qs ps)
  arguments_reverse no_arguments no_arguments = refl
  arguments_reverse no_arguments (argument q qs) = refl
  arguments_reverse (argument p ps) no_arguments = refl
  arguments_reverse (argument p ps) (argument q qs) = both_reverse _ _ _ _ (poly_reverse p q) (arguments_reverse ps qs)

-- three comparisons of a lexicographic order
pub record Between (a b c : Ordering) : Type 0 where
  pub less : a ≡ Less → b ≡ Less → c ≡ Less
  pub first : a ≡ Equal → c ≡ b
  pub second : b ≡ Equal → c ≡ a

pub lex : (a b c a' b' c' : Ordering) → Between a b c → Between a' b' c' → Between (ordering_then a a') (ordering_then b b') (ordering_then c c')
lex Less Less c a' b' c' m n = record { less = λ h k. ap (λ o. ordering_then o c') (m.less refl refl); first = λ h. grind arith; second = λ h. grind arith }
lex Less Equal c a' b' c' m n = record { less = λ h k. ap (λ o. ordering_then o c') (m.second refl); first = λ h. grind arith; second = λ h. ap (λ o. ordering_then o c') (m.second refl) }
lex Less Greater c a' b' c' m n = record { less = λ h k. grind arith; first = λ h. grind arith; second = λ h. grind arith }
lex Equal b c a' b' c' m n = subst (λ c. Between a' (ordering_then b b') (ordering_then c c')) (sym (m.first refl)) (go b)
  where
    go : (b : Ordering) → Between a' (ordering_then b b') (ordering_then b c')
    go Less = record { less = λ h k. refl; first = λ h. refl; second = λ h. grind arith }
    go Equal = n
    go Greater = record { less = λ h k. k; first = λ h. refl; second = λ h. grind arith }
lex Greater Less c a' b' c' m n = record { less = λ h k. grind arith; first = λ h. grind arith; second = λ h. grind arith }
lex Greater Equal c a' b' c' m n = record { less = λ h k. grind arith; first = λ h. grind arith; second = λ h. ap (λ o. ordering_then o c') (m.second refl) }
lex Greater Greater c a' b' c' m n = record { less = λ h k. grind arith; first = λ h. grind arith; second = λ h. grind arith }

pub nat_between : (x y z : ℕ) → Between (nat_cmp x y) (nat_cmp y z) (nat_cmp x z)
nat_between x y z = record { less = nat_cmp_total.trans x y z; first = λ h. ap (λ x. nat_cmp x z) (nat_equal x y h); second = λ h. ap (nat_cmp x) (sym (nat_equal y z h)) }

mutual
  pub poly_between : (p q r : Polynomial) → Between (compare_polynomials p q) (compare_polynomials q r) (compare_polynomials p r)
  poly_between zero_poly zero_poly r = record { less = λ h k. k; first = λ h. refl; second = λ h. h }
  poly_between zero_poly (plus d vs q) zero_poly = record { less = λ h k. grind arith; first = λ h. grind arith; second = λ h. grind arith }
  poly_between zero_poly (plus d vs q) (plus e ws r) = record { less = λ h k. refl; first = λ h. grind arith; second = λ h. refl }
  poly_between (plus c us p) zero_poly zero_poly = record { less = λ h k. grind arith; first = λ h. grind arith; second = λ h. refl }
  poly_between (plus c us p) zero_poly (plus e ws r) = record { less = λ h k. grind arith; first = λ h. grind arith; second = λ h. grind arith }
  poly_between (plus c us p) (plus d vs q) zero_poly = record { less = λ h k. grind arith; first = λ h. refl; second = λ h. grind arith }
  poly_between (plus c us p) (plus d vs q) (plus e ws r) =
      lex (compare_factors us vs) (compare_factors vs ws) (compare_factors us ws) _ _ _ (factors_between us vs ws)
      (lex (nat_cmp c d) (nat_cmp d e) (nat_cmp c e) (compare_polynomials p q) (compare_polynomials q r) (compare_polynomials p r) (nat_between c d e) (poly_between p q r))

  pub factors_between : (us vs ws : Factors) → Between (compare_factors us vs) (compare_factors vs ws) (compare_factors us ws)
  factors_between no_factors no_factors ws = record { less = λ h k. k; first = λ h. refl; second = λ h. h }
  factors_between no_factors (times y qs vs) no_factors = record { less = λ h k. grind arith; first = λ h. grind arith; second = λ h. grind arith }
  factors_between no_factors (times y qs vs) (times z rs ws) = record { less = λ h k. refl; first = λ h. grind arith; second = λ h. refl }
  factors_between (times x ps us) no_factors no_factors = record { less = λ h k. grind arith; first = λ h. grind arith; second = λ h. refl }
  factors_between (times x ps us) no_factors (times z rs ws) = record { less = λ h k. grind arith; first = λ h. grind arith; second = λ h. grind arith }
  factors_between (times x ps us) (times y qs vs) no_factors = record { less = λ h k. grind arith; first = λ h. refl; second = λ h. grind arith }
  factors_between (times x ps us) (times y qs vs) (times z rs ws) =
      lex (ordering_then (nat_cmp x y) (compare_arguments ps qs)) (ordering_then (nat_cmp y z) (compare_arguments qs rs)) (ordering_then (nat_cmp x z) (compare_arguments ps rs)) (compare_factors us vs) (compare_factors vs ws) (compare_factors us ws)
      (lex (nat_cmp x y) (nat_cmp y z) (nat_cmp x z) (compare_arguments ps qs) (compare_arguments qs rs) (compare_arguments ps rs) (nat_between x y z) (arguments_between ps qs rs)) (factors_between us vs ws)

  pub arguments_between : (ps qs rs : Arguments) → Between (compare_arguments ps qs) (compare_arguments qs rs) (compare_arguments ps rs)
  arguments_between no_arguments no_arguments rs = record { less = λ h k. k; first = λ h. refl; second = λ h. h }
  arguments_between no_arguments (argument q qs) no_arguments = record { less = λ h k. grind arith; first = λ h. grind arith; second = λ h. grind arith }
  arguments_between no_arguments (argument q qs) (argument r rs) = record { less = λ h k. refl; first = λ h. grind arith; second = λ h. refl }
  arguments_between (argument p ps) no_arguments no_arguments = record { less = λ h k. grind arith; first = λ h. grind arith; second = λ h. refl }
  arguments_between (argument p ps) no_arguments (argument r rs) = record { less = λ h k. grind arith; first = λ h. grind arith; second = λ h. grind arith }
  arguments_between (argument p ps) (argument q qs) no_arguments = record { less = λ h k. grind arith; first = λ h. refl; second = λ h. grind arith }
  arguments_between (argument p ps) (argument q qs) (argument r rs) = lex (compare_polynomials p q) (compare_polynomials q r) (compare_polynomials p r) (compare_arguments ps qs) (compare_arguments qs rs) (compare_arguments ps rs) (poly_between p q r) (arguments_between ps qs rs)
