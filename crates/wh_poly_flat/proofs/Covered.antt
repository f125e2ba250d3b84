-- Linear polynomials cover each other just where their coefficients are at least as great.
use Rattle.std.proofs.Common.{◌≡◌, ℕ, zero, suc, ◌+◌, ◌*◌, ◌<◌, ◌≤◌, ◌==◌, if◌then◌else◌, nat_cmp, Bool, true, false, List, [], ◌∷◌, Contains, refl, ap, ap₂, ◌∙◌, sym, subst, arith, Ordering, Less, Equal, Greater}
use Rattle.std.specs.Ordering.{ordering_then}
use Rattle.wh_types.specs.Ty.{Ty, sort, ◌⇒◌}
use Rattle.wh_poly.specs.Polynomials.{Polynomial, zero_poly, plus, Factors, no_factors, times, Arguments, no_arguments, argument, compare_factors, Normal, NormalArguments, Sorted, MonomialBefore}
use Rattle.wh_hopoly.specs.Evaluation.{type_at}
use Rattle.wh_hopoly.specs.Moves.{Transfer, FactorsAtLeast, MonomialAt, given_by, taken_by, IsCover, IsStrictCover}
use Rattle.wh_poly.specs.Rearranged.{only_if_equal, coefficient}
use Rattle.wh_poly.proofs.OrderLaws.{factors_same}
use Rattle.wh_poly.proofs.SumLaws.{normal_sorted}
use Rattle.wh_hopoly.proofs.ReplaceLaws.{type_is}
use Rattle.wh_poly_meaning.specs.Functionals.{nothing as none_of}
use Rattle.wh_poly_meaning.specs.Valuations.{Valuation, MonoValuation}
use Rattle.wh_poly_meaning.specs.Meaning.{den, den_arguments}
use Rattle.wh_poly_meaning.proofs.Order.{mono_nothing}
use Rattle.wh_poly_meaning.proofs.Covers.{cover_den, strict_cover_den}
use Rattle.wh_poly_guesses.proofs.Uniqueness.{coefficient_is, monomial_of, monomial_at_least}
use Rattle.wh_poly_flat.specs.Worth.{nothing, only}
use Rattle.wh_poly_flat.proofs.Totals.{IsUnit, IsLinear, total}

-- coefficients are totals

pub coefficient_constant : (n : ℕ) (p : Polynomial) → IsLinear n p → coefficient no_factors p ≡ total 1 nothing p
coefficient_constant n zero_poly l = refl
coefficient_constant n (plus c no_factors p) l = let e = coefficient_constant n p l.1 in omega (arith, e)
coefficient_constant n (plus c (times x ps us) p) l = let e = coefficient_constant n p l.1 in omega (arith, e)

only_one : (x y c : ℕ) → only_if_equal (ordering_then (ordering_then (nat_cmp x y) Equal) Equal) c ≡ c * only x y
only_one x y c = go (nat_cmp x y) refl
  where
    go : (o : Ordering) → nat_cmp x y ≡ o → only_if_equal (ordering_then (ordering_then o Equal) Equal) c ≡ c * only x y
    go Less e = let h : (y == x) ≡ false = grind (arith, e) in
        let k : 0 ≡ c * 0 = omega arith in k ∙ ap (λ b. c * (if b then 1 else 0)) (sym h)
    go Equal e = let h : (y == x) ≡ true = grind (arith, e) in
        let k : c ≡ c * 1 = omega arith in k ∙ ap (λ b. c * (if b then 1 else 0)) (sym h)
    go Greater e = let h : (y == x) ≡ false = grind (arith, e) in
        let k : 0 ≡ c * 0 = omega arith in k ∙ ap (λ b. c * (if b then 1 else 0)) (sym h)

pub coefficient_variable : (n x : ℕ) (p : Polynomial) → IsLinear n p → coefficient (times x no_arguments no_factors) p ≡ total 0 (only x) p
coefficient_variable n x zero_poly l = refl
coefficient_variable n x (plus c no_factors p) l = let e = coefficient_variable n x p l.1 in omega (arith, e)
coefficient_variable n x (plus c (times y no_arguments no_factors) p) l =
    let e = coefficient_variable n x p l.1 in ap₂ (λ a b. a + b) (only_one x y c) e
coefficient_variable n x (plus c (times y no_arguments (times z qs vs)) p) l = absurd l.0
coefficient_variable n x (plus c (times y (argument q qs) us) p) l = absurd l.0

-- the coefficients of one are at least those of the other
pub record Dominates (p q : Polynomial) : Type 0 where
  pub constant : total 1 nothing q ≤ total 1 nothing p
  pub each : (x : ℕ) → total 0 (only x) q ≤ total 0 (only x) p

dominated : (n k : ℕ) (p q : Polynomial) → IsLinear n p → IsLinear n q → Dominates p q → (us : Factors) → IsUnit k us
    → coefficient us q ≤ coefficient us p
dominated n k p q lp lq d no_factors u =
    let a = coefficient_constant n p lp in let b = coefficient_constant n q lq in let c = d.constant in omega (arith, a, b, c)
dominated n k p q lp lq d (times x no_arguments no_factors) u =
    let a = coefficient_variable n x p lp in let b = coefficient_variable n x q lq in let c = d.each x in omega (arith, a, b, c)
dominated n k p q lp lq d (times x no_arguments (times y qs vs)) u = absurd u
dominated n k p q lp lq d (times x (argument r rs) us) u = absurd u

unit_at : (n : ℕ) (p : Polynomial) (i c : ℕ) (us : Factors) → IsLinear n p → MonomialAt p i c us → IsUnit n us
unit_at n zero_poly i c us l at = absurd at
unit_at n (plus d vs p) zero c us l at = subst (IsUnit n) at.1 l.0
unit_at n (plus d vs p) (suc i) c us l at = unit_at n p i c us l.1 at

unit_fits : (n : ℕ) (us : Factors) → IsUnit n us → FactorsAtLeast us us
unit_fits n no_factors u = tt
unit_fits n (times x no_arguments no_factors) u = (refl, tt, tt)
unit_fits n (times x no_arguments (times y qs vs)) u = absurd u
unit_fits n (times x (argument q qs) us) u = absurd u

one_monomial : (p : Polynomial) (i c d : ℕ) (us vs : Factors) → MonomialAt p i c us → MonomialAt p i d vs → us ≡ vs
one_monomial zero_poly i c d us vs a b = absurd a
one_monomial (plus e ws p) zero c d us vs a b = sym a.1 ∙ b.1
one_monomial (plus e ws p) (suc i) c d us vs a b = one_monomial p i c d us vs a b

-- moves from the monomial with the same factors
module _ (p : Polynomial) where
  -- where these factors stand
  abbrev IsLocated : Factors → Type 0
  IsLocated vs = (i : ℕ) × (c : ℕ) × MonomialAt p i c vs

  abbrev AreLocated : Polynomial → Type 0
  AreLocated zero_poly = Unit {0}
  AreLocated (plus d vs q) = IsLocated vs × AreLocated q

  abbrev moves : (q : Polynomial) → AreLocated q → ℕ → List Transfer
  moves zero_poly a j = []
  moves (plus d vs q) a j = record { from = a.0.0; to = j; amount = d } ∷ moves q a.1 (suc j)

  -- a move of the list goes between monomials with the same factors
  abbrev IsBetween : Polynomial → ℕ → Transfer → Type 0
  IsBetween q j m = (k : ℕ) × (m.to ≡ j + k) × (d : ℕ) × (vs : Factors) × MonomialAt q k d vs × (c : ℕ) × MonomialAt p m.from c vs

  moves_good : (q : Polynomial) (a : AreLocated q) (j : ℕ) (m : Transfer) → Contains (moves q a j) m → IsBetween q j m
  moves_good zero_poly a j m (i, h, e) = absurd (omega (arith, h))
  moves_good (plus d vs q) a j m (zero, h, e) =
      let P : Transfer → Type 0 = λ m. IsBetween (plus d vs q) j m in
      subst P e (0, omega arith, d, vs, (refl, refl), a.0.1, a.0.2)
  moves_good (plus d vs q) a j m (suc i, h, e) =
      let (k, t, c, us, at, g, from) = moves_good q a.1 (suc j) m (i, omega (arith, h), e) in
      (suc k, omega (arith, t), c, us, at, g, from)

  moves_bring : (q : Polynomial) (a : AreLocated q) (j k d : ℕ) (vs : Factors) → MonomialAt q k d vs → d ≤ taken_by (j + k) (moves q a j)
  moves_bring zero_poly a j k d vs at = absurd at
  moves_bring (plus e ws q) a j zero d vs at =
      let h : (j == (j + 0)) ≡ true = (let z : j + 0 ≡ j = omega arith in grind (arith, z)) in
      subst (λ b. d ≤ (if b then e + taken_by (j + 0) (moves q a.1 (suc j)) else taken_by (j + 0) (moves q a.1 (suc j)))) (sym h)
      (let f = at.0 in omega (arith, f))
  moves_bring (plus e ws q) a j (suc k) d vs at =
      let r : d ≤ taken_by (suc j + k) (moves q a.1 (suc j)) = moves_bring q a.1 (suc j) k d vs at in
      let z : suc j + k ≡ j + suc k = omega arith in
      let s : d ≤ taken_by (j + suc k) (moves q a.1 (suc j)) = subst (λ i. d ≤ taken_by i (moves q a.1 (suc j))) z r in
      either (j == (j + suc k)) s
    where
      either : (b : Bool) → d ≤ taken_by (j + suc k) (moves q a.1 (suc j))
          → d ≤ (if b then e + taken_by (j + suc k) (moves q a.1 (suc j)) else taken_by (j + suc k) (moves q a.1 (suc j)))
      either true s = omega (arith, s)
      either false s = s

  moves_take : (q : Polynomial) (a : AreLocated q) (j i c : ℕ) (us : Factors) → MonomialAt p i c us → given_by i (moves q a j) ≤ coefficient us q
  moves_take zero_poly a j i c us at = omega arith
  moves_take (plus d vs q) a j i c us at = go (moves_take q a.1 (suc j) i c us at) (a.0.0 == i) refl
    where
      go : given_by i (moves q a.1 (suc j)) ≤ coefficient us q → (b : Bool) → (a.0.0 == i) ≡ b
          → (if b then d + given_by i (moves q a.1 (suc j)) else given_by i (moves q a.1 (suc j))) ≤ coefficient us (plus d vs q)
      go r true e =
          let h : a.0.0 ≡ i = grind (arith, e) in
          let same : vs ≡ us = one_monomial p i a.0.1 c vs us (subst (λ i. MonomialAt p i a.0.1 vs) h a.0.2) at in
          let o : compare_factors us vs ≡ Equal = subst (λ vs. compare_factors us vs ≡ Equal) (sym same) (factors_same us) in
          let f = ap (λ o. only_if_equal o d + coefficient us q) o in omega (arith, r, f)
      go r false e = omega (arith, r)

located : (Γ : List Ty) (p : Polynomial) → Normal Γ p → (q : Polynomial)
    → ((i d : ℕ) (vs : Factors) → MonomialAt q i d vs → 1 ≤ coefficient vs p) → AreLocated p q
located Γ p np zero_poly f = tt
located Γ p np (plus d vs q) f =
    let (i, at) = monomial_of Γ p vs np (f 0 d vs (refl, refl)) in
    ((i, coefficient vs p, at), located Γ p np q (λ i d vs at. f (suc i) d vs at))

module _ (Γ : List Ty) (n : ℕ) (p q : Polynomial) (np : Normal Γ p) (nq : Normal Γ q) (lp : IsLinear n p) (lq : IsLinear n q)
    (d : Dominates p q) where
  there : (i c : ℕ) (vs : Factors) → MonomialAt q i c vs → 1 ≤ coefficient vs p
  there i c vs at =
      let a = coefficient_is Γ q c vs nq (i, at) in
      let b = monomial_at_least Γ q c vs nq (i, at) in
      let e = dominated n n p q lp lq d vs (unit_at n q i c vs lq at) in
      omega (arith, a, b, e)

  places : AreLocated p q
  places = located Γ p np q there

  pub cover_moves : List Transfer
  cover_moves = moves p q places 0

  pub covers : IsCover p q cover_moves
  unfolding cover_moves
  covers = record {
    good = λ m c. (let (k, t, e, vs, at, g, from) = moves_good p q places 0 m c in
        let h : k ≡ m.to = omega (arith, t) in
        record {
          given = g;
          taken = e;
          giver = vs;
          taker = vs;
          source = from;
          target = subst (λ k. MonomialAt q k e vs) h at;
          fits = unit_fits n vs (unit_at n q k e vs lq at);
        });
    not_over_spent = λ i c us at. (let a = moves_take p q places 0 i c us at in
        let b = coefficient_is Γ p c us np (i, at) in
        let e = dominated n n p q lp lq d us (unit_at n p i c us lp at) in omega (arith, a, b, e));
    covered = λ j c us at. (let a = moves_bring p q places 0 j c us at in
        let z : 0 + j ≡ j = omega arith in subst (λ j. c ≤ taken_by j (moves p q places 0)) z a);
  }

  pub covers_strictly : total 1 nothing q < total 1 nothing p → IsStrictCover p q cover_moves
  unfolding cover_moves
  covers_strictly less =
      let a = coefficient_constant n p lp in
      let b = coefficient_constant n q lq in
      let first = constant_first p (normal_sorted Γ p np) (omega (arith, a, less)) in
      let t = moves_take p q places 0 0 (coefficient no_factors p) no_factors first in
      record { cover = covers; constant = coefficient no_factors p; first = first; left_over = omega (arith, t, a, b, less) }
    where
      none_behind : (x : ℕ) (ps : Arguments) (us : Factors) (p : Polynomial) → MonomialBefore (times x ps us) p → Sorted p
          → coefficient no_factors p ≡ 0
      none_behind x ps us zero_poly b s = refl
      none_behind x ps us (plus c no_factors p) b s = absurd (grind (arith, b))
      none_behind x ps us (plus c (times y qs vs) p) b s = let e = none_behind y qs vs p s.0 s.1 in omega (arith, e)

      none_twice : (p : Polynomial) → MonomialBefore no_factors p → Sorted p → coefficient no_factors p ≡ 0
      none_twice zero_poly b s = refl
      none_twice (plus c no_factors p) b s = absurd (grind (arith, b))
      none_twice (plus c (times y qs vs) p) b s = let e = none_behind y qs vs p s.0 s.1 in omega (arith, e)

      constant_first : (p : Polynomial) → Sorted p → 1 ≤ coefficient no_factors p → MonomialAt p 0 (coefficient no_factors p) no_factors
      constant_first zero_poly s h = absurd (omega (arith, h))
      constant_first (plus c no_factors p) s h = let e = none_twice p s.0 s.1 in (omega (arith, e), refl)
      constant_first (plus c (times y qs vs) p) s h =
          absurd (let e = none_behind y qs vs p s.0 s.1 in omega (arith, e, h))

-- what numbers say

-- the valuation where the variables of sorts are worth so much
abbrev by_weights : (ℕ → ℕ) → Valuation
by_weights u x (sort s) = u x
by_weights u x (A ⇒ B) = λ a. none_of B

weights_mono : (u : ℕ → ℕ) → MonoValuation (by_weights u)
weights_mono u x (sort s) = tt
weights_mono u x (A ⇒ B) = mono_nothing (A ⇒ B)

den_variable : (Γ : List Ty) (u : ℕ → ℕ) (x : ℕ) (A B : Ty) → NormalArguments Γ A no_arguments → B ≡ A
    → den_arguments Γ (by_weights u) B (by_weights u x B) no_arguments ≡ u x
den_variable Γ u x (sort s) B n e = subst (λ B. den_arguments Γ (by_weights u) B (by_weights u x B) no_arguments ≡ u x) (sym e) refl
den_variable Γ u x (A ⇒ C) B n e = absurd n

den_linear : (Γ : List Ty) (n : ℕ) (u : ℕ → ℕ) (p : Polynomial) → Normal Γ p → IsLinear n p → den Γ (by_weights u) p ≡ total 1 u p
den_linear Γ n u zero_poly m l = refl
den_linear Γ n u (plus c no_factors p) m l = ap (λ k. c * 1 + k) (den_linear Γ n u p m.3 l.1)
den_linear Γ n u (plus c (times x no_arguments no_factors) p) m l =
    let (A, has, args, b, r) = m.1 in
    let e = den_variable Γ u x A (type_at Γ x) args (type_is Γ x A has) in
    let f = den_linear Γ n u p m.3 l.1 in
    ap₂ (λ j k. c * (j * 1) + k) e f ∙ omega arith
den_linear Γ n u (plus c (times x no_arguments (times y qs vs)) p) m l = absurd l.0
den_linear Γ n u (plus c (times x (argument q qs) us) p) m l = absurd l.0

total_mixed : (k : ℕ) (w : ℕ → ℕ) (p : Polynomial) → total 1 (λ x. k * w x) p ≡ total 1 nothing p + k * total 0 w p
total_mixed k w zero_poly = omega arith
total_mixed k w (plus c no_factors p) = let e = total_mixed k w p in omega (arith, e)
total_mixed k w (plus c (times x ps us) p) = let e = total_mixed k w p in omega (arith, e)

less_by_much : (a b c d : ℕ) → c + suc a * d ≤ a + suc a * b → d ≤ b
less_by_much a b c d h = grind (arith, h)

pub covered_dominates : (Γ : List Ty) (n : ℕ) (p q : Polynomial) → Normal Γ p → Normal Γ q → IsLinear n p → IsLinear n q
    → (ms : List Transfer) → IsCover p q ms → Dominates p q
covered_dominates Γ n p q np nq lp lq ms c =
    let at : (u : ℕ → ℕ) → total 1 u q ≤ total 1 u p = λ u.
    (let e = cover_den Γ (by_weights u) (weights_mono u) p q np nq ms c in
    let a = den_linear Γ n u p np lp in let b = den_linear Γ n u q nq lq in omega (arith, e, a, b)) in
    record {
      constant = at nothing;
      each = λ x. (let k = suc (total 1 nothing p) in
          let h = at (λ y. k * only x y) in
          let a = total_mixed k (only x) p in
          let b = total_mixed k (only x) q in
          less_by_much (total 1 nothing p) (total 0 (only x) p) (total 1 nothing q) (total 0 (only x) q) (omega (arith, h, a, b)));
    }

pub strictly_covered_greater : (Γ : List Ty) (n : ℕ) (p q : Polynomial) → Normal Γ p → Normal Γ q → IsLinear n p → IsLinear n q
    → (ms : List Transfer) → IsStrictCover p q ms → total 1 nothing q < total 1 nothing p
strictly_covered_greater Γ n p q np nq lp lq ms c =
    let e = strict_cover_den Γ (by_weights nothing) (weights_mono nothing) p q np nq ms c in
    let a = den_linear Γ n nothing p np lp in let b = den_linear Γ n nothing q nq lq in omega (arith, e, a, b)
