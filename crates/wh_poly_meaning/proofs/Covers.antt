-- A cover means at least; a strict cover means greater.
use Rattle.std.proofs.Common.{◌≡◌, ℕ, zero, suc, ◌+◌, ◌*◌, ◌==◌, List, [], ◌∷◌, ◌++◌, length, refl, ap, ap₂, ◌∙◌, sym, subst, ◌<◌, ◌≤◌, arith, if◌then◌else◌, Contains, mul-le-mul, add-le-add, le_trans}
use mathlib.Core.Path.{fun_ext}
use Rattle.wh_types.specs.Ty.{Ty, sort, ◌⇒◌, arguments}
use Rattle.wh_poly.specs.Polynomials.{Polynomial, zero_poly, plus, Factors, no_factors, times, Arguments, no_arguments, argument, Normal, NormalFactors, NormalArguments}
use Rattle.wh_hopoly.specs.Evaluation.{type_at}
use Rattle.wh_poly.proofs.SumLaws.{normal_sorted}
use Rattle.wh_hopoly.proofs.ReplaceLaws.{type_is}
use Rattle.wh_poly_meaning.specs.Functionals.{Sem, Mono, Le}
use Rattle.wh_poly_meaning.specs.Valuations.{Valuation, MonoValuation, fun_of}
use Rattle.wh_poly_meaning.specs.Meaning.{den, den_factors, den_arguments}
use Rattle.wh_hopoly.specs.Moves.{Transfer, ArgumentsAtLeast, FactorsAtLeast, MonomialAt, Good, units_at, given_by, taken_by, IsCover, IsStrictCover}
use Rattle.wh_poly_meaning.proofs.Order.{le_nat, le_same, le_then, fun_mono, fun_le, den_grows}
use Rattle.wh_poly_meaning.proofs.AtLeast.{at_least_den}

-- arguments that are at least others, under a function that is at least another
arguments_at_least_den : (Γ : List Ty) (ψ : Valuation) → MonoValuation ψ → (A : Ty) (f g : Sem A) (ps qs : Arguments) → Mono A f
    → Mono A g → Le A g f
    → NormalArguments Γ A ps → NormalArguments Γ A qs → ArgumentsAtLeast ps qs → den_arguments Γ ψ A g qs ≤ den_arguments Γ ψ A f ps
arguments_at_least_den Γ ψ m (sort s) f g no_arguments no_arguments mf mg l n k h = l
arguments_at_least_den Γ ψ m (A ⇒ B) f g no_arguments no_arguments mf mg l n k h = absurd n
arguments_at_least_den Γ ψ m A f g no_arguments (argument q qs) mf mg l n k h = absurd h
arguments_at_least_den Γ ψ m A f g (argument p ps) no_arguments mf mg l n k h = absurd h
arguments_at_least_den Γ ψ m (sort s) f g (argument p ps) (argument q qs) mf mg l n k h = absurd n
arguments_at_least_den Γ ψ m (A ⇒ B) f g (argument p ps) (argument q qs) mf mg l n k h =
    let Δ = Γ ++ arguments A in
    let a = fun_of A (length Γ) ψ (λ ψ. den Δ ψ p) in
    let b = fun_of A (length Γ) ψ (λ ψ. den Δ ψ q) in
    let ma = fun_mono (λ ψ. den Δ ψ p) (den_grows Δ p) A (length Γ) ψ m in
    let mb = fun_mono (λ ψ. den Δ ψ q) (den_grows Δ q) A (length Γ) ψ m in
    let ba = fun_le (λ ψ. den Δ ψ q) (λ ψ. den Δ ψ p) (λ ψ m. at_least_den Δ ψ p q (normal_sorted Δ p n.0) (normal_sorted Δ q k.0) h.0) A (length Γ) ψ m in
    arguments_at_least_den Γ ψ m B (f a) (g b) ps qs (mf.0 a ma) (mg.0 b mb) (le_then B (g b) (g a) (f a) (mg.1 b a mb ma ba) (l a ma)) n.1 k.1 h.1

-- factors that are at least others have a product that is
pub factors_at_least_den : (Γ : List Ty) (ψ : Valuation) → MonoValuation ψ → (us vs : Factors) → NormalFactors Γ us → NormalFactors Γ vs
    → FactorsAtLeast us vs
    → den_factors Γ ψ vs ≤ den_factors Γ ψ us
factors_at_least_den Γ ψ m no_factors no_factors n k h = omega arith
factors_at_least_den Γ ψ m no_factors (times y qs vs) n k h = absurd h
factors_at_least_den Γ ψ m (times x ps us) no_factors n k h = absurd h
factors_at_least_den Γ ψ m (times x ps us) (times y qs vs) (A, a, n, b, r) (B, c, k, d, s) (e, h, t) =
    let i : type_at Γ x ≡ A = type_is Γ x A a in
    let j : type_at Γ x ≡ B = ap (type_at Γ) e ∙ type_is Γ y B c in
    mul-le-mul
    (subst (λ y. den_arguments Γ ψ (type_at Γ y) (ψ y (type_at Γ y)) qs ≤ den_arguments Γ ψ (type_at Γ x) (ψ x (type_at Γ x)) ps) e
    (arguments_at_least_den Γ ψ m (type_at Γ x) (ψ x (type_at Γ x)) (ψ x (type_at Γ x)) ps qs (m x (type_at Γ x)) (m x (type_at Γ x)) (le_same (type_at Γ x) (ψ x (type_at Γ x)))
    (subst (λ A. NormalArguments Γ A ps) (sym i) n) (subst (λ A. NormalArguments Γ A qs) (sym j) k) h))
    (factors_at_least_den Γ ψ m us vs r s t)

-- what one unit of a monomial is worth
abbrev worth : List Ty → Valuation → Polynomial → ℕ → ℕ
worth Γ ψ zero_poly i = 0
worth Γ ψ (plus c us p) zero = den_factors Γ ψ us
worth Γ ψ (plus c us p) (suc i) = worth Γ ψ p i

-- the sum over the monomials, each times its number of units
abbrev weighted : List Ty → Valuation → (ℕ → ℕ) → Polynomial → ℕ
weighted Γ ψ u zero_poly = 0
weighted Γ ψ u (plus c us p) = u 0 * den_factors Γ ψ us + weighted Γ ψ (λ i. u (suc i)) p

-- the sum over the moves
abbrev total : (Transfer → ℕ) → (ℕ → ℕ) → List Transfer → ℕ
total place w [] = 0
total place w (m ∷ ms) = m.amount * w (place m) + total place w ms

weighted_none : (Γ : List Ty) (ψ : Valuation) (p : Polynomial) → weighted Γ ψ (λ i. 0) p ≡ 0
weighted_none Γ ψ zero_poly = refl
weighted_none Γ ψ (plus c us p) = let e = weighted_none Γ ψ p in omega (arith, e)

weighted_more : (Γ : List Ty) (ψ : Valuation) (p : Polynomial) (x n : ℕ) (u : ℕ → ℕ)
    → weighted Γ ψ (λ i. if x == i then n + u i else u i) p ≡ n * worth Γ ψ p x + weighted Γ ψ u p
weighted_more Γ ψ zero_poly x n u = omega arith
weighted_more Γ ψ (plus c us p) zero n u =
    let e : weighted Γ ψ (λ i. if 0 == suc i then n + u (suc i) else u (suc i)) p ≡ weighted Γ ψ (λ i. u (suc i)) p
    = ap (λ v. weighted Γ ψ v p) (fun_ext (λ i. grind arith)) in
    let z : (if 0 == 0 then n + u 0 else u 0) ≡ n + u 0 = grind arith in
    ap₂ (λ a b. a * den_factors Γ ψ us + b) z e ∙ omega arith
weighted_more Γ ψ (plus c us p) (suc x) n u =
    let e : weighted Γ ψ (λ i. if suc x == suc i then n + u (suc i) else u (suc i)) p ≡ n * worth Γ ψ p x + weighted Γ ψ (λ i. u (suc i)) p
    = ap (λ v. weighted Γ ψ v p) (fun_ext (λ i. grind arith)) ∙ weighted_more Γ ψ p x n (λ i. u (suc i)) in
    let z : (if suc x == 0 then n + u 0 else u 0) ≡ u 0 = grind arith in
    ap₂ (λ a b. a * den_factors Γ ψ us + b) z e ∙ omega arith

-- exchange of the sums over monomials and over moves
weighted_units : (Γ : List Ty) (ψ : Valuation) (place : Transfer → ℕ) (p : Polynomial) (ms : List Transfer)
    → weighted Γ ψ (λ i. units_at place i ms) p ≡ total place (worth Γ ψ p) ms
weighted_units Γ ψ place p [] = weighted_none Γ ψ p
weighted_units Γ ψ place p (m ∷ ms) = weighted_more Γ ψ p (place m) m.amount (λ i. units_at place i ms)
    ∙ ap (λ k. m.amount * worth Γ ψ p (place m) + k) (weighted_units Γ ψ place p ms)

-- no more units than the coefficients
weighted_at_most : (Γ : List Ty) (ψ : Valuation) (p : Polynomial) (u : ℕ → ℕ)
    → ((i c : ℕ) (us : Factors) → MonomialAt p i c us → u i ≤ c) → weighted Γ ψ u p ≤ den Γ ψ p
weighted_at_most Γ ψ zero_poly u h = omega arith
weighted_at_most Γ ψ (plus c us p) u h = add-le-add (mul-le-mul (h 0 c us (refl, refl)) (le_nat (den_factors Γ ψ us))) (weighted_at_most Γ ψ p (λ i. u (suc i)) (λ i. h (suc i)))

-- no fewer
weighted_at_least : (Γ : List Ty) (ψ : Valuation) (p : Polynomial) (u : ℕ → ℕ)
    → ((i c : ℕ) (us : Factors) → MonomialAt p i c us → c ≤ u i) → den Γ ψ p ≤ weighted Γ ψ u p
weighted_at_least Γ ψ zero_poly u h = omega arith
weighted_at_least Γ ψ (plus c us p) u h = add-le-add (mul-le-mul (h 0 c us (refl, refl)) (le_nat (den_factors Γ ψ us))) (weighted_at_least Γ ψ p (λ i. u (suc i)) (λ i. h (suc i)))

-- the constant has a unit left over
weighted_below : (Γ : List Ty) (ψ : Valuation) (p : Polynomial) (u : ℕ → ℕ) → ((i c : ℕ) (us : Factors) → MonomialAt p i c us → u i ≤ c)
    → (c : ℕ) → MonomialAt p 0 c no_factors → u 0 < c
    → suc (weighted Γ ψ u p) ≤ den Γ ψ p
weighted_below Γ ψ zero_poly u h c m l = absurd m
weighted_below Γ ψ (plus d us p) u h c (e, f) l =
    let r = weighted_at_most Γ ψ p (λ i. u (suc i)) (λ i. h (suc i)) in
    let z : den_factors Γ ψ us ≡ 1 = ap (den_factors Γ ψ) f in
    let k : suc (u 0) * den_factors Γ ψ us ≤ d * den_factors Γ ψ us = mul-le-mul (let q : suc (u 0) ≤ d = omega (arith, l, e) in q) (le_nat (den_factors Γ ψ us)) in
    let y : suc (u 0) * den_factors Γ ψ us ≡ den_factors Γ ψ us + u 0 * den_factors Γ ψ us = omega arith in
    omega (arith, r, z, k, y)

worth_is : (Γ : List Ty) (ψ : Valuation) (p : Polynomial) (i c : ℕ) (us : Factors) → MonomialAt p i c us
    → worth Γ ψ p i ≡ den_factors Γ ψ us
worth_is Γ ψ zero_poly i c us m = absurd m
worth_is Γ ψ (plus d vs p) zero c us m = ap (den_factors Γ ψ) m.1
worth_is Γ ψ (plus d vs p) (suc i) c us m = worth_is Γ ψ p i c us m

factors_normal : (Γ : List Ty) (p : Polynomial) (i c : ℕ) (us : Factors) → Normal Γ p → MonomialAt p i c us → NormalFactors Γ us
factors_normal Γ zero_poly i c us n m = absurd m
factors_normal Γ (plus d vs p) zero c us n m = subst (NormalFactors Γ) m.1 n.1
factors_normal Γ (plus d vs p) (suc i) c us n m = factors_normal Γ p i c us n.3 m

good_worth : (Γ : List Ty) (ψ : Valuation) → MonoValuation ψ → (left right : Polynomial) → Normal Γ left → Normal Γ right
    → (m : Transfer) → Good left right m
    → worth Γ ψ right m.to ≤ worth Γ ψ left m.from
good_worth Γ ψ v left right n k m g =
    let a = worth_is Γ ψ left m.from g.given g.giver g.source in
    let b = worth_is Γ ψ right m.to g.taken g.taker g.target in
    let c = factors_at_least_den Γ ψ v g.giver g.taker (factors_normal Γ left m.from g.given g.giver n g.source) (factors_normal Γ right m.to g.taken g.taker k g.target) g.fits in
    omega (arith, a, b, c)

total_moves : (Γ : List Ty) (ψ : Valuation) → MonoValuation ψ → (left right : Polynomial) → Normal Γ left → Normal Γ right
    → (ms : List Transfer)
    → ((m : Transfer) → Contains ms m → Good left right m)
    → total (λ m. m.to) (worth Γ ψ right) ms ≤ total (λ m. m.from) (worth Γ ψ left) ms
total_moves Γ ψ v left right n k [] h = omega arith
total_moves Γ ψ v left right n k (m ∷ ms) h =
    add-le-add (mul-le-mul (le_nat m.amount) (good_worth Γ ψ v left right n k m (h m (0, omega arith, refl))))
    (total_moves Γ ψ v left right n k ms (λ x (i, l, e). h x (suc i, omega (arith, l), e)))

-- what the moves bring is at most what they take
moved_worth : (Γ : List Ty) (ψ : Valuation) → MonoValuation ψ → (left right : Polynomial) → Normal Γ left → Normal Γ right
    → (ms : List Transfer) → IsCover left right ms
    → den Γ ψ right ≤ weighted Γ ψ (λ i. given_by i ms) left
moved_worth Γ ψ v left right n k ms c =
    let a = weighted_at_least Γ ψ right (λ j. taken_by j ms) (λ j. c.covered j) in
    let b = weighted_units Γ ψ (λ m. m.to) right ms in
    let d = total_moves Γ ψ v left right n k ms c.good in
    let e = weighted_units Γ ψ (λ m. m.from) left ms in
    le_trans a (subst (λ x. weighted Γ ψ (λ j. taken_by j ms) right ≤ x) (sym e) (subst (λ x. x ≤ total (λ m. m.from) (worth Γ ψ left) ms) (sym b) d))

pub cover_den : (Γ : List Ty) (ψ : Valuation) → MonoValuation ψ → (left right : Polynomial) → Normal Γ left → Normal Γ right
    → (ms : List Transfer) → IsCover left right ms
    → den Γ ψ right ≤ den Γ ψ left
cover_den Γ ψ v left right n k ms c = le_trans (moved_worth Γ ψ v left right n k ms c) (weighted_at_most Γ ψ left (λ i. given_by i ms) (λ i. c.not_over_spent i))

pub strict_cover_den : (Γ : List Ty) (ψ : Valuation) → MonoValuation ψ → (left right : Polynomial) → Normal Γ left → Normal Γ right
    → (ms : List Transfer) → IsStrictCover left right ms
    → den Γ ψ right < den Γ ψ left
strict_cover_den Γ ψ v left right n k ms c =
    let a = moved_worth Γ ψ v left right n k ms c.cover in
    let b = weighted_below Γ ψ left (λ i. given_by i ms) (λ i. c.cover.not_over_spent i) c.constant c.first c.left_over in
    omega (arith, a, b)
