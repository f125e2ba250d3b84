-- The order of functionals, and that polynomials grow with the values of their variables.
use Rattle.std.proofs.Common.{◌≡◌, ℕ, suc, List, ◌++◌, length, sym, subst, ◌≤◌, arith, eqb, Bool, true, false, mul-le-mul, add-le-add}
use native.Mathlib.Decide.{ℕ_discrete}
use mathlib.Core.Path.{path_j, subst_refl}
use Rattle.wh_types.specs.Ty.{Ty, Ty-discrete, sort, ◌⇒◌, arguments}
use Rattle.wh_poly.specs.Polynomials.{Polynomial, zero_poly, plus, Factors, no_factors, times, Arguments, no_arguments, argument}
use Rattle.wh_hopoly.specs.Evaluation.{type_at}
use Rattle.wh_poly_meaning.specs.Functionals.{Sem, Mono, Le, nothing}
use Rattle.wh_poly_meaning.specs.Valuations.{Valuation, at_type, put, MonoValuation, LeValuation, fun_of}
use Rattle.wh_poly_meaning.specs.Meaning.{den, den_factors, den_arguments, reading}

pub le_nat : (c : ℕ) → c ≤ c
le_nat c = omega arith

pub le_same : (A : Ty) (x : Sem A) → Le A x x
le_same (sort s) n = le_nat n
le_same (A ⇒ B) f = λ x m. le_same B (f x)

pub le_equal : (A : Ty) (x y : Sem A) → x ≡ y → Le A x y
le_equal A x y e = subst (Le A x) e (le_same A x)

pub le_then : (A : Ty) (x y z : Sem A) → Le A x y → Le A y z → Le A x z
le_then (sort s) a b c p q = omega (arith, p, q)
le_then (A ⇒ B) f g h p q = λ x m. le_then B (f x) (g x) (h x) (p x m) (q x m)

pub mono_nothing : (A : Ty) → Mono A (nothing A)
mono_nothing (sort s) = tt
mono_nothing (A ⇒ B) = (λ x m. mono_nothing B, λ x y m k l. le_same B (nothing B))

pub mono_at : (A B : Ty) (d : Dec (A ≡ B)) (x : Sem A) (y : Sem B) → Mono A x → Mono B y → Mono B (at_type A B d x y)
unfolding at_type
mono_at A B (yes e) x y m k = path_j (λ B e. Mono B (subst Sem e x)) (subst (Mono A) (sym (subst_refl Sem x)) m) e
mono_at A B (no h) x y m k = k

pub le_at : (A B : Ty) (d : Dec (A ≡ B)) (x x' : Sem A) (y y' : Sem B) → Le A x x' → Le B y y'
    → Le B (at_type A B d x y) (at_type A B d x' y')
unfolding at_type
le_at A B (yes e) x x' y y' m k = path_j (λ B e. Le B (subst Sem e x) (subst Sem e x')) (rw (subst_refl Sem x, subst_refl Sem x') m) e
le_at A B (no h) x x' y y' m k = k

pub mono_put : (n : ℕ) (B : Ty) (x : Sem B) (ψ : Valuation) → Mono B x → MonoValuation ψ → MonoValuation (put n B x ψ)
unfolding put
mono_put n B x ψ m h i A = go (eqb i n)
  where
    go : (b : Bool) → Mono A (elim b as (λ b. Sem A) [ true ↦ at_type B A (Ty-discrete ℕ_discrete B A) x (ψ i A) | false ↦ ψ i A ])
    go true = mono_at B A (Ty-discrete ℕ_discrete B A) x (ψ i A) m (h i A)
    go false = h i A

pub le_put : (n : ℕ) (B : Ty) (x x' : Sem B) (ψ χ : Valuation) → Le B x x' → LeValuation ψ χ → LeValuation (put n B x ψ) (put n B x' χ)
unfolding put
le_put n B x x' ψ χ m h i A = go (eqb i n)
  where
    go : (b : Bool) → Le A (elim b as (λ b. Sem A) [ true ↦ at_type B A (Ty-discrete ℕ_discrete B A) x (ψ i A) | false ↦ ψ i A ])
        (elim b as (λ b. Sem A) [ true ↦ at_type B A (Ty-discrete ℕ_discrete B A) x' (χ i A) | false ↦ χ i A ])
    go true = le_at B A (Ty-discrete ℕ_discrete B A) x x' (ψ i A) (χ i A) m (h i A)
    go false = h i A

pub le_valuation_same : (ψ : Valuation) → LeValuation ψ ψ
le_valuation_same ψ i A = le_same A (ψ i A)

-- a number that grows with the values of variables
abbrev pub Grows : (Valuation → ℕ) → Type 0
Grows f = (ψ χ : Valuation) → MonoValuation ψ → MonoValuation χ → LeValuation ψ χ → f ψ ≤ f χ

pub fun_grows : (f : Valuation → ℕ) → Grows f → (A : Ty) (n : ℕ) (ψ χ : Valuation) → MonoValuation ψ → MonoValuation χ → LeValuation ψ χ
    → Le A (fun_of A n ψ f) (fun_of A n χ f)
fun_grows f g (sort s) n ψ χ m k l = g ψ χ m k l
fun_grows f g (A ⇒ B) n ψ χ m k l = λ x mx. fun_grows f g B (suc n) (put n A x ψ) (put n A x χ) (mono_put n A x ψ mx m) (mono_put n A x χ mx k) (le_put n A x x ψ χ (le_same A x) l)

pub fun_mono : (f : Valuation → ℕ) → Grows f → (A : Ty) (n : ℕ) (ψ : Valuation) → MonoValuation ψ → Mono A (fun_of A n ψ f)
fun_mono f g (sort s) n ψ m = tt
fun_mono f g (A ⇒ B) n ψ m = (
  λ x mx. fun_mono f g B (suc n) (put n A x ψ) (mono_put n A x ψ mx m),
  λ x y mx my l. fun_grows f g B (suc n) (put n A x ψ) (put n A y ψ) (mono_put n A x ψ mx m) (mono_put n A y ψ my m) (le_put n A x y ψ ψ l (le_valuation_same ψ)),
)

-- a number that is never greater gives a function that is never greater
pub fun_le : (f g : Valuation → ℕ) → ((ψ : Valuation) → MonoValuation ψ → f ψ ≤ g ψ) → (A : Ty) (n : ℕ) (ψ : Valuation) → MonoValuation ψ
    → Le A (fun_of A n ψ f) (fun_of A n ψ g)
fun_le f g h (sort s) n ψ m = h ψ m
fun_le f g h (A ⇒ B) n ψ m = λ x mx. fun_le f g h B (suc n) (put n A x ψ) (mono_put n A x ψ mx m)

mutual
  -- a polynomial grows with its variables
  pub den_grows : (Γ : List Ty) (p : Polynomial) → Grows (λ ψ. den Γ ψ p)
  den_grows Γ zero_poly ψ χ m k l = omega arith
  den_grows Γ (plus c us p) ψ χ m k l = add-le-add (mul-le-mul (le_nat c) (factors_grow Γ us ψ χ m k l)) (den_grows Γ p ψ χ m k l)

  pub factors_grow : (Γ : List Ty) (us : Factors) → Grows (λ ψ. den_factors Γ ψ us)
  factors_grow Γ no_factors ψ χ m k l = omega arith
  factors_grow Γ (times x ps us) ψ χ m k l =
      mul-le-mul (arguments_grow Γ ps (type_at Γ x) (ψ x (type_at Γ x)) (χ x (type_at Γ x)) (m x (type_at Γ x)) (k x (type_at Γ x)) (l x (type_at Γ x)) ψ χ m k l)
      (factors_grow Γ us ψ χ m k l)

  pub arguments_grow : (Γ : List Ty) (ps : Arguments) (A : Ty) (v w : Sem A) → Mono A v → Mono A w → Le A v w → (ψ χ : Valuation)
      → MonoValuation ψ → MonoValuation χ → LeValuation ψ χ
      → den_arguments Γ ψ A v ps ≤ den_arguments Γ χ A w ps
  arguments_grow Γ no_arguments (sort s) v w mv mw vw ψ χ m k l = vw
  arguments_grow Γ no_arguments (A ⇒ B) v w mv mw vw ψ χ m k l = omega arith
  arguments_grow Γ (argument p ps) (sort s) v w mv mw vw ψ χ m k l = omega arith
  arguments_grow Γ (argument p ps) (A ⇒ B) v w mv mw vw ψ χ m k l =
      let Δ = Γ ++ arguments A in
      let a = fun_of A (length Γ) ψ (λ ψ. den Δ ψ p) in
      let b = fun_of A (length Γ) χ (λ ψ. den Δ ψ p) in
      let ma = fun_mono (λ ψ. den Δ ψ p) (den_grows Δ p) A (length Γ) ψ m in
      let mb = fun_mono (λ ψ. den Δ ψ p) (den_grows Δ p) A (length Γ) χ k in
      arguments_grow Γ ps B (v a) (w b) (mv.0 a ma) (mw.0 b mb)
      (le_then B (v a) (v b) (w b) (mv.1 a b ma mb (fun_grows (λ ψ. den Δ ψ p) (den_grows Δ p) A (length Γ) ψ χ m k l)) (vw b mb)) ψ χ m k l

-- what a polynomial means is monotone
pub reading_mono : (A : Ty) (Γ : List Ty) (ψ : Valuation) (p : Polynomial) → MonoValuation ψ → Mono A (reading A Γ ψ p)
reading_mono A Γ ψ p m = fun_mono (λ ψ. den (Γ ++ arguments A) ψ p) (den_grows (Γ ++ arguments A) p) A (length Γ) ψ m
