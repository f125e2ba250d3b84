-- What polynomials are worth by weights is what they mean under a monotone valuation.
use Rattle.std.proofs.Common.{◌≡◌, ℕ, zero, suc, ◌+◌, ◌*◌, ◌<◌, ◌≤◌, List, [], ◌∷◌, ◌++◌, length, eqb, Bool, true, false, refl, ap, ap₂, sym, subst, ◌∙◌, arith, length-append}
use native.Mathlib.Decide.{ℕ_discrete}
use mathlib.Core.Path.{path_j, subst_refl, fun_ext}
use Rattle.wh_types.specs.Ty.{Ty, Ty-discrete, sort, ◌⇒◌, arguments}
use Rattle.wh_poly.specs.Polynomials.{Polynomial, zero_poly, plus, Factors, no_factors, times, Arguments, no_arguments, argument, Normal, NormalFactors, NormalArguments}
use Rattle.wh_hopoly.specs.Evaluation.{type_at}
use Rattle.wh_hopoly.specs.Moves.{Transfer, IsCover, IsStrictCover}
use Rattle.wh_hopoly.proofs.ReplaceLaws.{type_is}
use Rattle.wh_poly_meaning.specs.Functionals.{Sem, Mono, Le, nothing}
use Rattle.wh_poly_meaning.specs.Valuations.{Valuation, MonoValuation, at_type, put, fun_of}
use Rattle.wh_poly_meaning.specs.Meaning.{den, den_factors, den_arguments}
use Rattle.wh_poly_meaning.proofs.Order.{mono_nothing}
use Rattle.wh_poly_meaning.proofs.Covers.{cover_den, strict_cover_den}
use Rattle.wh_poly_growth.specs.declared.weights.Weight.{Weight}
use Rattle.wh_poly_growth.specs.Weights.{at_nothing, linear, constant_at, factor_at, valuation_by, number, product, sum}
use Rattle.wh_poly_growth.specs.Refuted.{IsRefuted}

at_nothing_grows : (A : Ty) (f g : Sem A) → Le A f g → at_nothing A f ≤ at_nothing A g
at_nothing_grows (sort s) m n h = h
at_nothing_grows (A ⇒ B) f g h = at_nothing_grows B (f (nothing A)) (g (nothing A)) (h (nothing A) (mono_nothing A))

linear_grows : (A : Ty) (c d k : ℕ) → c ≤ d → Le A (linear A c k) (linear A d k)
linear_grows (sort s) c d k h = h
linear_grows (A ⇒ B) c d k h = λ a m. linear_grows B (c + k * at_nothing A a) (d + k * at_nothing A a) k (omega (arith, h))

scaled : (c k m n : ℕ) → m ≤ n → c + k * m ≤ c + k * n
scaled c k m n h = grind (arith, h)

linear_mono : (A : Ty) (c k : ℕ) → Mono A (linear A c k)
linear_mono (sort s) c k = tt
linear_mono (A ⇒ B) c k = (
  λ a m. linear_mono B (c + k * at_nothing A a) k,
  λ a b m n l. linear_grows B (c + k * at_nothing A a) (c + k * at_nothing A b) k
      (scaled c k (at_nothing A a) (at_nothing A b) (at_nothing_grows A a b l)),
)

pub mono_valuation : (ws : List Weight) → MonoValuation (valuation_by ws)
mono_valuation ws x A = linear_mono A (constant_at ws x) (factor_at ws x)

-- what is 0 at all arguments
linear_zero : (A : Ty) → linear A 0 0 ≡ nothing A
linear_zero (sort s) = refl
linear_zero (A ⇒ B) = fun_ext (λ a. let e : 0 + 0 * at_nothing A a ≡ 0 = omega arith in ap (λ c. linear B c 0) e ∙ linear_zero B)

pub constant_past : (ws : List Weight) (x : ℕ) → length ws ≤ x → constant_at ws x ≡ 0
constant_past [] x h = refl
constant_past (w ∷ ws) zero h = absurd (omega (arith, h))
constant_past (w ∷ ws) (suc x) h = constant_past ws x (omega (arith, h))

pub factor_past : (ws : List Weight) (x : ℕ) → length ws ≤ x → factor_at ws x ≡ 0
factor_past [] x h = refl
factor_past (w ∷ ws) zero h = absurd (omega (arith, h))
factor_past (w ∷ ws) (suc x) h = factor_past ws x (omega (arith, h))

-- a variable without a weight
valuation_past : (ws : List Weight) (x : ℕ) (A : Ty) → length ws ≤ x → valuation_by ws x A ≡ nothing A
valuation_past ws x A h = ap₂ (linear A) (constant_past ws x h) (factor_past ws x h) ∙ linear_zero A

nothing_at : (A B : Ty) (d : Dec (A ≡ B)) (y : Sem B) → y ≡ nothing B → at_type A B d (nothing A) y ≡ y
unfolding at_type
nothing_at A B (yes e) y h =
    path_j (λ B e. (y : Sem B) → y ≡ nothing B → subst Sem e (nothing A) ≡ y) (λ y h. subst_refl Sem (nothing A) ∙ sym h) e y h
nothing_at A B (no k) y h = refl

-- a variable past the weights has the value 0 already
put_nothing_at : (n : ℕ) (A : Ty) (ws : List Weight) → length ws ≤ n → (i : ℕ) (B : Ty)
    → put n A (nothing A) (valuation_by ws) i B ≡ valuation_by ws i B
unfolding put
put_nothing_at n A ws h i B = go (eqb i n) (λ e. let k : i ≡ n = grind (arith, e) in valuation_past ws i B (omega (arith, h, k)))
  where
    go : (b : Bool) → (b ≡ true → valuation_by ws i B ≡ nothing B)
        → elim b as (λ b. Sem B) [ true ↦ at_type A B (Ty-discrete ℕ_discrete A B) (nothing A) (valuation_by ws i B) | false ↦ valuation_by ws i B ]
        ≡ valuation_by ws i B
    go true f = nothing_at A B (Ty-discrete ℕ_discrete A B) (valuation_by ws i B) (f refl)
    go false f = refl

put_nothing : (n : ℕ) (A : Ty) (ws : List Weight) → length ws ≤ n → put n A (nothing A) (valuation_by ws) ≡ valuation_by ws
put_nothing n A ws h = fun_ext (λ i. fun_ext (λ B. put_nothing_at n A ws h i B))

-- a number as a function of variables past the weights, taken where these are 0
function_at_nothing : (A : Ty) (n : ℕ) (ws : List Weight) → length ws ≤ n → (f : Valuation → ℕ)
    → at_nothing A (fun_of A n (valuation_by ws) f) ≡ f (valuation_by ws)
function_at_nothing (sort s) n ws h f = refl
function_at_nothing (A ⇒ B) n ws h f =
    ap (λ ψ. at_nothing B (fun_of B (suc n) ψ f)) (put_nothing n A ws h)
    ∙ function_at_nothing B (suc n) ws (omega (arith, h)) f

longer : (Γ Δ : List Ty) (n : ℕ) → n ≤ length Γ → n ≤ length (Γ ++ Δ)
longer Γ Δ n h = let e = length-append Γ Δ in omega (arith, h, e)

next_argument : (c k m n s : ℕ) → m ≡ n → (c + k * m) + k * s ≡ c + k * (n + s)
next_argument c k m n s e = ap (λ m. (c + k * m) + k * s) e ∙ omega arith

mutual
  -- the weights say what a polynomial of the scope means
  pub den_valuation : (Γ : List Ty) (ws : List Weight) → length ws ≤ length Γ → (p : Polynomial) → Normal Γ p
      → den Γ (valuation_by ws) p ≡ number ws p
  den_valuation Γ ws h zero_poly n = refl
  den_valuation Γ ws h (plus c us p) n = ap₂ (λ i j. c * i + j) (factors_valuation Γ ws h us n.1) (den_valuation Γ ws h p n.3)

  factors_valuation : (Γ : List Ty) (ws : List Weight) → length ws ≤ length Γ → (us : Factors) → NormalFactors Γ us
      → den_factors Γ (valuation_by ws) us ≡ product ws us
  factors_valuation Γ ws h no_factors n = refl
  factors_valuation Γ ws h (times x ps us) (A, a, n, b, r) =
      ap₂ (λ i j. i * j)
      (arguments_valuation Γ ws h (type_at Γ x) (constant_at ws x) (factor_at ws x) ps
      (subst (λ A. NormalArguments Γ A ps) (sym (type_is Γ x A a)) n))
      (factors_valuation Γ ws h us r)

  arguments_valuation : (Γ : List Ty) (ws : List Weight) → length ws ≤ length Γ → (A : Ty) (c k : ℕ) (ps : Arguments) → NormalArguments Γ A ps
      → den_arguments Γ (valuation_by ws) A (linear A c k) ps ≡ c + k * sum ws ps
  arguments_valuation Γ ws h (sort s) c k no_arguments n = omega arith
  arguments_valuation Γ ws h (sort s) c k (argument p ps) n = absurd n
  arguments_valuation Γ ws h (A ⇒ B) c k no_arguments n = absurd n
  arguments_valuation Γ ws h (A ⇒ B) c k (argument p ps) n =
      let Δ = Γ ++ arguments A in
      let a = fun_of A (length Γ) (valuation_by ws) (λ ψ. den Δ ψ p) in
      arguments_valuation Γ ws h B (c + k * at_nothing A a) k ps n.1
      ∙ next_argument c k (at_nothing A a) (number ws p) (sum ws ps)
      (function_at_nothing A (length Γ) ws h (λ ψ. den Δ ψ p) ∙ den_valuation Δ ws (longer Γ (arguments A) (length ws) h) p n.0)

-- the moves cover, strictly where it is asked
abbrev pub IsCoverBy : Bool → Polynomial → Polynomial → List Transfer → Type 0
IsCoverBy false = IsCover
IsCoverBy true = IsStrictCover

-- the numbers of a refuted pair, and what lies between them
not_at_least : (a b c d m n : ℕ) → d ≤ c → c ≤ b → b ≤ a → a ≡ m → d ≡ n → m < n → ⊥
not_at_least a b c d m n f g h e k l = omega (arith, f, g, h, e, k, l)

not_greater : (a b c d m n : ℕ) → d ≤ c → c < b → b ≤ a → a ≡ m → d ≡ n → m ≤ n → ⊥
not_greater a b c d m n f g h e k l = omega (arith, f, g, h, e, k, l)

-- where weights refute bounds of two sides, no moves cover one by the other
pub refuted_uncovered : (Γ : List Ty) (n : ℕ) (left right upper lower : Polynomial) (strict : Bool) (ms : List Transfer) → n ≤ length Γ
    → Normal Γ left → Normal Γ right → Normal Γ upper → Normal Γ lower
    → ((ψ : Valuation) → MonoValuation ψ → den Γ ψ left ≤ den Γ ψ upper)
    → ((ψ : Valuation) → MonoValuation ψ → den Γ ψ lower ≤ den Γ ψ right)
    → IsRefuted n upper lower strict → IsCoverBy strict left right ms → ⊥
refuted_uncovered Γ n left right upper lower false ms h nl nr nu nw up low (ws, l, small) cover =
    let ψ = valuation_by ws in
    let m = mono_valuation ws in
    let k : length ws ≤ length Γ = omega (arith, h, l) in
    not_at_least (den Γ ψ upper) (den Γ ψ left) (den Γ ψ right) (den Γ ψ lower) (number ws upper) (number ws lower)
    (low ψ m) (cover_den Γ ψ m left right nl nr ms cover) (up ψ m) (den_valuation Γ ws k upper nu) (den_valuation Γ ws k lower nw) small
refuted_uncovered Γ n left right upper lower true ms h nl nr nu nw up low (ws, l, small) cover =
    let ψ = valuation_by ws in
    let m = mono_valuation ws in
    let k : length ws ≤ length Γ = omega (arith, h, l) in
    not_greater (den Γ ψ upper) (den Γ ψ left) (den Γ ψ right) (den Γ ψ lower) (number ws upper) (number ws lower)
    (low ψ m) (strict_cover_den Γ ψ m left right nl nr ms cover) (up ψ m) (den_valuation Γ ws k upper nu) (den_valuation Γ ws k lower nw) small
