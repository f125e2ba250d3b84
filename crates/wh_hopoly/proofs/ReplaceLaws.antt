-- Replacement keeps the normal form.
use Rattle.std.proofs.Common.{append_assoc, length-append, ◌≡◌, ℕ, zero, suc, ◌+◌, ◌==◌, List, [], ◌∷◌, ◌++◌, length, refl, ap, ap₂, ◌∙◌, sym, subst, arith, Bool, true, false, nat_cmp, if◌then◌else◌}
use Rattle.std.specs.Ordering.{ordering_then}
use mathlib.Core.Path.{subst₂}
use Rattle.wh_types.specs.Ty.{Ty, sort, ◌⇒◌, arguments}
use Rattle.wh_poly.specs.Polynomials.{HasType, Polynomial, zero_poly, plus, Factors, no_factors, times, Arguments, no_arguments, argument, compare_polynomials, compare_factors, compare_arguments, MonomialBefore, FactorBefore, Normal, NormalFactors, NormalArguments}
use Rattle.wh_hopoly.specs.Evaluation.{Run, one, without, down, type_at, replace, replace_factors, replace_arguments}
use Rattle.wh_poly.specs.Arithmetic.{sum_poly, multiply, renumber, renumber_factors, renumber_arguments, constant, atom}
use Rattle.wh_poly.proofs.SumLaws.{normal_sum, normal_multiply}

-- scopes
pub type_is : (Γ : List Ty) (x : ℕ) (A : Ty) → HasType Γ x A → type_at Γ x ≡ A
type_is [] x A a = absurd a
type_is (B ∷ Γ) zero A a = a
type_is (B ∷ Γ) (suc x) A a = type_is Γ x A a

pub without_is : (Γ : List Ty) (A : Ty) (Θ : List Ty) → without (length Γ) (Γ ++ A ∷ Θ) ≡ Γ ++ Θ
without_is [] A Θ = refl
without_is (B ∷ Γ) A Θ = ap (λ l. B ∷ l) (without_is Γ A Θ)

pub at_itself : (Γ : List Ty) (A : Ty) (Θ : List Ty) (B : Ty) → HasType (Γ ++ A ∷ Θ) (length Γ) B → A ≡ B
at_itself [] A Θ B a = a
at_itself (C ∷ Γ) A Θ B a = at_itself Γ A Θ B a

down_suc : (v x : ℕ) → (x ≡ v → ⊥) → down (suc v) (suc x) ≡ suc (down v x)
down_suc v x h = grind (arith, h)

pub at_down : (Γ : List Ty) (A : Ty) (Θ : List Ty) (x : ℕ) (B : Ty) → (x ≡ length Γ → ⊥) → HasType (Γ ++ A ∷ Θ) x B → HasType (Γ ++ Θ) (down (length Γ) x) B
at_down [] A Θ zero B h a = absurd (h refl)
at_down [] A Θ (suc x) B h a = let e : x ≡ down 0 (suc x) = grind arith in subst (λ y. HasType Θ y B) e a
at_down (C ∷ Γ) A Θ zero B h a = let e : 0 ≡ down (suc (length Γ)) 0 = grind arith in subst (λ y. HasType (C ∷ (Γ ++ Θ)) y B) e a
at_down (C ∷ Γ) A Θ (suc x) B h a = subst (λ y. HasType (C ∷ (Γ ++ Θ)) y B) (sym (down_suc (length Γ) x (λ e. h (ap suc e)))) (at_down Γ A Θ x B (λ e. h (ap suc e)) a)

-- the head gives normal polynomials in the scopes that go on from Γ
abbrev pub HeadOk : List Ty → Ty → (List Ty → Arguments → Run Polynomial) → Type 0
HeadOk Γ A head = (X : List Ty) (ps : Arguments) → NormalArguments (Γ ++ X) A ps → Normal (Γ ++ X) (head (Γ ++ X) ps).result

normal_atom : (Γ : List Ty) (x : ℕ) (ps : Arguments) (A : Ty) → HasType Γ x A → NormalArguments Γ A ps → Normal Γ (atom x ps)
normal_atom Γ x ps A a n = (omega arith, (A, a, n, tt, tt), tt, tt)

pub replaced_atom : (head : List Ty → Arguments → Run Polynomial) (Γ : List Ty) (A : Ty) (Θ : List Ty) (x : ℕ) (B : Ty) (qs : Arguments) → HeadOk Γ A head → HasType (Γ ++ A ∷ Θ) x B → NormalArguments (Γ ++ Θ) B qs
    → Normal (Γ ++ Θ) (if x == length Γ then head (without (length Γ) (Γ ++ A ∷ Θ)) qs else one (atom (down (length Γ) x) qs)).result
replaced_atom head Γ A Θ x B qs h a n = go (x == length Γ) refl
  where
    go : (b : Bool) → (x == length Γ) ≡ b → Normal (Γ ++ Θ) (if b then head (without (length Γ) (Γ ++ A ∷ Θ)) qs else one (atom (down (length Γ) x) qs)).result
    go true e = let i : x ≡ length Γ = grind (arith, e) in
        subst (λ Δ. Normal (Γ ++ Θ) (head Δ qs).result) (sym (without_is Γ A Θ)) (h Θ qs (subst (λ B. NormalArguments (Γ ++ Θ) B qs) (sym (at_itself Γ A Θ B (subst (λ x. HasType (Γ ++ A ∷ Θ) x B) i a))) n))
    go false e = normal_atom (Γ ++ Θ) (down (length Γ) x) qs B (at_down Γ A Θ x B (λ i. grind (arith, e, i)) a) n

module _ (head : List Ty → Arguments → Run Polynomial) (Γ : List Ty) (A : Ty) (h : HeadOk Γ A head) where
  mutual
    pub normal_replace : (Θ : List Ty) (sum p : Polynomial) → Normal (Γ ++ Θ) sum → Normal (Γ ++ A ∷ Θ) p → Normal (Γ ++ Θ) (replace head (length Γ) (Γ ++ A ∷ Θ) sum p).result
    normal_replace Θ sum zero_poly s n = s
    normal_replace Θ sum (plus c us p) s n =
        let m = (replace_factors head (length Γ) (Γ ++ A ∷ Θ) (constant c) us).result in
        normal_replace Θ (sum_poly m sum) p (normal_sum (Γ ++ Θ) m sum (normal_replace_factors Θ (constant c) us (n.0, tt, tt, tt) n.1) s) n.3

    pub normal_replace_factors : (Θ : List Ty) (product : Polynomial) (us : Factors) → Normal (Γ ++ Θ) product → NormalFactors (Γ ++ A ∷ Θ) us
        → Normal (Γ ++ Θ) (replace_factors head (length Γ) (Γ ++ A ∷ Θ) product us).result
    normal_replace_factors Θ product no_factors s n = s
    normal_replace_factors Θ product (times x ps us) s (B, a, k, b, n) =
        let qs = (replace_arguments head (length Γ) (Γ ++ A ∷ Θ) (type_at (Γ ++ A ∷ Θ) x) ps).result in
        let m = (if x == length Γ then head (without (length Γ) (Γ ++ A ∷ Θ)) qs else one (atom (down (length Γ) x) qs)).result in
        normal_replace_factors Θ (multiply product m) us
        (normal_multiply (Γ ++ Θ) product m s (replaced_atom head Γ A Θ x B qs h a
        (subst (λ C. NormalArguments (Γ ++ Θ) B (replace_arguments head (length Γ) (Γ ++ A ∷ Θ) C ps).result) (sym (type_is (Γ ++ A ∷ Θ) x B a)) (normal_replace_arguments Θ B ps k)))) n

    pub normal_replace_arguments : (Θ : List Ty) (B : Ty) (ps : Arguments) → NormalArguments (Γ ++ A ∷ Θ) B ps → NormalArguments (Γ ++ Θ) B (replace_arguments head (length Γ) (Γ ++ A ∷ Θ) B ps).result
    normal_replace_arguments Θ (sort s) no_arguments n = tt
    normal_replace_arguments Θ (sort s) (argument p ps) n = absurd n
    normal_replace_arguments Θ (B ⇒ C) no_arguments n = absurd n
    normal_replace_arguments Θ (B ⇒ C) (argument p ps) n =
        let X = arguments B in (
          subst₂ (λ Δ Ψ. Normal Δ (replace head (length Γ) Ψ zero_poly p).result) (sym (append_assoc Γ Θ X)) (sym (append_assoc Γ (A ∷ Θ) X))
              (normal_replace (Θ ++ X) zero_poly p tt (subst (λ Ψ. Normal Ψ p) (append_assoc Γ (A ∷ Θ) X) n.0)),
          normal_replace_arguments Θ C ps n.1,
        )

-- an increasing renumbering that keeps types, and keeps them in scopes that go on
pub record Moves (Γ Δ : List Ty) (r : ℕ → ℕ) : Type 0 where
  pub types : (i : ℕ) (A : Ty) → HasType Γ i A → HasType Δ (r i) A
  pub added : (j : ℕ) → r (length Γ + j) ≡ length Δ + j
  pub order : (i j : ℕ) → nat_cmp (r i) (r j) ≡ nat_cmp i j

mutual
  compare_renumber : (r : ℕ → ℕ) → ((i j : ℕ) → nat_cmp (r i) (r j) ≡ nat_cmp i j) → (p q : Polynomial) → compare_polynomials (renumber r p) (renumber r q) ≡ compare_polynomials p q
  compare_renumber r h zero_poly zero_poly = refl
  compare_renumber r h zero_poly (plus d vs q) = refl
  compare_renumber r h (plus c us p) zero_poly = refl
  compare_renumber r h (plus c us p) (plus d vs q) = ap₂ ordering_then (compare_renumber_factors r h us vs) (ap (ordering_then (nat_cmp c d)) (compare_renumber r h p q))

  compare_renumber_factors : (r : ℕ → ℕ) → ((i j : ℕ) → nat_cmp (r i) (r j) ≡ nat_cmp i j) → (us vs : Factors) → compare_factors (renumber_factors r us) (renumber_factors r vs) ≡ compare_factors us vs
  compare_renumber_factors r h no_factors no_factors = refl
  compare_renumber_factors r h no_factors (times y qs vs) = refl
  compare_renumber_factors r h (times x ps us) no_factors = refl
  compare_renumber_factors r h (times x ps us) (times y qs vs) = ap₂ ordering_then (ap₂ ordering_then (h x y) (compare_renumber_arguments r h ps qs)) (compare_renumber_factors r h us vs)

  compare_renumber_arguments : (r : ℕ → ℕ) → ((i j : ℕ) → nat_cmp (r i) (r j) ≡ nat_cmp i j) → (ps qs : Arguments) → compare_arguments (renumber_arguments r ps) (renumber_arguments r qs) ≡ compare_arguments ps qs
  compare_renumber_arguments r h no_arguments no_arguments = refl
  compare_renumber_arguments r h no_arguments (argument q qs) = refl
  compare_renumber_arguments r h (argument p ps) no_arguments = refl
  compare_renumber_arguments r h (argument p ps) (argument q qs) = ap₂ ordering_then (compare_renumber r h p q) (compare_renumber_arguments r h ps qs)

-- a variable of a longer scope is one of the scope, or an added one
at_split : (Γ X : List Ty) (i : ℕ) (A : Ty) (G : Type 0) → HasType (Γ ++ X) i A → (HasType Γ i A → G) → ((j : ℕ) → i ≡ length Γ + j → HasType X j A → G) → G
at_split [] X i A G a f g = g i (omega arith) a
at_split (B ∷ Γ) X zero A G a f g = f a
at_split (B ∷ Γ) X (suc i) A G a f g = at_split Γ X i A G a f (λ j e b. g j (omega (arith, e)) b)

pub at_left : (Γ X : List Ty) (i : ℕ) (A : Ty) → HasType Γ i A → HasType (Γ ++ X) i A
at_left [] X i A a = absurd a
at_left (B ∷ Γ) X zero A a = a
at_left (B ∷ Γ) X (suc i) A a = at_left Γ X i A a

pub at_right : (Γ X : List Ty) (j : ℕ) (A : Ty) → HasType X j A → HasType (Γ ++ X) (length Γ + j) A
at_right [] X j A a = let e : j ≡ 0 + j = omega arith in subst (λ j. HasType X j A) e a
at_right (B ∷ Γ) X j A a = let e : suc (length Γ + j) ≡ length (B ∷ Γ) + j = omega arith in subst (λ i. HasType (B ∷ (Γ ++ X)) i A) e (at_right Γ X j A a)

pub moves_on : (Γ Δ : List Ty) (r : ℕ → ℕ) (X : List Ty) → Moves Γ Δ r → Moves (Γ ++ X) (Δ ++ X) r
moves_on Γ Δ r X m = record {
  types = λ i A a. at_split Γ X i A (HasType (Δ ++ X) (r i) A) a (λ b. at_left Δ X (r i) A (m.types i A b))
      (λ j e b. subst (λ k. HasType (Δ ++ X) k A) (sym (m.added j) ∙ ap r (sym e)) (at_right Δ X j A b));
  added = λ j. ap r (let e = length-append Γ X in omega (arith, e)) ∙ m.added (length X + j) ∙ (let e = length-append Δ X in omega (arith, e));
  order = m.order;
}

before_renumber : (r : ℕ → ℕ) → ((i j : ℕ) → nat_cmp (r i) (r j) ≡ nat_cmp i j) → (us : Factors) (p : Polynomial) → MonomialBefore us p → MonomialBefore (renumber_factors r us) (renumber r p)
before_renumber r h us zero_poly b = tt
before_renumber r h us (plus d vs q) b = compare_renumber_factors r h us vs ∙ b

factor_before_renumber : (r : ℕ → ℕ) → ((i j : ℕ) → nat_cmp (r i) (r j) ≡ nat_cmp i j) → (x : ℕ) (ps : Arguments) (us : Factors) → FactorBefore x ps us → FactorBefore (r x) (renumber_arguments r ps) (renumber_factors r us)
factor_before_renumber r h x ps no_factors b = tt
factor_before_renumber r h x ps (times y qs vs) b = λ e. b (sym (ap₂ ordering_then (h x y) (compare_renumber_arguments r h ps qs)) ∙ e)

mutual
  pub normal_renumber : (Γ Δ : List Ty) (r : ℕ → ℕ) → Moves Γ Δ r → (p : Polynomial) → Normal Γ p → Normal Δ (renumber r p)
  normal_renumber Γ Δ r m zero_poly n = tt
  normal_renumber Γ Δ r m (plus c us p) n = (n.0, normal_renumber_factors Γ Δ r m us n.1, before_renumber r m.order us p n.2, normal_renumber Γ Δ r m p n.3)

  normal_renumber_factors : (Γ Δ : List Ty) (r : ℕ → ℕ) → Moves Γ Δ r → (us : Factors) → NormalFactors Γ us → NormalFactors Δ (renumber_factors r us)
  normal_renumber_factors Γ Δ r m no_factors n = tt
  normal_renumber_factors Γ Δ r m (times x ps us) (A, a, k, b, n) = (A, m.types x A a, normal_renumber_arguments Γ Δ r m A ps k, factor_before_renumber r m.order x ps us b, normal_renumber_factors Γ Δ r m us n)

  normal_renumber_arguments : (Γ Δ : List Ty) (r : ℕ → ℕ) → Moves Γ Δ r → (A : Ty) (ps : Arguments) → NormalArguments Γ A ps → NormalArguments Δ A (renumber_arguments r ps)
  normal_renumber_arguments Γ Δ r m (sort s) no_arguments n = tt
  normal_renumber_arguments Γ Δ r m (sort s) (argument p ps) n = absurd n
  normal_renumber_arguments Γ Δ r m (A ⇒ B) no_arguments n = absurd n
  normal_renumber_arguments Γ Δ r m (A ⇒ B) (argument p ps) n = (normal_renumber (Γ ++ arguments A) (Δ ++ arguments A) r (moves_on Γ Δ r (arguments A) m) p n.0, normal_renumber_arguments Γ Δ r m B ps n.1)
