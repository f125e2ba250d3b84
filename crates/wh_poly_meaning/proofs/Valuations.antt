-- How valuations change.
use Rattle.std.proofs.Common.{◌≡◌, ℕ, refl, ap, ◌∙◌, subst, true, false, eq-eqb, ne_eqb}
use native.Mathlib.Decide.{ℕ_discrete}
use mathlib.Core.Path.{subst_refl}
use mathlib.Core.HLevel.{hedberg}
use Rattle.wh_types.specs.Ty.{Ty, Ty-discrete, Ty-is_set}
use Rattle.wh_poly_meaning.specs.Functionals.{Sem}
use Rattle.wh_poly_meaning.specs.Valuations.{Valuation, at_type, put}

pub ty_set : (A B : Ty) (p q : A ≡ B) → p ≡ q
ty_set = Ty-is_set (hedberg ℕ_discrete)

pub put_same : (n : ℕ) (B : Ty) (x : Sem B) (ψ : Valuation) → put n B x ψ n B ≡ x
unfolding put at_type
put_same n B x ψ = ap (λ b. elim b as (λ b. Sem B) [ true ↦ at_type B B (Ty-discrete ℕ_discrete B B) x (ψ n B) | false ↦ ψ n B ]) (eq-eqb n n refl)
    ∙ go (Ty-discrete ℕ_discrete B B)
  where
    go : (d : Dec (B ≡ B)) → at_type B B d x (ψ n B) ≡ x
    go (yes e) = ap (λ e. subst Sem e x) (ty_set B B e refl) ∙ subst_refl Sem x
    go (no k) = absurd (k refl)

pub put_other : (n : ℕ) (B : Ty) (x : Sem B) (ψ : Valuation) (i : ℕ) (A : Ty) → (i ≡ n → ⊥) → put n B x ψ i A ≡ ψ i A
unfolding put
put_other n B x ψ i A h = ap (λ b. elim b as (λ b. Sem A) [ true ↦ at_type B A (Ty-discrete ℕ_discrete B A) x (ψ i A) | false ↦ ψ i A ]) (ne_eqb i n h)

-- a value taken at its own type is itself
pub at_itself : (A : Ty) (d : Dec (A ≡ A)) (x y : Sem A) → at_type A A d x y ≡ x
unfolding at_type
at_itself A (yes e) x y = ap (λ e. subst Sem e x) (ty_set A A e refl) ∙ subst_refl Sem x
at_itself A (no k) x y = absurd (k refl)
