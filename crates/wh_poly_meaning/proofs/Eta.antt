-- The value of a variable means the variable.
use Rattle.std.proofs.Common.{length-append, ◌≡◌, ℕ, suc, ◌+◌, ◌<◌, List, ◌++◌, length, refl, ap, ap₂, ◌∙◌, sym, subst, arith}
use mathlib.Core.Path.{fun_ext}
use Rattle.wh_types.specs.Ty.{Ty, sort, ◌⇒◌, arguments}
use Rattle.wh_poly.specs.Polynomials.{HasType}
use Rattle.wh_poly.specs.Arithmetic.{atom}
use Rattle.wh_poly.specs.Added.{added, variable}
use Rattle.wh_hopoly.specs.Evaluation.{type_at}
use Rattle.wh_hopoly.proofs.ReplaceLaws.{at_left, at_right, type_is}
use Rattle.wh_poly_meaning.specs.Functionals.{Sem}
use Rattle.wh_poly_meaning.specs.Valuations.{Valuation, put, fun_of}
use Rattle.wh_poly_meaning.specs.Meaning.{den, den_arguments, reading}
use Rattle.wh_poly_meaning.proofs.Valuations.{put_same, put_other}
use Rattle.wh_poly_meaning.proofs.Den.{at_below}

abbrev pub apply_all : (A : Ty) → Sem A → Valuation → ℕ
apply_all (sort s) f v = f
apply_all (A ⇒ B) f v = apply_all B (f (v 0 A)) (λ j C. v (suc j) C)

pub eta : (A : Ty) (n : ℕ) (ψ : Valuation) (f : Sem A) (F : Valuation → ℕ)
    → ((χ : Valuation) → ((i : ℕ) (C : Ty) → i < n → χ i C ≡ ψ i C) → F χ ≡ apply_all A f (λ j C. χ (n + j) C)) → fun_of A n ψ F ≡ f
eta (sort s) n ψ f F h = h ψ (λ i C l. refl)
eta (A ⇒ B) n ψ f F h = fun_ext (λ a. eta B (suc n) (put n A a ψ) (f a) F (λ χ k.
    h χ (λ i C l. k i C (omega (arith, l)) ∙ put_other n A a ψ i C (λ e. omega (arith, l, e)))
    ∙ ap₂ (λ b v. apply_all B (f b) v)
    (ap (λ m. χ m A) (let z : n + 0 ≡ n = omega arith in z) ∙ k n A (omega arith) ∙ put_same n A a ψ)
    (fun_ext (λ j. fun_ext (λ C. ap (λ m. χ m C) (let z : n + suc j ≡ suc n + j = omega arith in z))))))

-- the added variables as arguments
abbrev AddedSound : Ty → Type 0
AddedSound B = (Δ : List Ty) (n : ℕ) → n ≡ length Δ → (χ : Valuation) (f : Sem B) (i : ℕ) → ((j : ℕ) (C : Ty) → HasType (arguments B) j C → HasType Δ (i + j) C) → den_arguments Δ χ B f (added B n i) ≡ apply_all B f (λ j C. χ (i + j) C)

variable_from : (A : Ty) → AddedSound A → (Γ : List Ty) (n : ℕ) → n ≡ length Γ → (ψ : Valuation) (x : ℕ) → HasType Γ x A
    → fun_of A (length Γ) ψ (λ χ. den (Γ ++ arguments A) χ (atom x (added A (n + length (arguments A)) n))) ≡ ψ x A
variable_from A s Γ n e ψ x a = eta A (length Γ) ψ (ψ x A) (λ χ. den (Γ ++ arguments A) χ (atom x (added A (n + length (arguments A)) n))) (λ χ k.
    let z : den (Γ ++ arguments A) χ (atom x (added A (n + length (arguments A)) n)) ≡ den_arguments (Γ ++ arguments A) χ (type_at (Γ ++ arguments A) x) (χ x (type_at (Γ ++ arguments A) x)) (added A (n + length (arguments A)) n) = omega arith in
    z ∙ ap (λ B. den_arguments (Γ ++ arguments A) χ B (χ x B) (added A (n + length (arguments A)) n)) (type_is (Γ ++ arguments A) x A (at_left Γ (arguments A) x A a))
    ∙ ap (λ f. den_arguments (Γ ++ arguments A) χ A f (added A (n + length (arguments A)) n)) (k x A (at_below Γ x A a))
    ∙ s (Γ ++ arguments A) (n + length (arguments A)) (let l = length-append Γ (arguments A) in omega (arith, l, e)) χ (ψ x A) n (λ j C c. subst (λ m. HasType (Γ ++ arguments A) (m + j) C) (sym e) (at_right Γ (arguments A) j C c))
    ∙ ap (λ m. apply_all A (ψ x A) (λ j C. χ (m + j) C)) e)

added_sound : (B : Ty) → AddedSound B
added_sound (sort s) Δ n e χ f i h = refl
added_sound (C ⇒ D) Δ n e χ f i h =
    ap (λ a. den_arguments Δ χ D (f a) (added D n (suc i))) (variable_from C (added_sound C) Δ n e χ i (let z : i + 0 ≡ i = omega arith in subst (λ m. HasType Δ m C) z (h 0 C refl)))
    ∙ added_sound D Δ n e χ (f (χ i C)) (suc i) (λ j E c. let z : i + suc j ≡ suc i + j = omega arith in subst (λ m. HasType Δ m E) z (h (suc j) E c))
    ∙ ap₂ (λ a v. apply_all D (f a) v) (let z : i ≡ i + 0 = omega arith in ap (λ m. χ m C) z) (fun_ext (λ j. fun_ext (λ E. let z : suc i + j ≡ i + suc j = omega arith in ap (λ m. χ m E) z)))

pub den_variable : (A : Ty) (Γ : List Ty) (ψ : Valuation) (x : ℕ) → HasType Γ x A → reading A Γ ψ (variable A (length Γ) x) ≡ ψ x A
den_variable A Γ ψ x a = variable_from A (added_sound A) Γ (length Γ) refl ψ x a
