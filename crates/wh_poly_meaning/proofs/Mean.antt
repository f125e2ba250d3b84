-- The value of an expression means the expression.
use Rattle.std.proofs.Common.{append_assoc, length-append, ◌≡◌, ◌+◌, List, [], ◌∷◌, ◌++◌, length, ap, ap₂, ◌∙◌, sym, subst, arith}
use native.Mathlib.Decide.{ℕ_discrete}
use mathlib.Core.Path.{fun_ext, subst₂}
use Rattle.wh_types.specs.Ty.{Ty, Ty-discrete, ◌⇒◌, arguments}
use Rattle.wh_poly.specs.Polynomials.{Polynomial, Normal}
use Rattle.wh_poly.specs.Arithmetic.{renumber}
use Rattle.wh_hopoly.specs.Evaluation.{Expression, var, symbol, lambda, apply, Interpretation, interpretation_at, type_of, codomain, evaluate, apply_one, TypedExpression, NormalInterpretations}
use Rattle.wh_poly.specs.Added.{variable}
use Rattle.wh_hopoly.proofs.ReplaceLaws.{type_is, Moves, moves_on}
use Rattle.wh_hopoly.proofs.ValueLaws.{normal_value, plus_order, interpretation_is}
use Rattle.wh_poly_meaning.specs.Functionals.{Sem, nothing}
use Rattle.wh_poly_meaning.specs.Valuations.{Valuation, put, fun_of}
use Rattle.wh_poly_meaning.specs.Meaning.{den, reading, apply_at, mean}
use Rattle.wh_poly_meaning.proofs.Valuations.{at_itself}
use Rattle.wh_poly_meaning.proofs.Den.{fun_same, den_renumber, den_apply_one}
use Rattle.wh_poly_meaning.proofs.Eta.{den_variable}

-- application where the types fit
pub apply_is : (A B : Ty) (f : Sem (A ⇒ B)) (a : Sem A) → apply_at (A ⇒ B) A f a ≡ f a
unfolding apply_at
apply_is A B f a = ap f (at_itself A (Ty-discrete ℕ_discrete A A) a (nothing A))

moves_symbol : (Γ : List Ty) → Moves [] Γ (λ i. length Γ + i)
moves_symbol Γ = record { types = λ i A a. absurd a; added = λ j. (let z : length Γ + (0 + j) ≡ length Γ + j = omega arith in z); order = λ i j. plus_order (length Γ) i j }

app_sound : (C A B : Ty) → C ≡ (A ⇒ B) → (Γ : List Ty) (g p : Polynomial) (ψ : Valuation) → Normal (Γ ++ arguments C) g
    → Normal (Γ ++ arguments A) p
    → reading (codomain C) Γ ψ (apply_one A (codomain C) Γ g p).result ≡ apply_at C A (reading C Γ ψ g) (reading A Γ ψ p)
app_sound C A B i Γ g p ψ = subst (λ C. Normal (Γ ++ arguments C) g → Normal (Γ ++ arguments A) p
    → reading (codomain C) Γ ψ (apply_one A (codomain C) Γ g p).result ≡ apply_at C A (reading C Γ ψ g) (reading A Γ ψ p)) (sym i)
    (λ n m. den_apply_one A B Γ g p ψ n m ∙ sym (apply_is A B (reading (A ⇒ B) Γ ψ g) (reading A Γ ψ p)))

-- the interpretation of a symbol means the same in a longer scope
symbol_sound : (Γ : List Ty) (s : Interpretation) (ψ : Valuation) → Normal (arguments s.kind) s.polynomial
    → reading s.kind Γ ψ (renumber (λ i. length Γ + i) s.polynomial) ≡ reading s.kind [] ψ s.polynomial
symbol_sound Γ s ψ n = fun_same s.kind [] Γ (λ i. length Γ + i) (moves_symbol Γ) ψ ψ
    (λ χ. den (arguments s.kind) χ s.polynomial) (λ χ. den (Γ ++ arguments s.kind) χ (renumber (λ i. length Γ + i) s.polynomial)) (λ i A a. absurd a)
    (λ ψ χ k. den_renumber (arguments s.kind) (Γ ++ arguments s.kind) (λ i. length Γ + i) (moves_on [] Γ (λ i. length Γ + i) (arguments s.kind) (moves_symbol Γ)) s.polynomial n ψ χ k)

pub den_value : (symbols : List Interpretation) → NormalInterpretations symbols → (Γ : List Ty) (e : Expression) (ψ : Valuation)
    → TypedExpression symbols Γ e
    → reading (type_of symbols Γ e) Γ ψ (evaluate symbols Γ e).result ≡ mean symbols Γ e ψ
den_value S n Γ (var x) ψ (A, a) = subst (λ B. reading B Γ ψ (variable B (length Γ) x) ≡ ψ x B) (sym (type_is Γ x A a)) (den_variable A Γ ψ x a)
den_value S n Γ (symbol f) ψ (s, e) = symbol_sound Γ (interpretation_at S f) ψ
    (subst (λ s. Normal (arguments s.kind) s.polynomial) (sym (interpretation_is S f s e)) (n f s e))
den_value S n Γ (lambda A e) ψ t = fun_ext (λ a.
    let B = type_of S (Γ ++ A ∷ []) e in
    let p = (evaluate S (Γ ++ A ∷ []) e).result in
    subst₂ (λ n Δ. fun_of B n (put (length Γ) A a ψ) (λ χ. den Δ χ p) ≡ mean S (Γ ++ A ∷ []) e (put (length Γ) A a ψ))
    (length-append Γ (A ∷ []) ∙ omega arith) (append_assoc Γ (A ∷ []) (arguments B)) (den_value S n (Γ ++ A ∷ []) e (put (length Γ) A a ψ) t))
den_value S n Γ (apply e d) ψ (t, u, B, i) =
    app_sound (type_of S Γ e) (type_of S Γ d) B i Γ (evaluate S Γ e).result (evaluate S Γ d).result ψ (normal_value S n Γ e t) (normal_value S n Γ d u)
    ∙ ap₂ (apply_at (type_of S Γ e) (type_of S Γ d)) (den_value S n Γ e ψ t) (den_value S n Γ d ψ u)
