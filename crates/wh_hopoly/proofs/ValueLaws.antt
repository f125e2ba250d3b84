-- The value of a well typed expression is normal.
use Rattle.std.proofs.Common.{append_assoc, append-nil, length-append, ◌≡◌, ℕ, zero, suc, ◌+◌, ◌-◌, nat_lt, List, [], ◌∷◌, ◌++◌, length, refl, sym, subst, ◌<◌, ◌≤◌, arith, nat_cmp, if◌then◌else◌, Some, slice_get}
use Rattle.wh_types.specs.Ty.{Ty, sort, ◌⇒◌, arguments}
use Rattle.wh_poly.specs.Polynomials.{HasType, Polynomial, zero_poly, Arguments, no_arguments, argument, Normal, NormalArguments}
use Rattle.wh_hopoly.specs.Evaluation.{Run, replace, widened, applied, apply_one, Expression, var, symbol, lambda, apply, Interpretation, codomain, interpretation_at, type_of, evaluate, TypedExpression, NormalInterpretations}
use Rattle.wh_poly.specs.Added.{added, variable}
use Rattle.wh_poly.specs.Arithmetic.{renumber}
use Rattle.std.proofs.lemmas.Option.{none-some, same_Some}
use Rattle.wh_hopoly.proofs.ReplaceLaws.{at_left, at_right, type_is, normal_replace, Moves, moves_on, normal_renumber}

at_less : (Γ : List Ty) (i : ℕ) (A : Ty) → HasType Γ i A → i < length Γ
at_less [] i A a = absurd a
at_less (B ∷ Γ) zero A a = omega arith
at_less (B ∷ Γ) (suc i) A a = let e = at_less Γ i A a in omega (arith, e)

shift_order : (n m i j : ℕ) → n ≤ m → nat_cmp (if nat_lt i n then i else m + (i - n)) (if nat_lt j n then j else m + (j - n)) ≡ nat_cmp i j
shift_order n m i j h = grind (arith, h)

pub plus_order : (n i j : ℕ) → nat_cmp (n + i) (n + j) ≡ nat_cmp i j
plus_order n i j = grind arith

pub moved_low : (n m i : ℕ) → i < n → (if nat_lt i n then i else m + (i - n)) ≡ i
moved_low n m i h = grind (arith, h)

moved_high : (n m j : ℕ) → (if nat_lt (n + j) n then n + j else m + ((n + j) - n)) ≡ m + j
moved_high n m j = grind arith

pub moves_moved : (Γ X : List Ty) → Moves Γ (Γ ++ X) (λ i. if nat_lt i (length Γ) then i else length (Γ ++ X) + (i - length Γ))
moves_moved Γ X = record {
  types = λ i A a. subst (λ k. HasType (Γ ++ X) k A) (sym (moved_low (length Γ) (length (Γ ++ X)) i (at_less Γ i A a))) (at_left Γ X i A a);
  added = λ j. moved_high (length Γ) (length (Γ ++ X)) j;
  order = λ i j. shift_order (length Γ) (length (Γ ++ X)) i j (let e = length-append Γ X in omega (arith, e));
}

pub normal_moved : (Γ X Y : List Ty) (p : Polynomial) → Normal (Γ ++ Y) p → Normal ((Γ ++ X) ++ Y) (widened (length Γ) (Γ ++ X) p)
normal_moved Γ X Y p n = normal_renumber (Γ ++ Y) ((Γ ++ X) ++ Y) _ (moves_on Γ (Γ ++ X) _ Y (moves_moved Γ X)) p n

pub normal_applied : (A : Ty) (Γ : List Ty) (g : Polynomial) (ps : Arguments) → Normal (Γ ++ arguments A) g → NormalArguments Γ A ps → Normal Γ (applied A Γ g ps).result
normal_applied (sort s) Γ g no_arguments n k = subst (λ Δ. Normal Δ g) (append-nil Γ) n
normal_applied (sort s) Γ g (argument p ps) n k = absurd k
normal_applied (A ⇒ B) Γ g no_arguments n k = absurd k
normal_applied (A ⇒ B) Γ g (argument p ps) n k =
    let head : List Ty → Arguments → Run Polynomial = λ Δ qs. applied A Δ (widened (length Γ) Δ p) qs in
    normal_applied B Γ (replace head (length Γ) (Γ ++ A ∷ arguments B) zero_poly g).result ps
    (normal_replace head Γ A (λ X qs m. normal_applied A (Γ ++ X) (widened (length Γ) (Γ ++ X) p) qs (normal_moved Γ X (arguments A) p k.0) m) (arguments B) zero_poly g tt n)
    k.1

pub normal_apply_one : (A B : Ty) (Γ : List Ty) (g p : Polynomial) → Normal (Γ ++ A ∷ arguments B) g → Normal (Γ ++ arguments A) p → Normal (Γ ++ arguments B) (apply_one A B Γ g p).result
normal_apply_one A B Γ g p n m = normal_replace (λ Δ qs. applied A Δ (widened (length Γ) Δ p) qs) Γ A
    (λ X qs k. normal_applied A (Γ ++ X) (widened (length Γ) (Γ ++ X) p) qs (normal_moved Γ X (arguments A) p m) k) (arguments B) zero_poly g tt n

-- variables as arguments
normal_added : (B : Ty) (Γ : List Ty) (n : ℕ) → n ≡ length Γ → (i : ℕ) → ((j : ℕ) (C : Ty) → HasType (arguments B) j C → HasType Γ (i + j) C) → NormalArguments Γ B (added B n i)
normal_added (sort s) Γ n e i h = tt
normal_added (C ⇒ D) Γ n e i h = (
  (
    omega arith,
    (
      C,
      at_left Γ (arguments C) i C (let z : i + 0 ≡ i = omega arith in subst (λ k. HasType Γ k C) z (h 0 C refl)),
      normal_added C (Γ ++ arguments C) (n + length (arguments C)) (let l = length-append Γ (arguments C) in omega (arith, e, l)) n
          (λ j E a. subst (λ k. HasType (Γ ++ arguments C) (k + j) E) (sym e) (at_right Γ (arguments C) j E a)),
      tt,
      tt,
    ),
    tt,
    tt,
  ),
  normal_added D Γ n e (suc i) (λ j E a. let z : i + suc j ≡ suc i + j = omega arith in subst (λ k. HasType Γ k E) z (h (suc j) E a)),
)

normal_variable : (A : Ty) (Γ : List Ty) (x : ℕ) → HasType Γ x A → Normal (Γ ++ arguments A) (variable A (length Γ) x)
normal_variable A Γ x a = (
  omega arith,
  (A, at_left Γ (arguments A) x A a, normal_added A (Γ ++ arguments A) (length Γ + length (arguments A)) (sym (length-append Γ (arguments A))) (length Γ) (λ j E b. at_right Γ (arguments A) j E b), tt, tt),
  tt,
  tt,
)

moves_symbol : (Γ X : List Ty) → Moves X (Γ ++ X) (λ i. length Γ + i)
moves_symbol Γ X = record {
  types = λ i A a. at_right Γ X i A a;
  added = λ j. (let e = length-append Γ X in omega (arith, e));
  order = λ i j. plus_order (length Γ) i j;
}

-- the interpretation of a symbol that is there
pub interpretation_is : (symbols : List Interpretation) (f : ℕ) (s : Interpretation) → slice_get symbols f ≡ Some s → interpretation_at symbols f ≡ s
interpretation_is [] f s e = absurd (none-some s e)
interpretation_is (t ∷ symbols) zero s e = same_Some t s e
interpretation_is (t ∷ symbols) (suc f) s e = interpretation_is symbols f s e

normal_symbol : (symbols : List Interpretation) → NormalInterpretations symbols → (Γ : List Ty) (f : ℕ) (s : Interpretation) → slice_get symbols f ≡ Some s
    → Normal (Γ ++ arguments (interpretation_at symbols f).kind) (renumber (λ i. length Γ + i) (interpretation_at symbols f).polynomial)
normal_symbol symbols n Γ f s e = subst (λ s. Normal (Γ ++ arguments s.kind) (renumber (λ i. length Γ + i) s.polynomial)) (sym (interpretation_is symbols f s e))
    (normal_renumber (arguments s.kind) (Γ ++ arguments s.kind) (λ i. length Γ + i) (moves_symbol Γ (arguments s.kind)) s.polynomial (n f s e))

-- the value of a well-typed expression over normal interpretations is normal
pub normal_value : (symbols : List Interpretation) → NormalInterpretations symbols → (Γ : List Ty) (e : Expression) → TypedExpression symbols Γ e
    → Normal (Γ ++ arguments (type_of symbols Γ e)) (evaluate symbols Γ e).result
normal_value S n Γ (var x) (A, a) = subst (λ B. Normal (Γ ++ arguments B) (variable B (length Γ) x)) (sym (type_is Γ x A a)) (normal_variable A Γ x a)
normal_value S n Γ (symbol f) (s, e) = normal_symbol S n Γ f s e
normal_value S n Γ (lambda A e) t =
    subst (λ Δ. Normal Δ (evaluate S (Γ ++ A ∷ []) e).result) (append_assoc Γ (A ∷ []) (arguments (type_of S (Γ ++ A ∷ []) e))) (normal_value S n (Γ ++ A ∷ []) e t)
normal_value S n Γ (apply e d) (t, u, B, i) =
    let A = type_of S Γ d in
    subst (λ C. Normal (Γ ++ arguments (codomain C)) (apply_one A (codomain C) Γ (evaluate S Γ e).result (evaluate S Γ d).result).result) (sym i)
    (normal_apply_one A B Γ (evaluate S Γ e).result (evaluate S Γ d).result
    (subst (λ C. Normal (Γ ++ arguments C) (evaluate S Γ e).result) i (normal_value S n Γ e t)) (normal_value S n Γ d u))
