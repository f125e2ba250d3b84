-- Readings of symbols, values that are renumbered, and faults of parts.
use Rattle.std.proofs.Common.{◌≡◌, ℕ, zero, suc, ◌+◌, ◌-◌, ◌<◌, ◌≤◌, inl, inr, List, [], ◌∷◌, ◌++◌, length, get_or, drop, map, refl, ap, ap₂, sym, subst, ◌∙◌, arith, Result, Ok, Err}
use Rattle.std.specs.Prelude.{Contains, IfOk}
use Rattle.std.proofs.lemmas.Option.{none-some}
use Rattle.std.proofs.Math.ListN.{drop_of_length-le}
use Rattle.wh_types.specs.Ty.{Ty, ◌⇒◌, arguments}
use Rattle.wh_types.specs.Erase.{ty}
use Rattle.wh_types.specs.Outcome.{IfBecause}
use Rattle.wh_types.specs.declared.want.Or.{Or}
use Rattle.wh_types.specs.declared.want.Or.TheVariants.{NoMemory, Because}
use Rattle.wh_poly.specs.Polynomials.{Polynomial, zero_poly, plus, Factors, no_factors, times, Arguments, no_arguments, argument, Normal}
use Rattle.wh_poly.specs.Arithmetic.{renumber, renumber_factors, renumber_arguments}
use Rattle.wh_hopoly.specs.Evaluation.{one, Expression, var, symbol, lambda, apply, Interpretation, interpretation_at, evaluate, type_of, codomain, apply_one, TypedExpression, NormalInterpretations}
use Rattle.wh_poly.specs.Limits.{weight, weight_of_factors, weight_of_arguments, nesting, nesting_of_factors, nesting_of_arguments, Overflows, TooLarge, Exceeds}
use Rattle.wh_poly.specs.Excesses.{ExceedsAs}
use Rattle.wh_hopoly.specs.NumberedParts.{parts, own_values, ValueOfPart}
use Rattle.wh_hopoly.specs.Outcomes.{ComesTo, PassesLimit, IsFaultOf, applied_to}
use Rattle.wh_hopoly.specs.Replacements.{apply_at, NormalFor}
use Rattle.wh_hopoly.specs.Valued.{IsKnown, Yields, IsValueOf, located_at, IsFaultFrom}
use Rattle.wh_poly.specs.Erase.{poly}
use Rattle.wh_hopoly.specs.Erase.{expression, interpretation, interpretations}
use Rattle.wh_poly.specs.declared.excess.Excess.{Excess}
use Rattle.wh_poly.specs.declared.excess.Excess.TheVariants as excess
use Rattle.wh_hopoly.specs.declared.fault.PolyFault.{PolyFault}
use Rattle.wh_hopoly.specs.declared.fault.PolyFault.TheVariants as fault
use Rattle.wh_hopoly.specs.declared.expression.Symbol.{Symbol}
use Rattle.wh_hopoly.specs.declared.expression.Expr.{Expr}
use Rattle.wh_hopoly.specs.declared.valued.Valued.{Valued}
use Rattle.wh_poly.proofs.Walks.{drop_next}
use Rattle.wh_hopoly.proofs.ValueLaws.{normal_value}
use Rattle.wh_hopoly.proofs.RunLaws.{within_both}

-- readings
pub reading_left : (xs : List Symbol) (ys : List Interpretation) (i : ℕ) → i < length xs → interpretation_at (interpretations xs ++ ys) i ≡ interpretation_at (interpretations xs) i
reading_left [] ys i l = absurd (omega (arith, l))
reading_left (x ∷ xs) ys zero l = refl
reading_left (x ∷ xs) ys (suc i) l = reading_left xs ys i (omega (arith, l))

pub reading_alone : (xs : List Symbol) (i : ℕ) (s : Symbol) → i < length xs → s ≡ get_or xs i s → interpretation_at (interpretations xs) i ≡ interpretation s
reading_alone [] i s l e = absurd (omega (arith, l))
reading_alone (x ∷ xs) zero s l e = ap interpretation (sym e)
reading_alone (x ∷ xs) (suc i) s l e = reading_alone xs i s (omega (arith, l)) e

pub known_below : (xs : List Symbol) (i : ℕ) → IsKnown (interpretations xs) i → i < length xs
known_below [] i (s, e) = absurd (none-some s e)
known_below (x ∷ xs) zero k = omega arith
known_below (x ∷ xs) (suc i) k = let l = known_below xs i k in omega (arith, l)

pub reading_last : (xs : List Symbol) (t : Interpretation) (i : ℕ) → length xs ≤ i → IsKnown (interpretations xs ++ t ∷ []) i → interpretation_at (interpretations xs ++ t ∷ []) i ≡ t
reading_last [] t zero l k = refl
reading_last [] t (suc i) l (s, e) = absurd (none-some s e)
reading_last (x ∷ xs) t zero l k = absurd (omega (arith, l))
reading_last (x ∷ xs) t (suc i) l k = reading_last xs t i (omega (arith, l)) k

-- the numbers of variables do not count
mutual
  weight_renumbered : (r : ℕ → ℕ) (p : Polynomial) → weight (renumber r p) ≡ weight p
  weight_renumbered r zero_poly = refl
  weight_renumbered r (plus c us p) = let a = weight_renumbered_factors r us in let b = weight_renumbered r p in omega (arith, a, b)

  weight_renumbered_factors : (r : ℕ → ℕ) (us : Factors) → weight_of_factors (renumber_factors r us) ≡ weight_of_factors us
  weight_renumbered_factors r no_factors = refl
  weight_renumbered_factors r (times x ps us) = let a = weight_renumbered_arguments r ps in let b = weight_renumbered_factors r us in omega (arith, a, b)

  weight_renumbered_arguments : (r : ℕ → ℕ) (ps : Arguments) → weight_of_arguments (renumber_arguments r ps) ≡ weight_of_arguments ps
  weight_renumbered_arguments r no_arguments = refl
  weight_renumbered_arguments r (argument p ps) = let a = weight_renumbered r p in let b = weight_renumbered_arguments r ps in omega (arith, a, b)

mutual
  nesting_renumbered : (r : ℕ → ℕ) (p : Polynomial) → nesting (renumber r p) ≡ nesting p
  nesting_renumbered r zero_poly = refl
  nesting_renumbered r (plus c us p) = let a = nesting_renumbered_factors r us in let b = nesting_renumbered r p in omega (arith, a, b)

  nesting_renumbered_factors : (r : ℕ → ℕ) (us : Factors) → nesting_of_factors (renumber_factors r us) ≡ nesting_of_factors us
  nesting_renumbered_factors r no_factors = refl
  nesting_renumbered_factors r (times x ps us) = let a = nesting_renumbered_arguments r ps in let b = nesting_renumbered_factors r us in omega (arith, a, b)

  nesting_renumbered_arguments : (r : ℕ → ℕ) (ps : Arguments) → nesting_of_arguments (renumber_arguments r ps) ≡ nesting_of_arguments ps
  nesting_renumbered_arguments r no_arguments = refl
  nesting_renumbered_arguments r (argument p ps) = let a = nesting_renumbered r p in let b = nesting_renumbered_arguments r ps in omega (arith, a, b)

overflows_renumbered : (r : ℕ → ℕ) (p : Polynomial) → Overflows p → Overflows (renumber r p)
overflows_renumbered r zero_poly h = h
overflows_renumbered r (plus c us p) (inl h) = inl h
overflows_renumbered r (plus c us p) (inr h) = inr (overflows_renumbered r p h)

overflowed_before : (r : ℕ → ℕ) (p : Polynomial) → Overflows (renumber r p) → Overflows p
overflowed_before r zero_poly h = h
overflowed_before r (plus c us p) (inl h) = inl h
overflowed_before r (plus c us p) (inr h) = inr (overflowed_before r p h)

large_renumbered : (r : ℕ → ℕ) (p : Polynomial) → TooLarge p → TooLarge (renumber r p)
large_renumbered r p (inl h) = inl (let e = weight_renumbered r p in omega (arith, e, h))
large_renumbered r p (inr h) = inr (let e = nesting_renumbered r p in omega (arith, e, h))

large_before : (r : ℕ → ℕ) (p : Polynomial) → TooLarge (renumber r p) → TooLarge p
large_before r p (inl h) = inl (let e = weight_renumbered r p in omega (arith, e, h))
large_before r p (inr h) = inr (let e = nesting_renumbered r p in omega (arith, e, h))

pub exceeds_renumbered : (e : Excess) (r : ℕ → ℕ) (p : Polynomial) → ExceedsAs e p → ExceedsAs e (renumber r p)
exceeds_renumbered excess.Overflow r p h = overflows_renumbered r p h
exceeds_renumbered excess.TooLarge r p h = large_renumbered r p h

pub exceeds_before : (r : ℕ → ℕ) (p : Polynomial) → Exceeds (renumber r p) → Exceeds p
exceeds_before r p (inl h) = inl (overflowed_before r p h)
exceeds_before r p (inr h) = inr (large_before r p h)

-- a rule's own answer, with its number
pub located_ok : (at : ℕ) (o : Result Valued (Or Excess)) (P : Valued → Type 0) → IfOk o P → IfOk (located_at at o) P
located_ok at (Ok v) P h = h
located_ok at (Err NoMemory) P h = h
located_ok at (Err (Because e)) P h = h

pub located_fault : (at : ℕ) (o : Result Valued (Or Excess)) (S : List Interpretation) (Γ : List Ty) (e : Expression) → IfBecause o (λ x. (w : Polynomial) × Contains (own_values S Γ e) w × ExceedsAs x w)
    → IfBecause (located_at at o) (IsFaultFrom at S Γ e)
located_fault at (Ok v) S Γ e h = tt
located_fault at (Err NoMemory) S Γ e h = tt
located_fault at (Err (Because excess.Overflow)) S Γ e (w, c, h) = (0, omega arith, w, c, h)
located_fault at (Err (Because excess.TooLarge)) S Γ e (w, c, h) = (0, omega arith, w, c, h)

-- parts have numbers below the count of parts
pub part_below : (S : List Interpretation) (Γ : List Ty) (e : Expression) (k : ℕ) (w : Polynomial) → ValueOfPart S Γ e k w → k < parts e
part_below S Γ (var x) zero w v = omega arith
part_below S Γ (var x) (suc k) w v = absurd v
part_below S Γ (symbol f) zero w v = omega arith
part_below S Γ (symbol f) (suc k) w v = absurd v
part_below S Γ (lambda A e) zero w v = omega arith
part_below S Γ (lambda A e) (suc k) w v = let l = part_below S (Γ ++ A ∷ []) e k w v in omega (arith, l)
part_below S Γ (apply e d) zero w v = omega arith
part_below S Γ (apply e d) (suc k) w (inl v) = let l = v.0 in omega (arith, l)
part_below S Γ (apply e d) (suc k) w (inr v) = let h = v.0 in let l = part_below S Γ d (k - parts e) w v.1 in omega (arith, h, l)

-- a part of a part: all its values are those of a part of the whole
abbrev Embeds : List Interpretation → List Ty → Expression → ℕ → List Ty → Expression → Type 0
Embeds S Γ e by Δ d = (k : ℕ) (w : Polynomial) → ValueOfPart S Γ e k w → ValueOfPart S Δ d (by + k) w

pub fault_embeds : (n m by : ℕ) (S : List Interpretation) (Γ Δ : List Ty) (e d : Expression) → n ≡ m + by → Embeds S Γ e by Δ d → (f : PolyFault) → IsFaultFrom n S Γ e f → IsFaultFrom m S Δ d f
fault_embeds n m by S Γ Δ e d i h (fault.Overflow at) (k, a, w, v, o) = (by + k, omega (arith, a, i), w, h k w v, o)
fault_embeds n m by S Γ Δ e d i h (fault.TooLarge at) (k, a, w, v, o) = (by + k, omega (arith, a, i), w, h k w v, o)

pub body_embeds : (S : List Interpretation) (Γ : List Ty) (A : Ty) (e : Expression) → Embeds S (Γ ++ A ∷ []) e 1 Γ (lambda A e)
body_embeds S Γ A e k w v = let z : suc k ≡ 1 + k = omega arith in subst (λ k. ValueOfPart S Γ (lambda A e) k w) z v

pub function_embeds : (S : List Interpretation) (Γ : List Ty) (e d : Expression) → Embeds S Γ e 1 Γ (apply e d)
function_embeds S Γ e d k w v = let z : suc k ≡ 1 + k = omega arith in subst (λ k. ValueOfPart S Γ (apply e d) k w) z (inl (part_below S Γ e k w v, v))

pub argument_embeds : (S : List Interpretation) (Γ : List Ty) (e d : Expression) → Embeds S Γ d (1 + parts e) Γ (apply e d)
argument_embeds S Γ e d k w v =
    let z : suc (parts e + k) ≡ (1 + parts e) + k = omega arith in
    let y : k ≡ (parts e + k) - parts e = omega arith in
    subst (λ k. ValueOfPart S Γ (apply e d) k w) z (inr (omega arith, subst (λ k. ValueOfPart S Γ d k w) y v))

pub fault_of_whole : (S : List Interpretation) (Γ : List Ty) (e : Expression) (f : PolyFault) → IsFaultFrom 0 S Γ e f → IsFaultOf S Γ e f
fault_of_whole S Γ e (fault.Overflow at) (k, a, w, v, o) = (w, subst (λ k. ValueOfPart S Γ e k w) (let z : k ≡ at = omega (arith, a) in z) v, o)
fault_of_whole S Γ e (fault.TooLarge at) (k, a, w, v, o) = (w, subst (λ k. ValueOfPart S Γ e k w) (let z : k ≡ at = omega (arith, a) in z) v, o)

-- an application
module _ (S : List Interpretation) (n : NormalInterpretations S) (Γ : List Ty) (e d : Expression) (t : TypedExpression S Γ (apply e d)) (f : Valued) (a : Valued) (v : IsValueOf S Γ e f) (u : IsValueOf S Γ d a) where
  pub function_normal : Normal (Γ ++ arguments (ty f.kind)) (poly f.value)
  function_normal = subst (λ A. Normal (Γ ++ arguments A) (poly f.value)) (sym v.1) (subst (Normal (Γ ++ arguments (type_of S Γ e))) (sym v.0.0) (normal_value S n Γ e t.0))

  functional : ty f.kind ≡ (type_of S Γ d ⇒ t.2)
  functional = v.1 ∙ t.3

  pub argument_normal : NormalFor Γ (ty f.kind) (poly a.value)
  argument_normal = subst (λ K. NormalFor Γ K (poly a.value)) (sym functional) (subst (Normal (Γ ++ arguments (type_of S Γ d))) (sym u.0.0) (normal_value S n Γ d t.1))

  own_run : apply_at (ty f.kind) Γ (poly f.value) (poly a.value) ≡ apply_one (type_of S Γ d) (codomain (type_of S Γ e)) Γ (evaluate S Γ e).result (evaluate S Γ d).result
  own_run = ap (λ K. apply_at K Γ (poly f.value) (poly a.value)) functional
      ∙ ap₂ (λ g p. apply_one (type_of S Γ d) t.2 Γ g p) v.0.0 u.0.0
      ∙ ap (λ K. apply_one (type_of S Γ d) (codomain K) Γ (evaluate S Γ e).result (evaluate S Γ d).result) (sym t.3)

  pub application_is : (r : Valued) → Yields (apply_at (ty f.kind) Γ (poly f.value) (poly a.value)) (codomain (ty f.kind)) r → IsValueOf S Γ (apply e d) r
  application_is r (c, k) =
      let own = subst (λ run. ComesTo run (poly r.value)) own_run c in (
        (own.0, within_both (evaluate S Γ e).values _ v.0.1 (within_both (evaluate S Γ d).values _ u.0.1 own.1)),
        k ∙ ap codomain v.1,
      )

  pub application_exceeds : (x : Excess) → PassesLimit (apply_at (ty f.kind) Γ (poly f.value) (poly a.value)) x → (w : Polynomial) × Contains (own_values S Γ (apply e d)) w × ExceedsAs x w
  application_exceeds x h = subst (λ run. PassesLimit run x) own_run h

-- the value of a symbol, by its reading
pub symbol_is : (S : List Interpretation) (Γ : List Ty) (f c : ℕ) (A : Ty) (g : Polynomial) (v : Valued) → interpretation_at S f ≡ record { kind = A; polynomial = g } → c ≡ length Γ
    → Yields (one (renumber (λ i. c + i) g)) A v → IsValueOf S Γ (symbol f) v
symbol_is S Γ f c A g v e k y =
    subst (λ s. Yields (one (renumber (λ i. length Γ + i) s.polynomial)) s.kind v) (sym e) (subst (λ c. Yields (one (renumber (λ i. c + i) g)) A v) k y)

pub symbol_exceeds : (S : List Interpretation) (Γ : List Ty) (f c : ℕ) (A : Ty) (g : Polynomial) (x : Excess) → interpretation_at S f ≡ record { kind = A; polynomial = g } → c ≡ length Γ
    → PassesLimit (one (renumber (λ i. c + i) g)) x → (w : Polynomial) × Contains (own_values S Γ (symbol f)) w × ExceedsAs x w
symbol_exceeds S Γ f c A g x e k y =
    subst (λ s. PassesLimit (one (renumber (λ i. length Γ + i) s.polynomial)) x) (sym e) (subst (λ c. PassesLimit (one (renumber (λ i. c + i) g)) x) k y)

-- an expression that is applied to others in turn
pub typed_start : (S : List Interpretation) (Γ : List Ty) (e : Expression) (ds : List Expression) → TypedExpression S Γ (applied_to e ds) → TypedExpression S Γ e
typed_start S Γ e [] t = t
typed_start S Γ e (d ∷ ds) t = (typed_start S Γ (apply e d) ds t).0

start_embeds : (S : List Interpretation) (Γ : List Ty) (e : Expression) (ds : List Expression) → Embeds S Γ e (length ds) Γ (applied_to e ds)
start_embeds S Γ e [] k w v = let z : k ≡ 0 + k = omega arith in subst (λ k. ValueOfPart S Γ e k w) z v
start_embeds S Γ e (d ∷ ds) k w v =
    let z : length ds + (1 + k) ≡ length (d ∷ ds) + k = omega arith in
    subst (λ k. ValueOfPart S Γ (applied_to e (d ∷ ds)) k w) z (start_embeds S Γ (apply e d) ds (1 + k) w (function_embeds S Γ e d k w v))

pub start_fault : (S : List Interpretation) (Γ : List Ty) (e : Expression) (ds : List Expression) (whole : Expression) (n : ℕ) (f : PolyFault) → applied_to e ds ≡ whole → n ≡ length ds → IsFaultFrom n S Γ e f
    → IsFaultOf S Γ whole f
start_fault S Γ e ds whole n f e' k h =
    subst (λ d. IsFaultOf S Γ d f) e' (fault_of_whole S Γ (applied_to e ds) f
    (fault_embeds n 0 (length ds) S Γ Γ e (applied_to e ds) (omega (arith, k)) (start_embeds S Γ e ds) f h))

-- the value so far, which is still to be applied to the expressions ds
pub record Calling (S : List Interpretation) (Γ : List Ty) (whole : Expression) (ds : List Expression) (v : Valued) (next at : ℕ) : Type 0 where
  pub start : Expression
  pub same : applied_to start ds ≡ whole
  pub value : IsValueOf S Γ start v
  pub numbered : next ≡ length ds + parts start
  pub number : at ≡ length ds

module _ (S : List Interpretation) (n : NormalInterpretations S) (Γ : List Ty) (whole : Expression) (t : TypedExpression S Γ whole) (xs : List Expr) (i : ℕ) (x : Expr) (v : Valued) (next at : ℕ)
    (g : Calling S Γ whole (map expression (drop i xs)) v next at) (l : i < length xs) (h : x ≡ get_or xs i x) where
  abbrev rest : List Expression
  rest = map expression (drop (i + 1) xs)

  split : map expression (drop i xs) ≡ expression x ∷ rest
  split = ap (map expression) (drop_next xs i x l h)

  now : applied_to (apply g.start (expression x)) rest ≡ whole
  now = sym (ap (applied_to g.start) split) ∙ g.same

  pub application_typed : TypedExpression S Γ (apply g.start (expression x))
  application_typed = typed_start S Γ (apply g.start (expression x)) rest (subst (TypedExpression S Γ) (sym now) t)

  pub one_number : at ≡ suc (length rest)
  one_number = g.number ∙ ap length split

  -- the argument at hand
  pub call_argument_fault : (f : PolyFault) → IsFaultFrom next S Γ (expression x) f → IsFaultOf S Γ whole f
  call_argument_fault f k =
      let m = g.numbered in let z = ap length split in
      start_fault S Γ (apply g.start (expression x)) rest whole (length rest) f now refl
      (fault_embeds next (length rest) (1 + parts g.start) S Γ Γ (expression x) (apply g.start (expression x)) (omega (arith, m, z)) (argument_embeds S Γ g.start (expression x)) f k)

  pub call_fault : (b : ℕ) (f : PolyFault) → b ≡ at - 1 → IsFaultFrom b S Γ (apply g.start (expression x)) f → IsFaultOf S Γ whole f
  call_fault b f e k = let m = one_number in start_fault S Γ (apply g.start (expression x)) rest whole b f now (omega (arith, m, e)) k

  pub calling_steps : (r : Valued) (new b : ℕ) → IsValueOf S Γ (apply g.start (expression x)) r → new ≡ next + parts (expression x) → b ≡ at - 1 → Calling S Γ whole rest r new b
  calling_steps r new b y k e = record {
    start = apply g.start (expression x);
    same = now;
    value = y;
    numbered = (let m = g.numbered in let z = ap length split in omega (arith, m, z, k));
    number = (let m = one_number in omega (arith, m, e));
  }

pub calling_ends : (S : List Interpretation) (Γ : List Ty) (whole : Expression) (xs : List Expr) (i : ℕ) (v : Valued) (next at : ℕ) → Calling S Γ whole (map expression (drop i xs)) v next at → length xs ≤ i
    → ComesTo (evaluate S Γ whole) (poly v.value)
calling_ends S Γ whole xs i v next at g l =
    let none : map expression (drop i xs) ≡ [] = ap (map expression) (drop_of_length-le xs l) in
    subst (λ e. ComesTo (evaluate S Γ e) (poly v.value)) (sym (ap (applied_to g.start) none) ∙ g.same) g.value.0
