-- Walks over the symbols, the marks, the rules and the pairs of the set.
use Rattle.std.proofs.Common.{◌≡◌, ◌<◌, ◌≤◌, ◌+◌, inl, inr, ℕ, zero, suc, List, [], ◌∷◌, length, map, Some, slice_get, refl, ap, sym, subst, arith}
use Rattle.std.proofs.lemmas.Option.{slice_get_within}
use Rattle.wh_types.specs.Erase.{ty}
use Rattle.wh_pairs.proofs.ByPlace.{Before, same_or_below}
use Rattle.wh_hopoly.specs.Erase.{interpretations}
use Rattle.wh_hopoly.specs.declared.expression.Symbol.{Symbol}
use Rattle.wh_polycheck.specs.SideResults.{marks_of}
use Rattle.wh_polycheck.specs.declared.marks.MarkedSymbol.{MarkedSymbol}

-- what holds before the end holds at each place
pub at_each : {A : Type 0} (Q : A → Type 0) (xs : List A) (i : ℕ) → Before Q xs i → length xs ≤ i → (k : ℕ) (x : A) → slice_get xs k ≡ Some x → Q x
at_each Q xs i before past k x at = let within = slice_get_within xs k x at in before k x (omega arith) at

pub some_at : {A : Type 0} (xs : List A) (i : ℕ) → i < length xs → (x : A) × (slice_get xs i ≡ Some x)
some_at [] i within = absurd (omega arith)
some_at (x ∷ xs) zero within = (x, refl)
some_at (x ∷ xs) (suc i) within = some_at xs i (omega arith)

-- one place more
pub one_more : (P : ℕ → Type 0) (i : ℕ) → ((k : ℕ) → k < i → P k) → P i → (k : ℕ) → k < i + 1 → P k
one_more P i before here k below = elim (same_or_below k i below) [
  | inl same ↦ subst P (sym same) here
  | inr less ↦ before k less
]

-- what holds of four values holds of equal ones
pub of_equals : {A B C D : Type 0} (P : A → B → C → D → Type 0) (a p : A) (b q : B) (c r : C) (d s : D) → a ≡ p → b ≡ q → c ≡ r → d ≡ s → P a b c d → P p q r s
of_equals P a p b q c r d s e f g h x =
    subst (λ d. P p q r d) h (subst (λ c. P p q c d) g (subst (λ b. P p b c d) f (subst (λ a. P a b c d) e x)))

-- the kinds of interpretations are those of the symbols that they stand for
pub kinds_are : (xs : List Symbol) → map (λ s. s.kind) (interpretations xs) ≡ map (λ s. ty s.kind) xs
kinds_are [] = refl
kinds_are (x ∷ xs) = ap (λ l. ty x.kind ∷ l) (kinds_are xs)

pub marks_are : (xs : List MarkedSymbol) → map (λ m. m.symbol) (marks_of xs) ≡ map (λ m. m.symbol) xs
marks_are [] = refl
marks_are (x ∷ xs) = ap (λ l. x.symbol ∷ l) (marks_are xs)
