-- From the answers of the walks to passing, and to the first break of it.
use Rattle.std.proofs.Common.{◌≡◌, ℕ, ◌+◌, ◌<◌, Bool, true, false, List, Option, Some, None, slice_get, length, Contains, IsTrue, ◌↔◌, ◌⊎◌, inl, inr, refl, ap, ◌∙◌, subst, arith}
use mathlib.Core.Bool.{beq}
use Rattle.std.specs.Option.{option_eq}
use Rattle.std.proofs.lemmas.Option.{slice_get-get_or}
use Rattle.wh_terms.specs.Tree.{Tm}
use Rattle.wh_terms.specs.Typing.{Symbols}
use Rattle.wh_terms.specs.Rules.{RewriteRule}
use Rattle.wh_access.specs.Readings.{readings_of_left}
use Rattle.wh_access.specs.Passing.{AllAccessible, Passes, EachUsed, IsFirstWithout}
use Rattle.wh_access.specs.Answered.{TellsOpen, IsFirstIn}

-- a left side passes where the answer is `Some(true)`
pub passes_told : (S : Symbols) (rank : ℕ → ℕ) (l : Tm) (z : ℕ) (o : Option Bool) (same : Bool) → TellsOpen S rank z (readings_of_left l) o → same ≡ option_eq beq o (Some true) → IsTrue same ↔ Passes S rank l z
passes_told S rank l z None same told e = (λ here. absurd (cc (here, e)), λ passes. absurd (cc (told, passes.1)))
passes_told S rank l z (Some true) same told e = (λ _. (told.0, told.1, told.2.0 refl), λ _. e)
passes_told S rank l z (Some false) same told e = (
  λ here. absurd (cc (here, e)),
  λ passes.
      let one : passes.0 ≡ told.0 = cc (passes.1, told.1) in
      absurd (cc (told.2.1 (subst (AllAccessible S rank) one passes.2))),
)

-- the rules before number i have Q of all that they use
abbrev pub HoldBefore : (Tm → ℕ → Type 0) → List RewriteRule → ℕ → Type 0
HoldBefore Q rules i = (j : ℕ) (r : RewriteRule) → j < i → slice_get rules j ≡ Some r → EachUsed Q r

pub hold_next : (Q : Tm → ℕ → Type 0) (rules : List RewriteRule) (i : ℕ) (r : RewriteRule) → HoldBefore Q rules i → slice_get rules i ≡ Some r → EachUsed Q r → HoldBefore Q rules (i + 1)
hold_next Q rules i r before at each j s below here =
    elim (elim_le j i below) [ inl less ↦ before j s less here | inr e ↦ let same : r ≡ s = cc (at, here, ap (slice_get rules) e) in subst (EachUsed Q) same each ]
  where
    elim_le : (j i : ℕ) → j < i + 1 → (j < i) ⊎ (j ≡ i)
    elim_le j i h = grind arith

pub hold_all : (Q : Tm → ℕ → Type 0) (rules : List RewriteRule) (n : ℕ) → length rules ≡ n → HoldBefore Q rules n → (r : RewriteRule) → Contains rules r → EachUsed Q r
hold_all Q rules n count before r within =
    before within.0 r (omega (arith, within.1)) (slice_get-get_or rules within.0 r within.1 ∙ ap Some within.2)

pub first_without : (Q : Tm → ℕ → Type 0) (rules : List RewriteRule) (i : ℕ) (r : RewriteRule) (z : ℕ) → HoldBefore Q rules i → slice_get rules i ≡ Some r → IsFirstIn Q r (Some z) → IsFirstWithout Q rules i z
first_without Q rules i r z before at first = record { here = (r, at, first.0, first.1, first.2); before = before }
