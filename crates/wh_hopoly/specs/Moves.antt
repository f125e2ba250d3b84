-- Moves of units between the monomials of two polynomials, and when they show that the left one is at least the right
-- one.
use Rattle.std.specs.Prelude.{ℕ, zero, suc, ◌+◌, ◌≤◌, ◌<◌, ◌==◌, List, [], ◌∷◌, ◌≡◌, if◌then◌else◌, Contains}
use Rattle.wh_poly.specs.Polynomials.{Polynomial, zero_poly, plus, Factors, no_factors, times, Arguments, no_arguments, argument}
use Rattle.wh_hopoly.specs.Covers.{AtLeast}

-- `amount` units of the monomial number `from` on the left go to the monomial number `to` on the right, both counted
-- from 0 (ours)
pub record Transfer : Type 0 where
  pub from : ℕ
  pub to : ℕ
  pub amount : ℕ

-- arguments are at least others if each is at least the one at its place (ours)
abbrev pub ArgumentsAtLeast : Arguments → Arguments → Type 0
ArgumentsAtLeast no_arguments no_arguments = Unit {0}
ArgumentsAtLeast (argument p ps) (argument q qs) = AtLeast p q × ArgumentsAtLeast ps qs
ArgumentsAtLeast _ _ = ⊥

-- factors are at least others if they have the same variables in order, each with arguments that are at least the
-- others' (ours)
abbrev pub FactorsAtLeast : Factors → Factors → Type 0
FactorsAtLeast no_factors no_factors = Unit {0}
FactorsAtLeast (times x ps us) (times y qs vs) = x ≡ y × ArgumentsAtLeast ps qs × FactorsAtLeast us vs
FactorsAtLeast _ _ = ⊥

-- the monomial i of the polynomial has this coefficient and these factors (ours)
abbrev pub MonomialAt : Polynomial → ℕ → ℕ → Factors → Type 0
MonomialAt zero_poly i c us = ⊥
MonomialAt (plus d vs p) zero c us = d ≡ c × vs ≡ us
MonomialAt (plus d vs p) (suc i) c us = MonomialAt p i c us

-- a move is good if both monomials are there, and the left one's factors are at least the right one's (ours)
pub record Good (left right : Polynomial) (m : Transfer) : Type 0 where
  pub given : ℕ
  pub taken : ℕ
  pub giver : Factors
  pub taker : Factors
  pub source : MonomialAt left m.from given giver
  pub target : MonomialAt right m.to taken taker
  pub fits : FactorsAtLeast giver taker

-- how many units all moves have together whose place, by the given reading of a move, is i (ours)
abbrev pub units_at : (Transfer → ℕ) → ℕ → List Transfer → ℕ
units_at place i [] = 0
units_at place i (m ∷ ms) = if place m == i then m.amount + units_at place i ms else units_at place i ms

-- what the moves take from the left monomial i, and what they bring to the right monomial j (ours)
abbrev pub given_by : ℕ → List Transfer → ℕ
given_by = units_at (λ m. m.from)

abbrev pub taken_by : ℕ → List Transfer → ℕ
taken_by = units_at (λ m. m.to)

-- the moves take no more from the left monomial i than its coefficient (ours)
abbrev pub NotOverSpent : Polynomial → List Transfer → ℕ → Type 0
NotOverSpent left ms i = (c : ℕ) (us : Factors) → MonomialAt left i c us → given_by i ms ≤ c

-- the moves bring the right monomial j no less than its coefficient (ours)
abbrev pub Covered : Polynomial → List Transfer → ℕ → Type 0
Covered right ms j = (c : ℕ) (us : Factors) → MonomialAt right j c us → c ≤ taken_by j ms

-- the moves show that the left polynomial is at least the right one (ours, after absolute positiveness)
pub record IsCover (left right : Polynomial) (ms : List Transfer) : Type 0 where
  pub good : (m : Transfer) → Contains ms m → Good left right m
  pub not_over_spent : (i : ℕ) → NotOverSpent left ms i
  pub covered : (j : ℕ) → Covered right ms j

-- the moves show that the left polynomial is greater: a unit of its constant is left over (ours)
pub record IsStrictCover (left right : Polynomial) (ms : List Transfer) : Type 0 where
  pub cover : IsCover left right ms
  pub constant : ℕ
  pub first : MonomialAt left 0 constant no_factors
  pub left_over : given_by 0 ms < constant
