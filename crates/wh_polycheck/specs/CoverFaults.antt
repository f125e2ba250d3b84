-- What can be wrong with a list of moves that is to show that one polynomial covers another, and what comes first.
use Rattle.std.specs.Prelude.{ℕ, ◌<◌, ◌≡◌, List, Some, slice_get, Contains}
use Rattle.wh_types.specs.Ty.{Ty}
use Rattle.wh_poly.specs.Polynomials.{Polynomial, Factors, no_factors, Normal}
use Rattle.wh_hopoly.specs.Moves.{Transfer, MonomialAt, Good, given_by, taken_by, NotOverSpent, Covered, IsCover}
use Rattle.wh_polycheck.specs.declared.fault.CoverFault.{CoverFault}
use Rattle.wh_polycheck.specs.declared.fault.CoverFault.TheVariants.{BadMove, OverSpent, NotCovered, NotStrict}

-- the polynomial is normal in some scope (ours)
abbrev pub IsNormal : Polynomial → Type 0
IsNormal p = (scope : List Ty) × Normal scope p

-- all moves are good (ours)
abbrev pub AreGood : Polynomial → Polynomial → List Transfer → Type 0
AreGood left right ms = (m : Transfer) → Contains ms m → Good left right m

-- the move number e is not good, and all before it are (ours)
abbrev pub IsFirstBad : Polynomial → Polynomial → List Transfer → ℕ → Type 0
IsFirstBad left right ms e =
    (m : Transfer) × (slice_get ms e ≡ Some m) × (Good left right m → ⊥)
    × ((i : ℕ) (n : Transfer) → i < e → slice_get ms i ≡ Some n → Good left right n)

-- the left monomial i gives more than its coefficient (ours)
abbrev pub IsOverSpent : Polynomial → List Transfer → ℕ → Type 0
IsOverSpent left ms i = (c : ℕ) × (us : Factors) × MonomialAt left i c us × (c < given_by i ms)

-- the left monomial i is the first one that gives more than its coefficient (ours)
abbrev pub IsFirstOverSpent : Polynomial → List Transfer → ℕ → Type 0
IsFirstOverSpent left ms i = IsOverSpent left ms i × ((k : ℕ) → k < i → NotOverSpent left ms k)

-- the right monomial j gets less than its coefficient (ours)
abbrev pub IsNotCovered : Polynomial → List Transfer → ℕ → Type 0
IsNotCovered right ms j = (c : ℕ) × (us : Factors) × MonomialAt right j c us × (taken_by j ms < c)

-- the right monomial j is the first one that gets less than its coefficient (ours)
abbrev pub IsFirstNotCovered : Polynomial → List Transfer → ℕ → Type 0
IsFirstNotCovered right ms j = IsNotCovered right ms j × ((k : ℕ) → k < j → Covered right ms k)

-- the left polynomial has a constant, and a unit of it is left over (ours)
abbrev pub LeavesConstant : Polynomial → List Transfer → Type 0
LeavesConstant left ms = (c : ℕ) × MonomialAt left 0 c no_factors × (given_by 0 ms < c)

-- the first thing wrong with a cover: a move, then a left monomial, then a right one (ours)
abbrev pub IsFirstCoverFault : Polynomial → Polynomial → List Transfer → CoverFault → Type 0
IsFirstCoverFault left right ms (BadMove e) = IsFirstBad left right ms e
IsFirstCoverFault left right ms (OverSpent i) = AreGood left right ms × IsFirstOverSpent left ms i
IsFirstCoverFault left right ms (NotCovered j) =
    AreGood left right ms × ((i : ℕ) → NotOverSpent left ms i) × IsFirstNotCovered right ms j
IsFirstCoverFault left right ms NotStrict = ⊥

-- with a strict cover it may also be the last one, that nothing of the constant is left over (ours)
abbrev pub IsFirstStrictCoverFault : Polynomial → Polynomial → List Transfer → CoverFault → Type 0
IsFirstStrictCoverFault left right ms NotStrict = IsCover left right ms × (LeavesConstant left ms → ⊥)
IsFirstStrictCoverFault left right ms fault = IsFirstCoverFault left right ms fault
