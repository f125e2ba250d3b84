-- Of the things that can be wrong with the moves for a line one at most is the first, but that values may exceed both limits; and none
-- is where nothing is wrong.
use Rattle.std.proofs.Common.{◌≡◌, ℕ, ◌⊎◌, inl, inr, Bool, true, false, List, refl, sym, ap, ◌∙◌, arith}
use Rattle.wh_pairs.proofs.ByPlace.{contains_at}
use Rattle.wh_poly.specs.Polynomials.{Polynomial}
use Rattle.wh_hopoly.specs.Evaluation.{Run}
use Rattle.wh_hopoly.specs.Moves.{Transfer, NotOverSpent, Covered, IsCover}
use Rattle.wh_poly.specs.declared.excess.Excess.{Excess}
use Rattle.wh_poly.specs.declared.excess.Excess.TheVariants as excess
use Rattle.wh_polycheck.specs.CoverFaults.{AreGood, IsFirstBad, IsOverSpent, IsFirstOverSpent, IsNotCovered, IsFirstNotCovered, LeavesConstant, IsFirstCoverFault, IsFirstStrictCoverFault}
use Rattle.wh_polycheck.specs.declared.fault.CoverFault.{CoverFault}
use Rattle.wh_polycheck.specs.declared.fault.CoverFault.TheVariants.{BadMove, OverSpent, NotCovered, NotStrict}
use Rattle.wh_polycheck.specs.Covering.{CoversSides}
use Rattle.wh_poly_covering.specs.CoveringFaults.{RunExceeds, IsFirstFaultOfMoves, IsFirstLineFault, IsRightLine}
use Rattle.wh_polycheck.specs.Small.{Limits, without_limits, with_limits, StaysWithin}
use Rattle.wh_poly_covering.specs.declared.fault.LineFault.{LineFault}
use Rattle.wh_poly_covering.specs.declared.fault.LineFault.TheVariants as line
use Rattle.wh_usable.proofs.Decisions.{neither_below}

-- moves

good_or_bad : (left right : Polynomial) (ms : List Transfer) (e : ℕ) → IsFirstBad left right ms e → AreGood left right ms → ⊥
good_or_bad left right ms e (m, at, bad, before) good = bad (good m (contains_at ms e m at))

bad_one : (left right : Polynomial) (ms : List Transfer) (e f : ℕ) → IsFirstBad left right ms e → IsFirstBad left right ms f → e ≡ f
bad_one left right ms e f (m, at, bad, before) (n, also, worse, earlier) =
    neither_below e f (λ less. bad (earlier e m less at)) (λ less. worse (before f n less also))

spent_or_not : (left : Polynomial) (ms : List Transfer) (i : ℕ) → IsOverSpent left ms i → NotOverSpent left ms i → ⊥
spent_or_not left ms i (c, us, at, more) not = let few = not c us at in omega (arith, few, more)

spent_one : (left : Polynomial) (ms : List Transfer) (i j : ℕ) → IsFirstOverSpent left ms i → IsFirstOverSpent left ms j → i ≡ j
spent_one left ms i j (spent, before) (also, earlier) =
    neither_below i j (λ less. spent_or_not left ms i spent (earlier i less)) (λ less. spent_or_not left ms j also (before j less))

covered_or_not : (right : Polynomial) (ms : List Transfer) (j : ℕ) → IsNotCovered right ms j → Covered right ms j → ⊥
covered_or_not right ms j (c, us, at, fewer) covered = let enough = covered c us at in omega (arith, enough, fewer)

not_covered_one : (right : Polynomial) (ms : List Transfer) (i j : ℕ) → IsFirstNotCovered right ms i → IsFirstNotCovered right ms j → i ≡ j
not_covered_one right ms i j (missing, before) (also, earlier) =
    neither_below i j (λ less. covered_or_not right ms i missing (earlier i less)) (λ less. covered_or_not right ms j also (before j less))

cover_fault_one : (left right : Polynomial) (ms : List Transfer) (f g : CoverFault) → IsFirstCoverFault left right ms f
    → IsFirstCoverFault left right ms g → f ≡ g
cover_fault_one left right ms (BadMove e) (BadMove f) first other = ap BadMove (bad_one left right ms e f first other)
cover_fault_one left right ms (BadMove e) (OverSpent i) first other = absurd (good_or_bad left right ms e first other.0)
cover_fault_one left right ms (BadMove e) (NotCovered j) first other = absurd (good_or_bad left right ms e first other.0)
cover_fault_one left right ms (BadMove e) NotStrict first other = absurd other
cover_fault_one left right ms (OverSpent i) (BadMove e) first other = absurd (good_or_bad left right ms e other first.0)
cover_fault_one left right ms (OverSpent i) (OverSpent k) first other = ap OverSpent (spent_one left ms i k first.1 other.1)
cover_fault_one left right ms (OverSpent i) (NotCovered j) first other = absurd (spent_or_not left ms i first.1.0 (other.1 i))
cover_fault_one left right ms (OverSpent i) NotStrict first other = absurd other
cover_fault_one left right ms (NotCovered j) (BadMove e) first other = absurd (good_or_bad left right ms e other first.0)
cover_fault_one left right ms (NotCovered j) (OverSpent i) first other = absurd (spent_or_not left ms i other.1.0 (first.1 i))
cover_fault_one left right ms (NotCovered j) (NotCovered k) first other = ap NotCovered (not_covered_one right ms j k first.2 other.2)
cover_fault_one left right ms (NotCovered j) NotStrict first other = absurd other
cover_fault_one left right ms NotStrict g first other = absurd first

cover_or_fault : (left right : Polynomial) (ms : List Transfer) (f : CoverFault) → IsCover left right ms → IsFirstCoverFault left right ms f
    → ⊥
cover_or_fault left right ms (BadMove e) is first = good_or_bad left right ms e first is.good
cover_or_fault left right ms (OverSpent i) is first = spent_or_not left ms i first.1.0 (is.not_over_spent i)
cover_or_fault left right ms (NotCovered j) is first = covered_or_not right ms j first.2.0 (is.covered j)
cover_or_fault left right ms NotStrict is first = first

-- that nothing of the constant is left over
abbrev LeavesNothing : Polynomial → Polynomial → List Transfer → Type 0
LeavesNothing left right ms = IsCover left right ms × (LeavesConstant left ms → ⊥)

strict_cases : (left right : Polynomial) (ms : List Transfer) (f : CoverFault) → IsFirstStrictCoverFault left right ms f
    → IsFirstCoverFault left right ms f ⊎ ((f ≡ NotStrict) × LeavesNothing left right ms)
strict_cases left right ms (BadMove e) first = inl first
strict_cases left right ms (OverSpent i) first = inl first
strict_cases left right ms (NotCovered j) first = inl first
strict_cases left right ms NotStrict first = inr (refl, first)

moves_fault_one : (strict : Bool) (left right : Polynomial) (ms : List Transfer) (f g : CoverFault)
    → IsFirstFaultOfMoves strict left right ms f → IsFirstFaultOfMoves strict left right ms g → f ≡ g
moves_fault_one false left right ms f g first other = cover_fault_one left right ms f g first other
moves_fault_one true left right ms f g first other = go (strict_cases left right ms f first) (strict_cases left right ms g other)
  where
    go : IsFirstCoverFault left right ms f ⊎ ((f ≡ NotStrict) × LeavesNothing left right ms)
        → IsFirstCoverFault left right ms g ⊎ ((g ≡ NotStrict) × LeavesNothing left right ms) → f ≡ g
    go (inl weak) (inl also) = cover_fault_one left right ms f g weak also
    go (inl weak) (inr (is, nothing)) = absurd (cover_or_fault left right ms f nothing.0 weak)
    go (inr (is, nothing)) (inl also) = absurd (cover_or_fault left right ms g nothing.0 also)
    go (inr (is, nothing)) (inr (same, also)) = is ∙ sym same

covers_or_fault : (strict : Bool) (left right : Run Polynomial) (ms : List Transfer) (f : CoverFault) → CoversSides left right strict ms
    → IsFirstFaultOfMoves strict left.result right.result ms f → ⊥
covers_or_fault false left right ms f is first = cover_or_fault left.result right.result ms f is first
covers_or_fault true left right ms f is first = go (strict_cases left.result right.result ms f first)
  where
    go : IsFirstCoverFault left.result right.result ms f ⊎ ((f ≡ NotStrict) × LeavesNothing left.result right.result ms) → ⊥
    go (inl weak) = cover_or_fault left.result right.result ms f is.cover weak
    go (inr (same, nothing)) = nothing.1 (is.constant, is.first, is.left_over)

-- lines

within_or_exceeds : (run : Run Polynomial) (e : Excess) → StaysWithin with_limits run → RunExceeds run e → ⊥
within_or_exceeds run excess.Overflow within (w, found, over) = within w found (inl over)
within_or_exceeds run excess.TooLarge within (w, found, large) = within w found (inr large)

-- the line stays within the limits, or a value exceeds one
line_within_or_exceeds : (left right : Run Polynomial) (e : Excess) → StaysWithin with_limits left → StaysWithin with_limits right
    → RunExceeds left e ⊎ (StaysWithin with_limits left × RunExceeds right e) → ⊥
line_within_or_exceeds left right e within also (inl first) = within_or_exceeds left e within first
line_within_or_exceeds left right e within also (inr (stays, second)) = within_or_exceeds right e also second

-- that a value exceeds a limit
abbrev pub IsExcessOfLine : LineFault → Type 0
IsExcessOfLine f = (e : Excess) × (f ≡ line.Exceeds e)

abbrev pub LinesAlike : LineFault → LineFault → Type 0
LinesAlike f g = (f ≡ g) ⊎ (IsExcessOfLine f × IsExcessOfLine g)

pub line_fault_one : (limits : Limits) (left right : Run Polynomial) (strict : Bool) (ms : List Transfer) (f g : LineFault)
    → IsFirstLineFault limits left right strict ms f → IsFirstLineFault limits left right strict ms g → LinesAlike f g
line_fault_one limits left right strict ms (line.Cover f) (line.Cover g) first other =
    inl (ap line.Cover (moves_fault_one strict left.result right.result ms f g first.2 other.2))
line_fault_one with_limits left right strict ms (line.Cover f) (line.Exceeds e) first other =
    absurd (line_within_or_exceeds left right e first.0 first.1 other)
line_fault_one with_limits left right strict ms (line.Exceeds e) (line.Cover g) first other =
    absurd (line_within_or_exceeds left right e other.0 other.1 first)
line_fault_one with_limits left right strict ms (line.Exceeds e) (line.Exceeds h) first other = inr ((e, refl), (h, refl))
line_fault_one without_limits left right strict ms (line.Cover f) (line.Exceeds e) first other = absurd other
line_fault_one without_limits left right strict ms (line.Exceeds e) g first other = absurd first

pub right_or_line_fault : (limits : Limits) (left right : Run Polynomial) (strict : Bool) (ms : List Transfer) (f : LineFault)
    → IsRightLine limits left right strict ms → IsFirstLineFault limits left right strict ms f → ⊥
right_or_line_fault limits left right strict ms (line.Cover f) is first = covers_or_fault strict left right ms f is.2 first.2
right_or_line_fault with_limits left right strict ms (line.Exceeds e) is first = line_within_or_exceeds left right e is.0 is.1 first
right_or_line_fault without_limits left right strict ms (line.Exceeds e) is first = first
