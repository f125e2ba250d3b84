-- Of the things that can be wrong with a node of interpretations one at most is the first, but that values may exceed both limits; and
-- none is where its conditions hold. What is found wrong before a value exceeds a limit is wrong first without limits too.
use Rattle.std.proofs.Common.{◌≡◌, ℕ, ◌⊎◌, inl, inr, Bool, true, false, List, Some, slice_get, Contains, refl, sym, ap, subst, ◌∙◌}
use Rattle.wh_terms.specs.Rules.{RewriteRule}
use Rattle.wh_pairs.specs.PairData.{PairData}
use Rattle.wh_pairs.proofs.ByPlace.{contains_at, some_one}
use Rattle.wh_reduction_pairs.specs.TaskData.{TaskData}
use Rattle.wh_reduction_pairs.specs.ReductionPair.{Evidence, IsRightRule, IsRightPair}
use Rattle.wh_reduction_pairs.proofs.Lines.{rule_or_not, pair_or_not, first_rule_one, first_pair_one, counted_of, counted_not_bad}
use Rattle.wh_hopoly.specs.Evaluation.{NormalInterpretations}
use Rattle.wh_poly.specs.Polynomials.{Normal}
use Rattle.wh_hopoly.specs.Moves.{Transfer}
use Rattle.wh_poly.specs.declared.excess.Excess.{Excess}
use Rattle.wh_poly.specs.declared.excess.Excess.TheVariants as excess
use Rattle.wh_polycheck.specs.Marks.{Mark, marked_types, AreNormalMarks}
use Rattle.wh_polycheck.specs.Readings.{ReadingsData}
use Rattle.wh_polycheck.specs.Covering.{rule_run, pair_run, by_moves, IsCovering}
use Rattle.wh_polycheck.specs.Small.{Limits, without_limits, with_limits, StaysWithin, IsSmall}
use Rattle.wh_poly_covering.specs.CoveringFaults.{IsFirstLineFault, IsRightLine, IsFirstNotNormal, IsFirstNotNormalMark, IsFirstWrongRule, IsFirstWrongPair, IsFirstCoveringFault, right_lines, wrong_lines}
use Rattle.wh_usable.specs.Closed.{IsClosed}
use Rattle.wh_usable.proofs.Decisions.{closed_not_open, one_open, neither_below}
use Rattle.wh_poly_covering.specs.declared.fault.CoveringFault.{CoveringFault}
use Rattle.wh_poly_covering.specs.declared.fault.CoveringFault.TheVariants.{BadPolynomial, BadLines, BadDrop, NotClosed, Rule, Pair}
use Rattle.wh_poly_covering.specs.declared.fault.LineFault.{LineFault}
use Rattle.wh_poly_covering.specs.declared.fault.LineFault.TheVariants as line
use Rattle.wh_checker.specs.Faults.{in_excess, at_covering}
use Rattle.wh_checker.specs.declared.rejected.CheckFault.{CheckFault}
use Rattle.wh_checker.specs.declared.rejected.CheckFault.TheVariants as check
use Rattle.wh_checker.proofs.CoverLaws.{LinesAlike, line_fault_one, right_or_line_fault}

-- it is that a value exceeds a limit
abbrev pub IsExcess : CoveringFault → Type 0
IsExcess f = (e : Excess) × ((k : ℕ) → at_covering k f ≡ in_excess k e)

-- two faults are one, or both are that a value exceeds a limit
abbrev pub CoveringsAlike : CoveringFault → CoveringFault → Type 0
CoveringsAlike f g = (f ≡ g) ⊎ (IsExcess f × IsExcess g)

rules_alike : (r : ℕ) (f g : LineFault) → LinesAlike f g → CoveringsAlike (Rule r f) (Rule r g)
rules_alike r f g (inl same) = inl (ap (Rule r) same)
rules_alike r f g (inr ((e, is), (h, also))) =
    inr ((e, λ k. ap (λ x. at_covering k (Rule r x)) is), (h, λ k. ap (λ x. at_covering k (Rule r x)) also))

pairs_alike : (n : ℕ) (f g : LineFault) → LinesAlike f g → CoveringsAlike (Pair n f) (Pair n g)
pairs_alike n f g (inl same) = inl (ap (Pair n) same)
pairs_alike n f g (inr ((e, is), (h, also))) =
    inr ((e, λ k. ap (λ x. at_covering k (Pair n x)) is), (h, λ k. ap (λ x. at_covering k (Pair n x)) also))

-- with limits no value exceeds one; without, nothing is asked
abbrev pub SmallFor : Limits → TaskData → ReadingsData → Type 0
SmallFor with_limits T R = IsSmall T R
SmallFor without_limits T R = Unit {0}

-- what comes first is no excess of a limit
abbrev pub IsRejection : CheckFault → Type 0
IsRejection (check.Rejected r) = Unit {0}
IsRejection (check.Overflow k) = ⊥
IsRejection (check.TooLarge k) = ⊥

excess_not_rejected : (k : ℕ) (e : Excess) → IsRejection (in_excess k e) → ⊥
excess_not_rejected k excess.Overflow is = is
excess_not_rejected k excess.TooLarge is = is

module _ (limits : Limits) (T : TaskData) (R : ReadingsData) (E : Evidence (List Transfer)) where
  abbrev First : CoveringFault → Type 0
  First = IsFirstCoveringFault limits T R E

  normal_or_not : (f : ℕ) → IsFirstNotNormal R.symbols f → NormalInterpretations R.symbols → ⊥
  normal_or_not f (s, at, not, before) normal = not (normal f s at)

  not_normal_one : (f g : ℕ) → IsFirstNotNormal R.symbols f → IsFirstNotNormal R.symbols g → f ≡ g
  not_normal_one f g (s, at, not, before) (u, also, neither, earlier) =
      neither_below f g (λ less. not (earlier f s less at)) (λ less. neither (before g u less also))

  marks_normal_or_not : (f : ℕ) → IsFirstNotNormalMark T.symbols T.rules R.marks f → AreNormalMarks T.symbols T.rules R.marks → ⊥
  marks_normal_or_not f (i, m, at, is, not, before) normal =
      not (subst (λ n. Normal (marked_types T.symbols T.rules n) m.polynomial) is (normal m (contains_at R.marks i m at)))

  not_normal_mark_one : (f g : ℕ) → IsFirstNotNormalMark T.symbols T.rules R.marks f → IsFirstNotNormalMark T.symbols T.rules R.marks g
      → f ≡ g
  not_normal_mark_one f g (i, m, at, is, not, before) (j, n, also, same, neither, earlier) =
      let place : i ≡ j = neither_below i j
      (λ less. not (subst (λ x. Normal (marked_types T.symbols T.rules x) m.polynomial) is (earlier i m less at)))
      (λ less. neither (subst (λ x. Normal (marked_types T.symbols T.rules x) n.polynomial) same (before j n less also))) in
      let one : m ≡ n = some_one (sym (ap (slice_get R.marks) place) ∙ at) also in
      sym is ∙ ap (λ (x : Mark). x.symbol) one ∙ same

  -- lines

  rule_excluded : (r : RewriteRule) (ms : List Transfer) (f : LineFault) → IsRightLine limits (rule_run R r false) (rule_run R r true) false ms
      → IsFirstLineFault limits (rule_run R r false) (rule_run R r true) false ms f → ⊥
  rule_excluded r ms f right wrong = right_or_line_fault limits (rule_run R r false) (rule_run R r true) false ms f right wrong

  pair_excluded : (p : PairData) (strict : Bool) (ms : List Transfer) (f : LineFault)
      → IsRightLine limits (pair_run T.symbols T.rules R p false) (pair_run T.symbols T.rules R p true) strict ms
      → IsFirstLineFault limits (pair_run T.symbols T.rules R p false) (pair_run T.symbols T.rules R p true) strict ms f → ⊥
  pair_excluded p strict ms f right wrong =
      right_or_line_fault limits (pair_run T.symbols T.rules R p false) (pair_run T.symbols T.rules R p true) strict ms f right wrong

  rule_not_right : (r : ℕ) (f : LineFault) → IsFirstWrongRule limits T R E.of_rules r f
      → ((k : ℕ) → IsRightRule (right_lines limits T.symbols T.rules R) T E.of_rules k) → ⊥
  rule_not_right r f (i, before, wrong) right =
      rule_or_not (right_lines limits T.symbols T.rules R) (wrong_lines limits T.symbols T.rules R) T LinesAlike rule_excluded pair_excluded
      E.of_rules i r f wrong (right i)

  pair_not_right : (n : ℕ) (f : LineFault) → IsFirstWrongPair limits T R E.of_pairs E.drop n f
      → ((k : ℕ) → IsRightPair (right_lines limits T.symbols T.rules R) T E.of_pairs E.drop k) → ⊥
  pair_not_right n f (i, before, wrong) right =
      pair_or_not (right_lines limits T.symbols T.rules R) (wrong_lines limits T.symbols T.rules R) T LinesAlike rule_excluded pair_excluded
      E.of_pairs E.drop i n f wrong (right i)

  rule_one : (r : RewriteRule) (ms : List Transfer) (f g : LineFault)
      → IsFirstLineFault limits (rule_run R r false) (rule_run R r true) false ms f
      → IsFirstLineFault limits (rule_run R r false) (rule_run R r true) false ms g → LinesAlike f g
  rule_one r ms f g wrong also = line_fault_one limits (rule_run R r false) (rule_run R r true) false ms f g wrong also

  pair_one : (p : PairData) (strict : Bool) (ms : List Transfer) (f g : LineFault)
      → IsFirstLineFault limits (pair_run T.symbols T.rules R p false) (pair_run T.symbols T.rules R p true) strict ms f
      → IsFirstLineFault limits (pair_run T.symbols T.rules R p false) (pair_run T.symbols T.rules R p true) strict ms g → LinesAlike f g
  pair_one p strict ms f g wrong also =
      line_fault_one limits (pair_run T.symbols T.rules R p false) (pair_run T.symbols T.rules R p true) strict ms f g wrong also

  rule_fault_one : (r t : ℕ) (f g : LineFault) → IsFirstWrongRule limits T R E.of_rules r f → IsFirstWrongRule limits T R E.of_rules t g
      → CoveringsAlike (Rule r f) (Rule t g)
  rule_fault_one r t f g first other =
      let (same, alike) = first_rule_one (right_lines limits T.symbols T.rules R) (wrong_lines limits T.symbols T.rules R) T LinesAlike
      rule_excluded pair_excluded rule_one pair_one E.of_rules r t f g first other in
      subst (λ n. CoveringsAlike (Rule r f) (Rule n g)) same (rules_alike r f g alike)

  pair_fault_one : (n m : ℕ) (f g : LineFault) → IsFirstWrongPair limits T R E.of_pairs E.drop n f
      → IsFirstWrongPair limits T R E.of_pairs E.drop m g → CoveringsAlike (Pair n f) (Pair m g)
  pair_fault_one n m f g first other =
      let (same, alike) = first_pair_one (right_lines limits T.symbols T.rules R) (wrong_lines limits T.symbols T.rules R) T LinesAlike
      rule_excluded pair_excluded rule_one pair_one E.of_pairs E.drop n m f g first other in
      subst (λ k. CoveringsAlike (Pair n f) (Pair k g)) same (pairs_alike n f g alike)

  pub covering_fault_one : (f g : CoveringFault) → First f → First g → CoveringsAlike f g
  covering_fault_one (BadPolynomial f false) (BadPolynomial g false) first other =
      inl (ap (λ x. BadPolynomial x false) (not_normal_one f g first other))
  covering_fault_one (BadPolynomial f false) (BadPolynomial g true) first other = absurd (normal_or_not f first other.0)
  covering_fault_one (BadPolynomial f false) BadLines first other = absurd (normal_or_not f first other.0.symbols)
  covering_fault_one (BadPolynomial f false) BadDrop first other = absurd (normal_or_not f first other.0.symbols)
  covering_fault_one (BadPolynomial f false) (NotClosed g) first other = absurd (normal_or_not f first other.0.symbols)
  covering_fault_one (BadPolynomial f false) (Rule t g) first other = absurd (normal_or_not f first other.0.normal.symbols)
  covering_fault_one (BadPolynomial f false) (Pair m g) first other = absurd (normal_or_not f first other.0.normal.symbols)
  covering_fault_one (BadPolynomial f true) (BadPolynomial g false) first other = absurd (normal_or_not g other first.0)
  covering_fault_one (BadPolynomial f true) (BadPolynomial g true) first other =
      inl (ap (λ x. BadPolynomial x true) (not_normal_mark_one f g first.1 other.1))
  covering_fault_one (BadPolynomial f true) BadLines first other = absurd (marks_normal_or_not f first.1 other.0.marks)
  covering_fault_one (BadPolynomial f true) BadDrop first other = absurd (marks_normal_or_not f first.1 other.0.marks)
  covering_fault_one (BadPolynomial f true) (NotClosed g) first other = absurd (marks_normal_or_not f first.1 other.0.marks)
  covering_fault_one (BadPolynomial f true) (Rule t g) first other = absurd (marks_normal_or_not f first.1 other.0.normal.marks)
  covering_fault_one (BadPolynomial f true) (Pair m g) first other = absurd (marks_normal_or_not f first.1 other.0.normal.marks)
  covering_fault_one BadLines (BadPolynomial g false) first other = absurd (normal_or_not g other first.0.symbols)
  covering_fault_one BadLines (BadPolynomial g true) first other = absurd (marks_normal_or_not g other.1 first.0.marks)
  covering_fault_one BadLines BadLines first other = inl refl
  covering_fault_one BadLines BadDrop first other = absurd (other.1 first.1)
  covering_fault_one BadLines (NotClosed g) first other = absurd (counted_not_bad other.1 first.1)
  covering_fault_one BadLines (Rule t g) first other = absurd (counted_not_bad other.0.counted first.1)
  covering_fault_one BadLines (Pair m g) first other = absurd (counted_not_bad other.0.counted first.1)
  covering_fault_one BadDrop (BadPolynomial g false) first other = absurd (normal_or_not g other first.0.symbols)
  covering_fault_one BadDrop (BadPolynomial g true) first other = absurd (marks_normal_or_not g other.1 first.0.marks)
  covering_fault_one BadDrop BadLines first other = absurd (first.1 other.1)
  covering_fault_one BadDrop BadDrop first other = inl refl
  covering_fault_one BadDrop (NotClosed g) first other = absurd (other.1.good_drop first.2)
  covering_fault_one BadDrop (Rule t g) first other = absurd (other.0.counted.good_drop first.2)
  covering_fault_one BadDrop (Pair m g) first other = absurd (other.0.counted.good_drop first.2)
  covering_fault_one (NotClosed f) (BadPolynomial g false) first other = absurd (normal_or_not g other first.0.symbols)
  covering_fault_one (NotClosed f) (BadPolynomial g true) first other = absurd (marks_normal_or_not g other.1 first.0.marks)
  covering_fault_one (NotClosed f) BadLines first other = absurd (counted_not_bad first.1 other.1)
  covering_fault_one (NotClosed f) BadDrop first other = absurd (first.1.good_drop other.2)
  covering_fault_one (NotClosed f) (NotClosed g) first other = inl (ap NotClosed (one_open T f g first.2 other.2))
  covering_fault_one (NotClosed f) (Rule t g) first other = absurd (closed_not_open T f other.0.closed first.2)
  covering_fault_one (NotClosed f) (Pair m g) first other = absurd (closed_not_open T f other.0.closed first.2)
  covering_fault_one (Rule r f) (BadPolynomial g false) first other = absurd (normal_or_not g other first.0.normal.symbols)
  covering_fault_one (Rule r f) (BadPolynomial g true) first other = absurd (marks_normal_or_not g other.1 first.0.normal.marks)
  covering_fault_one (Rule r f) BadLines first other = absurd (counted_not_bad first.0.counted other.1)
  covering_fault_one (Rule r f) BadDrop first other = absurd (first.0.counted.good_drop other.2)
  covering_fault_one (Rule r f) (NotClosed g) first other = absurd (closed_not_open T g first.0.closed other.2)
  covering_fault_one (Rule r f) (Rule t g) first other = rule_fault_one r t f g first.1 other.1
  covering_fault_one (Rule r f) (Pair m g) first other = absurd (rule_not_right r f first.1 other.1)
  covering_fault_one (Pair n f) (BadPolynomial g false) first other = absurd (normal_or_not g other first.0.normal.symbols)
  covering_fault_one (Pair n f) (BadPolynomial g true) first other = absurd (marks_normal_or_not g other.1 first.0.normal.marks)
  covering_fault_one (Pair n f) BadLines first other = absurd (counted_not_bad first.0.counted other.1)
  covering_fault_one (Pair n f) BadDrop first other = absurd (first.0.counted.good_drop other.2)
  covering_fault_one (Pair n f) (NotClosed g) first other = absurd (closed_not_open T g first.0.closed other.2)
  covering_fault_one (Pair n f) (Rule t g) first other = absurd (rule_not_right t g other.1 first.1)
  covering_fault_one (Pair n f) (Pair m g) first other = pair_fault_one n m f g first.2 other.2

  -- where the conditions hold

  rule_stays : SmallFor limits T R → (n : ℕ) (r : RewriteRule) (right : Bool) → Contains T.covered n → slice_get T.rules n ≡ Some r
      → StaysWithin limits (rule_run R r right)
  rule_stays small n r right found at = stays limits small
    where
      stays : (some : Limits) → SmallFor some T R → StaysWithin some (rule_run R r right)
      stays with_limits is = is.of_rules n r right found at
      stays without_limits is = tt

  pair_stays : SmallFor limits T R → (n : ℕ) (p : PairData) (right : Bool) → Contains T.set n → slice_get T.pairs n ≡ Some p
      → StaysWithin limits (pair_run T.symbols T.rules R p right)
  pair_stays small n p right found at = stays limits small
    where
      stays : (some : Limits) → SmallFor some T R → StaysWithin some (pair_run T.symbols T.rules R p right)
      stays with_limits is = is.of_pairs n p right found at
      stays without_limits is = tt

  module _ (is : IsCovering T R E) (closed : IsClosed T) (small : SmallFor limits T R) where
    right_rule : (k : ℕ) → IsRightRule (right_lines limits T.symbols T.rules R) T E.of_rules k
    right_rule k n r ms at there here = (
      rule_stays small n r false (contains_at T.covered k n at) there,
      rule_stays small n r true (contains_at T.covered k n at) there,
      is.lines.rules k n r ms at there here,
    )

    right_pair : (k : ℕ) → IsRightPair (right_lines limits T.symbols T.rules R) T E.of_pairs E.drop k
    right_pair k n p ms strict at there here dropped = (
      pair_stays small n p false (contains_at T.set k n at) there,
      pair_stays small n p true (contains_at T.set k n at) there,
      is.lines.pairs k n p ms strict at there here dropped,
    )

    pub covering_or_fault : (f : CoveringFault) → First f → ⊥
    covering_or_fault (BadPolynomial f false) first = normal_or_not f first is.normal.symbols
    covering_or_fault (BadPolynomial f true) first = marks_normal_or_not f first.1 is.normal.marks
    covering_or_fault BadLines first = counted_not_bad (counted_of (by_moves T.symbols T.rules R) T E is.lines) first.1
    covering_or_fault BadDrop first = (counted_of (by_moves T.symbols T.rules R) T E is.lines).good_drop first.2
    covering_or_fault (NotClosed f) first = closed_not_open T f closed first.2
    covering_or_fault (Rule r f) first = rule_not_right r f first.1 right_rule
    covering_or_fault (Pair n f) first = pair_not_right n f first.2 right_pair

-- a false condition that is found before a value exceeds a limit
module _ (T : TaskData) (R : ReadingsData) (E : Evidence (List Transfer)) where
  rule_unlimited : (k : ℕ) → IsRightRule (right_lines with_limits T.symbols T.rules R) T E.of_rules k
      → IsRightRule (right_lines without_limits T.symbols T.rules R) T E.of_rules k
  rule_unlimited k right n r ms at there here = (tt, tt, (right n r ms at there here).2)

  pair_unlimited : (k : ℕ) → IsRightPair (right_lines with_limits T.symbols T.rules R) T E.of_pairs E.drop k
      → IsRightPair (right_lines without_limits T.symbols T.rules R) T E.of_pairs E.drop k
  pair_unlimited k right n p ms strict at there here dropped = (tt, tt, (right n p ms strict at there here dropped).2)

  pub fault_unlimited : (k : ℕ) (f : CoveringFault) → IsRejection (at_covering k f) → IsFirstCoveringFault with_limits T R E f
      → IsFirstCoveringFault without_limits T R E f
  fault_unlimited k (BadPolynomial f false) is first = first
  fault_unlimited k (BadPolynomial f true) is first = first
  fault_unlimited k BadLines is first = first
  fault_unlimited k BadDrop is first = first
  fault_unlimited k (NotClosed f) is first = first
  fault_unlimited k (Rule n (line.Cover f)) is (ready, (i, before, (r, ms, at, there, here, first))) =
      (ready, (i, (λ j less. rule_unlimited j (before j less)), (r, ms, at, there, here, (tt, tt, first.2))))
  fault_unlimited k (Rule r (line.Exceeds e)) is first = absurd (excess_not_rejected k e is)
  fault_unlimited k (Pair n (line.Cover f)) is (ready, right, (i, before, (p, ms, strict, at, there, here, dropped, first))) = (
    ready,
    (λ j. rule_unlimited j (right j)),
    (i, (λ j less. pair_unlimited j (before j less)), (p, ms, strict, at, there, here, dropped, (tt, tt, first.2))),
  )
  fault_unlimited k (Pair n (line.Exceeds e)) is first = absurd (excess_not_rejected k e is)
