-- The conditions of a node of interpretations on a set of pairs hold, or there is a first thing wrong with them: where numbers may be as
-- large as they like, and where values that exceed a limit are wrong.
use Rattle.std.proofs.Common.{◌⊎◌, ℕ, inl, inr, Bool, true, false, List, refl}
use Rattle.wh_types.specs.Limits.{coefficient_end, greatest_weight, deepest_value}
use Rattle.wh_types.specs.Ty.{arguments}
use Rattle.wh_terms.specs.Rules.{RewriteRule}
use Rattle.wh_system.proofs.TypedDecided.{Decided, below_decided}
use Rattle.wh_pairs.specs.PairData.{PairData}
use Rattle.wh_pairs.specs.Drops.{IsBadDrop}
use Rattle.wh_pairs.proofs.ByPlace.{contains_at}
use Rattle.wh_pairs.proofs.Searches.{not_decided, either_decided, not_refuted, at_most_decided, first_place}
use Rattle.wh_reduction_pairs.specs.TaskData.{TaskData}
use Rattle.wh_reduction_pairs.specs.ReductionPair.{Evidence}
use Rattle.wh_reduction_pairs.specs.FirstFault.{AreBadLines, AreCounted}
use Rattle.wh_reduction_pairs.proofs.Lines.{rules_or_first, pairs_or_first, counted_or_not}
use Rattle.wh_poly.specs.Polynomials.{Polynomial, zero_poly, plus, Normal}
use Rattle.wh_hopoly.specs.Evaluation.{Run, Interpretation, NormalInterpretations}
use Rattle.wh_poly.specs.Limits.{weight, nesting, Overflows, Exceeds}
use Rattle.wh_poly.specs.Excesses.{ExceedsAs}
use Rattle.wh_hopoly.specs.Moves.{Transfer}
use Rattle.wh_poly.specs.declared.excess.Excess.{Excess}
use Rattle.wh_poly.specs.declared.excess.Excess.TheVariants as excess
use Rattle.wh_polycheck.specs.Marks.{Mark, marked_types, AreNormalMarks}
use Rattle.wh_polycheck.specs.Readings.{ReadingsData, AreNormal, AreReadingsFor}
use Rattle.wh_polycheck.specs.Covering.{rule_run, pair_run, CoversSides, IsCovering}
use Rattle.wh_polycheck.specs.Small.{Limits, without_limits, with_limits, StaysWithin, IsSmall}
use Rattle.wh_polycheck.specs.declared.fault.CoverFault.{CoverFault}
use Rattle.wh_poly_covering.specs.CoveringFaults.{RunExceeds, IsFirstFaultOfMoves, IsFirstLineFault, IsRightLine, IsFirstNotNormal, IsFirstNotNormalMark, IsReady, IsFirstCoveringFault, right_lines, wrong_lines}
use Rattle.wh_usable.specs.Closed.{IsClosed}
use Rattle.wh_usable.proofs.Decisions.{closed_or_open}
use Rattle.wh_poly_covering.specs.declared.fault.CoveringFault.{CoveringFault}
use Rattle.wh_poly_covering.specs.declared.fault.CoveringFault.TheVariants.{BadPolynomial, BadLines, BadDrop, NotClosed, Rule, Pair}
use Rattle.wh_poly_covering.specs.declared.fault.LineFault.{LineFault}
use Rattle.wh_poly_covering.specs.declared.fault.LineFault.TheVariants as line
use Rattle.wh_poly_covering.proofs.CoverWalk.{RightRules, RightPairs, covering_holds, small_holds}
use Rattle.wh_poly_covering.proofs.Polynomials.{normal_decided, cover_or_fault, strict_cover_or_fault}

-- whether a value exceeds a limit

overflow_decided : (p : Polynomial) → Decided (Overflows p)
overflow_decided zero_poly = inr (λ over. over)
overflow_decided (plus c us p) = either_decided (at_most_decided coefficient_end c) (overflow_decided p)

exceeds_decided : (p : Polynomial) → Decided (Exceeds p)
exceeds_decided p =
    either_decided (overflow_decided p) (either_decided (below_decided greatest_weight (weight p)) (below_decided deepest_value (nesting p)))

excess_of : (p : Polynomial) → Exceeds p → (e : Excess) × ExceedsAs e p
excess_of p (inl over) = (excess.Overflow, over)
excess_of p (inr large) = (excess.TooLarge, large)

run_within_or_not : (run : Run Polynomial) → StaysWithin with_limits run ⊎ ((e : Excess) × RunExceeds run e)
run_within_or_not run = elim (first_place Exceeds exceeds_decided run.values) [
  | inl (i, p, at, exceeds, before) ↦ let (e, over) = excess_of p exceeds in inr (e, (p, contains_at run.values i p at, over))
  | inr none ↦ inl none
]

-- lines

abbrev LineOrFault : Limits → Run Polynomial → Run Polynomial → Bool → List Transfer → Type 0
LineOrFault limits left right strict ms =
    IsRightLine limits left right strict ms ⊎ ((f : LineFault) × IsFirstLineFault limits left right strict ms f)

moves_or_fault : (left right : Run Polynomial) (strict : Bool) (ms : List Transfer) → CoversSides left right strict ms
    ⊎ ((f : CoverFault) × IsFirstFaultOfMoves strict left.result right.result ms f)
moves_or_fault left right false ms = cover_or_fault left.result right.result ms
moves_or_fault left right true ms = strict_cover_or_fault left.result right.result ms

line_or_fault : (limits : Limits) (left right : Run Polynomial) (strict : Bool) (ms : List Transfer) → LineOrFault limits left right strict ms
line_or_fault without_limits left right strict ms = elim (moves_or_fault left right strict ms) [
  | inl is ↦ inl (tt, tt, is)
  | inr (f, first) ↦ inr (line.Cover f, (tt, tt, first))
]
line_or_fault with_limits left right strict ms = elim (run_within_or_not left) [
  | inr (e, exceeds) ↦ inr (line.Exceeds e, inl exceeds)
  | inl within ↦ elim (run_within_or_not right) [
    | inr (e, exceeds) ↦ inr (line.Exceeds e, inr (within, exceeds))
    | inl also ↦ elim (moves_or_fault left right strict ms) [
      | inl covers ↦ inl (within, also, covers)
      | inr (f, first) ↦ inr (line.Cover f, (within, also, first))
    ]
  ]
]

module _ (limits : Limits) (T : TaskData) (R : ReadingsData) (E : Evidence (List Transfer)) where
  -- polynomials

  first_not_normal : NormalInterpretations R.symbols ⊎ ((f : ℕ) × IsFirstNotNormal R.symbols f)
  first_not_normal =
      elim (first_place (λ (s : Interpretation). Normal (arguments s.kind) s.polynomial → ⊥)
      (λ (s : Interpretation). not_decided (normal_decided (arguments s.kind) s.polynomial)) R.symbols) [
        | inl (f, s, at, not, before) ↦
            inr (f, (s, at, not, λ g u less also. not_refuted (normal_decided (arguments u.kind) u.polynomial) (before g u less also)))
        | inr none ↦ inl (λ f s at. not_refuted (normal_decided (arguments s.kind) s.polynomial) (none s (contains_at R.symbols f s at)))
      ]

  first_not_normal_mark : AreNormalMarks T.symbols T.rules R.marks ⊎ ((f : ℕ) × IsFirstNotNormalMark T.symbols T.rules R.marks f)
  first_not_normal_mark =
      elim (first_place (λ (m : Mark). Normal (marked_types T.symbols T.rules m.symbol) m.polynomial → ⊥)
      (λ (m : Mark). not_decided (normal_decided (marked_types T.symbols T.rules m.symbol) m.polynomial)) R.marks) [
        | inl (i, m, at, not, before) ↦
            inr (
              m.symbol,
              (
                i,
                m,
                at,
                refl,
                not,
                λ j u less also. not_refuted (normal_decided (marked_types T.symbols T.rules u.symbol) u.polynomial)
                    (before j u less also),
              ),
            )
        | inr none ↦ inl (λ m found. not_refuted (normal_decided (marked_types T.symbols T.rules m.symbol) m.polynomial) (none m found))
      ]

  -- all together, from the last condition to the first

  abbrev pub RightOrFault : Type 0
  RightOrFault =
      (IsReady T R E × RightRules T R E limits × RightPairs T R E limits) ⊎ ((f : CoveringFault) × IsFirstCoveringFault limits T R E f)

  rule_decided : (r : RewriteRule) (ms : List Transfer) → LineOrFault limits (rule_run R r false) (rule_run R r true) false ms
  rule_decided r ms = line_or_fault limits (rule_run R r false) (rule_run R r true) false ms

  pair_decided : (p : PairData) (strict : Bool) (ms : List Transfer)
      → LineOrFault limits (pair_run T.symbols T.rules R p false) (pair_run T.symbols T.rules R p true) strict ms
  pair_decided p strict ms = line_or_fault limits (pair_run T.symbols T.rules R p false) (pair_run T.symbols T.rules R p true) strict ms

  lines_or_fault : IsReady T R E → RightOrFault
  lines_or_fault ready =
      elim (rules_or_first (right_lines limits T.symbols T.rules R) (wrong_lines limits T.symbols T.rules R) T rule_decided pair_decided
      E.of_rules) [
        | inr (n, f, first) ↦ inr (Rule n f, (ready, first))
        | inl rules ↦
            elim (pairs_or_first (right_lines limits T.symbols T.rules R) (wrong_lines limits T.symbols T.rules R) T rule_decided
            pair_decided E.of_pairs E.drop) [
              | inr (n, f, first) ↦ inr (Pair n f, (ready, rules, first))
              | inl pairs ↦ inl (ready, rules, pairs)
            ]
      ]

  counted_or_fault : AreNormal T.symbols T.rules R → AreCounted T E ⊎ (AreBadLines T E ⊎ ((AreBadLines T E → ⊥) × IsBadDrop T.set E.drop))
      → RightOrFault
  counted_or_fault normal (inl counted) = elim (closed_or_open T) [
    | inl closed ↦ lines_or_fault (record { normal = normal; counted = counted; closed = closed })
    | inr (f, first) ↦ inr (NotClosed f, (normal, counted, first))
  ]
  counted_or_fault normal (inr (inl bad)) = inr (BadLines, (normal, bad))
  counted_or_fault normal (inr (inr (lines, bad))) = inr (BadDrop, (normal, lines, bad))

  marks_or_fault : NormalInterpretations R.symbols
      → AreNormalMarks T.symbols T.rules R.marks ⊎ ((f : ℕ) × IsFirstNotNormalMark T.symbols T.rules R.marks f) → RightOrFault
  marks_or_fault normal (inr (f, first)) = inr (BadPolynomial f true, (normal, first))
  marks_or_fault normal (inl marks) = counted_or_fault (record { symbols = normal; marks = marks }) (counted_or_not T E)

  symbols_or_fault : NormalInterpretations R.symbols ⊎ ((f : ℕ) × IsFirstNotNormal R.symbols f) → RightOrFault
  symbols_or_fault (inr (f, first)) = inr (BadPolynomial f false, first)
  symbols_or_fault (inl normal) = marks_or_fault normal first_not_normal_mark

  pub right_or_fault : RightOrFault
  right_or_fault = symbols_or_fault first_not_normal

pub covering_or_fault : (T : TaskData) (R : ReadingsData) (E : Evidence (List Transfer)) → AreReadingsFor T R
    → (IsCovering T R E × IsClosed T) ⊎ ((f : CoveringFault) × IsFirstCoveringFault without_limits T R E f)
covering_or_fault T R E readings = elim (right_or_fault without_limits T R E) [
  | inl (ready, rules, pairs) ↦ inl (covering_holds T R E without_limits ready rules pairs readings, ready.closed)
  | inr fault ↦ inr fault
]

pub small_or_fault : (T : TaskData) (R : ReadingsData) (E : Evidence (List Transfer)) → AreReadingsFor T R
    → (IsCovering T R E × IsClosed T × IsSmall T R) ⊎ ((f : CoveringFault) × IsFirstCoveringFault with_limits T R E f)
small_or_fault T R E readings = elim (right_or_fault with_limits T R E) [
  | inl (ready, rules, pairs) ↦
      inl (covering_holds T R E with_limits ready rules pairs readings, ready.closed, small_holds T R E ready rules pairs)
  | inr fault ↦ inr fault
]
