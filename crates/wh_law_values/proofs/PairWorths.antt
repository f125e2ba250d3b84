-- What bounds marked calls, where an interpretation covers only listed rules: steps in arguments keep it, and covered
-- pairs lead to calls with bounds that are no greater. These lemmas stand in wh_usable_calls too, for calls that end.
use Rattle.std.proofs.Common.{◌≡◌, ℕ, ◌+◌, ◌≤◌, ◌<◌, ◌⊎◌, inl, inr, List, [], ◌++◌, map, true, false, refl, sym, subst, subst₂, arith}
use Rattle.std.specs.List.{AllByRecursion}
use Rattle.wh_types.specs.Ty.{Ty, sort}
use Rattle.wh_terms.specs.Tree.{Tm, tms_of}
use Rattle.wh_terms.specs.Sight.{OccursIn}
use Rattle.wh_terms.specs.Typing.{Symbols, AllTyped}
use Rattle.wh_terms.specs.Value.{Body}
use Rattle.wh_terms.specs.Rules.{AreWellMade}
use Rattle.wh_terms.proofs.ValueLaws.{values_are}
use Rattle.wh_terms.proofs.ValueTyping.{all_typed-values}
use Rattle.wh_step.specs.Step.{Step}
use Rattle.wh_step_laws.specs.Ends.{Ends}
use Rattle.wh_pairs.specs.PairData.{PairData}
use Rattle.wh_pairs.specs.Sets.{InSet}
use Rattle.wh_proof_calls.specs.MarkedCalls.{MarkedCall, PairLeads, ArgumentsStep}
use Rattle.wh_reduction_pairs.specs.TaskData.{TaskData}
use Rattle.wh_reduction_pairs.specs.ReductionPair.{Evidence}
use Rattle.wh_poly.specs.Polynomials.{Polynomial, Normal}
use Rattle.wh_hopoly.specs.Evaluation.{Interpretation, interpretation_at, NormalInterpretations}
use Rattle.wh_hopoly.specs.Moves.{Transfer}
use Rattle.wh_polycheck.specs.Sides.{arrows, types_of_metas, call_polynomial, Interprets}
use Rattle.wh_polycheck.specs.Marks.{marked_types, marked_interpretation, with_marks, mark_number, HasMarkedSides}
use Rattle.wh_polycheck.specs.Readings.{ReadingsData, AreProper}
use Rattle.wh_polycheck.specs.Covering.{by_moves, IsCovering, HaveTypedSides}
use Rattle.wh_polycheck.proofs.MoreInterpretations.{interprets_more, mark_interpreted, normal_with_marks}
use Rattle.wh_polycheck.proofs.ProperReadings.{proper_readings, sides_of_set}
use Rattle.wh_usable.specs.Closed.{AreClosedRules, AreClosedPairs}
use Rattle.wh_poly_meaning.specs.Functionals.{Sem, Mono, nothing}
use Rattle.wh_poly_meaning.specs.Meaning.{den}
use Rattle.wh_poly_meaning.specs.TermValues.{of_interpretations}
use Rattle.wh_poly_meaning.specs.Calls.{all_nothing, IsMarkedSide}
use Rattle.wh_poly_meaning.proofs.Order.{mono_nothing, reading_mono}
use Rattle.wh_poly_meaning.proofs.Covers.{cover_den, strict_cover_den}
use Rattle.wh_poly_meaning.proofs.CallValues.{call_normal}
use Rattle.wh_usable_calls.specs.Bounds.{BoundsFed}
use Rattle.wh_usable_calls.proofs.BoundLaws.{bounds_more}
use Rattle.wh_usable_calls.proofs.Numbers.{numbered, numbered_mono, by_numbers_of, fed_numbers}
use Rattle.wh_usable_calls.proofs.SideBounds.{HasNumbers}
use Rattle.wh_usable_calls.proofs.CallBounds.{ending_fed, step_fed, list_numbers, list_lowers, list_fed}
use Rattle.wh_usable_calls.proofs.ListedCovers.{marked_worth}
use Rattle.wh_usable_calls.proofs.UsableCovers.{covered_step}
use Rattle.wh_poly_meaning.proofs.PairsEnd.{occurs_right}

module _ (T : TaskData) (R : ReadingsData) (E : Evidence (List Transfer)) (is : IsCovering T R E)
    (made : AreWellMade T.symbols T.rules) where
  abbrev pub S : Symbols
  S = T.symbols

  -- the interpretations of the symbols, and those of the marked symbols behind them
  abbrev pub all : List Interpretation
  all = with_marks S T.rules R.symbols R.marks

  proper : AreProper S T.rules R
  proper = proper_readings T R is.readings is.normal

  interprets : Interprets S all
  interprets = interprets_more R.symbols (map (marked_interpretation S T.rules) R.marks) S proper.interpreted

  normal : NormalInterpretations all
  normal = normal_with_marks S T.rules R.symbols R.marks proper.normal.symbols proper.normal.marks

  -- the types of the arguments of a marked symbol, and what it is read as
  abbrev pub types_of : ℕ → List Ty
  types_of f = marked_types S T.rules f

  abbrev pub number_of : ℕ → ℕ
  number_of f = mark_number R.symbols R.marks f

  abbrev pub read_as : (f : ℕ) → Sem (arrows (types_of f) (sort 0))
  read_as f = of_interpretations all (number_of f) (arrows (types_of f) (sort 0))

  abbrev pub IsFed : (cs : List Ty) → Sem (arrows cs (sort 0)) → List Tm → ℕ → Type 0
  IsFed = BoundsFed S T.rules T.covered all

  -- a number bounds what the call is worth
  abbrev pub measures : MarkedCall → ℕ → Type 0
  measures c n = IsFed (types_of c.symbol) (read_as c.symbol) c.arguments n

  pub read_mono : (f : ℕ) → Mono (arrows (types_of f) (sort 0)) (read_as f)
  read_mono f =
      reading_mono (arrows (types_of f) (sort 0)) [] (λ x B. nothing B) (interpretation_at all (number_of f)).polynomial
      (λ x B. mono_nothing B)

  -- a step in an argument keeps what bounds a call
  pub step_kept : AreClosedRules T → (c d : MarkedCall) (n : ℕ) → measures c n → ArgumentsStep (Step T.rules) c d → measures d n
  step_kept closed c d n fed step =
      subst (λ f. IsFed (types_of f) (read_as f) d.arguments n) (sym step.symbol)
      (step_fed S T.rules T.covered all (covered_step T R E is made closed) (types_of c.symbol) (read_as c.symbol) c.arguments d.arguments n fed
      step.arguments)

  module _ (typed : HaveTypedSides T.symbols T.rules T.pairs) (closed : AreClosedPairs T) (p : PairData)
      (inside : InSet T.pairs T.set p) where
    sides : HasMarkedSides S T.rules R.marks p
    sides = sides_of_set T.pairs T.set R.marks is.readings.marked S T.rules typed p inside

    left_side : IsMarkedSide S all p.metas (number_of p.left_fun) (types_of p.left_fun) 0 (tms_of p.left)
    left_side = record {
      interpreted = mark_interpreted S T.rules R.symbols R.marks p.left_fun sides.left_marked;
      typed = sides.left_typed;
      closed = sides.left_closed;
    }

    right_side : IsMarkedSide S all p.metas (number_of p.right_fun) (types_of p.right_fun) 0 (tms_of p.right)
    right_side = record {
      interpreted = mark_interpreted S T.rules R.symbols R.marks p.right_fun sides.right_marked;
      typed = sides.right_typed;
      closed = sides.right_closed;
    }

    -- what the sides are worth at numbers for the meta-variables
    abbrev pub left_worth : (ℕ → ℕ) → ℕ
    left_worth μ = fed_numbers S p.metas all μ (types_of p.left_fun) (read_as p.left_fun) p.left

    abbrev pub right_worth : (ℕ → ℕ) → ℕ
    right_worth μ = fed_numbers S p.metas all μ (types_of p.right_fun) (read_as p.right_fun) p.right

    abbrev left_polynomial : Polynomial
    left_polynomial = call_polynomial all p.metas (number_of p.left_fun) (tms_of p.left)

    abbrev right_polynomial : Polynomial
    right_polynomial = call_polynomial all p.metas (number_of p.right_fun) (tms_of p.right)

    abbrev scope : List Ty
    scope = types_of_metas p.metas ++ []

    left_den : (μ : ℕ → ℕ) → left_worth μ ≡ den scope (numbered μ) left_polynomial
    left_den μ =
        marked_worth S all interprets normal (by_numbers_of all μ) (λ f A. refl) p.metas (number_of p.left_fun) (types_of p.left_fun)
        (tms_of p.left) left_side all_nothing

    right_den : (μ : ℕ → ℕ) → right_worth μ ≡ den scope (numbered μ) right_polynomial
    right_den μ =
        marked_worth S all interprets normal (by_numbers_of all μ) (λ f A. refl) p.metas (number_of p.right_fun) (types_of p.right_fun)
        (tms_of p.right) right_side all_nothing

    left_normal : Normal scope left_polynomial
    left_normal = call_normal S all interprets normal p.metas (number_of p.left_fun) (types_of p.left_fun) 0 (tms_of p.left) left_side

    right_normal : Normal scope right_polynomial
    right_normal = call_normal S all interprets normal p.metas (number_of p.right_fun) (types_of p.right_fun) 0 (tms_of p.right) right_side

    -- a covered pair, and a strictly covered one
    pub covered_worth : (ms : List Transfer) → (by_moves S T.rules R).pair p false ms → (μ : ℕ → ℕ) → right_worth μ ≤ left_worth μ
    covered_worth ms c μ = subst₂ (λ m n. m ≤ n) (sym (right_den μ)) (sym (left_den μ))
        (cover_den scope (numbered μ) (numbered_mono μ) left_polynomial right_polynomial left_normal right_normal ms c)

    pub strictly_covered_worth : (ms : List Transfer) → (by_moves S T.rules R).pair p true ms → (μ : ℕ → ℕ) → right_worth μ < left_worth μ
    strictly_covered_worth ms c μ = subst₂ (λ m n. m < n) (sym (right_den μ)) (sym (left_den μ))
        (strict_cover_den scope (numbered μ) (numbered_mono μ) left_polynomial right_polynomial left_normal right_normal ms c)

    right_arguments : (c d : MarkedCall) → PairLeads S p c d → AllTyped S [] [] (tms_of d.arguments) (types_of p.right_fun)
    right_arguments c d s = subst (λ us. AllTyped S [] [] us (types_of p.right_fun)) (sym (values_are s.right).1)
        (all_typed-values s.bodies sides.right_typed (λ z q o e. s.typed_bodies z q (occurs_right z p.left p.right o) e))

    -- the meta-variable stands on one of the two sides
    abbrev Stands : ℕ → Type 0
    Stands z = OccursIn z (tms_of p.left) ⊎ OccursIn z (tms_of p.right)

    both_numbers : (g : ℕ → Body) → HasNumbers S T.rules T.covered all p.metas g (λ z. OccursIn z (tms_of p.left))
        → HasNumbers S T.rules T.covered all p.metas g (λ z. OccursIn z (tms_of p.right))
        → HasNumbers S T.rules T.covered all p.metas g Stands
    both_numbers g (ν, left) (χ, right) = (
      λ z. ν z + χ z,
      λ z o. elim o [
        | inl i ↦ bounds_more S T.rules T.covered all (ν z + χ z) (omega arith) (left z i)
        | inr i ↦ bounds_more S T.rules T.covered all (ν z + χ z) (omega arith) (right z i)
      ],
    )

    -- numbers at which the left side is worth no more than a bound of the one call, and the right side bounds the other
    pub lowered : (c d : MarkedCall) (n : ℕ) → PairLeads S p c d → AllByRecursion (Ends (Step T.rules)) d.arguments → measures c n
        → (μ : ℕ → ℕ) × (left_worth μ ≤ n) × measures d (right_worth μ)
    lowered c d n s minimal fed =
        let pair = closed p inside in
        let fed_left = subst (λ f. IsFed (types_of f) (read_as f) c.arguments n) s.left_symbol fed in
        let (m, fed_right) = ending_fed S T.rules T.covered all made (types_of p.right_fun) (read_as p.right_fun) d.arguments
        pair.right_head (right_arguments c d s) minimal in
        let left = list_numbers S T.rules T.covered all p.metas s.bodies (types_of p.left_fun) (read_as p.left_fun) p.left c.arguments n
        pair.left sides.left_typed s.left fed_left in
        let right = list_numbers S T.rules T.covered all p.metas s.bodies (types_of p.right_fun) (read_as p.right_fun) p.right d.arguments m
        pair.right sides.right_typed s.right fed_right in
        let (ν, bodies) = both_numbers s.bodies left right in
        let (μ, below, fits, under) = list_lowers S T.rules T.covered all p.metas s.bodies Stands ν (types_of p.left_fun)
        (read_as p.left_fun) p.left c.arguments n bodies (read_mono p.left_fun) pair.left sides.left_typed s.left fed_left in (
          μ,
          under,
          subst (λ f. IsFed (types_of f) (read_as f) d.arguments (right_worth μ)) (sym s.right_symbol)
              (list_fed S T.rules T.covered all p.metas s.bodies μ (types_of p.right_fun) (read_as p.right_fun) p.right d.arguments
              pair.right_head pair.right sides.right_typed pair.calls (λ z o. fits z (inr o)) s.right),
        )
