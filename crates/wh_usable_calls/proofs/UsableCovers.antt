-- What the conditions of a node of interpretations say of a set of pairs, whatever rules it is to cover: its calls end
-- where those by the pairs that are kept do.
use Rattle.std.proofs.Common.{◌≡◌, ℕ, ◌+◌, ◌≤◌, ◌<◌, ◌⊎◌, inl, inr, List, [], ◌++◌, map, take, unwrap_or, Bool, true, false, Some, slice_get, Contains, refl, ap₂, sym, subst, subst₂, arith, le_trans, lt_of_lt_of_le}
use Rattle.wh_types.specs.Ty.{Ty, sort, arguments}
use Rattle.wh_terms.specs.Tree.{Tm, tms_of}
use Rattle.wh_terms.specs.Sight.{OccursIn}
use Rattle.wh_terms.specs.Typing.{Symbols, AllTyped}
use Rattle.wh_terms.specs.Value.{Body}
use Rattle.wh_terms.specs.Rules.{RewriteRule, AreWellMade}
use Rattle.wh_terms.proofs.ValueLaws.{values_are}
use Rattle.wh_terms.proofs.ValueTyping.{all_typed-values}
use Rattle.wh_step.specs.Step.{Step}
use Rattle.wh_pairs.specs.PairData.{PairData}
use Rattle.wh_pairs.specs.Drops.{IsDropped}
use Rattle.wh_pairs.specs.Sets.{IsSetOf, IsKept, InSet}
use Rattle.wh_proof_calls.specs.MarkedCalls.{MarkedCall, IsTypedCall, PairLeads, PairStep, SomePairStep, ArgumentsStep, CallsEnd}
use Rattle.wh_proof_calls.specs.CallOrders.{by_numbers, HasNoMore, HasLess}
use Rattle.wh_proof_calls.proofs.Measured.{ends_measured}
use Rattle.wh_reduction_pairs.specs.TaskData.{TaskData}
use Rattle.wh_reduction_pairs.specs.ReductionPair.{Evidence}
use Rattle.wh_reduction_pairs.proofs.LinesShow.{pair_shown}
use Rattle.wh_poly.specs.Polynomials.{Polynomial, Normal}
use Rattle.wh_hopoly.specs.Evaluation.{Interpretation, interpretation_at, NormalInterpretations}
use Rattle.wh_hopoly.specs.Moves.{Transfer}
use Rattle.wh_polycheck.specs.Sides.{arrows, types_of_metas, call_polynomial, Interprets}
use Rattle.wh_polycheck.specs.Marks.{marked_types, marked_interpretation, with_marks, mark_number, HasMarkedSides}
use Rattle.wh_polycheck.specs.Readings.{ReadingsData, AreProper}
use Rattle.wh_polycheck.specs.Covering.{by_moves, IsCovering, HaveTypedSides}
use Rattle.wh_polycheck.proofs.MoreInterpretations.{interprets_more, mark_interpreted, normal_with_marks}
use Rattle.wh_polycheck.proofs.ProperReadings.{proper_readings, sides_of_set}
use Rattle.wh_usable_first_order.specs.FirstOrder.{AreSorts}
use Rattle.wh_usable.specs.Closed.{AreClosedRules, AreClosedPairs, IsClosed, IsUsable}
use Rattle.wh_poly_meaning.specs.Functionals.{Sem, Mono, nothing}
use Rattle.wh_poly_meaning.specs.Meaning.{den}
use Rattle.wh_poly_meaning.specs.TermValues.{of_interpretations}
use Rattle.wh_poly_meaning.specs.Calls.{all_nothing, IsMarkedSide}
use Rattle.wh_poly_meaning.proofs.Order.{le_nat, mono_nothing, reading_mono}
use Rattle.wh_poly_meaning.proofs.TermValues.{at_is}
use Rattle.wh_poly_meaning.proofs.Covers.{cover_den, strict_cover_den}
use Rattle.wh_poly_meaning.proofs.CallValues.{call_normal}
use Rattle.wh_poly_meaning.proofs.CoverLaws.{covering_ends}
use Rattle.wh_poly_meaning.proofs.Measures.{numbers_end, numbers_together}
use Rattle.wh_usable_calls.specs.Bounds.{Bounds, BoundsFed}
use Rattle.wh_usable_calls.proofs.BoundLaws.{bounds_more}
use Rattle.wh_usable_calls.proofs.Numbers.{numbered, numbered_mono, by_numbers_of, fed_numbers}
use Rattle.wh_usable_calls.proofs.SideBounds.{HasNumbers}
use Rattle.wh_usable_calls.proofs.StepBounds.{step_bound}
use Rattle.wh_usable_calls.proofs.CallBounds.{ending_fed, step_fed, list_numbers, list_lowers, list_fed}
use Rattle.wh_usable_calls.proofs.ListedCovers.{listed_covered, marked_worth}
use Rattle.wh_poly_meaning.proofs.PairsEnd.{occurs_right}

-- the types of the arguments of a typed call
typed_at_marked : (S : Symbols) (rules : List RewriteRule) (c : MarkedCall) → IsTypedCall S rules c
    → AllTyped S [] [] (tms_of c.arguments) (marked_types S rules c.symbol)
typed_at_marked S rules c t = subst (AllTyped S [] [] (tms_of c.arguments))
    (ap₂ (λ n a. take (unwrap_or n 0) (arguments a)) (sym t.needed) (sym (at_is S.funs c.symbol t.kind t.known))) t.typed

-- a meta-variable of one of two lists stands in their sum
module _ (T : TaskData) (R : ReadingsData) (E : Evidence (List Transfer)) (is : IsCovering T R E)
    (made : AreWellMade T.symbols T.rules) where
  abbrev S : Symbols
  S = T.symbols

  -- the interpretations of the symbols, and those of the marked symbols behind them
  abbrev all : List Interpretation
  all = with_marks S T.rules R.symbols R.marks

  proper : AreProper S T.rules R
  proper = proper_readings T R is.readings is.normal

  interprets : Interprets S all
  interprets = interprets_more R.symbols (map (marked_interpretation S T.rules) R.marks) S proper.interpreted

  normal : NormalInterpretations all
  normal = normal_with_marks S T.rules R.symbols R.marks proper.normal.symbols proper.normal.marks

  -- steps keep bounds
  pub covered_step : AreClosedRules T → (t u : Tm) (n : ℕ) → Bounds S T.rules T.covered all t n → Step T.rules t u
      → Bounds S T.rules T.covered all u n
  covered_step closed t u n b step =
      step_bound S T.rules T.covered all made interprets normal (λ r (k, there, at). closed k r there at)
      (listed_covered T R E is made proper.interpreted) b step

  -- the types of the arguments of a marked symbol, and what it is read as
  abbrev types_of : ℕ → List Ty
  types_of f = marked_types S T.rules f

  abbrev number_of : ℕ → ℕ
  number_of f = mark_number R.symbols R.marks f

  abbrev read_as : (f : ℕ) → Sem (arrows (types_of f) (sort 0))
  read_as f = of_interpretations all (number_of f) (arrows (types_of f) (sort 0))

  abbrev IsFed : (cs : List Ty) → Sem (arrows cs (sort 0)) → List Tm → ℕ → Type 0
  IsFed = BoundsFed S T.rules T.covered all

  -- a number measures a call if it bounds what the call is worth
  abbrev measures : MarkedCall → ℕ → Type 0
  measures c n = IsFed (types_of c.symbol) (read_as c.symbol) c.arguments n

  read_mono : (f : ℕ) → Mono (arrows (types_of f) (sort 0)) (read_as f)
  read_mono f =
      reading_mono (arrows (types_of f) (sort 0)) [] (λ x B. nothing B) (interpretation_at all (number_of f)).polynomial
      (λ x B. mono_nothing B)

  -- a step in an argument
  measured_step : AreClosedRules T → (c d : MarkedCall) (n : ℕ) → measures c n → ArgumentsStep (Step T.rules) c d
      → HasNoMore by_numbers measures n d
  measured_step closed c d n fed step = (
    n,
    subst (λ f. IsFed (types_of f) (read_as f) d.arguments n) (sym step.symbol)
        (step_fed S T.rules T.covered all (covered_step closed)
        (types_of c.symbol) (read_as c.symbol) c.arguments d.arguments n fed step.arguments),
    le_nat n,
  )

  -- the arguments of a call that a pair leads to end, so that they have bounds
  measured_call : AreClosedPairs T → (c d : MarkedCall) → IsTypedCall S T.rules d → SomePairStep S (Step T.rules) (InSet T.pairs T.set) c d
      → (n : ℕ) × measures d n
  measured_call closed c d t (p, inside, by) =
      ending_fed S T.rules T.covered all made (types_of d.symbol) (read_as d.symbol) d.arguments
      (subst (λ f. AreSorts (types_of f)) (sym by.leads.right_symbol) (closed p inside).right_head)
      (typed_at_marked S T.rules d t) by.minimal

  module _ (typed : HaveTypedSides T.symbols T.rules T.pairs) (closed : AreClosedPairs T) (p : PairData)
      (inside : InSet T.pairs T.set p) where
    sides : HasMarkedSides S T.rules R.marks p
    sides = sides_of_set T.pairs T.set R.marks is.readings.marked S T.rules typed p inside

    left_side : IsMarkedSide S all p.metas (number_of p.left_fun) (types_of p.left_fun) 0 (tms_of p.left)
    left_side = record {
      interpreted = mark_interpreted S T.rules R.symbols R.marks p.left_fun sides.left_marked;
      typed = sides.left_typed;
      closed = sides.left_closed;
    }

    right_side : IsMarkedSide S all p.metas (number_of p.right_fun) (types_of p.right_fun) 0 (tms_of p.right)
    right_side = record {
      interpreted = mark_interpreted S T.rules R.symbols R.marks p.right_fun sides.right_marked;
      typed = sides.right_typed;
      closed = sides.right_closed;
    }

    -- what the sides are worth at numbers for the meta-variables
    abbrev left_worth : (ℕ → ℕ) → ℕ
    left_worth μ = fed_numbers S p.metas all μ (types_of p.left_fun) (read_as p.left_fun) p.left

    abbrev right_worth : (ℕ → ℕ) → ℕ
    right_worth μ = fed_numbers S p.metas all μ (types_of p.right_fun) (read_as p.right_fun) p.right

    abbrev left_polynomial : Polynomial
    left_polynomial = call_polynomial all p.metas (number_of p.left_fun) (tms_of p.left)

    abbrev right_polynomial : Polynomial
    right_polynomial = call_polynomial all p.metas (number_of p.right_fun) (tms_of p.right)

    abbrev scope : List Ty
    scope = types_of_metas p.metas ++ []

    left_den : (μ : ℕ → ℕ) → left_worth μ ≡ den scope (numbered μ) left_polynomial
    left_den μ =
        marked_worth S all interprets normal (by_numbers_of all μ) (λ f A. refl) p.metas (number_of p.left_fun) (types_of p.left_fun)
        (tms_of p.left) left_side all_nothing

    right_den : (μ : ℕ → ℕ) → right_worth μ ≡ den scope (numbered μ) right_polynomial
    right_den μ =
        marked_worth S all interprets normal (by_numbers_of all μ) (λ f A. refl) p.metas (number_of p.right_fun) (types_of p.right_fun)
        (tms_of p.right) right_side all_nothing

    left_normal : Normal scope left_polynomial
    left_normal = call_normal S all interprets normal p.metas (number_of p.left_fun) (types_of p.left_fun) 0 (tms_of p.left) left_side

    right_normal : Normal scope right_polynomial
    right_normal = call_normal S all interprets normal p.metas (number_of p.right_fun) (types_of p.right_fun) 0 (tms_of p.right) right_side

    -- a covered pair, and a strictly covered one
    covered_worth : (ms : List Transfer) → (by_moves S T.rules R).pair p false ms → (μ : ℕ → ℕ) → right_worth μ ≤ left_worth μ
    covered_worth ms c μ = subst₂ (λ m n. m ≤ n) (sym (right_den μ)) (sym (left_den μ))
        (cover_den scope (numbered μ) (numbered_mono μ) left_polynomial right_polynomial left_normal right_normal ms c)

    strictly_covered_worth : (ms : List Transfer) → (by_moves S T.rules R).pair p true ms → (μ : ℕ → ℕ) → right_worth μ < left_worth μ
    strictly_covered_worth ms c μ = subst₂ (λ m n. m < n) (sym (right_den μ)) (sym (left_den μ))
        (strict_cover_den scope (numbered μ) (numbered_mono μ) left_polynomial right_polynomial left_normal right_normal ms c)

    right_arguments : (c d : MarkedCall) → PairLeads S p c d → AllTyped S [] [] (tms_of d.arguments) (types_of p.right_fun)
    right_arguments c d s = subst (λ us. AllTyped S [] [] us (types_of p.right_fun)) (sym (values_are s.right).1)
        (all_typed-values s.bodies sides.right_typed (λ z q o e. s.typed_bodies z q (occurs_right z p.left p.right o) e))

    -- the meta-variable stands on one of the two sides
    abbrev Stands : ℕ → Type 0
    Stands z = OccursIn z (tms_of p.left) ⊎ OccursIn z (tms_of p.right)

    both_numbers : (g : ℕ → Body) → HasNumbers S T.rules T.covered all p.metas g (λ z. OccursIn z (tms_of p.left))
        → HasNumbers S T.rules T.covered all p.metas g (λ z. OccursIn z (tms_of p.right))
        → HasNumbers S T.rules T.covered all p.metas g Stands
    both_numbers g (ν, left) (χ, right) = (
      λ z. ν z + χ z,
      λ z o. elim o [
        | inl i ↦ bounds_more S T.rules T.covered all (ν z + χ z) (omega arith) (left z i)
        | inr i ↦ bounds_more S T.rules T.covered all (ν z + χ z) (omega arith) (right z i)
      ],
    )

    -- numbers at which the left side is worth no more than a measure of the one call, and the right side measures the other
    lowered : (c d : MarkedCall) (n : ℕ) → PairStep S (Step T.rules) p c d → measures c n
        → (μ : ℕ → ℕ) × (left_worth μ ≤ n) × measures d (right_worth μ)
    lowered c d n by fed =
        let s = by.leads in
        let pair = closed p inside in
        let fed_left = subst (λ f. IsFed (types_of f) (read_as f) c.arguments n) s.left_symbol fed in
        let (m, fed_right) = ending_fed S T.rules T.covered all made (types_of p.right_fun) (read_as p.right_fun) d.arguments
        pair.right_head (right_arguments c d s) by.minimal in
        let left = list_numbers S T.rules T.covered all p.metas s.bodies (types_of p.left_fun) (read_as p.left_fun) p.left c.arguments n
        pair.left sides.left_typed s.left fed_left in
        let right = list_numbers S T.rules T.covered all p.metas s.bodies (types_of p.right_fun) (read_as p.right_fun) p.right d.arguments m
        pair.right sides.right_typed s.right fed_right in
        let (ν, bodies) = both_numbers s.bodies left right in
        let (μ, below, fits, under) = list_lowers S T.rules T.covered all p.metas s.bodies Stands ν (types_of p.left_fun)
        (read_as p.left_fun) p.left c.arguments n bodies (read_mono p.left_fun) pair.left sides.left_typed s.left fed_left in (
          μ,
          under,
          subst (λ f. IsFed (types_of f) (read_as f) d.arguments (right_worth μ)) (sym s.right_symbol)
              (list_fed S T.rules T.covered all p.metas s.bodies μ (types_of p.right_fun) (read_as p.right_fun) p.right d.arguments
              pair.right_head pair.right sides.right_typed pair.calls (λ z o. fits z (inr o)) s.right),
        )

  -- where the calls by the pairs that are not dropped end, the calls of the set do
  pub closed_ends : HaveTypedSides T.symbols T.rules T.pairs → AreClosedRules T → AreClosedPairs T → (rest : List ℕ)
      → IsSetOf (IsKept T.set E.drop) rest → CallsEnd S T.rules (Step T.rules) (InSet T.pairs rest)
      → CallsEnd S T.rules (Step T.rules) (InSet T.pairs T.set)
  closed_ends typed rules_closed pairs_closed rest kept = ends_measured (record {
    together = numbers_together;
    measured = λ c d t s. let (n, at) = measured_call pairs_closed c d t s in (n, at, numbers_end n);
    arguments = λ c d n t at s. measured_step rules_closed c d n at s;
    pairs = λ p c d n (i, inside, at) t has s.
        let (ms, strict, dropped, shown) = pair_shown (by_moves S T.rules R) T E is.lines i p inside at in
        by_line i p ms strict c d n inside at dropped shown has s;
  })
    where
      by_line : (i : ℕ) (p : PairData) (ms : List Transfer) (strict : Bool) (c d : MarkedCall) (n : ℕ) → Contains T.set i
          → slice_get T.pairs i ≡ Some p → IsDropped E.drop i strict → (by_moves S T.rules R).pair p strict ms → measures c n
          → PairStep S (Step T.rules) p c d
          → ((InSet T.pairs rest p × HasNoMore by_numbers measures n d) ⊎ HasLess by_numbers measures n d)
      by_line i p ms false c d n inside at stays shown has s =
          let there : InSet T.pairs T.set p = (i, inside, at) in
          let (μ, under, fed) = lowered typed pairs_closed p there c d n s has in
          let le = covered_worth typed pairs_closed p there ms shown μ in
          inl ((i, (kept.each i).1 (inside, stays), at), (right_worth typed pairs_closed p there μ, fed, le_trans le under))
      by_line i p ms true c d n inside at dropped shown has s =
          let there : InSet T.pairs T.set p = (i, inside, at) in
          let (μ, under, fed) = lowered typed pairs_closed p there c d n s has in
          let less = strictly_covered_worth typed pairs_closed p there ms shown μ in
          inr (right_worth typed pairs_closed p there μ, fed, lt_of_lt_of_le less under)

-- all rules are to be covered, or those of a closed list
pub usable_ends : (T : TaskData) (R : ReadingsData) (E : Evidence (List Transfer)) → IsCovering T R E → AreWellMade T.symbols T.rules
    → HaveTypedSides T.symbols T.rules T.pairs → IsUsable T → (rest : List ℕ) → IsSetOf (IsKept T.set E.drop) rest
    → CallsEnd T.symbols T.rules (Step T.rules) (InSet T.pairs rest) → CallsEnd T.symbols T.rules (Step T.rules) (InSet T.pairs T.set)
usable_ends T R E is made typed usable rest kept end = by_lists usable.closed
  where
    by_lists : IsClosed T → CallsEnd T.symbols T.rules (Step T.rules) (InSet T.pairs T.set)
    by_lists (inl whole) = covering_ends T R E is made typed whole rest kept end
    by_lists (inr (rules, pairs)) = closed_ends T R E is made typed rules pairs rest kept end
