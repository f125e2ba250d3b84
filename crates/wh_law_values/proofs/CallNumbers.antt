-- The numbers of calls: each call with bounded arguments has one, and steps and covered pairs do not raise it.
use Rattle.std.proofs.Common.{ℕ, ◌≤◌, ◌<◌, inl, inr, List, [], ◌∷◌, take, unwrap_or, true, false, refl, ap₂, sym, subst, arith, le_trans}
use Rattle.std.specs.List.{AllByRecursion}
use Rattle.std.proofs.lemmas.List.Elements.{recursion_from_All}
use Rattle.wh_types.specs.Ty.{Ty, sort, ◌⇒◌, arguments}
use Rattle.wh_terms.specs.Tree.{Tm, tms_of}
use Rattle.wh_terms.specs.Typing.{Symbols, AllTyped, typed_more}
use Rattle.wh_terms.specs.Rules.{RewriteRule, AreWellMade}
use Rattle.wh_terms.proofs.TypingLaws.{typed_loose, typed_term}
use Rattle.wh_step.specs.Step.{Step}
use Rattle.wh_step.specs.Reduction.{Bounded}
use Rattle.wh_step_laws.specs.Ends.{Ends}
use Rattle.wh_step_laws.proofs.SystemSteps.{bounded-ends}
use Rattle.wh_system.proofs.TypedDecided.{Decided}
use Rattle.wh_pairs.specs.PairData.{PairData}
use Rattle.wh_pairs.specs.Sets.{InSet}
use Rattle.wh_reduction_pairs.specs.TaskData.{TaskData}
use Rattle.wh_reduction_pairs.specs.ReductionPair.{Evidence}
use Rattle.wh_hopoly.specs.Evaluation.{Interpretation}
use Rattle.wh_hopoly.specs.Moves.{Transfer}
use Rattle.wh_polycheck.specs.Sides.{arrows}
use Rattle.wh_polycheck.specs.Marks.{marked_types, with_marks, mark_number}
use Rattle.wh_polycheck.specs.Readings.{ReadingsData}
use Rattle.wh_polycheck.specs.Covering.{by_moves, IsCovering, HaveTypedSides}
use Rattle.wh_usable_first_order.specs.FirstOrder.{AreSorts}
use Rattle.wh_usable.specs.Closed.{AreClosedRules, AreClosedPairs}
use Rattle.wh_poly_meaning.specs.Functionals.{Sem, Mono, Le}
use Rattle.wh_poly_meaning.specs.TermValues.{of_interpretations}
use Rattle.wh_poly_meaning.proofs.Order.{le_same, le_then}
use Rattle.wh_poly_meaning.proofs.TermValues.{at_is}
use Rattle.wh_proof_calls.specs.MarkedCalls.{MarkedCall, IsTypedCall, PairLeads, ArgumentsStep}
use Rattle.wh_usable_calls.specs.Bounds.{BoundsFed}
use Rattle.wh_law_projection.specs.LongestSequences.{IsBoundedCall}
use Rattle.wh_law_values.specs.Values.{IsFedValues, IsCallNumber}
use Rattle.wh_law_values.proofs.LeastBounds.{value_bounds, value_least}
use Rattle.wh_law_values.proofs.TermValues.{ending_value}
use Rattle.wh_law_values.proofs.PairWorths.{read_mono, step_kept, lowered, covered_worth, strictly_covered_worth}

sorts_or_not : (cs : List Ty) → Decided (AreSorts cs)
sorts_or_not [] = inl tt
sorts_or_not (sort s ∷ cs) = sorts_or_not cs
sorts_or_not ((a ⇒ b) ∷ cs) = inr (λ h. h)

all_end : (rules : List RewriteRule) (ts : List Tm) → AllByRecursion (Bounded rules) ts → AllByRecursion (Ends (Step rules)) ts
all_end rules [] all = tt
all_end rules (t ∷ ts) all = (bounded-ends t all.0, all_end rules ts all.1)

-- the types of the arguments of a typed call
typed_at_marked : (S : Symbols) (rules : List RewriteRule) (c : MarkedCall) → IsTypedCall S rules c
    → AllTyped S [] [] (tms_of c.arguments) (marked_types S rules c.symbol)
typed_at_marked S rules c t = subst (AllTyped S [] [] (tms_of c.arguments))
    (ap₂ (λ n a. take (unwrap_or n 0) (arguments a)) (sym t.needed) (sym (at_is S.funs c.symbol t.kind t.known))) t.typed

module _ (S : Symbols) (rules : List RewriteRule) (listed : List ℕ) (symbols : List Interpretation) where
  abbrev AreFed : (cs : List Ty) → Sem (arrows cs (sort 0)) → List Tm → ℕ → Type 0
  AreFed = IsFedValues S rules listed symbols

  abbrev BoundFed : (cs : List Ty) → Sem (arrows cs (sort 0)) → List Tm → ℕ → Type 0
  BoundFed = BoundsFed S rules listed symbols

  -- arguments of sorts that end have values
  fed_values : AreWellMade S rules → (cs : List Ty) (F : Sem (arrows cs (sort 0))) (ts : List Tm) → AreSorts cs
      → AllTyped S [] [] (tms_of ts) cs → AllByRecursion (Ends (Step rules)) ts → (n : ℕ) × AreFed cs F ts n
  fed_values made [] F [] sorts p e = (F, refl)
  fed_values made [] F (t ∷ ts) sorts p e = elim p [ ]
  fed_values made (c ∷ cs) F [] sorts p e = elim p [ ]
  fed_values made (sort s ∷ cs) F (t ∷ ts) sorts (typed_more p ps) e =
      let (k, value) = ending_value S rules listed symbols made t (typed_loose p, typed_term t p) e.0 in
      let (n, rest) = fed_values made cs (F k) ts sorts ps e.1 in
      (n, (k, value, rest))
  fed_values made ((a ⇒ b) ∷ cs) F (t ∷ ts) sorts p e = absurd sorts

  -- what they give is a bound of the call
  fed_bounds : (cs : List Ty) (F : Sem (arrows cs (sort 0))) (ts : List Tm) (n : ℕ) → AreFed cs F ts n → BoundFed cs F ts n
  fed_bounds [] F [] n e = omega arith
  fed_bounds [] F (t ∷ ts) n fed = absurd fed
  fed_bounds (c ∷ cs) F [] n fed = absurd fed
  fed_bounds (sort s ∷ cs) F (t ∷ ts) n (k, value, rest) = (k, value_bounds S rules listed symbols value, fed_bounds cs (F k) ts n rest)
  fed_bounds ((a ⇒ b) ∷ cs) F (t ∷ ts) n fed = absurd fed

  -- and at most each bound of it
  fed_least : (cs : List Ty) (F G : Sem (arrows cs (sort 0))) (ts : List Tm) (n m : ℕ) → Mono (arrows cs (sort 0)) F
      → Le (arrows cs (sort 0)) F G → AreFed cs F ts n → BoundFed cs G ts m → n ≤ m
  fed_least [] F G [] n m mono le e fed = omega arith
  fed_least [] F G (t ∷ ts) n m mono le fed other = absurd fed
  fed_least (c ∷ cs) F G [] n m mono le fed other = absurd fed
  fed_least (sort s ∷ cs) F G (t ∷ ts) n m mono le (k, value, rest) (j, bounds, others) =
      let less = value_least S rules listed symbols j value bounds in
      fed_least cs (F k) (G j) ts n m (mono.0 k tt)
      (le_then (arrows cs (sort 0)) (F k) (F j) (G j) (mono.1 k j tt tt less) (le j tt)) rest others
  fed_least ((a ⇒ b) ∷ cs) F G (t ∷ ts) n m mono le fed other = absurd fed

-- each typed call with bounded arguments has a number
pub call_number : (S : Symbols) (rules : List RewriteRule) (listed : List ℕ) (R : ReadingsData) → AreWellMade S rules → (c : MarkedCall)
    → IsBoundedCall S rules c → (n : ℕ) × IsCallNumber S rules listed R c n
call_number S rules listed R made c good = by_types (sorts_or_not (marked_types S rules c.symbol))
  where
    by_types : Decided (AreSorts (marked_types S rules c.symbol)) → (n : ℕ) × IsCallNumber S rules listed R c n
    by_types (inl sorts) =
        let (n, fed) = fed_values S rules listed (with_marks S rules R.symbols R.marks) made (marked_types S rules c.symbol)
        (of_interpretations (with_marks S rules R.symbols R.marks) (mark_number R.symbols R.marks c.symbol)
        (arrows (marked_types S rules c.symbol) (sort 0))) c.arguments sorts (typed_at_marked S rules c good.typed)
        (all_end rules c.arguments (recursion_from_All (Bounded rules) c.arguments good.bounded)) in
        (n, inl (sorts, fed))
    by_types (inr other) = (0, inr (other, refl))

module _ (T : TaskData) (R : ReadingsData) (E : Evidence (List Transfer)) (is : IsCovering T R E)
    (made : AreWellMade T.symbols T.rules) where
  abbrev types : ℕ → List Ty
  types f = marked_types T.symbols T.rules f

  abbrev all : List Interpretation
  all = with_marks T.symbols T.rules R.symbols R.marks

  abbrev read : (f : ℕ) → Sem (arrows (types f) (sort 0))
  read f = of_interpretations all (mark_number R.symbols R.marks f) (arrows (types f) (sort 0))

  abbrev IsNumber : MarkedCall → ℕ → Type 0
  IsNumber = IsCallNumber T.symbols T.rules T.covered R

  abbrev IsBound : MarkedCall → ℕ → Type 0
  IsBound c n = BoundsFed T.symbols T.rules T.covered all (types c.symbol) (read c.symbol) c.arguments n

  number_bounds : (c : MarkedCall) (n : ℕ) → IsNumber c n → AreSorts (types c.symbol) → IsBound c n
  number_bounds c n (inl (sorts, fed)) also =
      fed_bounds T.symbols T.rules T.covered all (types c.symbol) (read c.symbol) c.arguments n fed
  number_bounds c n (inr (other, e)) also = absurd (other also)

  number_least : (c : MarkedCall) (n m : ℕ) → IsNumber c n → IsBound c m → n ≤ m
  number_least c n m (inl (sorts, fed)) bounds =
      fed_least T.symbols T.rules T.covered all (types c.symbol) (read c.symbol) (read c.symbol) c.arguments n m
      (read_mono T R E is made c.symbol) (le_same (arrows (types c.symbol) (sort 0)) (read c.symbol)) fed bounds
  number_least c n m (inr (other, e)) bounds = omega arith

  pub step_numbers : AreClosedRules T → (c d : MarkedCall) (n m : ℕ) → ArgumentsStep (Step T.rules) c d → IsNumber c n → IsNumber d m
      → m ≤ n
  step_numbers closed c d n m s (inl (sorts, fed)) there =
      number_least d m n there (step_kept T R E is made closed c d n (number_bounds c n (inl (sorts, fed)) sorts) s)
  step_numbers closed c d n m s (inr (other, e)) (inl (sorts, fed)) =
      absurd (other (subst (λ f. AreSorts (types f)) s.symbol sorts))
  step_numbers closed c d n m s (inr (other, e)) (inr (also, k)) = omega arith

  module _ (typed : HaveTypedSides T.symbols T.rules T.pairs) (closed : AreClosedPairs T) (p : PairData) (inside : InSet T.pairs T.set p)
      (c d : MarkedCall) (n m : ℕ) (good : IsBoundedCall T.symbols T.rules d) (s : PairLeads T.symbols p c d) (here : IsNumber c n)
      (there : IsNumber d m) where
    ending : AllByRecursion (Ends (Step T.rules)) d.arguments
    ending = all_end T.rules d.arguments (recursion_from_All (Bounded T.rules) d.arguments good.bounded)

    left_bound : IsBound c n
    left_bound = number_bounds c n here (subst (λ f. AreSorts (types f)) (sym s.left_symbol) (closed p inside).left_head)

    pub pair_numbers : (ms : List Transfer) → (by_moves T.symbols T.rules R).pair p false ms → m ≤ n
    pair_numbers ms shown =
        let (μ, under, fed) = lowered T R E is made typed closed p inside c d n s ending left_bound in
        le_trans (number_least d m _ there fed) (le_trans (covered_worth T R E is made typed closed p inside ms shown μ) under)

    pub strict_pair_numbers : (ms : List Transfer) → (by_moves T.symbols T.rules R).pair p true ms → m < n
    strict_pair_numbers ms shown =
        let (μ, under, fed) = lowered T R E is made typed closed p inside c d n s ending left_bound in
        let le = number_least d m _ there fed in
        let less = strictly_covered_worth T R E is made typed closed p inside ms shown μ in
        omega (arith, le, less, under)
