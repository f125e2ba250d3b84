-- What the conditions of a node of a path order say of a set of pairs: its calls end where those by the pairs that are kept do.
use Rattle.std.proofs.Common.{◌≡◌, ◌≢◌, ℕ, zero, suc, ◌<◌, List, [], ◌∷◌, length, take, unwrap_or, Some, slice_get, Contains, refl, ap₂, sym, subst}
use Rattle.std.proofs.lemmas.Option.{none-some, same_Some, slice_get_within}
use mathlib.Core.Path.{subst₂}
use Rattle.wh_types.specs.Ty.{Ty, arguments}
use Rattle.wh_terms.specs.Tree.{Tm, tms_of}
use Rattle.wh_terms.specs.Typing.{Symbols, AllTyped}
use Rattle.wh_terms.specs.Rules.{RewriteRule, AreWellMade}
use Rattle.wh_terms.specs.StepOver.{StepOver}
use Rattle.wh_step.specs.Step.{Step}
use Rattle.wh_step_laws.specs.Ends.{Ends, ends}
use Rattle.wh_pairs.specs.PairData.{PairData}
use Rattle.wh_pairs.specs.Sets.{IsSetOf, IsKept, InSet}
use Rattle.wh_pairs.proofs.ByPlace.{contains_at}
use Rattle.wh_proof_calls.specs.MarkedCalls.{MarkedCall, IsTypedCall, PairLeads, ArgumentsStep, CallsEnd}
use Rattle.wh_proof_calls.specs.CallOrders.{Orders, by_function}
use Rattle.wh_proof_calls.specs.ShownCalls.{IsShownOfCalls}
use Rattle.wh_proof_calls.proofs.Measured.{function_no_more, function_less}
use Rattle.wh_proof_calls.proofs.ShownMeasures.{ends_shown}
use Rattle.wh_reduction_pairs.specs.TaskData.{TaskData, CoversAll}
use Rattle.wh_reduction_pairs.specs.ReductionPair.{Evidence}
use Rattle.wh_reduction_pairs.proofs.LinesShow.{rule_shown}
use Rattle.wh_hopoly.specs.Evaluation.{type_at}
use Rattle.wh_poly.specs.Polynomials.{zero_poly}
use Rattle.wh_polycheck.specs.Marks.{Mark, marked_types, HasMarkedSides}
use Rattle.wh_polycheck.specs.Covering.{HaveTypedSides}
use Rattle.wh_order_inference.specs.Filters.{Filter}
use Rattle.wh_order_inference.specs.Inferences.{Inference, letter_of, same_trees}
use Rattle.wh_order_extended.specs.Many.{Many, stay, go, Plus}
use Rattle.wh_order_extended.specs.Filtered.{FitsMark}
use Rattle.wh_order_extended.proofs.ManyLaws.{plus_after}
use Rattle.wh_order_extended.proofs.FilteredSymbols.{filtered_one_sort, filtered_known}
use Rattle.wh_order_path.specs.OrderRoot.{OrderRoot}
use Rattle.wh_order_path.specs.Lines.{AreOriented, PairSides, filtered_call}
use Rattle.wh_order_path.proofs.FilteredSteps.{call_steps, call_ends}
use Rattle.wh_order_path.proofs.PairValues.{pair_values_step}
use Rattle.wh_order_node.specs.Filterings.{FilteringData, filters_of, precedences_of, argument_types, filtered_signature}
use Rattle.wh_order_node.specs.Ordering.{IsGoodPair, by_inferences, IsOrdering}
use Rattle.wh_order_descent.specs.PatternSides.{HaveKnownSorts, HavePatternSides}
use Rattle.wh_order_descent.proofs.FilteredSignature.{filters_fit, mark_fits}

-- where steps end, sequences of steps end

many_ends : {A : Type 0} {R : A → A → Type 0} {a b : A} → Many R a b → Ends (Plus R) a → Ends (Plus R) b
many_ends stay e = e
many_ends (go {b = c} {c = b} r m) (ends k) = k b (record { next = c; first = r; others = m })

plus_ends : {A : Type 0} {R : A → A → Type 0} {a : A} → Ends R a → Ends (Plus R) a
plus_ends (ends k) = ends (λ b p. many_ends p.others (plus_ends (k p.next p.first)))

-- the types of the arguments of a typed call

at_is : (cs : List Ty) (f : ℕ) (a : Ty) → slice_get cs f ≡ Some a → type_at cs f ≡ a
at_is [] f a e = absurd (none-some a e)
at_is (c ∷ cs) zero a e = same_Some c a e
at_is (c ∷ cs) (suc f) a e = at_is cs f a e

typed_at_marked : (S : Symbols) (rules : List RewriteRule) (c : MarkedCall) → IsTypedCall S rules c
    → AllTyped S [] [] (tms_of c.arguments) (marked_types S rules c.symbol)
typed_at_marked S rules c t = subst (AllTyped S [] [] (tms_of c.arguments))
    (ap₂ (λ n a. take (unwrap_or n 0) (arguments a)) (sym t.needed) (sym (at_is S.funs c.symbol t.kind t.known))) t.typed

-- a mark for each of the two symbols of a pair
two_marks : PairData → List Mark
two_marks p = record { symbol = p.left_fun; polynomial = zero_poly } ∷ record { symbol = p.right_fun; polynomial = zero_poly } ∷ []

both_sides : (S : Symbols) (rules : List RewriteRule) (pairs : List PairData) → HaveTypedSides S rules pairs → (p : PairData)
    → Contains pairs p → HasMarkedSides S rules (two_marks p) p
unfolding two_marks
both_sides S rules pairs typed p there =
    typed (two_marks p) p there (record { symbol = p.left_fun; polynomial = zero_poly }, contains_at (two_marks p) 0 _ refl, refl)
    (record { symbol = p.right_fun; polynomial = zero_poly }, contains_at (two_marks p) 1 _ refl, refl)

-- the order by steps: what one or more of them lead to is less, and what any number of them leads to is not more
abbrev by_steps : {A : Type 0} → (A → A → Type 0) → Orders A
by_steps R = record { less = Plus R; not_more = Many R }

module _ (T : TaskData) (D : FilteringData) (E : Evidence Inference) (is : IsOrdering T D E) (made : AreWellMade T.symbols T.rules)
    (sorts : HaveKnownSorts T.symbols T.rules) (typed : HaveTypedSides T.symbols T.rules T.pairs)
    (patterns : HavePatternSides T.symbols T.pairs) (whole : CoversAll T) where
  abbrev S : Symbols
  S = T.symbols

  abbrev F : Symbols
  F = filtered_signature S T.rules D

  abbrev Φ : ℕ → Filter
  Φ = filters_of S D

  abbrev prec : ℕ → ℕ
  prec = precedences_of S D

  abbrev Order : Tm → Tm → Type 0
  Order = StepOver (OrderRoot F prec)

  -- the measure of a call: its extended and filtered tree
  abbrev tree_of : MarkedCall → Tm
  tree_of c = filtered_call S Φ [] c.symbol c.arguments

  oriented : AreOriented S F Φ prec T.rules
  oriented = record {
    well_made = made;
    sorts_known = sorts.of_symbols;
    filters = filters_fit S T.rules D is.symbols;
    one_sort = filtered_one_sort Φ (argument_types S T.rules);
    lines = λ r there. (sorts.of_metas r there, rule_shown (by_inferences S T.rules D) T E is.lines whole r there);
  }

  fits : (f : ℕ) → f < length S.funs → FitsMark S F Φ f (marked_types S T.rules f)
  fits = mark_fits S T.rules D is.marks

  call_known : (c : MarkedCall) → IsTypedCall S T.rules c → c.symbol < length S.funs
  call_known c t = slice_get_within S.funs c.symbol t.kind t.known

  tree_ends : (c : MarkedCall) → IsTypedCall S T.rules c → Ends (Plus Order) (tree_of c)
  tree_ends c t =
      plus_ends (call_ends S F Φ prec T.rules made sorts.of_symbols oriented.filters oriented.one_sort oriented.lines
      (filtered_known Φ (argument_types S T.rules)) c.symbol c.arguments (marked_types S T.rules c.symbol) (fits c.symbol (call_known c t))
      (typed_at_marked S T.rules c t))

  -- a step in an argument
  arguments_trees : (c d : MarkedCall) → IsTypedCall S T.rules c → ArgumentsStep (Step T.rules) c d → Many Order (tree_of c) (tree_of d)
  arguments_trees c d t s =
      subst (λ f. Many Order (tree_of c) (filtered_call S Φ [] f d.arguments)) (sym s.symbol)
      (call_steps S F Φ prec T.rules made sorts.of_symbols oriented.filters oriented.one_sort oriented.lines c.symbol c.arguments d.arguments
      (marked_types S T.rules c.symbol) (typed_at_marked S T.rules c t) s.arguments)

  -- what a pair asks
  sides : (p : PairData) → Contains T.pairs p
      → PairSides S p.metas (marked_types S T.rules p.left_fun) (marked_types S T.rules p.right_fun) p.left p.right
  sides p there =
      let marked = both_sides S T.rules T.pairs typed p there in
      let known = patterns p there in record {
        metas_known = known.metas_known;
        arguments_known = known.arguments_known;
        left_typed = marked.left_typed;
        right_typed = marked.right_typed;
        left_closed = marked.left_closed;
        right_closed = marked.right_closed;
        left_patterns = known.left_patterns;
      }

  -- a pair whose inference is good
  pair_trees : (p : PairData) (i : Inference) (c d : MarkedCall) → Contains T.pairs p → IsGoodPair S T.rules D p i → IsTypedCall S T.rules c
      → PairLeads S p c d
      → Many Order (tree_of c) (tree_of d) × (letter_of i ≢ same_trees → Plus Order (tree_of c) (tree_of d))
  pair_trees p i c d there good t s =
      let left = subst (λ f. f < length S.funs) s.left_symbol (call_known c t) in
      subst₂ (λ f g. Many Order (filtered_call S Φ [] f c.arguments) (filtered_call S Φ [] g d.arguments)
      × (letter_of i ≢ same_trees → Plus Order (filtered_call S Φ [] f c.arguments) (filtered_call S Φ [] g d.arguments)))
      (sym s.left_symbol) (sym s.right_symbol)
      (pair_values_step S F Φ prec T.rules p.metas p.left_fun p.right_fun (marked_types S T.rules p.left_fun)
      (marked_types S T.rules p.right_fun) p.left p.right c.arguments d.arguments i s.bodies oriented (fits p.left_fun left)
      (fits p.right_fun (patterns p there).right_known) (sides p there) good s.typed_bodies s.left s.right)

  in_pairs : (p : PairData) → InSet T.pairs T.set p → Contains T.pairs p
  in_pairs p (n, inside, at) = contains_at T.pairs n p at

  -- what the inferences show holds of the trees of calls
  shown_of_calls : IsShownOfCalls (by_inferences S T.rules D) T (Step T.rules) (by_steps Order) (by_function tree_of)
  shown_of_calls = record {
    rules = λ covered c d a t at s. function_no_more (by_steps Order) tree_of a c d at (arguments_trees c d t s);
    pairs = λ p i c d a inside (good, any) t at s.
        function_no_more (by_steps Order) tree_of a c d at (pair_trees p i c d (in_pairs p inside) good t s.leads).0;
    strict_pairs = λ p i c d a inside (good, strict) t at s.
        function_less (by_steps Order) tree_of a c d at ((pair_trees p i c d (in_pairs p inside) good t s.leads).1 strict);
  }

  -- where the calls by the pairs that are not dropped end, the calls of the set do
  pub ordering_ends : (rest : List ℕ) → IsSetOf (IsKept T.set E.drop) rest → CallsEnd S T.rules (Step T.rules) (InSet T.pairs rest)
      → CallsEnd S T.rules (Step T.rules) (InSet T.pairs T.set)
  ordering_ends rest kept =
      ends_shown (by_inferences S T.rules D) T E is.lines whole rest kept (by_steps Order) (by_function tree_of) shown_of_calls
      (λ a b c m p. plus_after m p) (λ c d t s. (tree_of d, refl, tree_ends d t))
