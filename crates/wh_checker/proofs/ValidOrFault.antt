-- A certificate is valid, or it has a first fault; with limits, it is valid and small, or it has a first fault with them.
use Rattle.std.proofs.Common.{◌≡◌, ℕ, suc, ◌+◌, ◌⊎◌, inl, inr, List, [], ◌∷◌, ◌++◌, length, Option, Some, refl, sym, ap, subst, ◌∙◌}
use Rattle.std.proofs.lemmas.List.{length-append}
use Rattle.wh_terms.specs.declared.path.Step as taken
use Rattle.wh_text.specs.RawTree.{RTm}
use Rattle.wh_step_laws.specs.Ranks.{rank_of}
use Rattle.wh_system.specs.Systems.{SystemData}
use Rattle.wh_system.specs.WellMade.{AreDistinct, IsWellMadeSystem}
use Rattle.wh_pairs.specs.PairData.{PairData}
use Rattle.wh_system.proofs.TypedDecided.{Decided}
use Rattle.wh_pairs.proofs.ByPlace.{contains_at}
use Rattle.wh_access.specs.Passing.{Passing, IsFirstBreak}
use Rattle.wh_graph.specs.May.{Follows}
use Rattle.wh_subterm.specs.Projections.{Chosen}
use Rattle.wh_subterm.specs.SubtermRows.{AreForMarked, IsProjection, IsFirstSubtermFault}
use Rattle.wh_subterm.specs.declared.projection.SubtermFault.{SubtermFault}
use Rattle.wh_subterm.specs.declared.projection.SubtermFault.TheVariants as projected
use Rattle.wh_cert.specs.Written as w
use Rattle.wh_cert.specs.Written.{Cert, yes, no, Preorder}
use Rattle.wh_cert.specs.Limits.{IsCert}
use Rattle.wh_cert.specs.Interps.{Interp}
use Rattle.wh_types.specs.Ty.{Ty}
use Rattle.wh_pairs.specs.Marked.{AreMarked}
use Rattle.wh_pairs.specs.Sets.{IsWhole}
use Rattle.wh_reduction_pairs.specs.TaskData.{TaskData, whole_task}
use Rattle.wh_reduction_pairs.specs.ReductionPair.{Evidence}
use Rattle.wh_hopoly.specs.Evaluation.{Interpretation}
use Rattle.wh_hopoly.specs.declared.expression.Move.{Move}
use Rattle.wh_polycheck.specs.Marks.{Mark}
use Rattle.wh_polycheck.specs.Readings.{ReadingsData, AreReadingsFor}
use Rattle.wh_polycheck.specs.Covering.{IsCovering}
use Rattle.wh_hopoly.specs.Moves.{Transfer}
use Rattle.wh_order_inference.specs.Inferences.{Inference}
use Rattle.wh_order_inference.specs.FilterText.{WrittenFilter}
use Rattle.wh_order_node.specs.Filterings.{FilteringData, MarkFilter}
use Rattle.wh_order_node.specs.Ordering.{IsOrdering}
use Rattle.wh_order_check.specs.OrderingFaults.{IsFirstOrderingFault}
use Rattle.wh_order_check.specs.declared.fault.OrderingFault.{OrderingFault}
use Rattle.wh_order_check.proofs.Orderings.{orients_or_fault}
use Rattle.wh_proof.specs.Nodes.{Node, done, alone, blocks, subterm, poly, order, Leaves, by_done, by_alone, by_blocks, by_subterm, by_poly, by_order}
use Rattle.wh_proof.specs.Proves.{Proves, all_proved, one_proved}
use Rattle.wh_pairs.proofs.Searches.{SomeOrNone, equal_decided, list_decided, HasFirst, HasNoneOf, first_place}
use Rattle.wh_graph.proofs.ClashesDecided.{follows_decided}
use Rattle.wh_graph.proofs.BlockFaults.{BlocksOrFault, blocks_or_fault}
use Rattle.wh_subterm.proofs.Projections.{ProjectionOrFault, projection_or_fault, are_marked_decided}
use Rattle.wh_usable.specs.Closed.{IsClosed}
use Rattle.wh_usable.proofs.Decisions.{in_order_decided}
use Rattle.wh_poly_covering.specs.CoveringFaults.{IsFirstCoveringFault}
use Rattle.wh_poly_covering.specs.declared.fault.CoveringFault.{CoveringFault}
use Rattle.wh_poly_covering.proofs.Coverings.{covering_or_fault, small_or_fault}
use Rattle.wh_access.proofs.Breaks.{passing_or_break}
use Rattle.wh_no.proofs.Claims.{ClaimOrFault, claim_or_fault}
use Rattle.wh_polycheck.specs.Small.{Limits, without_limits, with_limits}
use Rattle.wh_proof.specs.Looked.{SayChoices, SayInterpretations, SayMarks, SayFilters, SayMarkFilters, SaysNode, SayNodes, CoversRules, covered_rules, poly_task, moves_of, inferences_of}
use Rattle.wh_proof.specs.Small.{IsSmallNode, all_small, one_small}
use Rattle.wh_proof.specs.Valid.{IsSmallCert, IsValidCert, IsValidYes}
use Rattle.wh_checker.specs.Faults.{IsSubtermFault, SayCovering, SayOrdering, IsNodeFault, IsFirstNodeFault, at_first, behind_first, at_node, of_claim, IsFirstYesFault, rank_count, inaccessible, pair_count, in_node, IsFirstFault}
use Rattle.wh_checker.specs.declared.rejected.NodeFault.{NodeFault}
use Rattle.wh_checker.specs.declared.rejected.NodeFault.TheVariants.{NotEmpty, NotOne, Loops, Blocks, Subterm, BadUsable, BadSymbols, Poly, Order}
use Rattle.wh_checker.specs.declared.rejected.CheckFault.{CheckFault}
use Rattle.wh_checker.specs.declared.rejected.CheckFault.TheVariants as check
use Rattle.wh_checker.specs.declared.rejected.Rejected.TheVariants as row
use Rattle.wh_proof.proofs.ChoiceLemmas.{one_list_said}
use Rattle.wh_proof.proofs.InterpretationLemmas.{said_lists, marked_numbers, one_marks_said}
use Rattle.wh_proof.proofs.FilterLemmas.{as_many_filters, one_mark_filters_said, marked_numbers as numbers_marked}
use Rattle.wh_proof.proofs.LeftSets.{leaves_count}
use Rattle.wh_checker.proofs.CoveringLaws.{SmallFor}
use Rattle.wh_checker.proofs.FaultLaws.{AreSmallFor, IsSmallFor}
use Rattle.wh_proof.proofs.SomeSets.{sets_of_lists, whole_set, kept_set}

-- lines that say choices

abbrev SaysNone : SystemData → List w.Arg → Type 0
SaysNone d lines = (args : List Chosen) → SayChoices d lines args → ⊥

none_behind : (d : SystemData) (line : w.Arg) (lines : List w.Arg) → SaysNone d lines → SaysNone d (line ∷ lines)
none_behind d line lines none [] says = says
none_behind d line lines none (c ∷ args) says = none args says.1

none_named : (d : SystemData) (line : w.Arg) (lines : List w.Arg) → HasNoneOf (λ (name : List ℕ). name ≡ line.name) d.fun_names
    → SaysNone d (line ∷ lines)
none_named d line lines none [] says = says
none_named d line lines none (c ∷ args) says = none line.name (contains_at d.fun_names c.symbol line.name says.0.named) refl

said_or_not : (d : SystemData) (lines : List w.Arg) → SomeOrNone (SayChoices d lines)
said_or_not d [] = inl ([], tt)
said_or_not d (line ∷ lines) =
    go (first_place (λ (name : List ℕ). name ≡ line.name) (λ name. list_decided equal_decided name line.name) d.fun_names)
    (said_or_not d lines)
  where
    go : HasFirst (λ (name : List ℕ). name ≡ line.name) d.fun_names ⊎ HasNoneOf (λ (name : List ℕ). name ≡ line.name) d.fun_names
        → SomeOrNone (SayChoices d lines) → SomeOrNone (SayChoices d (line ∷ lines))
    go (inl (i, name, at, same, before)) (inl (args, says)) =
        inl (record { symbol = i; argument = line.place } ∷ args, (record { named = at ∙ ap (λ n. Some n) same; place = refl }, says))
    go (inl found) (inr none) = inr (none_behind d line lines none)
    go (inr none) rest = inr (none_named d line lines none)

-- a node `subterm`

abbrev SaysProjection : SystemData → List PairData → List ℕ → List w.Arg → List ℕ → Type 0
SaysProjection d ps set lines drop = (args : List Chosen) × SayChoices d lines args × IsProjection d.rules ps set args drop

abbrev HasSubtermFault : SystemData → List PairData → List ℕ → List w.Arg → List ℕ → Type 0
HasSubtermFault d ps set lines drop = (f : SubtermFault) × IsSubtermFault d ps set lines drop f

said_fault : (d : SystemData) (ps : List PairData) (set : List ℕ) (lines : List w.Arg) (args : List Chosen) (drop : List ℕ)
    (f : SubtermFault) → AreDistinct d.fun_names → SayChoices d lines args → IsFirstSubtermFault d.rules ps set args drop f
    → IsSubtermFault d ps set lines drop f
said_fault d ps set lines args drop projected.BadArgs apart says first =
    λ others also marked. first (subst (AreForMarked ps set) (one_list_said d lines others args apart also says) marked)
said_fault d ps set lines args drop (projected.NoProjection f) apart says first = (args, says, first)
said_fault d ps set lines args drop (projected.BadArgument f) apart says first = (args, says, first)
said_fault d ps set lines args drop projected.BadDrop apart says first = (args, says, first)
said_fault d ps set lines args drop (projected.NotDecreasing n) apart says first = (args, says, first)

projection_said : (d : SystemData) (ps : List PairData) (set : List ℕ) (lines : List w.Arg) (drop : List ℕ) → AreDistinct d.fun_names
    → SaysProjection d ps set lines drop ⊎ HasSubtermFault d ps set lines drop
projection_said d ps set lines drop apart = go (said_or_not d lines)
  where
    at_args : (args : List Chosen) → SayChoices d lines args → ProjectionOrFault d.rules ps set args drop
        → SaysProjection d ps set lines drop ⊎ HasSubtermFault d ps set lines drop
    at_args args says (inl is) = inl (args, says, is)
    at_args args says (inr (f, first)) = inr (f, said_fault d ps set lines args drop f apart says first)

    go : SomeOrNone (SayChoices d lines) → SaysProjection d ps set lines drop ⊎ HasSubtermFault d ps set lines drop
    go (inl (args, says)) = at_args args says (projection_or_fault d.rules ps set args drop)
    go (inr none) = inr (projected.BadArgs, λ args says marked. none args says)

-- lines that say interpretations

interpretations_or_none : (names : List (List ℕ)) (kinds : List Ty) (lines : List Interp)
    → SomeOrNone (SayInterpretations names kinds lines)
interpretations_or_none [] [] [] = inl ([], tt)
interpretations_or_none [] [] (line ∷ lines) = inr (λ symbols says. says)
interpretations_or_none [] (a ∷ kinds) lines = inr (λ symbols says. says)
interpretations_or_none (name ∷ names) [] lines = inr (λ symbols says. says)
interpretations_or_none (name ∷ names) (a ∷ kinds) [] = inr (λ symbols says. says)
interpretations_or_none (name ∷ names) (a ∷ kinds) (line ∷ lines) =
    go (list_decided equal_decided line.name name) (interpretations_or_none names kinds lines)
  where
    other : (line.name ≡ name → ⊥) → (symbols : List Interpretation) → SayInterpretations (name ∷ names) (a ∷ kinds) (line ∷ lines) symbols
        → ⊥
    other not [] says = says
    other not (s ∷ symbols) says = not says.0

    none_behind_it : ((symbols : List Interpretation) → SayInterpretations names kinds lines symbols → ⊥) → (symbols : List Interpretation)
        → SayInterpretations (name ∷ names) (a ∷ kinds) (line ∷ lines) symbols → ⊥
    none_behind_it none [] says = says
    none_behind_it none (s ∷ symbols) says = none symbols says.3

    go : Decided (line.name ≡ name) → SomeOrNone (SayInterpretations names kinds lines)
        → SomeOrNone (SayInterpretations (name ∷ names) (a ∷ kinds) (line ∷ lines))
    go (inr not) rest = inr (other not)
    go (inl same) (inr none) = inr (none_behind_it none)
    go (inl same) (inl (symbols, says)) = inl (record { kind = a; polynomial = line.poly } ∷ symbols, (same, refl, refl, says))

no_mark_behind : (d : SystemData) (line : Interp) (lines : List Interp) → ((marks : List Mark) → SayMarks d lines marks → ⊥)
    → (marks : List Mark) → SayMarks d (line ∷ lines) marks → ⊥
no_mark_behind d line lines none [] says = says
no_mark_behind d line lines none (m ∷ marks) says = none marks says.1

no_mark_named : (d : SystemData) (line : Interp) (lines : List Interp) → HasNoneOf (λ (name : List ℕ). name ≡ line.name) d.fun_names
    → (marks : List Mark) → SayMarks d (line ∷ lines) marks → ⊥
no_mark_named d line lines none [] says = says
no_mark_named d line lines none (m ∷ marks) says = none line.name (contains_at d.fun_names m.symbol line.name says.0.named) refl

marks_or_none : (d : SystemData) (lines : List Interp) → SomeOrNone (SayMarks d lines)
marks_or_none d [] = inl ([], tt)
marks_or_none d (line ∷ lines) =
    go (first_place (λ (name : List ℕ). name ≡ line.name) (λ name. list_decided equal_decided name line.name) d.fun_names)
    (marks_or_none d lines)
  where
    go : HasFirst (λ (name : List ℕ). name ≡ line.name) d.fun_names ⊎ HasNoneOf (λ (name : List ℕ). name ≡ line.name) d.fun_names
        → SomeOrNone (SayMarks d lines) → SomeOrNone (SayMarks d (line ∷ lines))
    go (inl (i, name, at, same, before)) (inl (marks, says)) =
        inl (
          record { symbol = i; polynomial = line.poly } ∷ marks,
          (record { named = at ∙ ap (λ n. Some n) same; polynomial = refl }, says),
        )
    go (inl found) (inr none) = inr (no_mark_behind d line lines none)
    go (inr none) rest = inr (no_mark_named d line lines none)

-- the lines of a node of interpretations say some of all symbols and of the marked symbols of the set, or not

abbrev SaysSome : SystemData → List PairData → List ℕ → List Interp → List Interp → Type 0
SaysSome d ps set funs lines = (R : ReadingsData) × SayCovering d ps set funs lines R

abbrev SaysNothing : SystemData → List PairData → List ℕ → List Interp → List Interp → Type 0
SaysNothing d ps set funs lines = (R : ReadingsData) → SayCovering d ps set funs lines R → ⊥

covering_said : (d : SystemData) (ps : List PairData) (set : List ℕ) (funs lines : List Interp) → AreDistinct d.fun_names
    → SaysSome d ps set funs lines ⊎ SaysNothing d ps set funs lines
covering_said d ps set funs lines apart = go (interpretations_or_none d.fun_names d.symbols.funs funs) (marks_or_none d lines)
  where
    at_marks : (symbols : List Interpretation) (marks : List Mark) → SayInterpretations d.fun_names d.symbols.funs funs symbols
        → SayMarks d lines marks
        → Decided (AreMarked ps set (marked_numbers marks)) → SaysSome d ps set funs lines ⊎ SaysNothing d ps set funs lines
    at_marks symbols marks says also (inl marked) = inl (record { symbols = symbols; marks = marks }, ((says, also), marked))
    at_marks symbols marks says also (inr not) =
        inr (λ other said. not (subst (λ (l : List Mark). AreMarked ps set (marked_numbers l))
        (one_marks_said d lines other.marks marks apart said.0.1 also) said.1))

    go : SomeOrNone (SayInterpretations d.fun_names d.symbols.funs funs) → SomeOrNone (SayMarks d lines)
        → SaysSome d ps set funs lines ⊎ SaysNothing d ps set funs lines
    go (inr none) marks = inr (λ other said. none other.symbols said.0.0)
    go (inl symbols) (inr none) = inr (λ other said. none other.marks said.0.1)
    go (inl (symbols, says)) (inl (marks, also)) = at_marks symbols marks says also (are_marked_decided ps set (marked_numbers marks))

-- lines that say argument filters

filters_or_none : (names : List (List ℕ)) (lines : List w.Filtering) → SomeOrNone (SayFilters names lines)
filters_or_none [] [] = inl ([], tt)
filters_or_none [] (line ∷ lines) = inr (λ filters says. says)
filters_or_none (name ∷ names) [] = inr (λ filters says. says)
filters_or_none (name ∷ names) (line ∷ lines) = go (list_decided equal_decided line.name name) (filters_or_none names lines)
  where
    other : (line.name ≡ name → ⊥) → (filters : List WrittenFilter) → SayFilters (name ∷ names) (line ∷ lines) filters → ⊥
    other not [] says = says
    other not (f ∷ filters) says = not says.0

    none_behind_it : ((filters : List WrittenFilter) → SayFilters names lines filters → ⊥) → (filters : List WrittenFilter)
        → SayFilters (name ∷ names) (line ∷ lines) filters → ⊥
    none_behind_it none [] says = says
    none_behind_it none (f ∷ filters) says = none filters says.2

    go : Decided (line.name ≡ name) → SomeOrNone (SayFilters names lines) → SomeOrNone (SayFilters (name ∷ names) (line ∷ lines))
    go (inr not) rest = inr (other not)
    go (inl same) (inr none) = inr (none_behind_it none)
    go (inl same) (inl (filters, says)) = inl (line.filter ∷ filters, (same, refl, says))

no_mark_filter_behind : (d : SystemData) (line : w.Filtering) (lines : List w.Filtering)
    → ((marks : List MarkFilter) → SayMarkFilters d lines marks → ⊥) → (marks : List MarkFilter) → SayMarkFilters d (line ∷ lines) marks → ⊥
no_mark_filter_behind d line lines none [] says = says
no_mark_filter_behind d line lines none (m ∷ marks) says = none marks says.1

no_mark_filter_named : (d : SystemData) (line : w.Filtering) (lines : List w.Filtering)
    → HasNoneOf (λ (name : List ℕ). name ≡ line.name) d.fun_names → (marks : List MarkFilter) → SayMarkFilters d (line ∷ lines) marks → ⊥
no_mark_filter_named d line lines none [] says = says
no_mark_filter_named d line lines none (m ∷ marks) says =
    none line.name (contains_at d.fun_names m.symbol line.name says.0.named) refl

mark_filters_or_none : (d : SystemData) (lines : List w.Filtering) → SomeOrNone (SayMarkFilters d lines)
mark_filters_or_none d [] = inl ([], tt)
mark_filters_or_none d (line ∷ lines) =
    go (first_place (λ (name : List ℕ). name ≡ line.name) (λ name. list_decided equal_decided name line.name) d.fun_names)
    (mark_filters_or_none d lines)
  where
    go : HasFirst (λ (name : List ℕ). name ≡ line.name) d.fun_names ⊎ HasNoneOf (λ (name : List ℕ). name ≡ line.name) d.fun_names
        → SomeOrNone (SayMarkFilters d lines) → SomeOrNone (SayMarkFilters d (line ∷ lines))
    go (inl (i, name, at, same, before)) (inl (marks, says)) =
        inl (
          record { symbol = i; filter = line.filter } ∷ marks,
          (record { named = at ∙ ap (λ n. Some n) same; filter = refl }, says),
        )
    go (inl found) (inr none) = inr (no_mark_filter_behind d line lines none)
    go (inr none) rest = inr (no_mark_filter_named d line lines none)

-- the lines of a node of a path order say filters of all symbols and of the marked symbols of the set, or not

abbrev SaysFilters : SystemData → List PairData → List ℕ → List w.Filtering → List w.Filtering → Type 0
SaysFilters d ps set funs lines = (D : FilteringData) × SayOrdering d ps set funs lines D

abbrev SaysNoFilters : SystemData → List PairData → List ℕ → List w.Filtering → List w.Filtering → Type 0
SaysNoFilters d ps set funs lines = (D : FilteringData) → SayOrdering d ps set funs lines D → ⊥

ordering_said : (d : SystemData) (ps : List PairData) (set : List ℕ) (funs lines : List w.Filtering) → AreDistinct d.fun_names
    → SaysFilters d ps set funs lines ⊎ SaysNoFilters d ps set funs lines
ordering_said d ps set funs lines apart = go (filters_or_none d.fun_names funs) (mark_filters_or_none d lines)
  where
    at_marks : (symbols : List WrittenFilter) (marks : List MarkFilter) → SayFilters d.fun_names funs symbols → SayMarkFilters d lines marks
        → Decided (AreMarked ps set (numbers_marked marks)) → SaysFilters d ps set funs lines ⊎ SaysNoFilters d ps set funs lines
    at_marks symbols marks says also (inl marked) = inl (record { symbols = symbols; marks = marks }, ((says, also), marked))
    at_marks symbols marks says also (inr not) =
        inr (λ other said. not (subst (λ (l : List MarkFilter). AreMarked ps set (numbers_marked l))
        (one_mark_filters_said d lines other.marks marks apart said.0.1 also) said.1))

    go : SomeOrNone (SayFilters d.fun_names funs) → SomeOrNone (SayMarkFilters d lines)
        → SaysFilters d ps set funs lines ⊎ SaysNoFilters d ps set funs lines
    go (inr none) marks = inr (λ other said. none other.symbols said.0.0)
    go (inl symbols) (inr none) = inr (λ other said. none other.marks said.0.1)
    go (inl (symbols, says)) (inl (marks, also)) = at_marks symbols marks says also (are_marked_decided ps set (numbers_marked marks))

-- readings with their moves, for a choice of limits

abbrev CoversOrFault : Limits → TaskData → ReadingsData → Evidence (List Transfer) → Type 0
CoversOrFault limits T R E =
    (IsCovering T R E × IsClosed T × SmallFor limits T R) ⊎ ((f : CoveringFault) × IsFirstCoveringFault limits T R E f)

covers_or_fault : (limits : Limits) (T : TaskData) (R : ReadingsData) (E : Evidence (List Transfer)) → AreReadingsFor T R
    → CoversOrFault limits T R E
covers_or_fault with_limits T R E readings = small_or_fault T R E readings
covers_or_fault without_limits T R E readings = elim (covering_or_fault T R E readings) [
  | inl (is, closed) ↦ inl (is, closed, tt)
  | inr fault ↦ inr fault
]

-- a node

-- a node without interpretations
abbrev IsPlain : Node → Type 0
IsPlain (poly covered R E) = ⊥
IsPlain _ = Unit {0}

plain_small : (limits : Limits) (d : SystemData) (ps : List PairData) (set : List ℕ) (node : Node) → IsPlain node
    → IsSmallNode limits d.symbols d.rules ps set node
plain_small without_limits d ps set node plain = tt
plain_small with_limits d ps set done plain = tt
plain_small with_limits d ps set alone plain = tt
plain_small with_limits d ps set (blocks parts) plain = tt
plain_small with_limits d ps set (subterm args drop) plain = tt
plain_small with_limits d ps set (poly covered R E) plain = absurd plain
plain_small with_limits d ps set (order D E) plain = tt

poly_small : (limits : Limits) (d : SystemData) (ps : List PairData) (set : List ℕ) (usable : Option (List ℕ)) (R : ReadingsData)
    (E : Evidence (List Transfer)) → SmallFor limits (poly_task d ps set usable) R
    → IsSmallNode limits d.symbols d.rules ps set (poly (covered_rules usable (length d.rules)) R E)
poly_small with_limits d ps set usable R E small = small
poly_small without_limits d ps set usable R E small = tt

module _ (limits : Limits) (d : SystemData) (ps : List PairData) where
  -- the line says a node whose conditions hold of the set, and which is small where there are limits
  abbrev SaysRight : List ℕ → w.Node → Type 0
  SaysRight set line =
      (node : Node) × (left : List (List ℕ)) × SaysNode d line node × Leaves d.symbols d.rules ps set node left
      × IsSmallNode limits d.symbols d.rules ps set node

  abbrev NodeOrFault : List ℕ → w.Node → Type 0
  NodeOrFault set line = SaysRight set line ⊎ ((f : NodeFault) × IsNodeFault limits d ps set line f)

  done_or_fault : (set : List ℕ) → NodeOrFault set w.done
  done_or_fault [] = inl (done, [], tt, by_done, plain_small limits d ps [] done tt)
  done_or_fault (a ∷ set) = inr (NotEmpty, λ e. cc)

  alone_or_fault : (set : List ℕ) → NodeOrFault set w.alone
  alone_or_fault [] = inr (NotOne, λ a e. cc)
  alone_or_fault (a ∷ b ∷ set) = inr (NotOne, λ c e. cc)
  alone_or_fault (a ∷ []) = go (follows_decided d.rules ps a a)
    where
      go : Decided (Follows d.rules ps a a) → NodeOrFault (a ∷ []) w.alone
      go (inl follows) = inr (Loops a, (refl, follows))
      go (inr free) = inl (alone, [], tt, by_alone free, plain_small limits d ps (a ∷ []) alone tt)

  blocks_said : (set : List ℕ) (parts : List (List ℕ)) → BlocksOrFault (Follows d.rules ps) set parts → NodeOrFault set (w.blocks parts)
  blocks_said set parts (inl are) =
      let (sets, is) = sets_of_lists parts in
      inl (blocks parts, sets, refl, by_blocks are is, plain_small limits d ps set (blocks parts) tt)
  blocks_said set parts (inr (f, first)) = inr (Blocks f, first)

  subterm_said : (set : List ℕ) (lines : List w.Arg) (drop : List ℕ)
      → SaysProjection d ps set lines drop ⊎ HasSubtermFault d ps set lines drop → NodeOrFault set (w.subterm lines drop)
  subterm_said set lines drop (inl (args, says, is)) =
      let (rest, kept) = kept_set set drop in
      inl (subterm args drop, rest ∷ [], (says, refl), by_subterm is kept, plain_small limits d ps set (subterm args drop) tt)
  subterm_said set lines drop (inr (f, fault)) = inr (Subterm f, fault)

  poly_said : (set : List ℕ) (usable : Option (List ℕ)) (funs lines : List Interp) (rules pairs : List (List Move)) (drop : List ℕ)
      → Decided (CoversRules d usable) → SaysSome d ps set funs lines ⊎ SaysNothing d ps set funs lines
      → NodeOrFault set (w.interpretations usable funs lines rules pairs drop)
  poly_said set usable funs lines rules pairs drop (inr none) said = inr (BadUsable, none)
  poly_said set usable funs lines rules pairs drop (inl covers) (inr nothing) = inr (BadSymbols, (covers, nothing))
  poly_said set usable funs lines rules pairs drop (inl covers) (inl (R, said)) =
      go (covers_or_fault limits (poly_task d ps set usable) R (moves_of rules pairs drop) (record {
        kinds = (said_lists d.fun_names d.symbols.funs funs R.symbols said.0.0).1;
        marked = said.1;
      }))
    where
      go : CoversOrFault limits (poly_task d ps set usable) R (moves_of rules pairs drop)
          → NodeOrFault set (w.interpretations usable funs lines rules pairs drop)
      go (inr (f, first)) = inr (Poly f, (covers, R, said, first))
      go (inl (is, closed, small)) =
          let (rest, kept) = kept_set set drop in
          inl (
            poly (covered_rules usable (length d.rules)) R (moves_of rules pairs drop),
            rest ∷ [],
            (refl, said.0, refl),
            by_poly is (record { increasing = covers.0; are_rules = covers.1; closed = closed }) kept,
            poly_small limits d ps set usable R (moves_of rules pairs drop) small,
          )

  order_said : (set : List ℕ) (funs lines : List w.Filtering) (rules pairs : List Inference) (drop : List ℕ) → IsWellMadeSystem d
      → SaysFilters d ps set funs lines ⊎ SaysNoFilters d ps set funs lines → NodeOrFault set (w.order funs lines rules pairs drop)
  order_said set funs lines rules pairs drop made (inr nothing) = inr (BadSymbols, nothing)
  order_said set funs lines rules pairs drop made (inl (D, said)) =
      go (orients_or_fault (whole_task d.symbols d.rules ps set) D (inferences_of rules pairs drop) (record {
        each_symbol = as_many_filters d.fun_names funs D.symbols said.0.0 ∙ made.symbols_named;
        marked = said.1;
      }))
    where
      go : IsOrdering (whole_task d.symbols d.rules ps set) D (inferences_of rules pairs drop)
          ⊎ ((f : OrderingFault) × IsFirstOrderingFault (whole_task d.symbols d.rules ps set) D (inferences_of rules pairs drop) f)
          → NodeOrFault set (w.order funs lines rules pairs drop)
      go (inr (f, first)) = inr (Order f, (D, said, first))
      go (inl is) =
          let (rest, kept) = kept_set set drop in
          inl (
            order D (inferences_of rules pairs drop),
            rest ∷ [],
            (said.0, refl),
            by_order is kept,
            plain_small limits d ps set (order D (inferences_of rules pairs drop)) tt,
          )

  node_or_fault : (set : List ℕ) (line : w.Node) → IsWellMadeSystem d → NodeOrFault set line
  node_or_fault set w.done made = done_or_fault set
  node_or_fault set w.alone made = alone_or_fault set
  node_or_fault set (w.blocks parts) made =
      blocks_said set parts (blocks_or_fault (Follows d.rules ps) (follows_decided d.rules ps) set parts)
  node_or_fault set (w.subterm lines drop) made = subterm_said set lines drop (projection_said d ps set lines drop made.fun_names_distinct)
  node_or_fault set (w.interpretations usable funs lines rules pairs drop) made =
      poly_said set usable funs lines rules pairs drop (in_order_decided (length d.rules) (covered_rules usable (length d.rules)))
      (covering_said d ps set funs lines made.fun_names_distinct)
  node_or_fault set (w.order funs lines rules pairs drop) made =
      order_said set funs lines rules pairs drop made (ordering_said d ps set funs lines made.fun_names_distinct)

-- the nodes in preorder

no_more_small : (limits : Limits) (d : SystemData) (ps : List PairData) → AreSmallFor limits d.symbols d.rules ps [] []
no_more_small with_limits d ps = all_small
no_more_small without_limits d ps = tt

one_more_small : (limits : Limits) (d : SystemData) (ps : List PairData) (set : List ℕ) (left sets : List (List ℕ)) (node : Node)
    (nodes : List Node) → Leaves d.symbols d.rules ps set node left → IsSmallNode limits d.symbols d.rules ps set node
    → AreSmallFor limits d.symbols d.rules ps (left ++ sets) nodes
    → AreSmallFor limits d.symbols d.rules ps (set ∷ sets) (node ∷ nodes)
one_more_small with_limits d ps set left sets node nodes leaves small rest = one_small leaves small rest
one_more_small without_limits d ps set left sets node nodes leaves small rest = tt

-- the lines say nodes that prove the sets, and which are small where there are limits
abbrev AreProvedBy : Limits → SystemData → List PairData → List (List ℕ) → List w.Node → Type 0
AreProvedBy limits d ps sets lines =
    (nodes : List Node) × SayNodes d lines nodes × Proves d.symbols d.rules ps sets nodes
    × AreSmallFor limits d.symbols d.rules ps sets nodes

abbrev HasNodeFault : Limits → SystemData → List PairData → ℕ → List (List ℕ) → List w.Node → Type 0
HasNodeFault limits d ps k sets lines = (m : ℕ) × (f : NodeFault) × IsFirstNodeFault limits d ps k sets lines m f

proved_or_fault : (limits : Limits) (d : SystemData) (ps : List PairData) (k : ℕ) (sets : List (List ℕ)) (lines : List w.Node)
    → IsWellMadeSystem d → Preorder (length sets) lines
    → AreProvedBy limits d ps sets lines ⊎ HasNodeFault limits d ps k sets lines
proved_or_fault limits d ps k [] [] made counted = inl ([], tt, all_proved, no_more_small limits d ps)
proved_or_fault limits d ps k [] (line ∷ lines) made counted = absurd counted
proved_or_fault limits d ps k (set ∷ sets) [] made counted = absurd counted
proved_or_fault limits d ps k (set ∷ sets) (line ∷ lines) made counted = elim (node_or_fault limits d ps set line made) [
  | inr (f, fault) ↦ inr (k, f, at_first fault)
  | inl (node, left, says, leaves, small) ↦
      let count : length (left ++ sets) ≡ w.children line + length sets =
      length-append left sets ∙ ap (λ n. n + length sets) (leaves_count d ps set line node left says leaves) in
      elim (proved_or_fault limits d ps (suc k) (left ++ sets) lines made (subst (λ n. Preorder n lines) (sym count) counted)) [
        | inl (nodes, say, proves, few) ↦
            inl (
              node ∷ nodes,
              (says, say),
              one_proved leaves proves,
              one_more_small limits d ps set left sets node nodes leaves small few,
            )
        | inr (m, f, first) ↦ inr (m, f, behind_first says leaves small first)
      ]
]

-- a certificate of termination

abbrev YesOrFault : Limits → SystemData → List PairData → List ℕ → ℕ → List w.Node → Type 0
YesOrFault limits d ps ranks pairs lines =
    (IsValidYes d ps ranks pairs lines × IsSmallFor limits d ps lines)
    ⊎ ((r : CheckFault) × IsFirstYesFault limits d ps ranks pairs lines r)

small_yes_for : (limits : Limits) (d : SystemData) (ps : List PairData) (lines : List w.Node) (set : List ℕ) → IsWhole ps set
    → AreProvedBy limits d ps (set ∷ []) lines → IsSmallFor limits d ps lines
small_yes_for with_limits d ps lines set whole (nodes, say, proves, small) =
    record { set = set; whole = whole; nodes = nodes; says = say; small = small }
small_yes_for without_limits d ps lines set whole proved = tt

valid_or_yes_fault : (limits : Limits) (d : SystemData) (ps : List PairData) (ranks : List ℕ) (pairs : ℕ) (lines : List w.Node)
    → IsWellMadeSystem d → Preorder 1 lines → YesOrFault limits d ps ranks pairs lines
valid_or_yes_fault limits d ps ranks pairs lines made counted =
    go (equal_decided (length ranks) d.symbols.sorts) (passing_or_break d.symbols (rank_of ranks) d.rules) (equal_decided pairs (length ps))
  where
    go : Decided (length ranks ≡ d.symbols.sorts) → Passing d.symbols (rank_of ranks) d.rules
        ⊎ ((i z : ℕ) × IsFirstBreak d.symbols (rank_of ranks) d.rules i z) → Decided (pairs ≡ length ps)
        → YesOrFault limits d ps ranks pairs lines
    go (inr other) passing count = inr (check.Rejected row.RankCount, rank_count other)
    go (inl ranked) (inr (i, z, first)) count = inr (check.Rejected (row.Inaccessible i z), inaccessible ranked first)
    go (inl ranked) (inl passing) (inr other) = inr (check.Rejected (row.PairCount (length ps)), pair_count ranked passing other)
    go (inl ranked) (inl passing) (inl right) =
        let (set, whole) = whole_set ps in
        elim (proved_or_fault limits d ps 0 (set ∷ []) lines made counted) [
          | inl (nodes, say, proves, small) ↦
              inl (
                record {
                  rank_count = ranked;
                  passing = passing;
                  pair_count = right;
                  set = set;
                  whole = whole;
                  nodes = nodes;
                  says = say;
                  proves = proves;
                },
                small_yes_for limits d ps lines set whole (nodes, say, proves, small),
              )
          | inr (k, f, first) ↦ inr (at_node k f, in_node ranked passing right whole first)
        ]

-- a certificate of either kind

abbrev HasFault : Limits → SystemData → List PairData → Cert → Type 0
HasFault limits d ps c = (r : CheckFault) × IsFirstFault limits d ps c r

valid_or_claim_fault : (limits : Limits) (d : SystemData) (ps : List PairData) (t : RTm) (steps : List taken.Step) (at : List ℕ)
    (puts : List w.Put) → ClaimOrFault d t steps at puts
    → IsValidCert d ps (no t steps at puts) ⊎ HasFault limits d ps (no t steps at puts)
valid_or_claim_fault limits d ps t steps at puts (inl valid) = inl valid
valid_or_claim_fault limits d ps t steps at puts (inr (f, first)) = inr (check.Rejected (of_claim f), (f, refl, first))

pub valid_or_faulty : (d : SystemData) (ps : List PairData) (c : Cert) → IsWellMadeSystem d → IsCert c
    → IsValidCert d ps c ⊎ HasFault without_limits d ps c
valid_or_faulty d ps (yes version ranks pairs lines) made cert =
    elim (valid_or_yes_fault without_limits d ps ranks pairs lines made cert.parts.5) [
      | inl (valid, small) ↦ inl valid
      | inr fault ↦ inr fault
    ]
valid_or_faulty d ps (no t steps at puts) made cert =
    valid_or_claim_fault without_limits d ps t steps at puts (claim_or_fault d t steps at puts made.rules)

pub accepted_or_faulty : (d : SystemData) (ps : List PairData) (c : Cert) → IsWellMadeSystem d → IsCert c
    → (IsValidCert d ps c × IsSmallCert d ps c) ⊎ HasFault with_limits d ps c
accepted_or_faulty d ps (yes version ranks pairs lines) made cert =
    valid_or_yes_fault with_limits d ps ranks pairs lines made cert.parts.5
accepted_or_faulty d ps (no t steps at puts) made cert =
    elim (valid_or_claim_fault with_limits d ps t steps at puts (claim_or_fault d t steps at puts made.rules)) [
      | inl valid ↦ inl (valid, tt)
      | inr fault ↦ inr fault
    ]
