-- A node leaves one list of sets, one thing at most is wrong first with it, but that values may exceed both limits, and none where its
-- conditions hold.
use Rattle.std.proofs.Common.{◌≡◌, ◌≢◌, ℕ, inl, inr, List, [], ◌∷◌, length, Option, Contains, refl, sym, ap, subst, ◌∙◌}
use Rattle.wh_terms.specs.Typing.{Symbols}
use Rattle.wh_terms.specs.Rules.{RewriteRule}
use Rattle.wh_system.specs.Systems.{SystemData}
use Rattle.wh_system.specs.WellMade.{AreDistinct}
use Rattle.wh_pairs.specs.PairData.{PairData}
use Rattle.wh_graph.specs.May.{Follows}
use Rattle.wh_graph.specs.Blocks.{IsFirstBlockFault}
use Rattle.wh_graph.specs.declared.blocks.BlockFault.{BlockFault}
use Rattle.wh_subterm.specs.Projections.{Chosen}
use Rattle.wh_subterm.specs.SubtermRows.{AreForMarked, IsProjection, IsFirstSubtermFault}
use Rattle.wh_subterm.specs.declared.projection.SubtermFault.{SubtermFault}
use Rattle.wh_subterm.specs.declared.projection.SubtermFault.TheVariants as projected
use Rattle.wh_cert.specs.Written as w
use Rattle.wh_cert.specs.Interps.{Interp}
use Rattle.wh_reduction_pairs.specs.TaskData.{task_over, whole_task}
use Rattle.wh_reduction_pairs.specs.ReductionPair.{Evidence}
use Rattle.wh_hopoly.specs.Moves.{Transfer}
use Rattle.wh_poly.specs.declared.excess.Excess.{Excess}
use Rattle.wh_hopoly.specs.declared.expression.Move.{Move}
use Rattle.wh_polycheck.specs.Readings.{ReadingsData}
use Rattle.wh_polycheck.specs.Covering.{IsCovering}
use Rattle.wh_poly_covering.specs.CoveringFaults.{IsFirstCoveringFault}
use Rattle.wh_polycheck.specs.Small.{Limits, without_limits, with_limits}
use Rattle.wh_poly_covering.specs.declared.fault.CoveringFault.{CoveringFault}
use Rattle.wh_order_inference.specs.Inferences.{Inference}
use Rattle.wh_order_node.specs.Filterings.{FilteringData}
use Rattle.wh_order_node.specs.Ordering.{IsOrdering}
use Rattle.wh_order_check.specs.OrderingFaults.{IsFirstOrderingFault}
use Rattle.wh_order_check.specs.declared.fault.OrderingFault.{OrderingFault}
use Rattle.wh_order_check.proofs.OneOrdering.{ordering_fault_one, ordering_or_fault}
use Rattle.wh_usable.specs.Closed.{AreRulesInOrder, IsUsable}
use Rattle.wh_proof.specs.Nodes.{Node, done, alone, blocks, subterm, poly, order, AreSetsOf, no_sets, more_sets, Leaves, by_done, by_alone, by_blocks, by_subterm, by_poly, by_order}
use Rattle.wh_proof.specs.Looked.{SayChoices, SaysNode, CoversRules, poly_task, moves_of, inferences_of}
use Rattle.wh_proof.specs.Small.{IsSmallNode}
use Rattle.wh_checker.specs.Faults.{IsSubtermFault, SayCovering, SayOrdering, IsNodeFault, at_node, in_excess}
use Rattle.wh_checker.specs.declared.rejected.NodeFault.{NodeFault}
use Rattle.wh_checker.specs.declared.rejected.NodeFault.TheVariants.{NotEmpty, NotOne, Loops, Blocks, Subterm, BadUsable, BadSymbols, Poly, Order}
use Rattle.wh_pairs.proofs.SetLemmas.{set_one}
use Rattle.wh_proof.proofs.ChoiceLemmas.{one_list_said}
use Rattle.wh_proof.proofs.OneNode.{one_readings_said, one_filterings_said}
use Rattle.wh_checker.proofs.RowLaws.{block_fault_one, blocks_or_fault, subterm_fault_one, projection_or_fault}
use Rattle.wh_checker.proofs.CoveringLaws.{CoveringsAlike, SmallFor, IsRejection, covering_fault_one, covering_or_fault, fault_unlimited}

sets_one : (parts xs ys : List (List ℕ)) → AreSetsOf parts xs → AreSetsOf parts ys → xs ≡ ys
sets_one [] [] [] no_sets no_sets = refl
sets_one (part ∷ parts) (x ∷ xs) (y ∷ ys) (more_sets is rest) (more_sets also others) =
    cc (set_one (Contains part) x y is also, sets_one parts xs ys rest others)
sets_one [] (x ∷ xs) ys none also = elim none [ ]
sets_one [] [] (y ∷ ys) is none = elim none [ ]
sets_one (part ∷ parts) [] ys none also = elim none [ ]
sets_one (part ∷ parts) (x ∷ xs) [] is none = elim none [ ]

pub leaves_one : (S : Symbols) (rules : List RewriteRule) (ps : List PairData) (set : List ℕ) (node : Node) (left other : List (List ℕ))
    → Leaves S rules ps set node left → Leaves S rules ps set node other → left ≡ other
leaves_one S rules ps set done [] [] by_done by_done = refl
leaves_one S rules ps set alone [] [] (by_alone free) (by_alone also) = refl
leaves_one S rules ps set (blocks parts) left other (by_blocks are sets) (by_blocks also others) = sets_one parts left other sets others
leaves_one S rules ps set (subterm args drop) left other (by_subterm {rest = rest} is kept) (by_subterm {rest = others} also same) =
    ap (λ l. l ∷ []) (set_one _ rest others kept same)
leaves_one S rules ps set (poly covered R E) left other (by_poly {rest = rest} is all kept) (by_poly {rest = others} also whole same) =
    ap (λ l. l ∷ []) (set_one _ rest others kept same)
leaves_one S rules ps set (order D E) left other (by_order {rest = rest} is kept) (by_order {rest = others} also same) =
    ap (λ l. l ∷ []) (set_one _ rest others kept same)
leaves_one S rules ps set done (_ ∷ _) other leaves also = elim leaves [ ]
leaves_one S rules ps set done [] (_ ∷ _) leaves also = elim also [ ]
leaves_one S rules ps set alone (_ ∷ _) other leaves also = elim leaves [ ]
leaves_one S rules ps set alone [] (_ ∷ _) leaves also = elim also [ ]

-- the faults of nodes, by their kinds

data ChoiceFault (d : SystemData) (ps : List PairData) (set : List ℕ) (lines : List w.Arg) (drop : List ℕ) : SubtermFault → Type 0 where
  no_args : ((args : List Chosen) → SayChoices d lines args → AreForMarked ps set args → ⊥)
      → ChoiceFault d ps set lines drop projected.BadArgs
  with_args : {f : SubtermFault} (args : List Chosen) → SayChoices d lines args → AreForMarked ps set args
      → IsFirstSubtermFault d.rules ps set args drop f → ChoiceFault d ps set lines drop f

choice_fault : (d : SystemData) (ps : List PairData) (set : List ℕ) (lines : List w.Arg) (drop : List ℕ) (f : SubtermFault)
    → IsSubtermFault d ps set lines drop f → ChoiceFault d ps set lines drop f
choice_fault d ps set lines drop projected.BadArgs not = no_args not
choice_fault d ps set lines drop (projected.NoProjection f) (args, says, first) = with_args args says first.0 first
choice_fault d ps set lines drop (projected.BadArgument f) (args, says, first) = with_args args says first.0 first
choice_fault d ps set lines drop projected.BadDrop (args, says, first) = with_args args says first.0 first
choice_fault d ps set lines drop (projected.NotDecreasing n) (args, says, first) = with_args args says first.0 first

choice_fault_one : (d : SystemData) (ps : List PairData) (set : List ℕ) (lines : List w.Arg) (drop : List ℕ) (f g : SubtermFault)
    → AreDistinct d.fun_names → ChoiceFault d ps set lines drop f → ChoiceFault d ps set lines drop g → f ≡ g
choice_fault_one d ps set lines drop f g apart (no_args not) (no_args also) = refl
choice_fault_one d ps set lines drop f g apart (no_args not) (with_args args says marked first) = absurd (not args says marked)
choice_fault_one d ps set lines drop f g apart (with_args args says marked first) (no_args not) = absurd (not args says marked)
choice_fault_one d ps set lines drop f g apart (with_args args says marked first) (with_args others also same other) =
    let one : args ≡ others = one_list_said d lines args others apart says also in
    subterm_fault_one d.rules ps set others drop f g (subst (λ (cs : List Chosen). IsFirstSubtermFault d.rules ps set cs drop f) one first)
    other

choices_or_fault : (d : SystemData) (ps : List PairData) (set : List ℕ) (lines : List w.Arg) (args : List Chosen) (drop : List ℕ)
    (f : SubtermFault) → AreDistinct d.fun_names → SayChoices d lines args → IsProjection d.rules ps set args drop
    → ChoiceFault d ps set lines drop f → ⊥
choices_or_fault d ps set lines args drop f apart says is (no_args not) = not args says is.marked
choices_or_fault d ps set lines args drop f apart says is (with_args others also marked first) =
    let one : others ≡ args = one_list_said d lines others args apart also says in
    projection_or_fault d.rules ps set args drop f is (subst (λ (cs : List Chosen). IsFirstSubtermFault d.rules ps set cs drop f) one first)

from_choice : (d : SystemData) (ps : List PairData) (set : List ℕ) (lines : List w.Arg) (drop : List ℕ) (f : SubtermFault)
    → ChoiceFault d ps set lines drop f → IsSubtermFault d ps set lines drop f
from_choice d ps set lines drop f (no_args not) = not
from_choice d ps set lines drop projected.BadArgs (with_args args says marked first) = absurd (first marked)
from_choice d ps set lines drop (projected.NoProjection f) (with_args args says marked first) = (args, says, first)
from_choice d ps set lines drop (projected.BadArgument f) (with_args args says marked first) = (args, says, first)
from_choice d ps set lines drop projected.BadDrop (with_args args says marked first) = (args, says, first)
from_choice d ps set lines drop (projected.NotDecreasing n) (with_args args says marked first) = (args, says, first)

-- the same for nodes of interpretations
data PolyFault (limits : Limits) (d : SystemData) (ps : List PairData) (set : List ℕ) (usable : Option (List ℕ)) (funs lines : List Interp)
    (rules pairs : List (List Move)) (drop : List ℕ) : NodeFault → Type 0 where
  no_rules : (CoversRules d usable → ⊥) → PolyFault limits d ps set usable funs lines rules pairs drop BadUsable
  no_symbols : CoversRules d usable → ((R : ReadingsData) → SayCovering d ps set funs lines R → ⊥)
      → PolyFault limits d ps set usable funs lines rules pairs drop BadSymbols
  with_symbols : {f : CoveringFault} (R : ReadingsData) → CoversRules d usable → SayCovering d ps set funs lines R
      → IsFirstCoveringFault limits (poly_task d ps set usable) R (moves_of rules pairs drop) f
      → PolyFault limits d ps set usable funs lines rules pairs drop (Poly f)

-- it is that a value exceeds a limit
pub record IsExcessOfNode (f : NodeFault) : Type 0 where
  pub excess : Excess
  pub row : (k : ℕ) → at_node k f ≡ in_excess k excess

-- two faults are one, or both are that a value exceeds a limit
pub data NodesAlike (f g : NodeFault) : Type 0 where
  one_fault : f ≡ g → NodesAlike f g
  both_exceed : IsExcessOfNode f → IsExcessOfNode g → NodesAlike f g

polys_alike : (f g : CoveringFault) → CoveringsAlike f g → NodesAlike (Poly f) (Poly g)
polys_alike f g (inl same) = one_fault (ap Poly same)
polys_alike f g (inr ((e, is), (h, also))) = both_exceed (record { excess = e; row = is }) (record { excess = h; row = also })

poly_fault_one : (limits : Limits) (d : SystemData) (ps : List PairData) (set : List ℕ) (usable : Option (List ℕ)) (funs lines : List Interp)
    (rules pairs : List (List Move)) (drop : List ℕ) (f g : NodeFault) → AreDistinct d.fun_names
    → PolyFault limits d ps set usable funs lines rules pairs drop f → PolyFault limits d ps set usable funs lines rules pairs drop g
    → NodesAlike f g
poly_fault_one limits d ps set usable funs lines rules pairs drop f g apart (no_rules none) (no_rules also) = one_fault refl
poly_fault_one limits d ps set usable funs lines rules pairs drop f g apart (no_rules none) (no_symbols covers also) = absurd (none covers)
poly_fault_one limits d ps set usable funs lines rules pairs drop f g apart (no_rules none) (with_symbols R covers says first) =
    absurd (none covers)
poly_fault_one limits d ps set usable funs lines rules pairs drop f g apart (no_symbols covers also) (no_rules none) = absurd (none covers)
poly_fault_one limits d ps set usable funs lines rules pairs drop f g apart (with_symbols R covers says first) (no_rules none) =
    absurd (none covers)
poly_fault_one limits d ps set usable funs lines rules pairs drop f g apart (no_symbols covers none) (no_symbols too also) = one_fault refl
poly_fault_one limits d ps set usable funs lines rules pairs drop f g apart (no_symbols covers none) (with_symbols R too says first) =
    absurd (none R says)
poly_fault_one limits d ps set usable funs lines rules pairs drop f g apart (with_symbols R covers says first) (no_symbols too none) =
    absurd (none R says)
poly_fault_one limits d ps set usable funs lines rules pairs drop f g apart (with_symbols {f = a} R covers says first)
    (with_symbols {f = b} Q too also other) =
    let one : Q ≡ R = one_readings_said d funs lines Q R apart also.0 says.0 in
    polys_alike a b (covering_fault_one limits (poly_task d ps set usable) R (moves_of rules pairs drop) a b first
    (subst (λ (x : ReadingsData). IsFirstCoveringFault limits (poly_task d ps set usable) x
    (moves_of rules pairs drop) b) one other))

-- and for nodes of path orders
data OrderFault (d : SystemData) (ps : List PairData) (set : List ℕ) (funs lines : List w.Filtering) (rules pairs : List Inference)
    (drop : List ℕ) : NodeFault → Type 0 where
  no_filters : ((D : FilteringData) → SayOrdering d ps set funs lines D → ⊥) → OrderFault d ps set funs lines rules pairs drop BadSymbols
  with_filters : {f : OrderingFault} (D : FilteringData) → SayOrdering d ps set funs lines D
      → IsFirstOrderingFault (whole_task d.symbols d.rules ps set) D (inferences_of rules pairs drop) f
      → OrderFault d ps set funs lines rules pairs drop (Order f)

order_fault_one : (d : SystemData) (ps : List PairData) (set : List ℕ) (funs lines : List w.Filtering) (rules pairs : List Inference)
    (drop : List ℕ) (f g : NodeFault) → AreDistinct d.fun_names → OrderFault d ps set funs lines rules pairs drop f
    → OrderFault d ps set funs lines rules pairs drop g → f ≡ g
order_fault_one d ps set funs lines rules pairs drop f g apart (no_filters none) (no_filters also) = refl
order_fault_one d ps set funs lines rules pairs drop f g apart (no_filters none) (with_filters D says first) = absurd (none D says)
order_fault_one d ps set funs lines rules pairs drop f g apart (with_filters D says first) (no_filters none) = absurd (none D says)
order_fault_one d ps set funs lines rules pairs drop f g apart (with_filters {f = a} D says first)
    (with_filters {f = b} B also other) =
    let one : B ≡ D = one_filterings_said d funs lines B D apart also.0 says.0 in
    ap Order (ordering_fault_one (whole_task d.symbols d.rules ps set) D (inferences_of rules pairs drop) a b first
    (subst (λ (x : FilteringData). IsFirstOrderingFault (whole_task d.symbols d.rules ps set) x
    (inferences_of rules pairs drop) b) one other))

ordering_or_order : (d : SystemData) (ps : List PairData) (set : List ℕ) (funs lines : List w.Filtering) (rules pairs : List Inference)
    (listed : List ℕ) (D : FilteringData) (E : Evidence Inference) (f : NodeFault) → AreDistinct d.fun_names
    → SaysNode d (w.order funs lines rules pairs listed) (order D E) → IsOrdering (whole_task d.symbols d.rules ps set) D E
    → OrderFault d ps set funs lines rules pairs listed f → ⊥
ordering_or_order d ps set funs lines rules pairs listed D E f apart says is (no_filters none) = none D (says.0, is.filters.marked)
ordering_or_order d ps set funs lines rules pairs listed D E f apart says is (with_filters {f = g} B also first) =
    let one : B ≡ D = one_filterings_said d funs lines B D apart also.0 says.0 in
    ordering_or_fault (whole_task d.symbols d.rules ps set) D E is g
    (subst (λ (x : Evidence Inference). IsFirstOrderingFault (whole_task d.symbols d.rules ps set) D x g) (sym says.1)
    (subst (λ (x : FilteringData). IsFirstOrderingFault (whole_task d.symbols d.rules ps set) x
    (inferences_of rules pairs listed) g) one first))

small_for : (limits : Limits) (S : Symbols) (rules : List RewriteRule) (ps : List PairData) (set covered : List ℕ) (R : ReadingsData)
    (E : Evidence (List Transfer)) → IsSmallNode limits S rules ps set (poly covered R E)
    → SmallFor limits (task_over S rules ps set covered) R
small_for with_limits S rules ps set covered R E small = small
small_for without_limits S rules ps set covered R E small = tt

covering_or_poly : (limits : Limits) (d : SystemData) (ps : List PairData) (set : List ℕ) (usable : Option (List ℕ))
    (funs lines : List Interp) (rules pairs : List (List Move)) (listed covered : List ℕ) (R : ReadingsData)
    (E : Evidence (List Transfer)) (f : NodeFault) → AreDistinct d.fun_names
    → SaysNode d (w.interpretations usable funs lines rules pairs listed) (poly covered R E)
    → IsCovering (task_over d.symbols d.rules ps set covered) R E → IsUsable (task_over d.symbols d.rules ps set covered)
    → SmallFor limits (task_over d.symbols d.rules ps set covered) R
    → PolyFault limits d ps set usable funs lines rules pairs listed f → ⊥
covering_or_poly limits d ps set usable funs lines rules pairs listed covered R E f apart says is closed small (no_rules none) =
    none (subst (AreRulesInOrder (length d.rules)) says.0 (closed.increasing, closed.are_rules))
covering_or_poly limits d ps set usable funs lines rules pairs listed covered R E f apart says is closed small (no_symbols covers none) =
    none R (says.1, is.readings.marked)
covering_or_poly limits d ps set usable funs lines rules pairs listed covered R E f apart says is closed small
    (with_symbols {f = g} Q covers also first) =
    let one : Q ≡ R = one_readings_said d funs lines Q R apart also.0 says.1 in
    covering_or_fault limits (task_over d.symbols d.rules ps set covered) R E is closed.closed small g
    (subst (λ (l : List ℕ). IsFirstCoveringFault limits (task_over d.symbols d.rules ps set l) R E g) (sym says.0)
    (subst (λ (x : Evidence (List Transfer)). IsFirstCoveringFault limits (poly_task d ps set usable) R x g) (sym says.2)
    (subst (λ (x : ReadingsData). IsFirstCoveringFault limits (poly_task d ps set usable) x
    (moves_of rules pairs listed) g) one first)))

data KindFault (limits : Limits) (d : SystemData) (ps : List PairData) (set : List ℕ) : w.Node → NodeFault → Type 0 where
  of_done : set ≢ [] → KindFault limits d ps set w.done NotEmpty
  of_alone : ((a : ℕ) → set ≢ a ∷ []) → KindFault limits d ps set w.alone NotOne
  of_loop : {a : ℕ} → set ≡ a ∷ [] → Follows d.rules ps a a → KindFault limits d ps set w.alone (Loops a)
  of_blocks : {parts : List (List ℕ)} {f : BlockFault} → IsFirstBlockFault (Follows d.rules ps) set parts f
      → KindFault limits d ps set (w.blocks parts) (Blocks f)
  of_subterm : {lines : List w.Arg} {drop : List ℕ} {f : SubtermFault} → ChoiceFault d ps set lines drop f
      → KindFault limits d ps set (w.subterm lines drop) (Subterm f)
  of_poly : {usable : Option (List ℕ)} {funs lines : List Interp} {rules pairs : List (List Move)} {drop : List ℕ} {f : NodeFault}
      → PolyFault limits d ps set usable funs lines rules pairs drop f → KindFault limits d ps set
      (w.interpretations usable funs lines rules pairs drop) f
  of_order : {funs lines : List w.Filtering} {rules pairs : List Inference} {drop : List ℕ} {f : NodeFault}
      → OrderFault d ps set funs lines rules pairs drop f → KindFault limits d ps set (w.order funs lines rules pairs drop) f

kind_fault : (limits : Limits) (d : SystemData) (ps : List PairData) (set : List ℕ) (line : w.Node) (f : NodeFault)
    → IsNodeFault limits d ps set line f → KindFault limits d ps set line f
kind_fault limits d ps set w.done NotEmpty fault = of_done fault
kind_fault limits d ps set w.done NotOne fault = absurd fault
kind_fault limits d ps set w.done (Loops a) fault = absurd fault
kind_fault limits d ps set w.done (Blocks f) fault = absurd fault
kind_fault limits d ps set w.done (Subterm f) fault = absurd fault
kind_fault limits d ps set w.done BadUsable fault = absurd fault
kind_fault limits d ps set w.done BadSymbols fault = absurd fault
kind_fault limits d ps set w.done (Poly f) fault = absurd fault
kind_fault limits d ps set w.done (Order f) fault = absurd fault
kind_fault limits d ps set w.alone NotEmpty fault = absurd fault
kind_fault limits d ps set w.alone NotOne fault = of_alone fault
kind_fault limits d ps set w.alone (Loops a) (is, follows) = of_loop is follows
kind_fault limits d ps set w.alone (Blocks f) fault = absurd fault
kind_fault limits d ps set w.alone (Subterm f) fault = absurd fault
kind_fault limits d ps set w.alone BadUsable fault = absurd fault
kind_fault limits d ps set w.alone BadSymbols fault = absurd fault
kind_fault limits d ps set w.alone (Poly f) fault = absurd fault
kind_fault limits d ps set w.alone (Order f) fault = absurd fault
kind_fault limits d ps set (w.blocks parts) NotEmpty fault = absurd fault
kind_fault limits d ps set (w.blocks parts) NotOne fault = absurd fault
kind_fault limits d ps set (w.blocks parts) (Loops a) fault = absurd fault
kind_fault limits d ps set (w.blocks parts) (Blocks f) fault = of_blocks fault
kind_fault limits d ps set (w.blocks parts) (Subterm f) fault = absurd fault
kind_fault limits d ps set (w.blocks parts) BadUsable fault = absurd fault
kind_fault limits d ps set (w.blocks parts) BadSymbols fault = absurd fault
kind_fault limits d ps set (w.blocks parts) (Poly f) fault = absurd fault
kind_fault limits d ps set (w.blocks parts) (Order f) fault = absurd fault
kind_fault limits d ps set (w.subterm lines drop) NotEmpty fault = absurd fault
kind_fault limits d ps set (w.subterm lines drop) NotOne fault = absurd fault
kind_fault limits d ps set (w.subterm lines drop) (Loops a) fault = absurd fault
kind_fault limits d ps set (w.subterm lines drop) (Blocks f) fault = absurd fault
kind_fault limits d ps set (w.subterm lines drop) (Subterm f) fault = of_subterm (choice_fault d ps set lines drop f fault)
kind_fault limits d ps set (w.subterm lines drop) BadUsable fault = absurd fault
kind_fault limits d ps set (w.subterm lines drop) BadSymbols fault = absurd fault
kind_fault limits d ps set (w.subterm lines drop) (Poly f) fault = absurd fault
kind_fault limits d ps set (w.subterm lines drop) (Order f) fault = absurd fault
kind_fault limits d ps set (w.interpretations usable funs lines rules pairs drop) NotEmpty fault = absurd fault
kind_fault limits d ps set (w.interpretations usable funs lines rules pairs drop) NotOne fault = absurd fault
kind_fault limits d ps set (w.interpretations usable funs lines rules pairs drop) (Loops a) fault = absurd fault
kind_fault limits d ps set (w.interpretations usable funs lines rules pairs drop) (Blocks f) fault = absurd fault
kind_fault limits d ps set (w.interpretations usable funs lines rules pairs drop) (Subterm f) fault = absurd fault
kind_fault limits d ps set (w.interpretations usable funs lines rules pairs drop) BadUsable none = of_poly (no_rules none)
kind_fault limits d ps set (w.interpretations usable funs lines rules pairs drop) BadSymbols (covers, none) =
    of_poly (no_symbols covers none)
kind_fault limits d ps set (w.interpretations usable funs lines rules pairs drop) (Poly f) (covers, R, says, first) =
    of_poly (with_symbols R covers says first)
kind_fault limits d ps set (w.interpretations usable funs lines rules pairs drop) (Order f) fault = absurd fault
kind_fault limits d ps set (w.order funs lines rules pairs drop) NotEmpty fault = absurd fault
kind_fault limits d ps set (w.order funs lines rules pairs drop) NotOne fault = absurd fault
kind_fault limits d ps set (w.order funs lines rules pairs drop) (Loops a) fault = absurd fault
kind_fault limits d ps set (w.order funs lines rules pairs drop) (Blocks f) fault = absurd fault
kind_fault limits d ps set (w.order funs lines rules pairs drop) (Subterm f) fault = absurd fault
kind_fault limits d ps set (w.order funs lines rules pairs drop) BadUsable fault = absurd fault
kind_fault limits d ps set (w.order funs lines rules pairs drop) BadSymbols none = of_order (no_filters none)
kind_fault limits d ps set (w.order funs lines rules pairs drop) (Poly f) fault = absurd fault
kind_fault limits d ps set (w.order funs lines rules pairs drop) (Order f) (D, says, first) = of_order (with_filters D says first)

kind_fault_one : (limits : Limits) (d : SystemData) (ps : List PairData) (set : List ℕ) (line : w.Node) (f g : NodeFault)
    → AreDistinct d.fun_names → KindFault limits d ps set line f → KindFault limits d ps set line g → NodesAlike f g
kind_fault_one limits d ps set w.done f g apart (of_done some) (of_done also) = one_fault refl
kind_fault_one limits d ps set w.alone f g apart (of_alone other) (of_alone also) = one_fault refl
kind_fault_one limits d ps set w.alone f g apart (of_alone other) (of_loop {a = a} is follows) = absurd (other a is)
kind_fault_one limits d ps set w.alone f g apart (of_loop {a = a} is follows) (of_alone other) = absurd (other a is)
kind_fault_one limits d ps set w.alone f g apart (of_loop {a = a} is follows) (of_loop {a = b} also again) =
    let both : a ∷ [] ≡ b ∷ [] = sym is ∙ also in let same : a ≡ b = cc both in one_fault (ap Loops same)
kind_fault_one limits d ps set (w.blocks parts) f g apart (of_blocks {f = a} first) (of_blocks {f = b} other) =
    one_fault (ap Blocks (block_fault_one (Follows d.rules ps) set parts a b first other))
kind_fault_one limits d ps set (w.subterm lines drop) f g apart (of_subterm {f = a} first) (of_subterm {f = b} other) =
    one_fault (ap Subterm (choice_fault_one d ps set lines drop a b apart first other))
kind_fault_one limits d ps set (w.interpretations usable funs lines rules pairs drop) f g apart (of_poly first) (of_poly other) =
    poly_fault_one limits d ps set usable funs lines rules pairs drop f g apart first other
kind_fault_one limits d ps set (w.order funs lines rules pairs drop) f g apart (of_order first) (of_order other) =
    one_fault (order_fault_one d ps set funs lines rules pairs drop f g apart first other)

pub node_fault_one : (limits : Limits) (d : SystemData) (ps : List PairData) (set : List ℕ) (line : w.Node) (f g : NodeFault)
    → AreDistinct d.fun_names → IsNodeFault limits d ps set line f → IsNodeFault limits d ps set line g → NodesAlike f g
node_fault_one limits d ps set line f g apart fault other =
    kind_fault_one limits d ps set line f g apart (kind_fault limits d ps set line f fault) (kind_fault limits d ps set line g other)

leaves_or_kind : (limits : Limits) (d : SystemData) (ps : List PairData) (set : List ℕ) (line : w.Node) (node : Node) (left : List (List ℕ))
    (f : NodeFault) → AreDistinct d.fun_names → SaysNode d line node → Leaves d.symbols d.rules ps set node left
    → IsSmallNode limits d.symbols d.rules ps set node → KindFault limits d ps set line f → ⊥
leaves_or_kind limits d ps set w.done node left f apart says by_done small (of_done some) = some refl
leaves_or_kind limits d ps set w.alone node left f apart says (by_alone {a = a} free) small (of_alone other) = other a refl
leaves_or_kind limits d ps set w.alone node left f apart says (by_alone {a = a} free) small (of_loop {a = b} is follows) =
    let same : b ≡ a = cc is in free (subst (λ n. Follows d.rules ps n n) same follows)
leaves_or_kind limits d ps set (w.blocks listed) node left f apart says (by_blocks {parts = parts} are sets) small
    (of_blocks {f = g} first) =
    blocks_or_fault (Follows d.rules ps) set parts g are (subst
    (λ (l : List (List ℕ)). IsFirstBlockFault (Follows d.rules ps) set l g) says first)
leaves_or_kind limits d ps set (w.subterm lines listed) node left f apart says (by_subterm {drop = drop} {args = args} is kept) small
    (of_subterm {f = g} first) =
    choices_or_fault d ps set lines args drop g apart says.0 is (subst (λ (l : List ℕ). ChoiceFault d ps set lines l g) says.1 first)
leaves_or_kind limits d ps set (w.interpretations usable funs lines rules pairs listed) node left f apart says
    (by_poly {covered = covered} {R = R} {E = E} is closed kept) small (of_poly first) =
    covering_or_poly limits d ps set usable funs lines rules pairs listed covered R E f apart says is closed
    (small_for limits d.symbols d.rules ps set covered R E small) first
leaves_or_kind limits d ps set (w.order funs lines rules pairs listed) node left f apart says (by_order {D = D} {E = E} is kept) small
    (of_order first) =
    ordering_or_order d ps set funs lines rules pairs listed D E f apart says is first
leaves_or_kind limits d ps set w.done node left f apart says (by_alone free) small fault = elim says [ ]
leaves_or_kind limits d ps set w.done node left f apart says (by_blocks are sets) small fault = elim says [ ]
leaves_or_kind limits d ps set w.done node left f apart says (by_subterm is kept) small fault = elim says [ ]
leaves_or_kind limits d ps set w.done node left f apart says (by_poly is all kept) small fault = elim says [ ]
leaves_or_kind limits d ps set w.done node left f apart says (by_order is kept) small fault = elim says [ ]
leaves_or_kind limits d ps set w.alone node left f apart says by_done small fault = elim says [ ]
leaves_or_kind limits d ps set w.alone node left f apart says (by_blocks are sets) small fault = elim says [ ]
leaves_or_kind limits d ps set w.alone node left f apart says (by_subterm is kept) small fault = elim says [ ]
leaves_or_kind limits d ps set w.alone node left f apart says (by_poly is all kept) small fault = elim says [ ]
leaves_or_kind limits d ps set w.alone node left f apart says (by_order is kept) small fault = elim says [ ]
leaves_or_kind limits d ps set (w.blocks listed) node left f apart says by_done small fault = elim says [ ]
leaves_or_kind limits d ps set (w.blocks listed) node left f apart says (by_alone free) small fault = elim says [ ]
leaves_or_kind limits d ps set (w.blocks listed) node left f apart says (by_subterm is kept) small fault = elim says [ ]
leaves_or_kind limits d ps set (w.blocks listed) node left f apart says (by_poly is all kept) small fault = elim says [ ]
leaves_or_kind limits d ps set (w.blocks listed) node left f apart says (by_order is kept) small fault = elim says [ ]
leaves_or_kind limits d ps set (w.subterm lines listed) node left f apart says by_done small fault = elim says [ ]
leaves_or_kind limits d ps set (w.subterm lines listed) node left f apart says (by_alone free) small fault = elim says [ ]
leaves_or_kind limits d ps set (w.subterm lines listed) node left f apart says (by_blocks are sets) small fault = elim says [ ]
leaves_or_kind limits d ps set (w.subterm lines listed) node left f apart says (by_poly is all kept) small fault = elim says [ ]
leaves_or_kind limits d ps set (w.subterm lines listed) node left f apart says (by_order is kept) small fault = elim says [ ]
leaves_or_kind limits d ps set (w.interpretations usable funs lines rules pairs listed) node left f apart says by_done small fault = elim says [ ]
leaves_or_kind limits d ps set (w.interpretations usable funs lines rules pairs listed) node left f apart says (by_alone free) small fault =
    elim says [ ]
leaves_or_kind limits d ps set (w.interpretations usable funs lines rules pairs listed) node left f apart says (by_blocks are sets) small fault =
    elim says [ ]
leaves_or_kind limits d ps set (w.interpretations usable funs lines rules pairs listed) node left f apart says (by_subterm is kept) small fault =
    elim says [ ]
leaves_or_kind limits d ps set (w.interpretations usable funs lines rules pairs listed) node left f apart says (by_order is kept) small fault =
    elim says [ ]
leaves_or_kind limits d ps set (w.order funs lines rules pairs listed) node left f apart says by_done small fault = elim says [ ]
leaves_or_kind limits d ps set (w.order funs lines rules pairs listed) node left f apart says (by_alone free) small fault = elim says [ ]
leaves_or_kind limits d ps set (w.order funs lines rules pairs listed) node left f apart says (by_blocks are sets) small fault = elim says [ ]
leaves_or_kind limits d ps set (w.order funs lines rules pairs listed) node left f apart says (by_subterm is kept) small fault = elim says [ ]
leaves_or_kind limits d ps set (w.order funs lines rules pairs listed) node left f apart says (by_poly is all kept) small fault = elim says [ ]

pub leaves_or_fault : (limits : Limits) (d : SystemData) (ps : List PairData) (set : List ℕ) (line : w.Node) (node : Node)
    (left : List (List ℕ)) (f : NodeFault) → AreDistinct d.fun_names → SaysNode d line node → Leaves d.symbols d.rules ps set node left
    → IsSmallNode limits d.symbols d.rules ps set node → IsNodeFault limits d ps set line f → ⊥
leaves_or_fault limits d ps set line node left f apart says leaves small fault =
    leaves_or_kind limits d ps set line node left f apart says leaves small (kind_fault limits d ps set line f fault)

-- a false condition of a node that is found before a value exceeds a limit

kind_unlimited : (d : SystemData) (ps : List PairData) (set : List ℕ) (line : w.Node) (k : ℕ) (f : NodeFault) → IsRejection (at_node k f)
    → KindFault with_limits d ps set line f → IsNodeFault without_limits d ps set line f
kind_unlimited d ps set w.done k f is (of_done some) = some
kind_unlimited d ps set w.alone k f is (of_alone other) = other
kind_unlimited d ps set w.alone k f is (of_loop one follows) = (one, follows)
kind_unlimited d ps set (w.blocks parts) k f is (of_blocks first) = first
kind_unlimited d ps set (w.subterm lines drop) k f is (of_subterm {f = g} first) = from_choice d ps set lines drop g first
kind_unlimited d ps set (w.interpretations usable funs lines rules pairs drop) k f is (of_poly (no_rules none)) = none
kind_unlimited d ps set (w.interpretations usable funs lines rules pairs drop) k f is (of_poly (no_symbols covers none)) = (covers, none)
kind_unlimited d ps set (w.interpretations usable funs lines rules pairs drop) k f is (of_poly (with_symbols {f = g} R covers says first)) =
    (covers, R, says, fault_unlimited (poly_task d ps set usable) R (moves_of rules pairs drop) k g is first)
kind_unlimited d ps set (w.order funs lines rules pairs drop) k f is (of_order (no_filters none)) = none
kind_unlimited d ps set (w.order funs lines rules pairs drop) k f is (of_order (with_filters D says first)) = (D, says, first)

pub node_unlimited : (d : SystemData) (ps : List PairData) (set : List ℕ) (line : w.Node) (k : ℕ) (f : NodeFault)
    → IsRejection (at_node k f) → IsNodeFault with_limits d ps set line f → IsNodeFault without_limits d ps set line f
node_unlimited d ps set line k f is fault = kind_unlimited d ps set line k f is (kind_fault with_limits d ps set line f fault)
