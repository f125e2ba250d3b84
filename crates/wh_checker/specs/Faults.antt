-- The first condition of a valid certificate that is false.
use Rattle.std.specs.Prelude.{ℕ, suc, ◌≡◌, ◌≢◌, List, [], ◌∷◌, ◌++◌, length, map}
use Rattle.wh_system.specs.Systems.{SystemData}
use Rattle.wh_pairs.specs.PairData.{PairData}
use Rattle.wh_access.specs.Passing.{IsPassing, IsFirstBreakIn}
use Rattle.wh_graph.specs.May.{Follows}
use Rattle.wh_graph.specs.Blocks.{IsFirstBlockFault}
use Rattle.wh_graph.specs.declared.blocks.BlockFault.TheVariants as blocked
use Rattle.wh_subterm.specs.Projections.{Chosen}
use Rattle.wh_subterm.specs.SubtermRows.{AreForMarked, IsFirstSubtermFault}
use Rattle.wh_subterm.specs.declared.projection.SubtermFault.{SubtermFault}
use Rattle.wh_subterm.specs.declared.projection.SubtermFault.TheVariants as projected
use Rattle.wh_cert.specs.Written as w
use Rattle.wh_cert.specs.Written.{Cert, yes, no}
use Rattle.wh_cert.specs.Interps.{Interp}
use Rattle.wh_order_node.specs.Filterings.{FilteringData}
use Rattle.wh_order_check.specs.OrderingFaults.{IsFirstOrderingFault}
use Rattle.wh_order_check.specs.declared.fault.OrderingFault.{OrderingFault}
use Rattle.wh_order_check.specs.declared.fault.OrderingFault.TheVariants as ordered
use Rattle.wh_no.specs.Faults as claims
use Rattle.wh_no.specs.declared.fault.NoFault.{NoFault}
use Rattle.wh_no.specs.declared.fault.NoFault.TheVariants as refuted
use Rattle.wh_reduction_pairs.specs.TaskData.{whole_task}
use Rattle.wh_poly.specs.declared.excess.Excess.{Excess}
use Rattle.wh_poly.specs.declared.excess.Excess.TheVariants as excess
use Rattle.wh_polycheck.specs.Readings.{ReadingsData}
use Rattle.wh_polycheck.specs.declared.fault.CoverFault.{CoverFault}
use Rattle.wh_polycheck.specs.declared.fault.CoverFault.TheVariants as moves
use Rattle.wh_pairs.specs.Marked.{AreMarked}
use Rattle.wh_poly_covering.specs.CoveringFaults.{IsFirstCoveringFault}
use Rattle.wh_polycheck.specs.Small.{Limits}
use Rattle.wh_poly_covering.specs.declared.fault.CoveringFault.{CoveringFault}
use Rattle.wh_poly_covering.specs.declared.fault.CoveringFault.TheVariants as covered
use Rattle.wh_poly_covering.specs.declared.fault.LineFault.TheVariants as line
use Rattle.wh_usable.specs.declared.closed.NotClosed.{NotClosed}
use Rattle.wh_usable.specs.declared.closed.NotClosed.TheVariants as not_closed
use Rattle.wh_proof.specs.Nodes.{Node, Leaves}
use Rattle.wh_proof.specs.Looked.{SayChoices, SayReadings, SayFilterings, SaysNode, CoversRules, poly_task, moves_of, inferences_of}
use Rattle.wh_proof.specs.Small.{IsSmallNode}
use Rattle.wh_pairs.specs.Sets.{IsWhole}
use Rattle.wh_checker.specs.declared.rejected.NodeFault.{NodeFault}
use Rattle.wh_checker.specs.declared.rejected.NodeFault.TheVariants as fault
use Rattle.wh_checker.specs.declared.rejected.Rejected.{Rejected}
use Rattle.wh_checker.specs.declared.rejected.Rejected.TheVariants as row
use Rattle.wh_checker.specs.declared.rejected.CheckFault.{CheckFault}
use Rattle.wh_checker.specs.declared.rejected.CheckFault.TheVariants as check

-- the first thing wrong with the lines of a node `subterm`, on a set: the lines are not for its marked symbols, or what
-- comes first of the choices that they say
abbrev pub IsSubtermFault : SystemData → List PairData → List ℕ → List w.Arg → List ℕ → SubtermFault → Type 0
IsSubtermFault d ps set lines drop projected.BadArgs = (args : List Chosen) → SayChoices d lines args → AreForMarked ps set args → ⊥
IsSubtermFault d ps set lines drop f = (args : List Chosen) × SayChoices d lines args × IsFirstSubtermFault d.rules ps set args drop f

-- the lines of a node of interpretations say these readings, of all symbols and of the marked symbols of the set
abbrev pub SayCovering : SystemData → List PairData → List ℕ → List Interp → List Interp → ReadingsData → Type 0
SayCovering d ps set funs lines R = SayReadings d funs lines R × AreMarked ps set (map (λ m. m.symbol) R.marks)

-- the lines of a node of a path order say these filters, of all symbols and of the marked symbols of the set
abbrev pub SayOrdering : SystemData → List PairData → List ℕ → List w.Filtering → List w.Filtering → FilteringData → Type 0
SayOrdering d ps set funs lines D = SayFilterings d funs lines D × AreMarked ps set (map (λ m. m.symbol) D.marks)

-- the first thing wrong with a node on a set of pairs, by the kinds of nodes; with limits it is also one that a value
-- exceeds them in the evaluation of a side (ours)
abbrev pub IsNodeFault : Limits → SystemData → List PairData → List ℕ → w.Node → NodeFault → Type 0
IsNodeFault limits d ps set w.done fault.NotEmpty = set ≢ []
IsNodeFault limits d ps set w.alone fault.NotOne = (a : ℕ) → set ≢ a ∷ []
IsNodeFault limits d ps set w.alone (fault.Loops a) = (set ≡ a ∷ []) × Follows d.rules ps a a
IsNodeFault limits d ps set (w.blocks parts) (fault.Blocks f) = IsFirstBlockFault (Follows d.rules ps) set parts f
IsNodeFault limits d ps set (w.subterm lines drop) (fault.Subterm f) = IsSubtermFault d ps set lines drop f
IsNodeFault limits d ps set (w.interpretations usable funs lines rules pairs drop) fault.BadUsable = CoversRules d usable → ⊥
IsNodeFault limits d ps set (w.interpretations usable funs lines rules pairs drop) fault.BadSymbols =
    CoversRules d usable × ((R : ReadingsData) → SayCovering d ps set funs lines R → ⊥)
IsNodeFault limits d ps set (w.interpretations usable funs lines rules pairs drop) (fault.Poly f) =
    CoversRules d usable × (R : ReadingsData) × SayCovering d ps set funs lines R
    × IsFirstCoveringFault limits (poly_task d ps set usable) R (moves_of rules pairs drop) f
IsNodeFault limits d ps set (w.order funs lines rules pairs drop) fault.BadSymbols =
    (D : FilteringData) → SayOrdering d ps set funs lines D → ⊥
IsNodeFault limits d ps set (w.order funs lines rules pairs drop) (fault.Order f) =
    (D : FilteringData) × SayOrdering d ps set funs lines D
    × IsFirstOrderingFault (whole_task d.symbols d.rules ps set) D (inferences_of rules pairs drop) f
IsNodeFault limits d ps set _ _ = ⊥

-- of the nodes that these lines say, in preorder, the one with that number, counted from the number of the first, is
-- the first with something wrong, and this is what is wrong first with it; the sets are those still to be proved (ours)
pub data IsFirstNodeFault (limits : Limits) (d : SystemData) (ps : List PairData) : ℕ → List (List ℕ) → List w.Node → ℕ → NodeFault
    → Type 0 where
  at_first : {k : ℕ} {set : List ℕ} {sets : List (List ℕ)} {line : w.Node} {lines : List w.Node} {f : NodeFault}
      → IsNodeFault limits d ps set line f → IsFirstNodeFault limits d ps k (set ∷ sets) (line ∷ lines) k f
  behind_first : {k m : ℕ} {set : List ℕ} {left sets : List (List ℕ)} {line : w.Node} {node : Node} {lines : List w.Node} {f : NodeFault}
      → SaysNode d line node → Leaves d.symbols d.rules ps set node left → IsSmallNode limits d.symbols d.rules ps set node
      → IsFirstNodeFault limits d ps (suc k) (left ++ sets) lines m f
      → IsFirstNodeFault limits d ps k (set ∷ sets) (line ∷ lines) m f

-- what a fault of the moves for a rule is called, with the numbers of the node and of the rule; that nothing is left of
-- the constant is no fault of a rule
abbrev pub at_rule : ℕ → ℕ → CoverFault → Rejected
at_rule k r (moves.BadMove e) = row.BadMoveRule k r e
at_rule k r (moves.OverSpent i) = row.OverSpentRule k r i
at_rule k r (moves.NotCovered j) = row.NotCoveredRule k r j
at_rule k r moves.NotStrict = row.NotStrict k r

-- the fault of the moves for a pair
abbrev pub at_pair : ℕ → ℕ → CoverFault → Rejected
at_pair k a (moves.BadMove e) = row.BadMovePair k a e
at_pair k a (moves.OverSpent i) = row.OverSpentPair k a i
at_pair k a (moves.NotCovered j) = row.NotCoveredPair k a j
at_pair k a moves.NotStrict = row.NotStrict k a

-- the fault where a value exceeds a limit in a node
abbrev pub in_excess : ℕ → Excess → CheckFault
in_excess k excess.Overflow = check.Overflow k
in_excess k excess.TooLarge = check.TooLarge k

-- the rejection where the rules that are to be covered are not closed
abbrev pub at_open : ℕ → NotClosed → Rejected
at_open k (not_closed.Rule r) = row.NotClosedRule k r
at_open k (not_closed.Pair a) = row.NotClosedPair k a

-- what a fault of a node of interpretations is called
abbrev pub at_covering : ℕ → CoveringFault → CheckFault
at_covering k (covered.BadPolynomial f marked) = check.Rejected (row.BadPolynomial k f marked)
at_covering k covered.BadLines = check.Rejected (row.BadLines k)
at_covering k covered.BadDrop = check.Rejected (row.BadDrop k)
at_covering k (covered.NotClosed f) = check.Rejected (at_open k f)
at_covering k (covered.Rule r (line.Exceeds e)) = in_excess k e
at_covering k (covered.Rule r (line.Cover f)) = check.Rejected (at_rule k r f)
at_covering k (covered.Pair a (line.Exceeds e)) = in_excess k e
at_covering k (covered.Pair a (line.Cover f)) = check.Rejected (at_pair k a f)

-- what a fault of a node of a path order is called
abbrev pub at_ordering : ℕ → OrderingFault → Rejected
at_ordering k (ordered.BadFilter f marked) = row.BadFilter k f marked
at_ordering k ordered.BadLines = row.BadLines k
at_ordering k ordered.BadDrop = row.BadDrop k
at_ordering k (ordered.WideRule r) = row.TooWideRule k r
at_ordering k (ordered.WidePair a) = row.TooWidePair k a
at_ordering k (ordered.BadRule r e) = row.BadInferenceRule k r e
at_ordering k (ordered.BadPair a e) = row.BadInferencePair k a e
at_ordering k (ordered.NotStrict a) = row.NotStrict k a

-- what a node's fault is called, with the number of the node
abbrev pub at_node : ℕ → NodeFault → CheckFault
at_node k fault.NotEmpty = check.Rejected (row.NotEmpty k)
at_node k fault.NotOne = check.Rejected (row.NotOne k)
at_node k (fault.Loops a) = check.Rejected (row.Loops k a)
at_node k (fault.Blocks blocked.FewBlocks) = check.Rejected (row.FewBlocks k)
at_node k (fault.Blocks (blocked.NotPartition a)) = check.Rejected (row.NotPartition k a)
at_node k (fault.Blocks (blocked.BackEdge a b)) = check.Rejected (row.BackEdge k a b)
at_node k (fault.Subterm projected.BadArgs) = check.Rejected (row.BadArgs k)
at_node k (fault.Subterm (projected.NoProjection f)) = check.Rejected (row.NoProjection k f)
at_node k (fault.Subterm (projected.BadArgument f)) = check.Rejected (row.BadArgument k f)
at_node k (fault.Subterm projected.BadDrop) = check.Rejected (row.BadDrop k)
at_node k (fault.Subterm (projected.NotDecreasing a)) = check.Rejected (row.NotDecreasing k a)
at_node k fault.BadUsable = check.Rejected (row.BadUsable k)
at_node k fault.BadSymbols = check.Rejected (row.BadSymbols k)
at_node k (fault.Poly f) = at_covering k f
at_node k (fault.Order f) = check.Rejected (at_ordering k f)

-- what a false condition of a NO certificate is called
abbrev pub of_claim : NoFault → Rejected
of_claim refuted.NotATerm = row.NotATerm
of_claim refuted.NoStep = row.NoStep
of_claim (refuted.StepFails i) = row.StepFails i
of_claim (refuted.TooBig i) = row.TooBig i
of_claim (refuted.BadPut i) = row.BadPut i
of_claim refuted.NoInstance = row.NoInstance

-- the first false condition of a YES certificate: its ranks are not as many as the sorts; the system is not passing
-- under them; the count of the pairs is wrong; then its nodes in preorder (ours)
pub data IsFirstYesFault (limits : Limits) (d : SystemData) (ps : List PairData) (ranks : List ℕ) (pairs : ℕ)
    (lines : List w.Node) : CheckFault → Type 0 where
  rank_count : length ranks ≢ d.symbols.sorts → IsFirstYesFault limits d ps ranks pairs lines (check.Rejected row.RankCount)
  inaccessible : {r z : ℕ} → length ranks ≡ d.symbols.sorts → IsFirstBreakIn d ranks r z
      → IsFirstYesFault limits d ps ranks pairs lines (check.Rejected (row.Inaccessible r z))
  pair_count : length ranks ≡ d.symbols.sorts → IsPassing d ranks → pairs ≢ length ps
      → IsFirstYesFault limits d ps ranks pairs lines (check.Rejected (row.PairCount (length ps)))
  in_node : {k : ℕ} {set : List ℕ} {f : NodeFault} → length ranks ≡ d.symbols.sorts → IsPassing d ranks → pairs ≡ length ps → IsWhole ps set
      → IsFirstNodeFault limits d ps 0 (set ∷ []) lines k f → IsFirstYesFault limits d ps ranks pairs lines (at_node k f)

-- the first false condition of a certificate; with limits, also the first node in which a value exceeds one before that
abbrev pub IsFirstFault : Limits → SystemData → List PairData → Cert → CheckFault → Type 0
IsFirstFault limits d ps (yes version ranks pairs lines) f = IsFirstYesFault limits d ps ranks pairs lines f
IsFirstFault limits d ps (no t steps at puts) r = (f : NoFault) × (r ≡ check.Rejected (of_claim f))
    × claims.IsFirstFault d (no t steps at puts) f

-- two faults are one, but that values may exceed both limits in one node (ours)
abbrev pub AreAlike : CheckFault → CheckFault → Type 0
AreAlike (check.Rejected r) (check.Rejected s) = r ≡ s
AreAlike (check.Overflow k) (check.Overflow m) = k ≡ m
AreAlike (check.Overflow k) (check.TooLarge m) = k ≡ m
AreAlike (check.TooLarge k) (check.Overflow m) = k ≡ m
AreAlike (check.TooLarge k) (check.TooLarge m) = k ≡ m
AreAlike _ _ = ⊥
