-- What the nodes of a proof say: where the calls of the sets that a node leaves end, those of its own set do.
use Rattle.std.proofs.Common.{◌≡◌, ℕ, zero, suc, inl, inr, List, [], ◌∷◌, Some, Contains, slice_get, refl, sym, subst}
use Rattle.std.proofs.lemmas.List.Elements.{Contains-append_left, Contains-append_right}
use Rattle.wh_terms.specs.Typing.{Symbols}
use Rattle.wh_terms.specs.Rules.{RewriteRule, AreWellMade}
use Rattle.wh_step.specs.Step.{Step}
use Rattle.wh_pairs.specs.PairData.{PairData}
use Rattle.wh_pairs.proofs.MemberLemmas.{none_there, at_head, behind, head_or_behind}
use Rattle.wh_proof_calls.specs.MarkedCalls.{CallsEnd}
use Rattle.wh_reduction_pairs.specs.TaskData.{task_over, whole_task}
use Rattle.wh_polycheck.specs.Covering.{HaveTypedSides}
use Rattle.wh_usable_calls.proofs.UsableCovers.{usable_ends}
use Rattle.wh_order_descent.specs.PatternSides.{HaveKnownSorts, HavePatternSides}
use Rattle.wh_order_descent.proofs.OrderedCalls.{ordering_ends}
use Rattle.wh_proof.specs.Nodes.{Node, AreSetsOf, more_sets, Leaves, by_done, by_alone, by_blocks, by_subterm, by_poly, by_order}
use Rattle.wh_proof.specs.Proves.{Proves, all_proved, one_proved}
use Rattle.wh_pairs.specs.Sets.{InSet}
use Rattle.wh_proof_nodes.proofs.MayLaws.{may_sound-step}
use Rattle.wh_proof_nodes.proofs.CallLaws.{calls_fewer, no_pair_calls}
use Rattle.wh_proof_nodes.proofs.AloneLaws.{alone_ends}
use Rattle.wh_proof_nodes.proofs.BlockLaws.{blocks_end}
use Rattle.wh_proof_nodes.proofs.SubtermLaws.{subterm_ends}
use Rattle.wh_usable_calls.proofs.BoundLaws.{steps_pass}

-- the calls of each set end
abbrev pub AllEnd : Symbols → List RewriteRule → List PairData → List (List ℕ) → Type 0
AllEnd S rules pairs sets = (set : List ℕ) → Contains sets set → CallsEnd S rules (Step rules) (InSet pairs set)

-- a set of a block has its pairs
block_sets_end : (S : Symbols) (rules : List RewriteRule) (pairs : List PairData) (parts sets : List (List ℕ))
    → AreSetsOf parts sets → AllEnd S rules pairs sets
    → (i : ℕ) (part : List ℕ) → slice_get parts i ≡ Some part → CallsEnd S rules (Step rules) (InSet pairs part)
block_sets_end S rules pairs [] sets are all i part e = absurd (cc)
block_sets_end S rules pairs (p ∷ parts) [] are all i part e = elim are [ ]
block_sets_end S rules pairs (p ∷ parts) (s ∷ sets) (more_sets is are) all zero part e =
    let same : p ≡ part = cc in
    calls_fewer (λ q (n, inside, at). (n, (is.each n).1 (subst (λ l. Contains l n) (sym same) inside), at)) (all s (at_head sets s))
block_sets_end S rules pairs (p ∷ parts) (s ∷ sets) (more_sets is are) all (suc i) part e =
    block_sets_end S rules pairs parts sets are (λ t inside. all t (behind sets s t inside)) i part e

module _ (S : Symbols) (rules : List RewriteRule) (pairs : List PairData) (made : AreWellMade S rules) (sorts : HaveKnownSorts S rules)
    (typed : HaveTypedSides S rules pairs) (patterns : HavePatternSides S pairs) where
  -- one node
  pub node_keeps : {set : List ℕ} {node : Node} {left : List (List ℕ)} → Leaves S rules pairs set node left → AllEnd S rules pairs left
      → CallsEnd S rules (Step rules) (InSet pairs set)
  node_keeps by_done all = no_pair_calls (λ p (n, inside, at). none_there n inside)
  node_keeps (by_alone {a = a} never) all = alone_ends S rules pairs a (may_sound-step S rules made) never
  node_keeps (by_blocks {set = set} {parts = parts} {sets = sets} are sets_are) all =
      blocks_end S rules pairs set parts (may_sound-step S rules made) are (block_sets_end S rules pairs parts sets sets_are all)
  node_keeps (by_subterm {set = set} {drop = drop} {rest = rest} {args = args} is kept) all =
      subterm_ends S rules pairs set drop rest args (steps_pass rules) is kept (all rest (at_head [] rest))
  node_keeps (by_poly {set = set} {covered = covered} {rest = rest} {R = R} {E = E} is usable kept) all =
      usable_ends (task_over S rules pairs set covered) R E is made typed usable rest kept (all rest (at_head [] rest))
  node_keeps (by_order {set = set} {rest = rest} {D = D} {E = E} is kept) all =
      ordering_ends (whole_task S rules pairs set) D E is made sorts typed patterns refl rest kept (all rest (at_head [] rest))

  -- a list of nodes
  pub proofs_keep : {sets : List (List ℕ)} {nodes : List Node} → Proves S rules pairs sets nodes → AllEnd S rules pairs sets
  proofs_keep all_proved set inside = absurd (none_there set inside)
  proofs_keep (one_proved {set = first} {left = left} {sets = sets} leaves rest) set inside =
      let below = proofs_keep rest in
      let here = node_keeps leaves (λ s found. below s (Contains-append_left left sets s found)) in
      elim (head_or_behind sets first set inside) [
        | inl same ↦ subst (λ s. CallsEnd S rules (Step rules) (InSet pairs s)) same here
        | inr later ↦ below set (Contains-append_right left sets set later)
      ]
