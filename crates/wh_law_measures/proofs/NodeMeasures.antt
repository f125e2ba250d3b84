-- Each set that nodes prove has a measure, by induction on the proof.
use Rattle.std.proofs.Common.{◌≡◌, ℕ, suc, inl, List, [], ◌∷◌, ◌++◌, length, refl, ap, subst, inr}
use Rattle.std.specs.List.{AllByRecursion}
use Rattle.wh_terms.specs.Typing.{Symbols}
use Rattle.wh_terms.specs.Rules.{RewriteRule, AreWellMade}
use Rattle.wh_system.proofs.TypedDecided.{Decided}
use Rattle.wh_pairs.specs.PairData.{PairData}
use Rattle.wh_pairs.specs.Sets.{IsSetOf, IsKept}
use Rattle.wh_pairs.proofs.MemberLemmas.{none_there}
use Rattle.wh_pairs.proofs.Searches.{equal_decided, list_decided}
use Rattle.wh_reduction_pairs.specs.TaskData.{task_over, numbers_from}
use Rattle.wh_reduction_pairs.specs.ReductionPair.{Evidence}
use Rattle.wh_hopoly.specs.Moves.{Transfer}
use Rattle.wh_polycheck.specs.Readings.{ReadingsData}
use Rattle.wh_polycheck.specs.Covering.{IsCovering, HaveTypedSides}
use Rattle.wh_usable.specs.Closed.{IsUsable}
use Rattle.wh_order_descent.specs.PatternSides.{HavePatternSides}
use Rattle.wh_proof.specs.Nodes.{Node, poly, Leaves, by_done, by_alone, by_blocks, by_subterm, by_poly, by_order}
use Rattle.wh_proof.specs.Proves.{Proves, all_proved, one_proved}
use Rattle.wh_proof_calls.specs.MarkedCalls.{MarkedCall}
use Rattle.wh_proof_nodes.proofs.MayLaws.{may_sound-step}
use Rattle.wh_law_projection.specs.LongestSequences.{IsBoundedCall}
use Rattle.wh_law_measures.specs.Reaching.{CanReachSome}
use Rattle.wh_law_measures.specs.Measures.{Measure, EachMeasures}
use Rattle.wh_law_measures.specs.NodeMeasures.{IsCounted, AreMeasures, no_measures, of_done, of_alone, of_blocks, of_subterm, of_poly, of_listed}
use Rattle.wh_poly_meaning.specs.PairCovers.{worth_of}
use Rattle.wh_law_measures.proofs.Reached.{reach_some_decided}
use Rattle.wh_law_measures.proofs.AloneMeasures.{alone_measure, alone_measures}
use Rattle.wh_law_measures.proofs.BlocksMeasures.{parts_measured, blocks_measure, blocks_measures}
use Rattle.wh_law_measures.proofs.SubtermMeasures.{subterm_measure, subterm_measures}
use Rattle.wh_law_measures.proofs.PolyMeasures.{poly_measures}
use Rattle.wh_law_measures.proofs.ListedMeasures.{closed_list, listed_measure, listed_measures}

each_long : (S : Symbols) (rules : List RewriteRule) (pairs : List PairData) (sets : List (List ℕ)) (fs : List (Measure S rules))
    → EachMeasures S rules pairs sets fs → length fs ≡ length sets
each_long S rules pairs [] [] each = refl
each_long S rules pairs [] (f ∷ fs) each = absurd each
each_long S rules pairs (set ∷ sets) [] each = absurd each
each_long S rules pairs (set ∷ sets) (f ∷ fs) each = ap suc (each_long S rules pairs sets fs each.1)

module _ (S : Symbols) (rules : List RewriteRule) (pairs : List PairData) (made : AreWellMade S rules)
    (typed : HaveTypedSides S rules pairs) (patterns : HavePatternSides S pairs) where
  -- measures for all the sets, by the nodes
  abbrev pub HaveMeasures : List (List ℕ) → List Node → Type 0
  HaveMeasures sets nodes = (fs : List (Measure S rules)) × AreMeasures S rules pairs sets nodes fs × EachMeasures S rules pairs sets fs

  decide : (set : List ℕ) (c : MarkedCall) → IsBoundedCall S rules c → Decided (CanReachSome rules pairs set c)
  decide set c good = reach_some_decided S rules pairs made typed patterns set c good

  -- the measures of what blocks leave, and those of the sets behind
  split : (left sets : List (List ℕ)) (fs : List (Measure S rules)) → EachMeasures S rules pairs (left ++ sets) fs
      → (gs hs : List (Measure S rules)) × (fs ≡ gs ++ hs) × EachMeasures S rules pairs left gs × EachMeasures S rules pairs sets hs
  split [] sets fs each = ([], fs, refl, tt, each)
  split (set ∷ left) sets [] each = absurd each
  split (set ∷ left) sets (f ∷ fs) each =
      let (gs, hs, e, here, there) = split left sets fs each.1 in
      (f ∷ gs, hs, ap (λ l. f ∷ l) e, (each.0, here), there)

  -- interpretations that cover all rules, or listed ones
  poly_by_list : {sets : List (List ℕ)} {nodes : List Node} (set covered rest : List ℕ) (R : ReadingsData) (E : Evidence (List Transfer))
      → IsCovering (task_over S rules pairs set covered) R E → IsUsable (task_over S rules pairs set covered)
      → IsSetOf (IsKept set E.drop) rest → (child : Measure S rules) (fs : List (Measure S rules))
      → AreMeasures S rules pairs (rest ∷ sets) nodes (child ∷ fs) → EachMeasures S rules pairs (rest ∷ sets) (child ∷ fs)
      → Decided (covered ≡ numbers_from 0 (length rules)) → HaveMeasures (set ∷ sets) (poly covered R E ∷ nodes)
  poly_by_list set covered rest R E is usable kept child fs are each (inl whole) =
      let f : Measure S rules = λ c good. worth_of S rules R c ∷ child c good in (
        f ∷ fs,
        of_poly kept whole (λ c good. refl) are,
        (poly_measures S rules pairs set covered R E is whole made typed rest kept child f each.0 (λ c good. refl), each.1),
      )
  poly_by_list set covered rest R E is usable kept child fs are each (inr listed) =
      let (f, by_kind) = listed_measure S rules covered R made child in (
        f ∷ fs,
        of_listed kept listed by_kind are,
        (
          listed_measures S rules pairs set covered R E is (closed_list (task_over S rules pairs set covered) usable.closed listed) made
              typed rest kept child f each.0 by_kind,
          each.1,
        ),
      )

  -- one node more
  node_measures : {set : List ℕ} {node : Node} {left sets : List (List ℕ)} {nodes : List Node} → Leaves S rules pairs set node left
      → IsCounted node → (fs : List (Measure S rules)) → AreMeasures S rules pairs (left ++ sets) nodes fs
      → EachMeasures S rules pairs (left ++ sets) fs → HaveMeasures (set ∷ sets) (node ∷ nodes)
  node_measures by_done counted fs are each = (
    (λ c good. []) ∷ fs,
    of_done (λ c good. refl) are,
    (record { no_step_raises = λ c d good also s. inl refl; each_pair_lowers = λ p c d good also (n, inside, at) s. absurd (none_there n inside) }, each),
  )
  node_measures (by_alone {a = a} never) counted fs are each =
      let (f, is) = alone_measure S rules pairs a (λ c good. decide (a ∷ []) c good) in
      (f ∷ fs, of_alone is are, (alone_measures S rules pairs a (may_sound-step S rules made) never f is, each))
  node_measures {sets = sets} {nodes = nodes} (by_blocks {set = set} {parts = parts} {sets = left} are_blocks sets_are) counted fs are each =
      let (gs, hs, e, here, there) = split left sets fs each in
      let parts_here = parts_measured S rules pairs parts left gs sets_are here in
      let (f, is) = blocks_measure S rules pairs decide parts gs parts_here in
      let of_all : AreMeasures S rules pairs (left ++ sets) nodes (gs ++ hs) = subst (AreMeasures S rules pairs (left ++ sets) nodes) e are in (
        f ∷ hs,
        of_blocks gs {fs = hs} sets_are (each_long S rules pairs parts gs parts_here) is of_all,
        (blocks_measures S rules pairs (may_sound-step S rules made) set parts are_blocks gs parts_here f is, there),
      )
  node_measures (by_subterm is kept) counted [] are each = absurd each
  node_measures (by_subterm {set = set} {drop = drop} {rest = rest} {args = args} is kept) counted (child ∷ fs) are each =
      let (f, by_kind) = subterm_measure S rules made args child in (
        f ∷ fs,
        of_subterm kept by_kind are,
        (subterm_measures S rules made args pairs set drop rest is kept child f each.0 by_kind, each.1),
      )
  node_measures (by_poly is usable kept) counted [] are each = absurd each
  node_measures (by_poly {set = set} {covered = covered} {rest = rest} {R = R} {E = E} is usable kept) counted (child ∷ fs) are each =
      poly_by_list set covered rest R E is usable kept child fs are each (list_decided equal_decided covered (numbers_from 0 (length rules)))
  node_measures (by_order is kept) counted fs are each = absurd counted

  -- a list of nodes
  pub proofs_measure : {sets : List (List ℕ)} {nodes : List Node} → Proves S rules pairs sets nodes → AllByRecursion IsCounted nodes
      → HaveMeasures sets nodes
  proofs_measure all_proved all = ([], no_measures, tt)
  proofs_measure (one_proved leaves proves) all =
      let (fs, are, each) = proofs_measure proves all.1 in node_measures leaves all.0 fs are each
