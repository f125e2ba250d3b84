-- Lines for rules and pairs, from those for their filtered sides.
use Rattle.std.proofs.Common.{◌≡◌, ◌≤◌, ℕ, Bool, true, false, List, length, Option, Some, None, refl, ap₂, subst, sym, ◌∙◌}
use Rattle.std.specs.Prelude.{MatchOption}
use Rattle.std.proofs.lemmas.Bool.{false≢true}
use Rattle.wh_terms.specs.Tree.{Tm}
use Rattle.wh_terms.specs.Typing.{Symbols, Declared}
use Rattle.wh_terms.specs.Rules.{RewriteRule}
use Rattle.wh_pairs.specs.PairData.{PairData}
use Rattle.wh_order_inference.specs.Inferences as m
use Rattle.wh_order_inference.specs.Inferences.{entries}
use Rattle.wh_order_inference.specs.Said.{inference}
use Rattle.wh_order_inference.specs.declared.inference.Inference.{Inference}
use Rattle.wh_order_extended.specs.ExtendedSides.{extended_metas}
use Rattle.wh_order_extended.specs.Filtered.{collapsed}
use Rattle.wh_order_path.specs.Verdict.{at_least, greater, Task, line_verdict}
use Rattle.wh_order_node.specs.Filterings.{FilteringData, precedences_of, filtered_signature}
use Rattle.wh_order_node.specs.Ordering.{IsGoodPair, HasNarrowSides, HasNarrowCalls}
use Rattle.wh_order_trees.specs.declared.tree.Tree.{Tree}
use Rattle.wh_order_trees.specs.Trees.{tree}
use Rattle.wh_order.specs.TreeSides.{AreFilters, AreSides, IsTreeOfSide, IsTreeOfCall}
use Rattle.wh_order_infer.specs.Lines.{Shows, IsFound}
use Rattle.wh_order_infer.proofs.TaskLemmas.{stricter_good, weaker_good}
use Rattle.wh_order_lines.specs.Oriented.{IsWithin, OrientsStrictly, MeetsPair}
use Rattle.wh_order_lines.specs.OrderLines.{IsPairLine, IsRuleLineOrNone, IsPairLineOrNone, IsAnyPairLineOrNone, IsLineBetween}
use Rattle.wh_order_lines.specs.declared.lines.PairLine.{PairLine}

module _ (S : Symbols) (rules : List RewriteRule) (D : FilteringData) where
  within_of : (M : List Declared) (u v : Tree) (i : m.Inference) → Shows S rules D M at_least u v i → IsWithin i
  within_of M u v i h = record { nested = h.nested; few = h.few }

  -- the verdict on a line is that on the trees
  abbrev on_trees : List Declared → Tm → Tm → m.Inference → Option ℕ
  on_trees M s t i = line_verdict (filtered_signature S rules D) (precedences_of S D) M s t i

  rule_sides : (r : RewriteRule) (u v : Tree) → AreFilters S rules D → IsTreeOfSide S rules D r false u → IsTreeOfSide S rules D r true v
      → AreSides S rules D (collapsed (extended_metas S r)) u v
  rule_sides r u v f a b = record { each_symbol = f.each_symbol; left = a.over; right = b.over }

  pub rule_found : (r : RewriteRule) (u v : Tree) (found : Option Inference) → AreFilters S rules D → HasNarrowSides S r → IsTreeOfSide S rules D r false u → IsTreeOfSide S rules D r true v
      → IsFound D at_least u v found → IsRuleLineOrNone S rules D r found
  rule_found r u v found f narrow a b h = on found (h S rules (collapsed (extended_metas S r)) (rule_sides r u v f a b))
    where
      M : List Declared
      M = collapsed (extended_metas S r)

      on : (found : Option Inference) → MatchOption found ((i : m.Inference) → Shows S rules D M at_least u v i → ⊥)
          (λ i. Shows S rules D M at_least u v (inference i) × ((j : m.Inference) → Shows S rules D M at_least u v j → entries (inference i) ≤ entries j)) → IsRuleLineOrNone S rules D r found
      on None none = λ meets. none meets.1.0 (record {
        good = ap₂ (λ (s t : Tm). on_trees M s t meets.1.0) a.same_tree b.same_tree ∙ meets.1.1;
        nested = meets.1.2.nested;
        few = meets.1.2.few;
      })
      on (Some i) h = record {
        narrow = narrow;
        good = sym (ap₂ (λ (s t : Tm). on_trees M s t (inference i)) a.same_tree b.same_tree) ∙ h.0.good;
        within = within_of M u v (inference i) h.0;
      }

  pair_sides : (p : PairData) (u v : Tree) → AreFilters S rules D → IsTreeOfCall S rules D p false u → IsTreeOfCall S rules D p true v → AreSides S rules D (collapsed p.metas) u v
  pair_sides p u v f a b = record { each_symbol = f.each_symbol; left = a.over; right = b.over }

  -- the task of a line
  abbrev line_task : Tree → Tree → Task
  line_task u v = record { claim = at_least; next = 0; left = tree (length S.funs) u; right = tree (length S.funs) v }

  pub pair_strict : (p : PairData) (u v : Tree) (i : Inference) → AreFilters S rules D → HasNarrowCalls S p → IsTreeOfCall S rules D p false u → IsTreeOfCall S rules D p true v
      → IsFound D greater u v (Some i) → IsPairLine S rules D p (record { inference = i; strict = true })
  pair_strict p u v i f narrow a b h =
      let shows = (h S rules (collapsed p.metas) (pair_sides p u v f a b)).0 in
      let (good, differ) = weaker_good (filtered_signature S rules D) (precedences_of S D) (collapsed p.metas) (line_task u v) (inference i) refl shows.good in
      let here : IsGoodPair S rules D p (inference i) = sym (ap₂ (λ (s t : Tm). on_trees (collapsed p.metas) s t (inference i)) a.same_tree b.same_tree) ∙ good in
      let few : IsWithin (inference i) = record { nested = shows.nested; few = shows.few } in
      record {
        narrow = narrow;
        good = here;
        within = few;
        strict_is = (λ e. (inference i, here, few, differ), λ o. refl);
        differ = λ e. differ;
      }

  not_strictly : (p : PairData) (u v : Tree) → AreFilters S rules D → IsTreeOfCall S rules D p false u → IsTreeOfCall S rules D p true v → IsFound D greater u v None
      → OrientsStrictly S rules D p → ⊥
  not_strictly p u v f a b h (i, good, few, differ) =
      h S rules (collapsed p.metas) (pair_sides p u v f a b) i (record {
        good = stricter_good (filtered_signature S rules D) (precedences_of S D) (collapsed p.metas) (line_task u v) i refl differ
            (ap₂ (λ (s t : Tm). on_trees (collapsed p.metas) s t i) a.same_tree b.same_tree ∙ good);
        nested = few.nested;
        few = few.few;
      })

  pub pair_weak : (p : PairData) (u v : Tree) (i : Inference) → AreFilters S rules D → HasNarrowCalls S p → IsTreeOfCall S rules D p false u → IsTreeOfCall S rules D p true v
      → IsFound D greater u v None → IsFound D at_least u v (Some i) → IsPairLine S rules D p (record { inference = i; strict = false })
  pair_weak p u v i f narrow a b none h =
      let shows = (h S rules (collapsed p.metas) (pair_sides p u v f a b)).0 in
      record {
        narrow = narrow;
        good = sym (ap₂ (λ (s t : Tm). on_trees (collapsed p.metas) s t (inference i)) a.same_tree b.same_tree) ∙ shows.good;
        within = record { nested = shows.nested; few = shows.few };
        strict_is = (λ e. absurd (false≢true e), λ o. absurd (not_strictly p u v f a b none o));
        differ = λ e. absurd (false≢true e);
      }

  pub pair_none : (p : PairData) (u v : Tree) → AreFilters S rules D → IsTreeOfCall S rules D p false u → IsTreeOfCall S rules D p true v
      → IsFound D at_least u v None → MeetsPair S rules D p → ⊥
  pair_none p u v f a b h (narrow, (i, good, few)) =
      h S rules (collapsed p.metas) (pair_sides p u v f a b) i (record {
        good = ap₂ (λ (s t : Tm). on_trees (collapsed p.metas) s t i) a.same_tree b.same_tree ∙ good;
        nested = few.nested;
        few = few.few;
      })

  pub any_pair_found : (p : PairData) (u v : Tree) (found : Option Inference) → AreFilters S rules D → HasNarrowCalls S p → IsTreeOfCall S rules D p false u → IsTreeOfCall S rules D p true v
      → IsFound D at_least u v found → IsAnyPairLineOrNone S rules D p found
  any_pair_found p u v None f narrow a b h = pair_none p u v f a b h
  any_pair_found p u v (Some i) f narrow a b h =
      let shows = (h S rules (collapsed p.metas) (pair_sides p u v f a b)).0 in
      record {
        narrow = narrow;
        good = sym (ap₂ (λ (s t : Tm). on_trees (collapsed p.metas) s t (inference i)) a.same_tree b.same_tree) ∙ shows.good;
        within = record { nested = shows.nested; few = shows.few };
      }

  pub pair_between : (p : PairData) (u v : Tree) (found : Option PairLine) → AreFilters S rules D → HasNarrowCalls S p → IsTreeOfCall S rules D p false u → IsTreeOfCall S rules D p true v
      → IsLineBetween D u v found → IsPairLineOrNone S rules D p found
  pair_between p u v None f narrow a b h = pair_none p u v f a b h
  pair_between p u v (Some line) f narrow a b h = on line.strict refl h
    where
      on : (strict : Bool) → line.strict ≡ strict
          → elim strict as (λ x. Type 0) [ true ↦ IsFound D greater u v (Some line.inference) | false ↦ IsFound D greater u v None × IsFound D at_least u v (Some line.inference) ]
          → IsPairLine S rules D p line
      on true e h = subst (λ (x : Bool). IsPairLine S rules D p (record { inference = line.inference; strict = x })) (sym e) (pair_strict p u v line.inference f narrow a b h)
      on false e h = subst (λ (x : Bool). IsPairLine S rules D p (record { inference = line.inference; strict = x })) (sym e) (pair_weak p u v line.inference f narrow a b h.0 h.1)
