-- Each node of a list that proves a set stands behind some nodes, which leave it its own set.
use Rattle.std.proofs.Common.{◌≡◌, ℕ, List, [], ◌∷◌, ◌++◌, All, subst}
use Rattle.std.proofs.lemmas.List.Elements.{recursion_from_All, All-from_recursion}
use Rattle.std.specs.List.{AllByRecursion}
use Rattle.wh_types.specs.Ty.{Ty}
use Rattle.wh_terms.specs.Tree.{Tm, tms_of}
use Rattle.wh_terms.specs.Typing.{Symbols, AllTyped, typed_none, typed_more}
use Rattle.wh_terms.specs.Rules.{RewriteRule, AreWellMade}
use Rattle.wh_step.specs.Step.{Step}
use Rattle.wh_step.specs.Reduction.{Bounded}
use Rattle.wh_step_laws.specs.RootRelations.{KnowsSorts}
use Rattle.wh_step_laws.specs.Computable.{ComputableList}
use Rattle.wh_step_laws.proofs.SystemComputable.{computable-typed, computable-bounded}
use Rattle.wh_system.specs.Systems.{SystemData}
use Rattle.wh_system.specs.WellMade.{IsWellMadeSystem}
use Rattle.wh_pairs.specs.PairData.{PairData}
use Rattle.wh_pairs.specs.Candidates.{candidates}
use Rattle.wh_pairs.specs.Subsumption.{ArePairs}
use Rattle.wh_polycheck.specs.Covering.{HaveTypedSides}
use Rattle.wh_poly_meaning.proofs.PairSides.{pair_sides}
use Rattle.wh_order_descent.proofs.PatternPairs.{pattern_sides}
use Rattle.wh_proof.specs.Nodes.{Node, Leaves}
use Rattle.wh_proof.specs.Proves.{Proves, all_proved, one_proved}
use Rattle.wh_law_measures.specs.Measures.{Measure, EachMeasures}
use Rattle.wh_law_measures.specs.NodeMeasures.{IsCounted, AreMeasures, AreLeft, none_before, one_before, HasMeasure}
use Rattle.wh_law_measures.proofs.NodeMeasures.{proofs_measure}

-- computable arguments are typed and bounded

computable_typed : {S : Symbols} (rank : ℕ → ℕ) (R : Tm → Tm → Type 0) (cs : List Ty) (ts : List Tm) → ComputableList S rank R cs ts
    → AllTyped S [] [] (tms_of ts) cs
computable_typed rank R [] [] all = typed_none
computable_typed rank R [] (t ∷ ts) all = absurd all
computable_typed rank R (a ∷ cs) [] all = absurd all
computable_typed {S = S} rank R (a ∷ cs) (t ∷ ts) all =
    typed_more (computable-typed S rank R a t all.1) (computable_typed rank R cs ts all.2)

computable_bounded : {S : Symbols} {rules : List RewriteRule} → AreWellMade S rules → KnowsSorts S → (rank : ℕ → ℕ) (cs : List Ty)
    (ts : List Tm) → ComputableList S rank (Step rules) cs ts → AllByRecursion (Bounded rules) ts
computable_bounded made known rank [] [] all = tt
computable_bounded made known rank [] (t ∷ ts) all = absurd all
computable_bounded made known rank (a ∷ cs) [] all = absurd all
computable_bounded made known rank (a ∷ cs) (t ∷ ts) all =
    (computable-bounded made known rank a t all.1, computable_bounded made known rank cs ts all.2)

pub list_typed : (S : Symbols) (rules : List RewriteRule) (rank : ℕ → ℕ) (cs : List Ty) (ts : List Tm)
    → ComputableList S rank (Step rules) cs ts → AllTyped S [] [] (tms_of ts) cs
list_typed S rules rank cs ts all = computable_typed rank (Step rules) cs ts all

pub list_bounded : (S : Symbols) (rules : List RewriteRule) (rank : ℕ → ℕ) (cs : List Ty) (ts : List Tm) → AreWellMade S rules → KnowsSorts S
    → ComputableList S rank (Step rules) cs ts → All (Bounded rules) ts
list_bounded S rules rank cs ts made known all = All-from_recursion (Bounded rules) ts (computable_bounded made known rank cs ts all)

-- the nodes before one leave it its set

module _ (S : Symbols) (rules : List RewriteRule) (pairs : List PairData) where
  abbrev ReachesNode : List (List ℕ) → List Node → Node → List Node → Type 0
  ReachesNode sets before node after = (set : List ℕ) × (more : List (List ℕ)) × AreLeft S rules pairs sets before (set ∷ more)
      × Proves S rules pairs (set ∷ more) (node ∷ after)

  node_reached : {sets : List (List ℕ)} {nodes : List Node} → Proves S rules pairs sets nodes → (before : List Node) (node : Node)
      (after : List Node) → nodes ≡ before ++ (node ∷ after) → ReachesNode sets before node after
  node_reached all_proved [] node after e = absurd (cc)
  node_reached all_proved (b ∷ before) node after e = absurd (cc)
  node_reached (one_proved {set = set} {sets = sets} leaves proves) [] node after e =
      (set, sets, none_before, subst (Proves S rules pairs (set ∷ sets)) e (one_proved leaves proves))
  node_reached (one_proved {set = set} {left = left} {node = first} leaves proves) (b ∷ before) node after e =
      let same : first ≡ b = cc in
      let (own, more, is, on) = node_reached proves before node after (cc) in
      (own, more, one_before (subst (λ n. Leaves S rules pairs set n left) same leaves) is, on)

  -- the measure of the first set
  first_measured : (all : List ℕ) (before : List Node) (node : Node) (after : List Node) (set : List ℕ) (more : List (List ℕ))
      → AreLeft S rules pairs (all ∷ []) before (set ∷ more) → Proves S rules pairs (set ∷ more) (node ∷ after)
      → (fs : List (Measure S rules)) → AreMeasures S rules pairs (set ∷ more) (node ∷ after) fs → EachMeasures S rules pairs (set ∷ more) fs
      → HasMeasure S rules pairs all before node after
  first_measured all before node after set more is on [] are each = absurd each
  first_measured all before node after set more is on (f ∷ fs) are each = record {
    set = set;
    further = more;
    left = is;
    proves = on;
    measure = f;
    others = fs;
    by_kind = are;
    measures = each.0;
  }

pub certificate_measures : (d : SystemData) (ps : List PairData) → IsWellMadeSystem d → ArePairs (candidates d.symbols d.rules) ps
    → (all : List ℕ) (nodes before after : List Node) (node : Node) → Proves d.symbols d.rules ps (all ∷ []) nodes
    → nodes ≡ before ++ (node ∷ after) → All IsCounted (node ∷ after) → HasMeasure d.symbols d.rules ps all before node after
certificate_measures d ps made pairs all nodes before after node proves e counted =
    let typed : HaveTypedSides d.symbols d.rules ps = λ marks p found. pair_sides d made ps pairs marks p found in
    let (set, more, is, on) = node_reached d.symbols d.rules ps proves before node after e in
    let (fs, are, each) = proofs_measure d.symbols d.rules ps made.rules typed (pattern_sides d made ps pairs) on
    (recursion_from_All IsCounted (node ∷ after) counted) in
    first_measured d.symbols d.rules ps all before node after set more is on fs are each
