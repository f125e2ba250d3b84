-- The answers of the parts of a node's check, as what they say of the node.
use Rattle.std.proofs.Common.{◌≡◌, ℕ, ◌<◌, List, [], ◌∷◌, ◌++◌, length, map, drop, get_or, Some, All, Result, Ok, Err, OnOk, slice_get, Option, refl, sym, ap, ap₂, subst, ◌∙◌, arith}
use Rattle.std.proofs.lemmas.List.{length-map, append-nil}
use Rattle.wh_types.specs.Outcome.{IfBecause, MatchOr}
use Rattle.wh_types.specs.declared.want.Or.{Or}
use Rattle.wh_types.specs.declared.want.Or.TheVariants.{NoMemory, Because}
use Rattle.wh_terms.specs.Rules.{RewriteRule}
use Rattle.wh_terms.specs.Typing.{Symbols}
use Rattle.wh_system.specs.Systems.{SystemData}
use Rattle.wh_system.specs.WellMade.{AreDistinct}
use Rattle.wh_pairs.specs.PairData.{PairData, IsIncreasing, pair_data}
use Rattle.wh_pairs.specs.Views.{pairs_data}
use Rattle.wh_pairs.specs.declared.pair.Pair.{Pair}
use Rattle.wh_pairs.proofs.ByPlace.{some_one, read_map}
use Rattle.wh_graph.specs.May.{May, Follows}
use Rattle.wh_graph.specs.Blocks.{AreBlocks}
use Rattle.wh_subterm.specs.Projections.{Chosen}
use Rattle.wh_subterm.specs.SubtermRows.{AreForMarked, IsFirstSubtermFault}
use Rattle.wh_subterm.specs.declared.projection.SubtermFault.{SubtermFault}
use Rattle.wh_subterm.specs.declared.projection.SubtermFault.TheVariants.{BadArgs, NoProjection, BadArgument, BadDrop, NotDecreasing}
use Rattle.wh_cert.specs.Written as w
use Rattle.wh_cert.specs.Interps.{Interp}
use Rattle.wh_reduction_pairs.specs.TaskData.{numbers_from, task_over, whole_task}
use Rattle.wh_hopoly.specs.declared.expression.Move.{Move}
use Rattle.wh_polycheck.specs.Readings.{ReadingsData}
use Rattle.wh_polycheck.specs.Covering.{IsCovering, HaveTypedSides, IsTypedTask}
use Rattle.wh_polycheck.specs.Small.{IsSmall}
use Rattle.wh_order_inference.specs.Inferences.{Inference}
use Rattle.wh_order_node.specs.Filterings.{FilteringData}
use Rattle.wh_order_node.specs.Ordering.{IsOrdering}
use Rattle.wh_usable.specs.Closed.{IsClosed}
use Rattle.wh_proof.specs.Nodes.{done, alone, blocks, subterm, poly, order, AreSetsOf, Leaves, by_done, by_alone, by_blocks, by_subterm, by_poly, by_order}
use Rattle.wh_pairs.specs.Sets.{IsSetOf, IsKept}
use Rattle.wh_proof.specs.Looked.{SayChoices, CoversRules, covered_rules, poly_task, moves_of, inferences_of}
use Rattle.wh_checker.specs.Faults.{IsSubtermFault, SayCovering, SayOrdering}
use Rattle.wh_checker.specs.Walk.{IsSingle, IsReduced}
use Rattle.wh_proof.specs.GoesOn.{GoesOn}
use Rattle.wh_proof.proofs.ChoiceLemmas.{one_list_said}

pub because_one : {E : Type 0} {x y : E} → ◌≡◌ {A = Or E} (Because x) (Because y) → x ≡ y
because_one e = cc

-- an answer that says one thing says another that follows
pub ok_then : {T E : Type 0} (r : Result T (Or E)) (P : Type 0) (Q : E → Type 0) (G : Type 0) → MatchOr r (λ _. P) Q → (P → G) → OnOk r G
ok_then (Ok x) P Q G p then = then p
ok_then (Err NoMemory) P Q G p then = tt
ok_then (Err (Because e)) P Q G p then = tt

-- what an answer with a cause says of the cause
pub because_says : {E : Type 0} (e : Or E) (x : E) (P : E → Type 0) → e ≡ Because x → IfBecause {T = Unit {0}} (Err e) P → P x
because_says (Because y) x P is p = let same : y ≡ x = because_one is in subst P same p
because_says NoMemory x P is p = cc

pub goes_done : (d : SystemData) (ps : List PairData) (set : List ℕ) (sets : List (List ℕ)) → set ≡ [] → GoesOn d ps set w.done sets sets
goes_done d ps set sets empty =
    record {
      node = done;
      left = [];
      says = tt;
      leaves = subst (λ (s : List ℕ). Leaves d.symbols d.rules ps s done [])
          (sym empty) by_done;
      small = tt;
      after_is = refl;
    }

pub goes_alone : (d : SystemData) (ps : List PairData) (set : List ℕ) (sets : List (List ℕ)) → IsSingle d.rules ps set
    → GoesOn d ps set w.alone sets sets
goes_alone d ps set sets (a, one, free) =
    record {
      node = alone;
      left = [];
      says = tt;
      leaves = subst (λ (s : List ℕ). Leaves d.symbols d.rules ps s alone []) (sym one)
          (by_alone free);
      small = tt;
      after_is = refl;
    }

pub goes_blocks : (d : SystemData) (ps : List PairData) (set : List ℕ) (parts sets after : List (List ℕ))
    → AreBlocks (Follows d.rules ps) set parts → (left : List (List ℕ)) × AreSetsOf parts left × (after ≡ left ++ sets)
    → GoesOn d ps set (w.blocks parts) sets after
goes_blocks d ps set parts sets after are (left, is, after_is) =
    record { node = blocks parts; left = left; says = refl; leaves = by_blocks are is; small = tt; after_is = after_is }

pub goes_subterm : (d : SystemData) (ps : List PairData) (set : List ℕ) (lines : List w.Arg) (drop rest : List ℕ)
    (sets after : List (List ℕ)) → IsReduced d ps set lines drop rest → after ≡ rest ∷ sets
    → GoesOn d ps set (w.subterm lines drop) sets after
goes_subterm d ps set lines drop rest sets after (args, says, is, kept) after_is =
    record { node = subterm args drop; left = rest ∷ []; says = (says, refl); leaves = by_subterm is kept; small = tt; after_is = after_is }

-- the conditions of a node of interpretations, under what its lines say
pub goes_poly : (d : SystemData) (ps : List PairData) (set : List ℕ) (usable : Option (List ℕ)) (funs lines : List Interp)
    (rules pairs : List (List Move)) (drop rest : List ℕ) (R : ReadingsData) → CoversRules d usable → SayCovering d ps set funs lines R
    → IsCovering (poly_task d ps set usable) R (moves_of rules pairs drop) → IsClosed (poly_task d ps set usable)
    → IsSmall (poly_task d ps set usable) R → IsSetOf (IsKept set drop) rest
    → GoesOn d ps set (w.interpretations usable funs lines rules pairs drop) [] (rest ∷ [])
goes_poly d ps set usable funs lines rules pairs drop rest R covers (says, marked) is closed small kept = record {
  node = poly (covered_rules usable (length d.rules)) R (moves_of rules pairs drop);
  left = rest ∷ [];
  says = (refl, says, refl);
  leaves = by_poly is (record { increasing = covers.0; are_rules = covers.1; closed = closed }) kept;
  small = small;
  after_is = refl;
}

-- the conditions of a node of a path order, under what its lines say
pub goes_order : (d : SystemData) (ps : List PairData) (set : List ℕ) (funs lines : List w.Filtering) (rules pairs : List Inference)
    (drop rest : List ℕ) (D : FilteringData) → SayOrdering d ps set funs lines D
    → IsOrdering (whole_task d.symbols d.rules ps set) D (inferences_of rules pairs drop) → IsSetOf (IsKept set drop) rest
    → GoesOn d ps set (w.order funs lines rules pairs drop) [] (rest ∷ [])
goes_order d ps set funs lines rules pairs drop rest D (says, marked) is kept = record {
  node = order D (inferences_of rules pairs drop);
  left = rest ∷ [];
  says = (says, refl);
  leaves = by_order is kept;
  small = tt;
  after_is = refl;
}

-- a task of the set in which all rules are to be covered
pub whole_is : (S : Symbols) (rules : List RewriteRule) (ps : List PairData) (set other covered : List ℕ) → other ≡ set
    → covered ≡ numbers_from 0 (length rules) → task_over S rules ps other covered ≡ whole_task S rules ps set
whole_is S rules ps set other covered same all = ap₂ (λ s c. task_over S rules ps s c) same all

-- a task of the set in which these rules are to be covered
pub task_is : (S : Symbols) (rules : List RewriteRule) (ps : List PairData) (set other covered wanted : List ℕ) → other ≡ set
    → covered ≡ wanted → task_over S rules ps other covered ≡ task_over S rules ps set wanted
task_is S rules ps set other covered wanted same all = ap₂ (λ s c. task_over S rules ps s c) same all

-- the task of a set of pairs with typed sides, where rules of the system are to be covered
pub typed_task : (d : SystemData) (ps qs : List Pair) (set other covered wanted : List ℕ) → qs ≡ ps → other ≡ set
    → covered ≡ wanted → All (λ n. n < length d.rules) wanted → All (λ n. n < length ps) set → IsIncreasing set
    → HaveTypedSides d.symbols d.rules (pairs_data ps) → IsTypedTask (task_over d.symbols d.rules (pairs_data qs) other covered)
typed_task d ps qs set other covered wanted pairs_same set_same all are_rules within increasing typed =
    subst (λ (l : List Pair). IsTypedTask (task_over d.symbols d.rules (pairs_data l) other covered)) (sym pairs_same)
    (subst (λ (s : List ℕ). IsTypedTask (task_over d.symbols d.rules (pairs_data ps) s covered)) (sym set_same)
    (subst (λ (c : List ℕ). IsTypedTask (task_over d.symbols d.rules (pairs_data ps) set c)) (sym all) (record {
      task = record {
        within = subst (λ n. All (λ m. m < n) set) (sym (length-map ps pair_data)) within;
        increasing = increasing;
        are_rules = are_rules;
      };
      typed = typed;
    })))

-- the moves of equal lines are equal
pub moves_are : (rs rules ps pairs : List (List Move)) (ns drop : List ℕ) → rs ≡ rules → ps ≡ pairs → ns ≡ drop
    → moves_of rs ps ns ≡ moves_of rules pairs drop
moves_are rs rules ps pairs ns drop r p n =
    subst (λ x. moves_of rs ps ns ≡ moves_of rules pairs x) n
    (subst (λ x. moves_of rs ps ns ≡ moves_of rules x ns) p (subst (λ x. moves_of rs ps ns ≡ moves_of x ps ns) r refl))

-- and so are the inferences
pub inferences_are : (rs rules ps pairs : List Inference) (ns drop : List ℕ) → rs ≡ rules → ps ≡ pairs → ns ≡ drop
    → inferences_of rs ps ns ≡ inferences_of rules pairs drop
inferences_are rs rules ps pairs ns drop r p n =
    subst (λ x. inferences_of rs ps ns ≡ inferences_of rules pairs x) n
    (subst (λ x. inferences_of rs ps ns ≡ inferences_of rules x ns) p (subst (λ x. inferences_of rs ps ns ≡ inferences_of x ps ns) r refl))

-- what is left of it comes before other sets
pub goes_before : (d : SystemData) (ps : List PairData) (set : List ℕ) (line : w.Node) (rest : List ℕ) (sets after : List (List ℕ))
    → GoesOn d ps set line [] (rest ∷ []) → after ≡ rest ∷ sets → GoesOn d ps set line sets after
goes_before d ps set line rest sets after goes after_is =
    let one : rest ∷ [] ≡ goes.left = goes.after_is ∙ append-nil goes.left in
    record {
      node = goes.node;
      left = goes.left;
      says = goes.says;
      leaves = goes.leaves;
      small = goes.small;
      after_is = after_is ∙ ap (λ (l : List (List ℕ)). l ++ sets) one;
    }

-- a stack from its top, with one more on it

-- the one number of a set of which the pair may not follow itself
one_number : (set : List ℕ) → length set ≡ 1 → set ≡ get_or set 0 0 ∷ []
one_number (a ∷ []) one = refl
one_number [] one = absurd (omega arith)
one_number (a ∷ b ∷ rest) one = absurd (omega arith)

follows_itself : (rules : List RewriteRule) (pairs : List Pair) (a : ℕ) (pair : Pair)
    → slice_get (map pair_data pairs) a ≡ Some (pair_data pair) → Follows rules (map pair_data pairs) a a → May rules (pair_data pair)
    (pair_data pair)
follows_itself rules pairs a pair here (x, y, at, also, may) =
    let first : x ≡ pair_data pair = some_one at here in
    let second : y ≡ pair_data pair = some_one also here in
    subst (λ (p : PairData). May rules p (pair_data pair)) first (subst (λ (p : PairData). May rules x p) second may)

pub single : (rules : List RewriteRule) (pairs : List Pair) (set : List ℕ) (pair : Pair) → length set ≡ 1 → get_or set 0 0 < length pairs
    → pair ≡ get_or pairs (get_or set 0 0) pair
    → (May rules (pair_data pair) (pair_data pair) → ⊥) → IsSingle rules (map pair_data pairs) set
single rules pairs set pair one within is free = (
  get_or set 0 0,
  one_number set one,
  λ follows. free (follows_itself rules pairs (get_or set 0 0) pair
      (read_map pair_data pairs (get_or set 0 0) pair within is) follows),
)

-- what is wrong first with the choices that the lines say is what is wrong first with the lines
pub subterm_fault : (d : SystemData) (ps : List PairData) (set : List ℕ) (lines : List w.Arg) (args : List Chosen) (drop : List ℕ)
    (f : SubtermFault) → AreDistinct d.fun_names → SayChoices d lines args
    → IsFirstSubtermFault d.rules ps set args drop f → IsSubtermFault d ps set lines drop f
subterm_fault d ps set lines args drop BadArgs apart says first =
    λ others also marked. first (subst (AreForMarked ps set) (one_list_said d lines others args apart also says) marked)
subterm_fault d ps set lines args drop (NoProjection f) apart says first = (args, says, first)
subterm_fault d ps set lines args drop (BadArgument f) apart says first = (args, says, first)
subterm_fault d ps set lines args drop BadDrop apart says first = (args, says, first)
subterm_fault d ps set lines args drop (NotDecreasing n) apart says first = (args, says, first)
