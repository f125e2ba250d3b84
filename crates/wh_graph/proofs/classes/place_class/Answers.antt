use Rattle.std.proofs.Common.{◌≡◌, ℕ, List, [], ◌∷◌, ◌++◌, Some, None, Contains, sym, subst, ap, ◌∙◌, arith}
use Rattle.std.proofs.Math.ListN.{set}
use Rattle.std.proofs.lemmas.Option.{slice_get_within}
use Rattle.std.proofs.lemmas.List.Elements.{Contains-push}
use Rattle.wh_graph.specs.Classes.{IsPlaced}
use Rattle.wh_graph.specs.Graphs.{Edge, Turned}
use Rattle.wh_graph.proofs.ClassLemmas.{Growing, grow_start, grow_more, grow_leave, one_less_unplaced, placed_stays}
use Rattle.wh_graph.proofs.GraphLemmas.{passed_weaker}
use Rattle.wh_graph.proofs.classes.place_class.Goals as goal

pub loop-vertex-init : goal.loop-vertex-init
loop-vertex-init c =
    let E = Turned (Edge c.args.rows.now) in
    let of = c.args.of.now in
    let root = c.args.root in
    let number = c.args.number in
    let pushed : c.push.new.self.items ≡ root ∷ [] = c.in_ok-push.ensures.items ∙ ap (λ (xs : List ℕ). xs ++ root ∷ []) c.new-stack.ensures.items in
    record {
      growing = subst (λ (stack : List ℕ). Growing E root number of (set of root (Some number)) stack) (sym pushed) (grow_start E root number of c.requires.number c.requires.root);
      passed = passed_weaker (IsPlaced of) (IsPlaced (set of root (Some number))) c.args.rows.now c.args.next.now (λ v has. placed_stays of root number v c.requires.root has) c.requires.passed;
    }

pub unplaced_predecessor-requires-clause-vertex : goal.unplaced_predecessor-requires-clause-vertex
unplaced_predecessor-requires-clause-vertex c =
    let v = c.in-Some.vertex in
    let there : Contains c.loop-vertex.stack.items v = subst (λ (xs : List ℕ). Contains xs v) (sym c.in-Some.ensures.items) (Contains-push c.pop.new.self.items v) in
    let growing = c.loop-vertex.invariant.growing in
    omega (arith, slice_get_within c.loop-vertex.of v (Some c.args.number) (growing.on_stack v there), growing.size, c.requires.size)

pub bounds-of-other : goal.bounds-of-other
bounds-of-other c = slice_get_within c.loop-vertex.of c.in-Some-unplaced_predecessor.other None c.in-Some-unplaced_predecessor.ensures.found.1

pub offset_bounds-of-other : goal.offset_bounds-of-other
offset_bounds-of-other c = omega (arith, slice_get_within c.loop-vertex.of c.in-Some-unplaced_predecessor.other None c.in-Some-unplaced_predecessor.ensures.found.1)

pub loop-vertex-smaller-in-Continue-branch-3 : goal.loop-vertex-smaller-in-Continue-branch-3
loop-vertex-smaller-in-Continue-branch-3 c =
    omega (arith, one_less_unplaced c.loop-vertex.of c.in-Some-unplaced_predecessor.other c.args.number c.in-Some-unplaced_predecessor.ensures.found.1, c.in_ok-push-3.ensures.len, c.in_ok-push-2.ensures.len, c.in-Some.ensures.len)

pub loop-vertex-preserved-in-Continue-branch-3 : goal.loop-vertex-preserved-in-Continue-branch-3
loop-vertex-preserved-in-Continue-branch-3 c =
    let E = Turned (Edge c.args.rows.now) in
    let old = c.args.of.now in
    let root = c.args.root in
    let number = c.args.number in
    let of = c.loop-vertex.of in
    let rest = c.pop.new.self.items in
    let v = c.in-Some.vertex in
    let w = c.in-Some-unplaced_predecessor.other in
    let edge = c.in-Some-unplaced_predecessor.ensures.found.0 in
    let free = c.in-Some-unplaced_predecessor.ensures.found.1 in
    let before = subst (λ (stack : List ℕ). Growing E root number old of stack) c.in-Some.ensures.items c.loop-vertex.invariant.growing in
    let pushed : c.push-in-Some-unplaced_predecessor-2.new.self.items ≡ (rest ++ v ∷ []) ++ w ∷ [] = c.in_ok-push-3.ensures.items ∙ ap (λ (xs : List ℕ). xs ++ w ∷ []) c.in_ok-push-2.ensures.items in
    record {
      growing = subst (λ (stack : List ℕ). Growing E root number old (set of w (Some number)) stack) (sym pushed) (grow_more E root number old of rest v w before edge free);
      passed = passed_weaker (IsPlaced of) (IsPlaced (set of w (Some number))) c.args.rows.now c.unplaced_predecessor.new.next (λ u has. placed_stays of w number u free has) c.in-Some-unplaced_predecessor.ensures.passed;
    }

pub loop-vertex-preserved : goal.loop-vertex-preserved
loop-vertex-preserved c =
    let E = Turned (Edge c.args.rows.now) in
    let before = subst (λ (stack : List ℕ). Growing E c.args.root c.args.number c.args.of.now c.loop-vertex.of stack) c.in-Some.ensures.items c.loop-vertex.invariant.growing in
    record {
      growing = grow_leave E c.args.root c.args.number c.args.of.now c.loop-vertex.of c.pop.new.self.items c.in-Some.vertex before c.in_default-unplaced_predecessor.ensures.found;
      passed = c.in_default-unplaced_predecessor.ensures.passed;
    }
