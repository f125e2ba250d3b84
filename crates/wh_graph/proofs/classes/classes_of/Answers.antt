use Rattle.std.proofs.Common.{◌≡◌, ◌+◌, ◌<◌, ◌≤◌, ℕ, Option, Some, None, List, [], ◌∷◌, ◌++◌, length, take, drop, replicate, vec_len, slice_get, refl, rules, inl, inr, sym, subst, ap, ◌∙◌, arith}
use Rattle.std.proofs.lemmas.Bool.{cases_eq}
use Rattle.std.proofs.lemmas.List.{length-append, length-replicate}
use Rattle.std.proofs.lemmas.Option.{slice_get_within}
use Rattle.wh_graph.specs.Classes.{HasClass, IsPlaced, AreGiven, Grown}
use Rattle.wh_graph.specs.Graphs.{Edge, HavePassed, Turned}
use Rattle.wh_graph.proofs.GraphLemmas.{edge_within, passed_none}
use Rattle.wh_pairs.proofs.ByPlace.{some_one, contains_at, place_of}
use Rattle.wh_graph.proofs.PushLemmas.{push_old, push_new, lent_whole}
use Rattle.wh_graph.proofs.ClassLemmas.{given_next, given_none, class_at, none_at}
use Rattle.wh_graph.proofs.classes.classes_of.Goals as goal

pub index-requires : goal.index-requires
index-requires c =
    let rest = c.pop.new.self.items in
    let top : slice_get c.loop-vertex.left.items (length rest) ≡ Some c.in-Some.vertex = ap (λ (xs : List ℕ). slice_get xs (length rest)) c.in-Some.ensures.items ∙ push_new rest c.in-Some.vertex in
    let there = contains_at c.args.order.items (length rest) c.in-Some.vertex (c.loop-vertex.invariant.front (length rest) c.in-Some.vertex top) in
    omega (arith, c.requires.order.within c.in-Some.vertex there, c.loop-vertex.invariant.given.size, c.loop-vertex.of.ok)

pub place_class-requires-clause-root : goal.place_class-requires-clause-root
place_class-requires-clause-root c =
    let rest = c.pop.new.self.items in
    let v = c.in-Some.vertex in
    let top : slice_get c.loop-vertex.left.items (length rest) ≡ Some v = ap (λ (xs : List ℕ). slice_get xs (length rest)) c.in-Some.ensures.items ∙ push_new rest v in
    let there = contains_at c.args.order.items (length rest) v (c.loop-vertex.invariant.front (length rest) v top) in
    let within : v < length c.loop-vertex.of.items = omega (arith, c.requires.order.within v there, c.loop-vertex.invariant.given.size) in
    subst (λ (of : List (Option ℕ)). slice_get of v ≡ Some None) (sym c.deref_mut.ensures.value) (none_at c.loop-vertex.of.items v c.index.result.now c.is_none.result within c.index.ensures c.is_none.ensures c.if-is_none.true)

pub loop-vertex-preserved-then-is_none : goal.loop-vertex-preserved-then-is_none
loop-vertex-preserved-then-is_none c =
    let rows = c.args.rows.now in
    let E = Turned (Edge rows) in
    let n = length rows in
    let order = c.args.order.items in
    let rest = c.pop.new.self.items in
    let k = length rest in
    let r = c.in-Some.vertex in
    let count = c.loop-vertex.count in
    let of = c.loop-vertex.of.items in
    let new = c.place_class.new.of in
    let left_is = c.in-Some.ensures.items in
    let long : length c.loop-vertex.left.items ≡ k + 1 = ap length left_is ∙ length-append rest (r ∷ []) in
    let at : slice_get order k ≡ Some r = c.loop-vertex.invariant.front k r (ap (λ (xs : List ℕ). slice_get xs k) left_is ∙ push_new rest r) in
    let grown = subst (λ (old : List (Option ℕ)). Grown E r count old new) c.deref_mut.ensures.value c.in_ok-place_class.ensures.grown in
    let back = lent_whole of new c.loop-vertex.of.len (omega (arith, c.loop-vertex.of.ok)) grown.size in
    let next = c.loop-vertex.next.items in
    let moved = c.place_class.new.next in
    let home = lent_whole next moved c.loop-vertex.next.len (omega (arith, c.loop-vertex.next.ok)) (c.in_ok-place_class.ensures.passed.size ∙ sym c.loop-vertex.invariant.passed.size) in
    record {
      given = subst (λ (fs : List (Option ℕ)). AreGiven E n (count + 1) fs) (sym back)
          (given_next E n order k r count of new (λ a b edge. edge_within rows b a edge) c.requires.order c.loop-vertex.invariant.given (λ i v later there. c.loop-vertex.invariant.placed i v (omega (arith, long, c.loop-vertex.left.ok)) there) at grown);
      front = λ i v there. c.loop-vertex.invariant.front i v (ap (λ (xs : List ℕ). slice_get xs i) left_is ∙ push_old rest r i v there);
      placed = λ i v past there. elim (cases_eq i k) [
        | inl same ↦
            let one : r ≡ v = some_one at (sym (ap (slice_get order) same) ∙ there) in
            (count, subst (λ (fs : List (Option ℕ)). HasClass fs v count) (sym back) (subst (λ (w : ℕ). HasClass new w count) one grown.root_has))
        | inr other ↦
            let has = c.loop-vertex.invariant.placed i v (omega (arith, long, c.loop-vertex.left.ok, c.pop.new.self.ok)) there in
            (has.0, subst (λ (fs : List (Option ℕ)). HasClass fs v has.0) (sym back) (grown.kept v has.0 has.1))
      ];
      few = omega (arith, c.loop-vertex.invariant.few, c.in-Some.ensures.len);
      passed = subst (λ (fs : List (Option ℕ)). HavePassed (IsPlaced fs) rows (take c.loop-vertex.next.len (moved ++ drop (length moved) next))) (sym back) (subst (λ (ps : List ℕ). HavePassed (IsPlaced new) rows ps) (sym home) c.in_ok-place_class.ensures.passed);
    }

pub loop-vertex-preserved : goal.loop-vertex-preserved
loop-vertex-preserved c =
    let order = c.args.order.items in
    let rest = c.pop.new.self.items in
    let k = length rest in
    let r = c.in-Some.vertex in
    let of = c.loop-vertex.of.items in
    let left_is = c.in-Some.ensures.items in
    let long : length c.loop-vertex.left.items ≡ k + 1 = ap length left_is ∙ length-append rest (r ∷ []) in
    let at : slice_get order k ≡ Some r = c.loop-vertex.invariant.front k r (ap (λ (xs : List ℕ). slice_get xs k) left_is ∙ push_new rest r) in
    let within : r < length of = omega (arith, c.requires.order.within r (contains_at order k r at), c.loop-vertex.invariant.given.size) in
    let has_r = class_at of r c.index.result.now c.is_none.result within c.index.ensures c.is_none.ensures c.if-is_none.false in
    record {
      given = c.loop-vertex.invariant.given;
      front = λ i v there. c.loop-vertex.invariant.front i v (ap (λ (xs : List ℕ). slice_get xs i) left_is ∙ push_old rest r i v there);
      placed = λ i v past there. elim (cases_eq i k) [
        | inl same ↦
            let one : r ≡ v = some_one at (sym (ap (slice_get order) same) ∙ there) in
            (has_r.0, subst (λ (w : ℕ). HasClass of w has_r.0) one has_r.1)
        | inr other ↦ c.loop-vertex.invariant.placed i v (omega (arith, long, c.loop-vertex.left.ok, c.pop.new.self.ok)) there
      ];
      few = omega (arith, c.loop-vertex.invariant.few, c.in-Some.ensures.len);
      passed = c.loop-vertex.invariant.passed;
    }

pub returns : goal.returns
returns c = record {
  given = c.loop-vertex.invariant.given;
  all = λ v below.
      let there = place_of c.args.order.items v (c.requires.order.whole v below) in
      let empty : vec_len c.loop-vertex.left ≤ there.0 = omega (arith, c.in_default.ensures.cases.0) in
      c.loop-vertex.invariant.placed there.0 v empty there.1;
}

pub loop-vertex-init : goal.loop-vertex-init
loop-vertex-init c =
    let rows = c.args.rows.now in
    let n = length rows in
    let order = c.args.order.items in
    let of : c.in_ok-of.of.items ≡ replicate n None = c.in_ok-of.ensures.items_if_clones_equal (search rules) in
    let next : c.in_ok-next.next.items ≡ replicate n 0 = c.in_ok-next.ensures.items_if_clones_equal (search rules) in
    record {
      given = subst (AreGiven (Turned (Edge rows)) n 0) (sym of) (given_none (Turned (Edge rows)) n n refl (length-replicate n None));
      front = λ i v there. there;
      placed = λ i v past there. let within = slice_get_within order i v there in absurd (omega (arith, past, within, c.args.order.ok));
      few = omega arith;
      passed = subst (HavePassed (IsPlaced c.in_ok-of.of.items) rows) (sym next) (passed_none (IsPlaced c.in_ok-of.of.items) rows n (length-replicate n 0));
    }

pub place_class-requires-clause-passed : goal.place_class-requires-clause-passed
place_class-requires-clause-passed c =
    let rows = c.args.rows.now in
    subst (λ (fs : List (Option ℕ)). HavePassed (IsPlaced fs) rows c.deref_mut-then-is_none.result.now) (sym c.deref_mut.ensures.value)
    (subst (λ (ps : List ℕ). HavePassed (IsPlaced c.loop-vertex.of.items) rows ps) (sym c.deref_mut-then-is_none.ensures.value) c.loop-vertex.invariant.passed)

pub place_class-requires-clause-number : goal.place_class-requires-clause-number
place_class-requires-clause-number c = λ v has.
    let less = c.loop-vertex.invariant.given.below v c.loop-vertex.count (subst (λ (fs : List (Option ℕ)). HasClass fs v c.loop-vertex.count) c.deref_mut.ensures.value has) in
    omega arith
