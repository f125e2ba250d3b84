use Rattle.std.proofs.Common.{◌-◌, ◌≡◌, ℕ, Bool, false, List, [], Some, slice_get, inl, inr, length, replicate, refl, rules, ap, ◌∙◌, sym, subst, arith}
use Rattle.std.proofs.lemmas.Bool.{cases_eq}
use Rattle.std.proofs.lemmas.List.{length-replicate}
use Rattle.wh_pairs.proofs.ByPlace.{read}
use Rattle.wh_graph.specs.Graphs.{Edge, HavePassed}
use Rattle.wh_graph.specs.Walks.{IsSeen, Walked}
use Rattle.wh_graph.proofs.WalkLemmas.{walked_all, walked_none}
use Rattle.wh_graph.proofs.GraphLemmas.{passed_none}
use Rattle.wh_graph.proofs.walk.leaving_order.Goals as goal

pub loop-start-init : goal.loop-start-init
loop-start-init c =
    let rows = c.args.rows.now in
    let n = length rows in
    let seen : c.in_ok-seen.seen.items ≡ replicate n false = c.in_ok-seen.ensures.items_if_clones_equal (search rules) in
    let next : c.in_ok-next.next.items ≡ replicate n 0 = c.in_ok-next.ensures.items_if_clones_equal (search rules) in
    let none = subst (λ (left : List ℕ). Walked (Edge rows) n (replicate n false) [] left) (sym c.new-order.ensures.items) (walked_none (Edge rows) n n refl (length-replicate n false)) in
    record {
      walked = subst (λ (marks : List Bool). Walked (Edge rows) n marks [] c.new-order.result.items) (sym seen) none;
      seen = λ v above below. absurd (omega arith);
      passed = subst (HavePassed (IsSeen c.in_ok-seen.seen.items) rows) (sym next) (passed_none (IsSeen c.in_ok-seen.seen.items) rows n (length-replicate n 0));
    }

pub loop-start-preserved : goal.loop-start-preserved
loop-start-preserved c =
    let old = c.loop-start.seen.items in
    let start = c.loop-start.start - 1 in
    let here = read old start c.index.result.now (omega (arith, c.loop-start.invariant.walked.size, c.loop-start-test.true, c.loop-start.auto.start)) c.index.ensures ∙ ap Some c.if-not-index.false in
    record {
      walked = c.loop-start.invariant.walked;
      seen = λ v above below. elim (cases_eq v start) [
        | inl same ↦ ap (slice_get old) same ∙ here
        | inr other ↦ c.loop-start.invariant.seen v (omega arith) below
      ];
      passed = c.loop-start.invariant.passed;
    }

pub returns : goal.returns
returns c =
    let rows = c.args.rows.now in
    walked_all (Edge rows) (length rows) c.loop-start.seen.items c.loop-start.order.items c.loop-start.invariant.walked
    (λ v below. c.loop-start.invariant.seen v (omega (arith, c.loop-start-test.false)) below)
