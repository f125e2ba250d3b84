use Rattle.std.proofs.Common.{◌≡◌, ℕ, true, false, List, [], ◌∷◌, ◌++◌, Contains, length, sym, subst, ap, ◌∙◌, arith}
use Rattle.std.proofs.Math.ListN.{set}
use Rattle.std.proofs.lemmas.Option.{slice_get_within}
use Rattle.std.proofs.lemmas.List.Elements.{Contains-push}
use Rattle.wh_graph.specs.Graphs.{Edge}
use Rattle.wh_graph.specs.Walks.{stay, go, IsSeen, Walked}
use Rattle.wh_graph.proofs.GraphLemmas.{passed_weaker}
use Rattle.wh_graph.proofs.PushLemmas.{set_here}
use Rattle.wh_graph.proofs.WalkLemmas.{path_join, seen_stays, walked_push, walked_leave, path_to_top, one_less_unseen}
use Rattle.wh_graph.proofs.walk.walk_from.Goals as goal

pub loop-vertex-init : goal.loop-vertex-init
loop-vertex-init c =
    let rows = c.args.rows.now in
    let seen = c.args.seen.now in
    let start = c.args.start in
    let pushed : c.push.new.self.items ≡ start ∷ [] = c.in_ok-push.ensures.items ∙ ap (λ (xs : List ℕ). xs ++ start ∷ []) c.new-stack.ensures.items in
    record {
      walked = subst (λ (stack : List ℕ). Walked (Edge rows) (length rows) (set seen start true) stack c.args.order.now.items) (sym pushed)
          (walked_push (Edge rows) (length rows) seen [] c.args.order.now.items start c.requires.walked c.requires.start (λ k u at. cc));
      start = set_here seen start true (slice_get_within seen start false c.requires.start);
      kept = λ v here. seen_stays seen start v c.requires.start here;
      passed = passed_weaker (IsSeen seen) (IsSeen (set seen start true)) rows c.args.next.now (λ w here. seen_stays seen start w c.requires.start here) c.requires.passed;
    }

pub unseen_successor-requires-clause-vertex : goal.unseen_successor-requires-clause-vertex
unseen_successor-requires-clause-vertex c =
    let v = c.in-Some.vertex in
    let there : Contains c.loop-vertex.stack.items v = subst (λ (xs : List ℕ). Contains xs v) (sym c.in-Some.ensures.items) (Contains-push c.pop.new.self.items v) in
    let walked = c.loop-vertex.invariant.walked in
    omega (arith, slice_get_within c.loop-vertex.seen v true (walked.stack_seen v there), walked.size)

pub bounds-seen-found : goal.bounds-seen-found
bounds-seen-found c = slice_get_within c.loop-vertex.seen c.in-Some-unseen_successor.found false c.in-Some-unseen_successor.ensures.found.1

pub loop-vertex-smaller-in-Continue-branch-3 : goal.loop-vertex-smaller-in-Continue-branch-3
loop-vertex-smaller-in-Continue-branch-3 c =
    omega (arith, one_less_unseen c.loop-vertex.seen c.in-Some-unseen_successor.found c.in-Some-unseen_successor.ensures.found.1, c.in_ok-push-in-Some-unseen_successor-2.ensures.len, c.in_ok-push-in-Some-unseen_successor.ensures.len, c.in-Some.ensures.len)

pub loop-vertex-preserved-in-Continue-branch-3 : goal.loop-vertex-preserved-in-Continue-branch-3
loop-vertex-preserved-in-Continue-branch-3 c =
    let rows = c.args.rows.now in
    let E = Edge rows in
    let n = length rows in
    let seen = c.loop-vertex.seen in
    let left = c.loop-vertex.order.items in
    let rest = c.pop.new.self.items in
    let v = c.in-Some.vertex in
    let w = c.in-Some-unseen_successor.found in
    let edge = c.in-Some-unseen_successor.ensures.found.0 in
    let free = c.in-Some-unseen_successor.ensures.found.1 in
    let walked = subst (λ (stack : List ℕ). Walked E n seen stack left) c.in-Some.ensures.items c.loop-vertex.invariant.walked in
    let pushed : c.push-in-Some-unseen_successor-2.new.self.items ≡ (rest ++ v ∷ []) ++ w ∷ [] = c.in_ok-push-in-Some-unseen_successor-2.ensures.items ∙ ap (λ (xs : List ℕ). xs ++ w ∷ []) c.in_ok-push-in-Some-unseen_successor.ensures.items in
    record {
      walked = subst (λ (stack : List ℕ). Walked E n (set seen w true) stack left) (sym pushed)
          (walked_push E n seen (rest ++ v ∷ []) left w walked free (λ k u at. path_join (path_to_top E n seen rest v left walked k u at) (go edge stay)));
      start = seen_stays seen w c.args.start free c.loop-vertex.invariant.start;
      kept = λ u here. seen_stays seen w u free (c.loop-vertex.invariant.kept u here);
      passed = passed_weaker (IsSeen seen) (IsSeen (set seen w true)) rows c.unseen_successor.new.next (λ u here. seen_stays seen w u free here) c.in-Some-unseen_successor.ensures.passed;
    }

pub loop-vertex-preserved : goal.loop-vertex-preserved
loop-vertex-preserved c =
    let rows = c.args.rows.now in
    let E = Edge rows in
    let n = length rows in
    let seen = c.loop-vertex.seen in
    let left = c.loop-vertex.order.items in
    let rest = c.pop.new.self.items in
    let v = c.in-Some.vertex in
    let walked = subst (λ (stack : List ℕ). Walked E n seen stack left) c.in-Some.ensures.items c.loop-vertex.invariant.walked in
    record {
      walked = subst (λ (gone : List ℕ). Walked E n seen rest gone) (sym c.in_ok-push-in-None.ensures.items) (walked_leave E n seen rest v left walked c.in-None.ensures.found);
      start = c.loop-vertex.invariant.start;
      kept = c.loop-vertex.invariant.kept;
      passed = c.in-None.ensures.passed;
    }
