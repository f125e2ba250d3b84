use Rattle.std.proofs.Common.{◌+◌, ℕ, Option, map, get_or, sym, subst, ◌∙◌}
use Rattle.wh_pairs.specs.PairData.{PairData, pair_data}
use Rattle.wh_system.specs.SystemView.{system_data}
use Rattle.wh_graph.specs.Least.{LeastOf}
use Rattle.wh_graph.specs.May.{Follows}
use Rattle.wh_pairs.proofs.ByPlace.{number_at, read_map}
use Rattle.wh_graph.proofs.FollowLemmas.{follows_from, follows_may}
use Rattle.wh_graph.proofs.LeastLemmas.{Among, among_more, among_skip, among_all}
use Rattle.wh_graph.proofs.back_edges.least_follower_in.Goals as goal
use Rattle.wh_graph.proofs.back_edges.least_follower_in.Goals.{then-may_follow, else-may_follow}

pub loop-other-preserved : goal.loop-other-preserved
loop-other-preserved c =
    let rules = (system_data c.args.system.now).rules in
    let pairs = c.args.pairs.now in
    let ps = map pair_data pairs in
    let list = c.args.list.now in
    let a = c.args.number in
    let i = c.loop-other.other-index in
    let b = get_or list i 0 in
    let at = number_at list i c.loop-other-test.true in
    let first = read_map pair_data pairs a c.index-pairs-number.result c.requires.number c.index-pairs-number.is in
    let second = read_map pair_data pairs b c.index-pairs-other.result (c.requires.list i 0 c.loop-other-test.true) c.index-pairs-other.is in
    let Q : ℕ → Type 0 = Follows rules ps a in
    let x : PairData = pair_data c.index-pairs-number.result in
    let y : PairData = pair_data c.index-pairs-other.result in
    elim c.if-may_follow.branch [
      | then-may_follow w ↦ subst (λ (o : Option ℕ). LeastOf (Among Q list (i + 1)) o) (sym (w.least-is ∙ w.smaller-least.ensures))
          (among_more Q list i b c.loop-other.least c.loop-other.invariant at (follows_from rules ps a b x y first second (c.may_follow.ensures.0 w.if-may_follow.true)))
      | else-may_follow w ↦ subst (λ (o : Option ℕ). LeastOf (Among Q list (i + 1)) o) (sym w.least-is)
          (among_skip Q list i b c.loop-other.least c.loop-other.invariant at (λ follows. cc (c.may_follow.ensures.1 (follows_may rules ps a b x y first second follows), w.if-may_follow.false)))
    ]

pub returns : goal.returns
returns c = among_all (Follows (system_data c.args.system.now).rules (map pair_data c.args.pairs.now) c.args.number) c.args.list.now c.loop-other.other-index c.loop-other.least c.loop-other-test.false c.loop-other.invariant
