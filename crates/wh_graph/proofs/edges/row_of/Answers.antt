use Rattle.std.proofs.Common.{◌≡◌, ◌+◌, ℕ, List, map, true, false, sym, subst, ◌∙◌, arith}
use Rattle.std.proofs.lemmas.List.{length-map}
use Rattle.wh_pairs.specs.PairData.{pair_data}
use Rattle.wh_system.specs.SystemView.{system_data}
use Rattle.wh_pairs.proofs.ByPlace.{read_map}
use Rattle.wh_graph.specs.May.{Follows}
use Rattle.wh_graph.proofs.FollowLemmas.{follows_from, follows_may}
use Rattle.wh_graph.proofs.GraphLemmas.{HasBelow, below_none, below_push, below_skip, follows_within}
use Rattle.wh_graph.proofs.edges.row_of.Goals as goal
use Rattle.wh_graph.proofs.edges.row_of.Goals.{then-may_follow+in_ok-push, else-may_follow}

pub loop-other-init : goal.loop-other-init
loop-other-init c =
    let P = Follows (system_data c.args.system.now).rules (map pair_data c.args.pairs.now) c.args.number in
    subst (λ (row : List ℕ). HasBelow P 0 row) (sym c.new-row.ensures) (below_none P)

pub loop-other-preserved : goal.loop-other-preserved
loop-other-preserved c =
    let rules = (system_data c.args.system.now).rules in
    let pairs = c.args.pairs.now in
    let ps = map pair_data pairs in
    let a = c.args.number in
    let b = c.loop-other.other in
    let P = Follows rules ps a in
    let x = c.index-pairs-number.result in
    let y = c.index-pairs-other.result in
    let row = c.loop-other.row in
    let at_a = read_map pair_data pairs a x c.requires.number c.index-pairs-number.is in
    let at_b = read_map pair_data pairs b y (omega (arith, c.loop-other-test.true, c.requires.count)) c.index-pairs-other.is in
    let IsNext = λ (r : List ℕ). HasBelow P (b + 1) r in
    elim c.if-may_follow.branch [
      | then-may_follow+in_ok-push w ↦ subst IsNext (sym (w.row-is ∙ w.in_ok-push.ensures.ok))
          (below_push P b row c.loop-other.invariant (follows_from rules ps a b (pair_data x) (pair_data y) at_a at_b (c.may_follow.ensures.0 w.if-may_follow.true)))
      | else-may_follow w ↦ subst IsNext (sym w.row-is) (below_skip P b row c.loop-other.invariant (λ e.
          let told = c.may_follow.ensures.1 (follows_may rules ps a b (pair_data x) (pair_data y) at_a at_b e) in
          let both : true ≡ false = sym told ∙ w.if-may_follow.false in cc))
    ]

pub returns : goal.returns
returns c =
    let rules = (system_data c.args.system.now).rules in
    let ps = map pair_data c.args.pairs.now in
    λ b. (
      λ found. ((c.loop-other.invariant b).0 found).1,
      λ e.
          let both = follows_within rules ps c.args.number b e in
          (c.loop-other.invariant b).1 (omega (arith, both.1, length-map c.args.pairs.now pair_data, c.requires.count, c.loop-other-test.false), e),
    )
