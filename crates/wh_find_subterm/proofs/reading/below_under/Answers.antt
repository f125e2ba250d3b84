use Rattle.std.proofs.Common.{List, ℕ, ◌+◌, map, get_or, sym, subst, ◌∙◌}
use Rattle.wh_pairs.specs.PairData.{pair_data}
use Rattle.wh_pairs.proofs.ByPlace.{number_at}
use Rattle.wh_subterm.specs.Projections.{Below}
use Rattle.wh_subterm.specs.SubtermRows.{chosen}
use Rattle.wh_find_subterm.specs.Reading.{IsBelowSet}
use Rattle.wh_find_subterm.proofs.BelowSets.{below_all, below_more, below_skip, below_under}
use Rattle.wh_find_subterm.proofs.Chosen.{pair_is}
use Rattle.wh_find_subterm.proofs.reading.below_under.Goals as goal
use Rattle.wh_find_subterm.proofs.reading.below_under.Goals.{then-is_below_in+in_ok-push, else-is_below_in}

pub push-requires : goal.push-requires
push-requires c =
    below_under (map pair_data c.args.pairs.now) c.args.set.now (map chosen c.args.args.now) c.loop-number.number-index c.loop-number.drop c.loop-number.invariant c.requires.increasing c.loop-number-test.true

pub loop-number-preserved : goal.loop-number-preserved
loop-number-preserved c =
    let ps = map pair_data c.args.pairs.now in
    let set = c.args.set.now in
    let args = map chosen c.args.args.now in
    let i = c.loop-number.number-index in
    let n = get_or set i 0 in
    let p = c.sight_of.result.pair.now in
    let drop = c.loop-number.drop in
    let at = number_at set i c.loop-number-test.true in
    let is = pair_is ps n (pair_data p) c.sight_of.ensures.pair in
    elim c.if-is_below_in.branch [
      | then-is_below_in+in_ok-push w ↦ subst (λ (ds : List ℕ). IsBelowSet ps set args (i + 1) ds) (sym (w.drop-is ∙ w.in_ok-push.ensures.ok))
          (below_more ps set args i n drop c.loop-number.invariant c.requires.increasing at (subst (Below args) (sym is) (c.is_below_in.ensures.0 w.if-is_below_in.true)))
      | else-is_below_in w ↦ subst (λ (ds : List ℕ). IsBelowSet ps set args (i + 1) ds) (sym w.drop-is)
          (below_skip ps set args i n drop c.loop-number.invariant at (λ below. cc (c.is_below_in.ensures.1 (subst (Below args) is below), w.if-is_below_in.false)))
    ]

pub returns : goal.returns
returns c = below_all (map pair_data c.args.pairs.now) c.args.set.now (map chosen c.args.args.now) c.loop-number.number-index c.loop-number.drop c.loop-number.invariant c.loop-number-test.false
