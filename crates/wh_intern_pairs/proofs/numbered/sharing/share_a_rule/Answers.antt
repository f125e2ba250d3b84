-- Next to each other, or not.
use Rattle.std.proofs.Common.{sym, ap, ◌∙◌, arith}
use Rattle.wh_pairs.specs.declared.pair.Pair.{Pair}
use Rattle.wh_intern_pairs.proofs.ShareLemmas.{share_here, none_before, none_at_all}
use Rattle.wh_intern_pairs.proofs.numbered.sharing.share_a_rule.Goals as goal

pub returns-then-pairs-set : goal.returns-then-pairs-set
returns-then-pairs-set c =
    let x = c.index-pairs-set.result in
    let y = c.index-pairs-set-in-loop-place.result in
    let left = ap (λ (p : Pair). p.rule) c.index-pairs-set.is in
    let right = ap (λ (p : Pair). p.rule) c.index-pairs-set-in-loop-place.is in (
      λ _. share_here c.args.pairs.now c.args.set.now c.requires c.loop-place.place x y (omega arith) c.loop-place-test.true c.index-pairs-set.is
          c.index-pairs-set-in-loop-place.is (left ∙ c.if-pairs-set.true ∙ sym right),
      λ _. cc,
    )

pub loop-place-preserved : goal.loop-place-preserved
loop-place-preserved c =
    let x = c.index-pairs-set.result in
    let y = c.index-pairs-set-in-loop-place.result in
    let left = ap (λ (p : Pair). p.rule) c.index-pairs-set.is in
    let right = ap (λ (p : Pair). p.rule) c.index-pairs-set-in-loop-place.is in
    none_before c.args.pairs.now c.args.set.now c.requires c.loop-place.place x y (omega arith) c.loop-place-test.true c.index-pairs-set.is
    c.index-pairs-set-in-loop-place.is c.loop-place.invariant (λ one. c.if-pairs-set.false (sym left ∙ one ∙ right))

pub returns : goal.returns
returns c = (
  λ no_way. cc,
  λ shared. absurd (none_at_all c.args.pairs.now c.args.set.now c.requires c.loop-place.place c.loop-place.invariant c.loop-place-test.false shared),
)
