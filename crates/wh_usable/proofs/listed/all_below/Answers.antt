use Rattle.std.proofs.Common.{◌<◌, get_or, refl, arith}
use Rattle.std.proofs.lemmas.List.Elements.{Contains-get_or}
use Rattle.wh_pairs.proofs.ByPlace.{number_at, before_more, before_all}
use Rattle.wh_usable.proofs.listed.all_below.Goals as goal

pub returns-then-number-bound : goal.returns-then-number-bound
returns-then-number-bound c =
    let i = c.loop-number.number-index in (
      λ no_way. cc,
      λ all. absurd (omega (arith, all i 0 c.loop-number-test.true, c.if-number-bound.true)),
    )

pub loop-number-preserved : goal.loop-number-preserved
loop-number-preserved c =
    let i = c.loop-number.number-index in
    before_more (λ n. n < c.args.bound) c.args.numbers.now i (get_or c.args.numbers.now i 0) c.loop-number.invariant
    (number_at c.args.numbers.now i c.loop-number-test.true) (omega (arith, c.if-number-bound.false))

pub returns : goal.returns
returns c = (
  λ _ k d within. before_all (λ n. n < c.args.bound) c.args.numbers.now c.loop-number.number-index (get_or c.args.numbers.now k d)
      c.loop-number.invariant c.loop-number-test.false (Contains-get_or c.args.numbers.now k d within),
  λ _. refl,
)
