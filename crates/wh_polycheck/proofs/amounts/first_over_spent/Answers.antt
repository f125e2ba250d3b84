-- The blocks before are done, and the next one either has the first fault or is done too.
use Rattle.std.proofs.Common.{arith, ◌≡◌, length}
use Rattle.wh_poly.specs.Erase.{sum_of}
use Rattle.wh_hopoly.specs.Erase.{transfers}
use Rattle.wh_hopoly.specs.Moves.{NotOverSpent}
use Rattle.wh_polycheck.proofs.GoodWalk.{monomial_within}
use Rattle.wh_polycheck.proofs.AmountWalk.{further, before_found}
use Rattle.wh_polycheck.proofs.amounts.first_over_spent.Goals as goal

pub overflow_cast-result : goal.overflow_cast-result
overflow_cast-result c =
    let within = monomial_within c.args.items.now c.in-Some.found c.in-Some.ensures.1.0 c.in-Some.ensures.1.1 c.in-Some.ensures.1.2 in
    omega (arith, within, c.requires)

pub returns-in-Some : goal.returns-in-Some
returns-in-Some c =
    (c.in-Some.ensures.1, λ k. before_found (NotOverSpent (sum_of c.args.items.now) (transfers c.args.moves.now)) c.loop-base.base c.in-Some.found k c.loop-base.invariant.1 c.in-Some.ensures.2)

pub loop-base-preserved : goal.loop-base-preserved
loop-base-preserved c =
    let more = c.loop-base-test.true in (
      omega (arith, more),
      λ i. further (NotOverSpent (sum_of c.args.items.now) (transfers c.args.moves.now)) c.loop-base.base 4096 i c.loop-base.invariant.1
          (λ k h. c.in_default.ensures k (let long : length c.loop-base.sums ≡ 4096 = c.loop-base-test.array_long in omega (arith, h, long))),
    )

pub returns : goal.returns
returns c =
    let past = c.loop-base-test.false in
    λ i d us m. c.loop-base.invariant.1 i (let within = monomial_within c.args.items.now i d us m in omega (arith, within, past)) d us m
