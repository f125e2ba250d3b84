use Rattle.std.proofs.Common.{◌≡◌, ◌+◌, ◌-◌, get_or, inl, inr, refl, ap, arith}
use Rattle.wh_pairs.proofs.ByPlace.{same_or_below}
use Rattle.wh_pairs.proofs.Increasing.{increasing_at, increasing_from_adjacent}
use Rattle.wh_pairs.proofs.sets.is_increasing.Goals as goal

pub returns-then-numbers-i : goal.returns-then-numbers-i
returns-then-numbers-i c =
    let i = c.loop-i.i in (
      λ no_way. cc,
      λ up. absurd (omega (arith, increasing_at c.args.numbers.now (i - 1) i up (omega arith) (omega arith), c.if-numbers-i.true)),
    )

pub loop-i-preserved : goal.loop-i-preserved
loop-i-preserved c =
    let numbers = c.args.numbers.now in
    let i = c.loop-i.i in
    λ k below. elim (same_or_below k (i - 1) (omega arith)) [
      | inl same ↦
          let e : k + 1 ≡ i = omega arith in
          let at_k = ap (λ j. get_or numbers j 0) same in
          let at_next = ap (λ j. get_or numbers j 0) e in
          omega (arith, c.if-numbers-i.false)
      | inr less ↦ c.loop-i.invariant k (omega arith)
    ]

pub returns : goal.returns
returns c = (λ _. increasing_from_adjacent c.args.numbers.now (λ k below. c.loop-i.invariant k (omega arith)), λ _. refl)
