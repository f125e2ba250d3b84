use Rattle.std.proofs.Common.{◌≡◌, ◌+◌, ◌-◌, map, get_or, inl, inr, refl, ap, arith}
use Rattle.wh_subterm.specs.SubtermRows.{chosen, chosen_symbols}
use Rattle.wh_pairs.proofs.ByPlace.{same_or_below}
use Rattle.wh_subterm.proofs.ChoiceLemmas.{symbol_number, symbols_long}
use Rattle.wh_pairs.proofs.Increasing.{increasing_at, increasing_from_adjacent}
use Rattle.wh_intern_pairs.proofs.marked.are_in_order.Goals as goal

pub returns-then-args-i : goal.returns-then-args-i
returns-then-args-i c =
    let args = c.args.args.now in
    let i = c.loop-i.i in (
      λ no_way. cc,
      λ up. absurd (omega (
        arith,
        increasing_at (chosen_symbols (map chosen args)) (i - 1) i up (omega arith) (omega (arith, symbols_long args)),
        symbol_number args (i - 1) (omega arith),
        symbol_number args i (omega arith),
        c.if-args-i.true,
      )),
    )

pub loop-i-preserved : goal.loop-i-preserved
loop-i-preserved c =
    let args = c.args.args.now in
    let i = c.loop-i.i in
    λ k below. elim (same_or_below k (i - 1) (omega arith)) [
      | inl same ↦
          let e : k + 1 ≡ i = omega arith in
          let first = symbol_number args (i - 1) (omega arith) in
          let second = symbol_number args i (omega arith) in
          let at_k = ap (λ j. get_or (chosen_symbols (map chosen args)) j 0) same in
          let at_next = ap (λ j. get_or (chosen_symbols (map chosen args)) j 0) e in
          omega (arith, c.if-args-i.false)
      | inr less ↦ c.loop-i.invariant k (omega arith)
    ]

pub returns : goal.returns
returns c =
    let args = c.args.args.now in (
      λ _. increasing_from_adjacent (chosen_symbols (map chosen args)) (λ k below. c.loop-i.invariant k (omega (arith, symbols_long args))),
      λ _. refl,
    )
