use Rattle.std.proofs.Common.{map, refl, arith}
use Rattle.wh_intern_pairs.specs.SidesAsPairs.{heads_of}
use Rattle.wh_pairs.specs.Marked.{IsMarked}
use Rattle.wh_subterm.specs.SubtermRows.{chosen, chosen_symbols}
use Rattle.wh_pairs.proofs.ByPlace.{contains_at, before_more, before_all}
use Rattle.wh_subterm.proofs.ChoiceLemmas.{choice, symbol_at, symbols_past}
use Rattle.wh_intern_pairs.proofs.marked.all_marked.Goals as goal

pub returns-in-None : goal.returns-in-None
returns-in-None c =
    let args = c.args.args.now in
    let i = c.loop-choice.choice-index in (
      λ no_way. cc,
      λ all. absurd (c.in-None.ensures (all (choice args i).symbol (contains_at (chosen_symbols (map chosen args)) i (choice args i).symbol (symbol_at args i c.loop-choice-test.true)))),
    )

pub loop-choice-preserved : goal.loop-choice-preserved
loop-choice-preserved c =
    let args = c.args.args.now in
    let i = c.loop-choice.choice-index in (
      omega (arith, c.in-Some.ensures.0),
      before_more (IsMarked (map heads_of c.args.sides.now) c.args.set.now) (chosen_symbols (map chosen args)) i (choice args i).symbol c.loop-choice.invariant.1 (symbol_at args i c.loop-choice-test.true)
          c.in-Some.ensures.1,
    )

pub returns : goal.returns
returns c =
    let args = c.args.args.now in (
      λ _ f found. before_all (IsMarked (map heads_of c.args.sides.now) c.args.set.now) (chosen_symbols (map chosen args)) c.loop-choice.choice-index f c.loop-choice.invariant.1 (symbols_past args c.loop-choice.choice-index c.loop-choice-test.false) found,
      λ _. refl,
    )
