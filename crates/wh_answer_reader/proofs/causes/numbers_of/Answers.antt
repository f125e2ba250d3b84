use Rattle.std.proofs.Common.{List, ℕ, [], get_or, refl}
use Rattle.std.specs.Borrow.{Bor}
use Rattle.wh_answer_reader.proofs.Lists.{next_word, numbers_more, numbers_end}
use Rattle.wh_answer_reader.proofs.causes.numbers_of.Goals as goal

pub returns-in-None : goal.returns-in-None
returns-in-None c =
    let d : Bor (List ℕ) = record { ref_ptr = (0, 0); now = [] } in
    let w = next_word _ c.args.words.now c.loop-word.word-index d (get_or c.args.words.now c.loop-word.word-index d).now _ c.loop-word-test.true refl c.loop-word.invariant.1 in
    numbers_end _ _ _ _ w c.in-None.ensures

pub loop-word-preserved : goal.loop-word-preserved
loop-word-preserved c =
    let d : Bor (List ℕ) = record { ref_ptr = (0, 0); now = [] } in
    let w = next_word _ c.args.words.now c.loop-word.word-index d (get_or c.args.words.now c.loop-word.word-index d).now _ c.loop-word-test.true refl c.loop-word.invariant.1 in
    numbers_more _ _ _ _ _ _ c.loop-word.invariant.0 w c.in-Some.ensures c.in_ok-push-in-Some.ensures.ok
