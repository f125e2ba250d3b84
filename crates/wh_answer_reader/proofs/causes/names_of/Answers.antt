use Rattle.wh_answer_reader.proofs.Lists.{next_word, names_more, names_end}
use Rattle.wh_answer_reader.proofs.causes.names_of.Goals as goal

pub returns-in-None : goal.returns-in-None
returns-in-None c =
    let w = next_word _ c.args.words.now c.loop-word.word-index _ c.as_bytes.result.now _ c.loop-word-test.true c.as_bytes.ensures.value c.loop-word.invariant.1 in
    let bad = rw c.in-None.is at c.in_ok-name.ensures in
    names_end _ _ _ _ w bad

pub loop-word-preserved : goal.loop-word-preserved
loop-word-preserved c =
    let w = next_word _ c.args.words.now c.loop-word.word-index _ c.as_bytes.result.now _ c.loop-word-test.true c.as_bytes.ensures.value c.loop-word.invariant.1 in
    let good = rw c.in-Some.is at c.in_ok-name.ensures in
    names_more _ _ _ _ _ _ c.loop-word.invariant.0 w good c.in_ok-push-in-Some.ensures.ok
