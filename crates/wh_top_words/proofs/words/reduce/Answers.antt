use Rattle.std.proofs.Common.{ap}
use Rattle.wh_top_words.specs.Kept.{words_of}
use Rattle.wh_top_words.proofs.Asking.{some_reduce}
use Rattle.wh_top_words.proofs.words.reduce.Goals as goal

pub returns-in-Two : goal.returns-in-Two
returns-in-Two c =
    some_reduce c.args.kept.now c.in-Two.file.now c.in-Two.term.now c.steps.result (ap words_of c.in-Two.is)
    (c.sets_no_bounds.ensures.0 c.if-sets_no_bounds.true) c.steps.ensures
