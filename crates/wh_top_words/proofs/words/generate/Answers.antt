use Rattle.std.proofs.Common.{ap}
use Rattle.wh_top_words.specs.Kept.{words_of}
use Rattle.wh_top_words.proofs.Asking.{generated}
use Rattle.wh_top_words.proofs.words.generate.Goals as goal

pub returns-in-One : goal.returns-in-One
returns-in-One c =
    generated c.args.kept.now c.in-One.number.now c.generated.result (ap words_of c.in-One.is) (c.sets_none.ensures.0 c.if-sets_none.true)
    c.generated.ensures
