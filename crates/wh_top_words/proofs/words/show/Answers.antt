use Rattle.std.proofs.Common.{ap}
use Rattle.wh_top_words.specs.Kept.{words_of}
use Rattle.wh_top_words.proofs.Asking.{some_show}
use Rattle.wh_top_words.proofs.words.show.Goals as goal

pub returns-in-One : goal.returns-in-One
returns-in-One c = some_show c.args.kept.now c.in-One.file.now (ap words_of c.in-One.is) (c.sets_none.ensures.0 c.if-sets_none.true)
