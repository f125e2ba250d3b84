use Rattle.std.proofs.Common.{ap}
use Rattle.wh_top_words.specs.Kept.{words_of}
use Rattle.wh_top_words.proofs.Asking.{some_upgrade}
use Rattle.wh_top_words.proofs.words.upgrade.Goals as goal

pub returns-in-Two : goal.returns-in-Two
returns-in-Two c =
    some_upgrade c.args.kept.now c.in-Two.file.now c.in-Two.cert.now (ap words_of c.in-Two.is) (c.sets_none.ensures.0 c.if-sets_none.true)
