use Rattle.std.proofs.Common.{ap}
use Rattle.wh_top_words.specs.Kept.{words_of}
use Rattle.wh_top_words.proofs.Asking.{some_refute}
use Rattle.wh_top_words.proofs.words.refute.Goals as goal

pub returns-in-One : goal.returns-in-One
returns-in-One c =
    some_refute c.args.kept.now c.in-One.file.now c.clauses.result (ap words_of c.in-One.is) (c.sets_tries_alone.ensures.0 c.if-sets_tries_alone.true)
    c.clauses.ensures
