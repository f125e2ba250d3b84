use Rattle.std.proofs.Common.{ap}
use Rattle.wh_top_words.specs.Asked.{bounds_of}
use Rattle.wh_top_words.specs.Kept.{words_of}
use Rattle.wh_top_words.proofs.Asking.{some_prove}
use Rattle.wh_top_words.proofs.Keeping.{none_where}
use Rattle.wh_top_words.proofs.words.prove.Goals as goal

pub returns-in-One : goal.returns-in-One
returns-in-One c =
    some_prove c.args.kept.now c.in-One.file.now (bounds_of c.bounds.result) (ap words_of c.in-One.is)
    (none_where _ _ c.is_none.ensures c.if-is_none.true) c.bounds.ensures
