use Rattle.wh_explain.proofs.Texts.{begins_so}
use Rattle.wh_explain.proofs.explain.headed.Goals as goal

pub returns : goal.returns
returns c = begins_so c.args.verdict c.as_slice.result.now c.first_words.result.now c.joined.result c.first_words.ensures c.joined.ensures
