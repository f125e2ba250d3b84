use Rattle.std.proofs.Common.{[]}
use Rattle.wh_pairs.proofs.Decisions.{some_left}
use Rattle.wh_pairs.proofs.laws.there_are_pairs.Goals as goal

pub returns : goal.returns
returns c = λ cs. some_left [] cs
