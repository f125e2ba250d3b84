use Rattle.wh_access.proofs.Breaks.{passing_or_break}
use Rattle.wh_access.proofs.laws.rules_pass_or_have_a_first_break.Goals as goal

pub returns : goal.returns
returns c S rank rules = passing_or_break S rank rules
