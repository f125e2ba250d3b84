use Rattle.wh_usable.proofs.Decisions.{closed_or_open, closed_not_open, one_open}
use Rattle.wh_usable.proofs.laws.lists_are_closed_or_first_open.Goals as goal

pub returns-clause-one : goal.returns-clause-one
returns-clause-one c = closed_or_open

pub returns-clause-apart : goal.returns-clause-apart
returns-clause-apart c = closed_not_open

pub returns-clause-same : goal.returns-clause-same
returns-clause-same c = one_open
