use Rattle.std.proofs.Common.{[]}
use Rattle.wh_system_resolve.proofs.form.check_pattern.Goals as goal

pub returns : goal.returns
returns c = λ s m. c.check_form.ensures s [] m
