-- The answer of a replay: the last term, or the first step that fails.
use Rattle.std.specs.Prelude.{List, Result, Ok, Err}
use Rattle.wh_terms.specs.Tree.{Tm}
use Rattle.wh_terms.specs.Erase.{tm}
use Rattle.wh_terms.specs.Rules.{RewriteRule}
use Rattle.wh_terms.specs.declared.term.Term.{Term}
use Rattle.wh_terms.specs.declared.path.Step as taken
use Rattle.wh_step.specs.Replay.{Replays}
use Rattle.wh_step.specs.Reducts.{FailsAt, TooBigAt}
use Rattle.wh_step.specs.declared.replaying.StepFault.{StepFault}
use Rattle.wh_step.specs.declared.replaying.StepFault.TheVariants.{Fails, TooBig}

-- the end of the steps, or the first one that does not apply or whose result does not fit
abbrev pub Replayed : List RewriteRule → List taken.Step → Tm → Result Term StepFault → Type 0
Replayed rules steps t (Ok u) = Replays rules steps t (tm u)
Replayed rules steps t (Err (Fails i)) = FailsAt rules steps t i
Replayed rules steps t (Err (TooBig i)) = TooBigAt rules steps t i
