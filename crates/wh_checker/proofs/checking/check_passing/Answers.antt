use Rattle.std.proofs.Common.{ap, subst, ◌∙◌}
use Rattle.wh_terms.specs.Typing.{Symbols}
use Rattle.wh_system.specs.SystemView.{system_data}
use Rattle.wh_access.specs.Passing.{IsPassing}
use Rattle.wh_checker.proofs.checking.check_passing.Goals as goal

pub returns : goal.returns
returns c = (
  c.if-ranks-signature.false ∙ ap (λ (s : Symbols). s.sorts) c.signature.ensures,
  subst (IsPassing (system_data c.args.system.now)) c.in_ok-ranks.ensures c.in_default.ensures.passing,
)
