use Rattle.std.proofs.Common.{sym, ◌∙◌}
use Rattle.wh_text.specs.RawTree.{numbered_binder}
use Rattle.wh_system_resolve.specs.InScope.{scope as in_scope, typed}
use Rattle.wh_system_resolve.proofs.LookupLemmas.{nearest_is}
use Rattle.wh_system_resolve.proofs.PlainNames.{numbered_bound, numbered_none}
use Rattle.wh_system_resolve.proofs.resolve_parts.resolve_numbered.Goals as goal

pub returns-in-Some : goal.returns-in-Some
returns-in-Some c =
    numbered_bound (in_scope c.args.scope.now) (typed c.args.passed.now) c.args.number c.args.at c.in-Some.nearest c.variable_of.result
    (sym (nearest_is c.args.passed.now (numbered_binder c.args.number)) ∙ sym c.nearest_numbered.ensures ∙ c.in-Some.is) c.variable_of.ensures

pub returns-in-None : goal.returns-in-None
returns-in-None c =
    numbered_none (in_scope c.args.scope.now) (typed c.args.passed.now) c.args.number c.args.at
    (sym (nearest_is c.args.passed.now (numbered_binder c.args.number)) ∙ sym c.nearest_numbered.ensures ∙ c.in-None.is)
