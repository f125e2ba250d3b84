use Rattle.std.proofs.Common.{ap, sym, ◌∙◌}
use Rattle.wh_text.specs.RawTree.{named_binder}
use Rattle.wh_system_resolve.specs.InScope.{scope as in_scope, typed, nearest}
use Rattle.wh_system_resolve.proofs.LookupLemmas.{nearest_is}
use Rattle.wh_system_resolve.proofs.PlainNames.{named_bound, named_outside}
use Rattle.wh_system_resolve.proofs.resolve_parts.resolve_name.Goals as goal

pub returns-in-Some : goal.returns-in-Some
returns-in-Some c =
    named_bound (in_scope c.args.scope.now) (typed c.args.passed.now) c.args.name.now c.args.at c.in-Some.number c.variable_of.result
    (sym (nearest_is c.args.passed.now (named_binder c.args.name.now)) ∙ ap (λ x. nearest c.args.passed.now (named_binder x)) (sym c.bytes.ensures.value) ∙ sym c.nearest_named.ensures ∙ c.in-Some.is)
    c.variable_of.ensures

pub returns-in-None : goal.returns-in-None
returns-in-None c =
    named_outside (in_scope c.args.scope.now) (typed c.args.passed.now) c.args.name.now c.args.at c.resolve_declared.result
    (sym (nearest_is c.args.passed.now (named_binder c.args.name.now)) ∙ ap (λ x. nearest c.args.passed.now (named_binder x)) (sym c.bytes.ensures.value) ∙ sym c.nearest_named.ensures ∙ c.in-None.is)
    c.resolve_declared.ensures
