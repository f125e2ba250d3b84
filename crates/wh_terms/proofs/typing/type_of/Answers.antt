use Rattle.std.proofs.Common.{List, IfOk, subst}
use Rattle.std.specs.Borrow.{Bor}
use Rattle.wh_types.specs.declared.simple_type.SimpleType.{SimpleType}
use Rattle.wh_terms.specs.Erase.{tm, symbols, declared_metas}
use Rattle.wh_terms.specs.Scope.{TellsType, scope}
use Rattle.wh_terms.proofs.typing.type_of.Goals as goal

pub returns : goal.returns
returns c =
    subst (λ (binders : List (Bor SimpleType)). IfOk c.type_under.result
    (λ answer. TellsType (symbols c.args.signature.now) (declared_metas c.args.metas.now) (scope binders) (tm c.args.term.now) answer))
    c.new-binders.ensures.items c.type_under.ensures.typed
