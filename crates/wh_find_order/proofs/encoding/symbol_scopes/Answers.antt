use Rattle.std.proofs.Common.{◌++◌, ◌∷◌, [], ap₂, sym, ◌∙◌}
use Rattle.std.specs.Global.{Vec}
use Rattle.wh_types.specs.Erase.{ty, tys}
use Rattle.wh_types.specs.Ty.{arguments}
use Rattle.wh_types.specs.declared.simple_type.SimpleType.{SimpleType}
use Rattle.wh_pairs.proofs.ListLemmas.{map_push, map_take}
use Rattle.wh_find_order.proofs.encoding.symbol_scopes.Goals as goal

pub loop-kind-preserved : goal.loop-kind-preserved
loop-kind-preserved c =
    map_push (λ (l : Vec SimpleType). tys l.items) c.loop-kind.scopes.items c.push.new.self.items c.in_ok-arguments_of.field-0 c.in_ok-push.ensures.items
    ∙ ap₂ (λ l x. l ++ x ∷ []) c.loop-kind.invariant c.in_ok-arguments_of.ensures
    ∙ sym (map_take (λ (kind : SimpleType). arguments (ty kind)) c.args.kinds.now c.loop-kind.kind-index c.kind-item.result c.loop-kind-test.true c.kind-item.is)
