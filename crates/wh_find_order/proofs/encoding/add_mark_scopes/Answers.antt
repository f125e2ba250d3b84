use Rattle.std.proofs.Common.{◌≡◌, ◌++◌, ◌∷◌, [], get_or, map, take, ap, ap₂, sym, ◌∙◌, append_assoc}
use Rattle.std.proofs.lemmas.List.{get_or_default}
use Rattle.std.specs.Global.{Vec}
use Rattle.wh_types.specs.Erase.{tys}
use Rattle.wh_types.specs.Ty.{arguments}
use Rattle.wh_types.specs.declared.simple_type.SimpleType.{SimpleType}
use Rattle.wh_system.specs.SystemView.{system_data}
use Rattle.wh_pairs.proofs.ListLemmas.{map_push, map_take}
use Rattle.wh_polycheck.specs.Marks.{marked_types}
use Rattle.wh_polycheck.proofs.MoreInterpretations.{arguments_of_arrows}
use Rattle.wh_order_space.specs.Spotted.{types_in}
use Rattle.wh_find_order.proofs.encoding.add_mark_scopes.Goals as goal

pub loop-symbol-preserved : goal.loop-symbol-preserved
loop-symbol-preserved c =
    let d = system_data c.args.system.now in
    let types = marked_types d.symbols d.rules in
    let before = types_in c.args.scopes.now.items in
    let marked = c.args.marked.now in
    let i = c.loop-symbol.symbol-index in
    let x = get_or marked i 0 in
    let new = c.in_ok-arguments_of.field-0 in
    let is : tys new.items ≡ types x = c.in_ok-arguments_of.ensures ∙ ap arguments c.in_ok-kind.ensures ∙ arguments_of_arrows (types x) 0 in
    map_push (λ (l : Vec SimpleType). tys l.items) c.loop-symbol.scopes.items c.push.new.self.items new c.in_ok-push.ensures.items
    ∙ ap₂ (λ l y. l ++ y ∷ []) c.loop-symbol.invariant is
    ∙ append_assoc before (map types (take i marked)) (types x ∷ [])
    ∙ ap (λ l. before ++ l) (sym (map_take types marked i x c.loop-symbol-test.true (get_or_default marked i 0 x c.loop-symbol-test.true)))
