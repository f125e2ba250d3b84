-- The type of the symbol, and how many of its arguments are needed.
use Rattle.std.proofs.Common.{◌≡◌, unwrap_or, ap, sym, subst, ◌∙◌, IfOk, rules}
use Rattle.wh_types.specs.Erase.{ty, tys}
use Rattle.wh_types.specs.Ty.{Ty, sort}
use Rattle.wh_system.specs.Needs.{need_of}
use Rattle.wh_system.specs.SystemView.{system_data}
use Rattle.wh_polycheck.proofs.Pushes.{type_there, type_past, none_taken}
use Rattle.wh_polycheck.proofs.SideFacts.{mark_kind_told}
use Rattle.wh_polycheck.proofs.marks.kind_of_mark.Goals as goal

pub returns-then-symbol-kinds : goal.returns-then-symbol-kinds
returns-then-symbol-kinds c =
    let d = system_data c.args.system.now in
    let xs = c.as_slice-kinds.result.now in
    let n = c.unwrap_or-need.result in
    let need : n ≡ unwrap_or (need_of d.rules c.args.symbol) 0 = search rules in
    subst (λ (k : Ty). IfOk c.of_first_arguments.result (λ kind. ty kind ≡ k))
    (mark_kind_told d.symbols d.rules c.args.symbol n (tys xs) (ty c.index-kinds-symbol.result)
    (ap tys c.as_slice-kinds.ensures ∙ ap (λ S. S.funs) c.signature.ensures) need
    (type_there xs c.args.symbol c.index-kinds-symbol.result c.if-symbol-kinds.true c.index-kinds-symbol.is)) c.of_first_arguments.ensures

pub returns-else-symbol-kinds : goal.returns-else-symbol-kinds
returns-else-symbol-kinds c =
    let d = system_data c.args.system.now in
    let xs = c.as_slice-kinds.result.now in
    let n = c.unwrap_or-need.result in
    let need : n ≡ unwrap_or (need_of d.rules c.args.symbol) 0 = search rules in
    sym (none_taken n (sort 0))
    ∙ mark_kind_told d.symbols d.rules c.args.symbol n (tys xs) (sort 0)
    (ap tys c.as_slice-kinds.ensures ∙ ap (λ S. S.funs) c.signature.ensures) need (type_past xs c.args.symbol c.if-symbol-kinds.false)
