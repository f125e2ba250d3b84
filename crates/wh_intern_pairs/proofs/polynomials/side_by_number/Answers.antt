-- The tree is a typed expression in the scope.
use Rattle.std.proofs.Common.{◌≡◌, length, map, ap, sym, ◌∙◌, subst, IfOk, rules}
use Rattle.wh_types.specs.Erase.{ty}
use Rattle.wh_types.specs.Outcome.{IfBecause}
use Rattle.wh_system.specs.SystemView.{system_data}
use Rattle.wh_poly.specs.Erase.{poly}
use Rattle.wh_hopoly.specs.Erase.{expression, interpretations}
use Rattle.wh_hopoly.specs.Evaluation.{evaluate, TypedExpression}
use Rattle.wh_hopoly.specs.Outcomes.{ComesTo, IsFaultOf}
use Rattle.wh_polycheck.specs.Sides.{side}
use Rattle.wh_intern.specs.TableTrees.{trees}
use Rattle.wh_intern.specs.Trees.{tree_at}
use Rattle.wh_intern_pairs.proofs.MarkedByNumber.{scope_counted, tree_typed, tree_comes, tree_fault}
use Rattle.wh_intern_pairs.proofs.polynomials.side_by_number.Goals as goal

pub normal-requires-clause-typed : goal.normal-requires-clause-typed
normal-requires-clause-typed c =
    let d = system_data c.args.system.now in
    let symbols = interpretations c.args.readings.now.symbols.now in
    let Γ = map ty c.args.scope.now in
    let t = tree_at (trees c.args.table.now) c.args.number in
    let count : c.in_ok-counted.field-0 ≡ length c.args.scope.now = search rules in
    let is : expression c.in_ok-expression.expression ≡ side (length Γ) t =
    c.in_ok-expression.ensures ∙ ap (λ n. side n t) (scope_counted c.args.scope.now c.in_ok-counted.field-0 count) in
    subst (TypedExpression symbols Γ) (sym is) (tree_typed d.symbols symbols c.requires.proper.interpreted Γ t c.requires.typed)

pub returns-clause-ok : goal.returns-clause-ok
returns-clause-ok c = λ M in_scope.
    let d = system_data c.args.system.now in
    let symbols = interpretations c.args.readings.now.symbols.now in
    let Γ = map ty c.args.scope.now in
    let t = tree_at (trees c.args.table.now) c.args.number in
    let count : c.in_ok-counted.field-0 ≡ length c.args.scope.now = search rules in
    let is : expression c.in_ok-expression.expression ≡ side (length Γ) t =
    c.in_ok-expression.ensures ∙ ap (λ n. side n t) (scope_counted c.args.scope.now c.in_ok-counted.field-0 count) in
    tree_comes d.symbols symbols c.requires.proper.interpreted Γ t c.requires.typed c.normal.result
    (subst (λ e. IfOk c.normal.result (λ p. ComesTo (evaluate symbols Γ e) (poly p))) is c.normal.ensures.ok) M in_scope

pub returns-clause-fault : goal.returns-clause-fault
returns-clause-fault c = λ M in_scope.
    let d = system_data c.args.system.now in
    let symbols = interpretations c.args.readings.now.symbols.now in
    let Γ = map ty c.args.scope.now in
    let t = tree_at (trees c.args.table.now) c.args.number in
    let count : c.in_ok-counted.field-0 ≡ length c.args.scope.now = search rules in
    let is : expression c.in_ok-expression.expression ≡ side (length Γ) t =
    c.in_ok-expression.ensures ∙ ap (λ n. side n t) (scope_counted c.args.scope.now c.in_ok-counted.field-0 count) in
    tree_fault d.symbols symbols c.requires.proper.interpreted Γ t c.requires.typed c.normal.result
    (subst (λ e. IfBecause c.normal.result (IsFaultOf symbols Γ e)) is c.normal.ensures.fault) M in_scope
