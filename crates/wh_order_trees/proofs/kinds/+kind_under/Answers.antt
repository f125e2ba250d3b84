use Rattle.wh_order_trees.specs.declared.tree.Tree.{Tree}
use Rattle.std.proofs.Common.{subst}
use Rattle.wh_types.specs.Erase.{ty}
use Rattle.wh_terms.specs.Scope.{scope}
use Rattle.wh_order_trees.proofs.KindLemmas.{HasKind, sym_kind, mark_kind, apply_kind}
use Rattle.wh_order_trees.proofs.kinds.+kind_under.Goals as goal

pub returns-in-Sym-clause-typed : goal.returns-in-Sym-clause-typed
returns-in-Sym-clause-typed t c = sym_kind (scope c.args.binders.now.items) c.args.t.now c.in-Sym.field-0 c.in-Sym.field-1 c.in-Sym.is

pub returns-in-Mark-clause-typed : goal.returns-in-Mark-clause-typed
returns-in-Mark-clause-typed t c = mark_kind (scope c.args.binders.now.items) c.args.t.now c.in-Mark.field-0 c.in-Mark.field-1 c.in-Mark.is

pub returns-in_ok-whole-in-Apply-clause-typed : goal.returns-in_ok-whole-in-Apply-clause-typed
returns-in_ok-whole-in-Apply-clause-typed t c =
    apply_kind (scope c.args.binders.now.items) c.args.t.now c.in-Apply.head c.in-Apply.items c.as_slice.result.now (ty c.in_ok-whole-in-Apply.whole) (ty c.kind_behind.result) c.in-Apply.is c.as_slice.ensures
    (subst (λ (u : Tree). HasKind (scope c.args.binders.now.items) u (ty c.in_ok-whole-in-Apply.whole)) c.deref-in-Apply.ensures c.in_ok-whole-in-Apply.ensures.typed) c.kind_behind.ensures
