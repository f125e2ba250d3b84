use Rattle.std.proofs.Common.{◌≡◌, ℕ, List, IfOk, subst}
use Rattle.std.specs.Borrow.{Bor}
use Rattle.wh_types.specs.declared.simple_type.SimpleType.{SimpleType}
use Rattle.wh_types.specs.Erase.{ty}
use Rattle.wh_terms.specs.Scope.{scope}
use Rattle.wh_order_extended.specs.Kinds.{kind}
use Rattle.wh_order_trees.specs.Trees.{tree}
use Rattle.wh_order_trees.specs.TreeParts.{World, Over}
use Rattle.wh_order_trees.proofs.kinds.kind_of.Goals as goal

pub returns : goal.returns
returns c =
    subst (λ (binders : List (Bor SimpleType)). IfOk c.kind_under.result
    (λ a. (n : ℕ) (w : World) → Over n w c.args.t.now → ty a ≡ kind w.symbols w.metas (scope binders) (tree n c.args.t.now)))
    c.new-binders.ensures.items c.kind_under.ensures.typed
