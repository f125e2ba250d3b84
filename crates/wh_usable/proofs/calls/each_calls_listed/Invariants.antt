use Rattle.std.proofs.Common.{ℕ, List, map}
use Rattle.wh_terms.specs.Erase.{tm}
use Rattle.wh_terms.specs.Rules.{RewriteRule}
use Rattle.wh_terms.specs.Typing.{Declared, Symbols}
use Rattle.wh_pairs.proofs.ByPlace.{Before}
use Rattle.wh_usable_first_order.specs.FirstOrder.{AreFlatTrees}
use Rattle.wh_usable.specs.Closed.{ListsRulesIn}
use Rattle.wh_usable.specs.Tables.{IsTableOf}
use Rattle.wh_usable.proofs.calls.each_calls_listed.Given as goal

abbrev pub invariant-loop-item : goal.invariant-loop-item
invariant-loop-item l = (S : Symbols) (M : List Declared) (rules : List RewriteRule) (listed : List ℕ) → AreFlatTrees S M (map tm l.items)
    → IsTableOf rules listed l.table → Before (λ t. ListsRulesIn rules listed (tm t)) l.items l.item-index
