use Rattle.std.proofs.Common.{refl}
use Rattle.wh_order_trees.proofs.KindLemmas.{decided_types}
use Rattle.wh_order_trees.proofs.kinds.have_one_type.Goals as goal

pub returns : goal.returns
returns c n w o u = decided_types c.same_type.result _ _ _ _ (c.in_ok-own.ensures n w o) (c.in_ok-other.ensures n w u) c.same_type.ensures

pub returns-then-are_of_the_sort : goal.returns-then-are_of_the_sort
returns-then-are_of_the_sort c n w o u = (λ _. c.are_of_the_sort.ensures c.if-are_of_the_sort.true n w o u, λ _. refl)
