use Rattle.std.proofs.Common.{sym, ◌∙◌}
use Rattle.wh_order_trees.proofs.kinds.are_of_the_sort.Goals as goal

pub returns-then-is_of_the_sort : goal.returns-then-is_of_the_sort
returns-then-is_of_the_sort c told n w o u = sym (c.is_of_the_sort.ensures c.if-is_of_the_sort.true n w o) ∙ c.is_of_the_sort-then-is_of_the_sort.ensures told n w u
