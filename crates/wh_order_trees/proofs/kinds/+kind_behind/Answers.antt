use Rattle.std.proofs.Common.{ap, sym, ◌∙◌}
use Rattle.wh_types.specs.Erase.{ty}
use Rattle.wh_order_trees.specs.Trees.{spine_type}
use Rattle.wh_order_trees.proofs.KindLemmas.{sort_behind}
use Rattle.wh_order_trees.proofs.kinds.+kind_behind.Goals as goal

pub returns : goal.returns
returns t c = sym (sort_behind c.in-Sort.sort c.args.count) ∙ sym (ap (λ k. spine_type (ty k) c.args.count) c.in-Sort.is)
