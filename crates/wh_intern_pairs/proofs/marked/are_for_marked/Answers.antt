use Rattle.wh_intern_pairs.proofs.marked.are_for_marked.Goals as goal

pub returns-then-not-are_in_order : goal.returns-then-not-are_in_order
returns-then-not-are_in_order c = (λ no_way. cc, λ all. cc (c.are_in_order.ensures.1 all.in_order, c.if-not-are_in_order.true))

pub returns-then-all_marked : goal.returns-then-all_marked
returns-then-all_marked c = (
  λ is. record {
    in_order = c.are_in_order.ensures.0 c.if-not-are_in_order.false;
    each = λ f. (c.all_marked.ensures.0 c.if-all_marked.true f, c.all_chosen.ensures.0 is f);
  },
  λ all. c.all_chosen.ensures.1 (λ f. (all.each f).1),
)

pub returns-else-all_marked : goal.returns-else-all_marked
returns-else-all_marked c = (λ is. cc (is, c.if-all_marked.false), λ all. c.all_marked.ensures.1 (λ f. (all.each f).0))
