use Rattle.std.proofs.Common.{arith}
use Rattle.wh_find_order.proofs.blocking.search_from.Goals as goal

pub search-requires-clause-solves : goal.search-requires-clause-solves
search-requires-clause-solves c = λ k within. absurd (omega (arith, within, c.in_ok-learner.ensures.none))
