use Rattle.std.proofs.Common.{false, get_or}
use Rattle.wh_find_subterm.proofs.ReadLemmas.{FalseBefore}
use Rattle.wh_find_subterm.proofs.reading.first_true.Given as goal

abbrev pub invariant-loop-place : goal.invariant-loop-place
invariant-loop-place l = FalseBefore (λ x. get_or l.values x false) l.first l.count l.place
