use Rattle.std.proofs.Common.{drop}
use Rattle.wh_terms.specs.Erase.{tms}
use Rattle.wh_usable_rules.proofs.Tables.{EntersSome}
use Rattle.wh_usable_rules.proofs.calls.+calls.Given as goal

abbrev pub invariant-call_symbols_of_all-loop-term : goal.invariant-call_symbols_of_all-loop-term
invariant-call_symbols_of_all-loop-term l = EntersSome (tms (drop l.term-index l.term-items)) (tms l.term-items) l.fn.called l.called
