use Rattle.std.proofs.Common.{drop}
use Rattle.wh_terms.specs.Erase.{tms}
use Rattle.wh_poly_guesses.proofs.UseLemmas.{JoinsSome}
use Rattle.wh_poly_guesses.proofs.terms.+symbols.Given as goal

abbrev pub invariant-add_symbols_of_all-loop-term : goal.invariant-add_symbols_of_all-loop-term
invariant-add_symbols_of_all-loop-term l =
    JoinsSome (tms (drop l.term-index l.term-items)) (tms l.term-items) l.initial.symbols.items l.symbols.items
