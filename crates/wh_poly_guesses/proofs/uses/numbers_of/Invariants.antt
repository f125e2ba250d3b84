use Rattle.std.proofs.Common.{◌≡◌, take}
use Rattle.wh_poly_guesses.proofs.uses.numbers_of.Given as goal

abbrev pub invariant-loop-symbol : goal.invariant-loop-symbol
invariant-loop-symbol l = l.numbers.items ≡ take l.symbol-index l.symbol-items
