use Rattle.std.proofs.Common.{ℕ, take}
use Rattle.std.specs.Prelude.{Contains}
use Rattle.wh_terms.specs.Erase.{tm}
use Rattle.wh_loop_reached.specs.Listing.{ListsAt}
use Rattle.wh_loop_reached.proofs.listing.lists_among.Given as goal

abbrev pub invariant-loop-number : goal.invariant-loop-number
invariant-loop-number l = (k : ℕ) → Contains (take l.number-index l.numbers) k → ListsAt l.entries k (record { start = l.start; term = tm l.term }) → ⊥
