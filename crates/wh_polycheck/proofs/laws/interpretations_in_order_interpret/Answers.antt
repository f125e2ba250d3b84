-- The type at a place is that of the interpretation at this place.
use Rattle.wh_polycheck.proofs.ProperReadings.{interprets_in_order}
use Rattle.wh_polycheck.proofs.laws.interpretations_in_order_interpret.Goals as goal

pub returns : goal.returns
returns c S symbols kinds = interprets_in_order S symbols kinds
