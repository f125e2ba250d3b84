-- The answer about the short clauses, once the queue is empty: none says anything, one is false, or one forces a
-- literal.
use Rattle.std.specs.Prelude.{◌<◌, List, [], length, get_or}
use Rattle.wh_sat_trail.specs.declared.literal.Literal.{Literal}
use Rattle.wh_sat_trail.specs.declared.watch.Find.{Find}
use Rattle.wh_sat_trail.specs.declared.watch.Find.TheVariants as find
use Rattle.wh_sat_trail.specs.Propagation.{IsClosed, IsForced, IsRefuted}

abbrev pub Finds : List (List Literal) → List Literal → Find → Type 0
Finds clauses t find.Nothing = IsClosed clauses t
Finds clauses t (find.Refuted k) = (k < length clauses) × IsRefuted t (get_or clauses k [])
Finds clauses t (find.Forces k l) = IsForced clauses t l
