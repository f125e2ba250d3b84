use Rattle.std.proofs.Common.{◌≡◌, length, map, take}
use Rattle.wh_types.specs.Erase.{ty, tys}
use Rattle.wh_poly_guesses.specs.Reads.{AreReadBy, list_of}
use Rattle.wh_poly_guesses.proofs.making.symbols_by.Given as goal

abbrev pub invariant-loop-i : goal.invariant-loop-i
invariant-loop-i l = record {
  count : length l.symbols.items ≡ l.i;
  kinds : map (λ s. ty s.kind) l.symbols.items ≡ tys (take l.i l.kinds);
  read : AreReadBy (list_of (map (λ l. l.items) l.lists)) l.symbols.items;
}
