use Rattle.std.proofs.Common.{◌≡◌, length, map, take}
use Rattle.wh_system.specs.SystemView.{system_data}
use Rattle.wh_poly_guesses.specs.Reads.{AreMarksBy, list_of}
use Rattle.wh_poly_guesses.proofs.making.marks_by.Given as goal

abbrev pub invariant-loop-i : goal.invariant-loop-i
invariant-loop-i l = record {
  count : length l.marks.items ≡ l.i;
  symbols : map (λ m. m.symbol) l.marks.items ≡ take l.i l.numbers;
  read : AreMarksBy (system_data l.system).symbols (system_data l.system).rules (list_of (map (λ l. l.items) l.lists)) l.first l.marks.items;
}
