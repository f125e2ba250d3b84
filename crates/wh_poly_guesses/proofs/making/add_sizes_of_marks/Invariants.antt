use Rattle.std.proofs.Common.{◌≡◌, ◌++◌, length, map, take}
use Rattle.wh_system.specs.SystemView.{system_data}
use Rattle.wh_polycheck.specs.Marks.{marked_types}
use Rattle.wh_poly_space.specs.Space.{space_of}
use Rattle.wh_poly_guesses.proofs.making.add_sizes_of_marks.Given as goal

abbrev pub invariant-loop-symbol : goal.invariant-loop-symbol
invariant-loop-symbol l =
    l.sizes.items ≡ l.initial.sizes.items ++ map (λ f. length (space_of (marked_types (system_data l.system).symbols (system_data l.system).rules f))) (take l.symbol-index l.marked)
