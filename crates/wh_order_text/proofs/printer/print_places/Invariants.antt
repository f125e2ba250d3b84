use Rattle.std.proofs.Common.{drop}
use Rattle.wh_text.proofs.PrintLemmas.{Leaves}
use Rattle.wh_order_inference.specs.FilterText.{put_places}
use Rattle.wh_order_text.proofs.printer.print_places.Given as goal

-- the rest of the list is left to push
abbrev pub invariant-loop-place : goal.invariant-loop-place
invariant-loop-place l = Leaves l.initial.out l.out (put_places (drop l.place-index l.places)) (put_places l.places)
