use Rattle.std.proofs.Common.{◌≡◌, map, take, Some, slice_get}
use Rattle.wh_poly.specs.Erase.{poly}
use Rattle.wh_proof.proofs.written.lines_of_marks.Given as goal

abbrev pub invariant-loop-mark : goal.invariant-loop-mark
invariant-loop-mark l = record {
  names : map (λ m. slice_get l.names m.symbol) (take l.mark-index l.marks) ≡ map (λ l. Some l.name) l.lines;
  polynomials : map (λ m. poly m.poly) (take l.mark-index l.marks) ≡ map (λ l. poly l.poly) l.lines;
}
