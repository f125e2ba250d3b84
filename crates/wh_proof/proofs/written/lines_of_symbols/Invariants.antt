use Rattle.std.proofs.Common.{◌≡◌, map, take}
use Rattle.wh_poly.specs.Erase.{poly}
use Rattle.wh_proof.proofs.written.lines_of_symbols.Given as goal

abbrev pub invariant-loop-i : goal.invariant-loop-i
invariant-loop-i l = record {
  names : map (λ l. l.name) l.lines ≡ take l.i l.names;
  polynomials : map (λ s. poly s.poly) (take l.i l.symbols) ≡ map (λ l. poly l.poly) l.lines;
}
