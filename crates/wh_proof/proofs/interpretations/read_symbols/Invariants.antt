use Rattle.std.proofs.Common.{◌≡◌, map, take}
use Rattle.wh_types.specs.Erase.{ty}
use Rattle.wh_poly.specs.Erase.{poly}
use Rattle.wh_proof.proofs.interpretations.read_symbols.Given as goal

abbrev pub invariant-loop-i : goal.invariant-loop-i
invariant-loop-i l = record {
  kinds : map (λ s. ty s.kind) l.symbols.items ≡ map ty (take l.i l.kinds);
  polynomials : map (λ s. poly s.poly) l.symbols.items ≡ map (λ line. poly line.poly) (take l.i l.lines);
}
