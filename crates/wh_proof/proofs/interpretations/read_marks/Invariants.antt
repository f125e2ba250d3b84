use Rattle.std.proofs.Common.{◌≡◌, ℕ, map, take}
use Rattle.wh_poly.specs.Erase.{poly}
use Rattle.wh_proof.proofs.interpretations.read_marks.Given as goal

abbrev pub invariant-loop-i : goal.invariant-loop-i
invariant-loop-i l = record {
  symbols : map (λ m. m.symbol) l.marks.items ≡ map (λ (n : ℕ). n) (take l.i l.numbers);
  polynomials : map (λ m. poly m.poly) l.marks.items ≡ map (λ line. poly line.poly) (take l.i l.lines);
}
