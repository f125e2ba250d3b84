use Rattle.std.proofs.Common.{◌≡◌, ℕ, map, take}
use Rattle.wh_order_inference.specs.Said.{written_filter}
use Rattle.wh_proof.proofs.filters.read_mark_filters.Given as goal

abbrev pub invariant-loop-i : goal.invariant-loop-i
invariant-loop-i l = record {
  symbols : map (λ m. m.symbol) l.marks ≡ map (λ (n : ℕ). n) (take l.i l.numbers);
  filters : map (λ m. written_filter m.filter) l.marks ≡ map (λ line. written_filter line.filter) (take l.i l.lines);
}
