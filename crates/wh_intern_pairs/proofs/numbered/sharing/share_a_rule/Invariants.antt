use Rattle.std.proofs.Common.{ℕ, ◌+◌, ◌<◌, map}
use Rattle.wh_pairs.specs.PairData.{pair_data}
use Rattle.wh_intern_pairs.specs.Sharing.{ShareAt}
use Rattle.wh_intern_pairs.proofs.numbered.sharing.share_a_rule.Given as goal

abbrev pub invariant-loop-place : goal.invariant-loop-place
invariant-loop-place l = (i : ℕ) → i + 1 < l.place → ShareAt (map pair_data l.pairs) l.set i → ⊥
