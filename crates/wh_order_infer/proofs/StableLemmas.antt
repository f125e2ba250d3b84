-- Facts that hold where they are not refuted.
use Rattle.std.proofs.Common.{◌≡◌, ℕ, zero, suc, ◌<◌, ◌≤◌, length, Option, Some, None, refl, arith}
use Rattle.std.specs.Prelude.{◌^◌}
use Rattle.wh_order_inference.specs.Inferences.{entries}
use Rattle.wh_order_inference.specs.InferenceLimits.{depth}
use Rattle.wh_order_inference.specs.Said.{inference}
use Rattle.wh_order_inference.specs.declared.inference.Inference.{Inference}
use Rattle.wh_order_path.specs.Verdict.{verdict}
use Rattle.wh_order_node.specs.Filterings.{FilteringData}
use Rattle.wh_order.specs.declared.goals.Goal.{Goal}
use Rattle.wh_order.specs.Precedences.{order_of}
use Rattle.wh_order.specs.Claims.{task}
use Rattle.wh_order_known.specs.Least.{NotRefuted}
use Rattle.wh_order_infer.specs.Bests.{IsLeastInference}
use Rattle.wh_order_path.proofs.SameTreeLaws.{some_none}

stable_le : (m n : ℕ) → NotRefuted (m ≤ n) → m ≤ n
stable_le zero n known = omega arith
stable_le (suc m) zero known = absurd (known (λ l. omega (arith, l)))
stable_le (suc m) (suc n) known = omega (arith, stable_le m n (λ refuted. known (λ l. refuted (omega (arith, l)))))

stable_less : (m n : ℕ) → NotRefuted (m < n) → m < n
stable_less m n known = omega (arith, stable_le (suc m) n (λ refuted. known (λ l. refuted (omega (arith, l)))))

stable_none : (o : Option ℕ) → NotRefuted (o ≡ None) → o ≡ None
stable_none None known = refl
stable_none (Some k) known = absurd (known (λ e. some_none e))

pub stable_inference : (D : FilteringData) (room : ℕ) (g : Goal) (r : Option Inference) → NotRefuted (IsLeastInference D room g r) → IsLeastInference D room g r
stable_inference D room g None known w over = λ i good. stable_le (2 ^ 32) (entries i) (λ refuted. known (λ least. refuted (least w over i good)))
stable_inference D room g (Some x) known w over = (
  stable_less (entries (inference x)) (2 ^ 32) (λ refuted. known (λ least. refuted (least w over).0)),
  (
    stable_none (verdict w.symbols (order_of D) w.metas (task (length D.symbols) g) (inference x)) (λ refuted. known (λ least. refuted (least w over).1.0)),
    stable_le (depth (inference x)) room (λ refuted. known (λ least. refuted (least w over).1.1)),
  ),
  λ j good. stable_le (entries (inference x)) (entries j) (λ refuted. known (λ least. refuted ((least w over).2 j good))),
)
