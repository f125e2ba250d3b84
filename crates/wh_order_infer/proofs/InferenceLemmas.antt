-- An inference of the program by its letter, its place and its parts.
use mathlib.Core.Former.{Count}
use Rattle.std.proofs.Common.{◌≡◌, ℕ, List, ap, ◌∙◌}
use Rattle.wh_order_inference.specs.Inferences as m
use Rattle.wh_order_inference.specs.Inferences.{infer, more_parts}
use Rattle.wh_order_inference.specs.Said.{letter, inference, inferences}
use Rattle.wh_order_inference.specs.declared.inference.Letter.{Letter}
use Rattle.wh_order_inference.specs.declared.inference.Inference.{Inference, Inference', Row_of-Inference, items_hidden-the_row-Inference-0, roll-Inference}
use Rattle.wh_order.proofs.CheckLemmas.{parts_row-items}

abbrev row_of : Inference → (n : Count) × Row_of-Inference n
row_of (Inference' _ _ _ all) = (_, all)

pub inference_made : (l : Letter) (n : ℕ) (is : List Inference) → inference (roll-Inference (record { letter = l; place = n; parts = is })) ≡ infer (letter l) n (inferences is)
unfolding roll-Inference denote.Hole.Carrier.roll
inference_made l n is =
    ap (λ (js : m.Inferences). infer (letter l) n js)
    (parts_row-items _ (row_of (roll-Inference (record { letter = l; place = n; parts = is }))).1 ∙ ap inferences (items_hidden-the_row-Inference-0 is))
