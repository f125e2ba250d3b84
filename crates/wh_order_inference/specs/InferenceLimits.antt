-- The limits of the format on inferences, and which values of the model have a text (ours).
use Rattle.std.specs.Prelude.{ℕ, suc, ◌≡◌, ◌<◌, ◌≤◌, max}
use Rattle.wh_types.specs.Limits.{greatest_number}
use Rattle.wh_order_inference.specs.Inferences.{Inference, infer, Inferences, no_parts, more_parts}
use Rattle.wh_order_inference.specs.InferenceText.{Form, alone, with_parts, with_place, form}

-- how deep inferences may nest, the outermost included
abbrev pub deepest_inference : ℕ
deepest_inference = 64

-- how many inferences there are on the longest path from the outermost one inwards, both ends included
abbrev mutual
  pub depth : Inference → ℕ
  depth (infer l n is) = suc (deepest is)

  pub deepest : Inferences → ℕ
  deepest no_parts = 0
  deepest (more_parts i is) = max (depth i) (deepest is)

-- what is not written is 0 or empty, and a place is at most 65,535
abbrev pub FormFits : Form → ℕ → Inferences → Type 0
FormFits alone n is = (n ≡ 0) × (is ≡ no_parts)
FormFits with_parts n is = n ≡ 0
FormFits with_place n is = n ≤ greatest_number

-- an inference inside k others: each in it has a text, and they nest at most 64 deep, those k included
abbrev mutual
  pub InferenceFits : ℕ → Inference → Type 0
  InferenceFits k (infer l n is) = (k < deepest_inference) × FormFits (form l) n is × PartsFit (suc k) is

  pub PartsFit : ℕ → Inferences → Type 0
  PartsFit k no_parts = Unit {0}
  PartsFit k (more_parts i is) = InferenceFits k i × PartsFit k is
