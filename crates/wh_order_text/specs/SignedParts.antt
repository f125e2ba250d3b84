-- The spelling of parts with a sign before each (ours).
use Rattle.std.specs.Prelude.{ℕ, List, ◌∷◌}
use Rattle.wh_order_inference.specs.Inferences.{Inferences, no_parts, more_parts}
use Rattle.wh_order_inference.specs.InferenceText.{put_inference}

-- the sign c before the first part, a comma before the others, and then r
abbrev pub put_each : ℕ → Inferences → List ℕ → List ℕ
put_each c no_parts r = r
put_each c (more_parts i is) r = c ∷ put_inference i (put_each 44 is r)
