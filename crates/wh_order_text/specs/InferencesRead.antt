-- What the place to which bytes lead the reader of inferences says of these bytes.
use Rattle.std.specs.Prelude.{ℕ, ◌≡◌, List, [], ◌∷◌, ◌++◌}
use Rattle.wh_text.specs.Chars.{line_feed}
use Rattle.wh_order_inference.specs.Inferences.{Inference}
use Rattle.wh_order_inference.specs.InferenceText.{put_inference}
use Rattle.wh_order_inference.specs.InferenceLimits.{InferenceFits}
use Rattle.wh_order_text.specs.InferenceMachine.{Scan, reading, read, failed}

-- the bytes begin a line that is an inference within the limits
abbrev pub BeginsInference : List ℕ → Type 0
BeginsInference p = (i : Inference) × (r : List ℕ) × InferenceFits 0 i × (p ++ r ≡ put_inference i (line_feed ∷ []))

-- where the bytes lead, and what they are: the beginning of such a line; an inference within the limits and the rest
-- behind it; the beginning of no such line
abbrev pub Led : Scan → List ℕ → Type 0
Led (reading fs k) p = BeginsInference p
Led (read i r) p = InferenceFits 0 i × (p ≡ put_inference i r)
Led failed p = BeginsInference p → ⊥
