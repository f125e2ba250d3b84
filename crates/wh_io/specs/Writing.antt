-- Writing a whole text: what the sink has afterwards, also where a write failed (ours).
use Rattle.std.specs.Prelude.{◌≡◌, ◌<◌, ℕ, List, ◌++◌, length, Option, Result, Ok, Err}
use Rattle.wh_io.specs.Outside.{Wrote}

-- a front part of the text, and not all of it, joined what was written, where the sink tells it
abbrev pub WroteFront : Option (List ℕ) → Option (List ℕ) → List ℕ → Type 0
WroteFront old new text = (front : List ℕ) × (back : List ℕ) × (0 < length back) × (text ≡ front ++ back) × Wrote old new front

-- all of the text was appended; or the call failed, and only a front part of it was
abbrev pub WritesAll : {T E : Type 0} → Option (List ℕ) → Option (List ℕ) → List ℕ → Result T E → Type 0
WritesAll old new text (Ok _) = Wrote old new text
WritesAll old new text (Err _) = WroteFront old new text
