-- What the place to which bytes lead the reader of filters says of these bytes.
use Rattle.std.specs.Prelude.{ℕ, ◌≡◌, List, [], ◌∷◌, ◌++◌}
use Rattle.wh_text.specs.Chars.{line_feed}
use Rattle.wh_order_inference.specs.FilterText.{WrittenFilter, put_filter, FilterFits}
use Rattle.wh_order_text.specs.FilterMachine.{Scan, reading, read, failed}

-- the bytes begin a line that is a filter within the limits
abbrev pub BeginsFilter : List ℕ → Type 0
BeginsFilter p = (f : WrittenFilter) × (r : List ℕ) × FilterFits f × (p ++ r ≡ put_filter f (line_feed ∷ []))

-- where the bytes lead, and what they are: the beginning of such a line; a filter within the limits and the rest behind
-- it; the beginning of no such line
abbrev pub Led : Scan → List ℕ → Type 0
Led (reading k) p = BeginsFilter p
Led (read f r) p = FilterFits f × (p ≡ put_filter f r)
Led failed p = BeginsFilter p → ⊥
