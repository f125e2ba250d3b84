-- Places in a set of pairs by the symbols that head their sides.
use Rattle.std.specs.Prelude.{ℕ, ◌≡◌, List, Some, slice_get}
use Rattle.wh_pairs.specs.PairData.{PairData}
use Rattle.wh_pairs.specs.Marked.{Heads}

-- `HeadsAt pairs set f k`: the symbol f heads a side of the pair whose number stands at the place k of the set
abbrev pub HeadsAt : List PairData → List ℕ → ℕ → ℕ → Type 0
HeadsAt pairs set f k = (n : ℕ) × (slice_get set k ≡ Some n) × Heads pairs f n
