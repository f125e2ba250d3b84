-- Canonical types are spelled as a text may have them.
use Rattle.std.proofs.Common.{ℕ, ◌+◌, ◌≤◌, List, [], length, All, arith}
use Rattle.wh_types.specs.Ty.{Ty, sort, ◌⇒◌, result_sort, SortsBelow}
use Rattle.wh_text.specs.Words.{IsName}
use Rattle.wh_system.specs.Canonical.{name_at, raw_type_of, raw_arguments_of}
use Rattle.wh_system.specs.Nesting.{type_nesting, part_nesting}
use Rattle.wh_system_print.specs.Sound.{IsSpelledType, IsSpelledPart, AreSpelledParts}

-- the sort that the type gives has a name
result-named : (sorts : List (List ℕ)) → All IsName sorts → (a : Ty) → SortsBelow (length sorts) a → IsName (name_at sorts (result_sort a))
result-named sorts names (sort s) below = names s [] below
result-named sorts names (a ⇒ b) below = result-named sorts names b below.1

-- within j open parentheses
mutual
  pub part_spelled : (sorts : List (List ℕ)) → All IsName sorts → (a : Ty) (j : ℕ) → SortsBelow (length sorts) a → j + part_nesting a ≤ 16 → IsSpelledPart j (raw_type_of sorts a)
  part_spelled sorts names (sort s) j below low = names s [] below
  part_spelled sorts names (a ⇒ b) j below low =
      (omega arith, part_spelled sorts names a (j + 1) below.0 (omega arith), arguments_spelled sorts names b (j + 1) below.1 (omega arith), result-named sorts names b below.1)

  pub arguments_spelled : (sorts : List (List ℕ)) → All IsName sorts → (a : Ty) (j : ℕ) → SortsBelow (length sorts) a → j + type_nesting a ≤ 16 → AreSpelledParts j (raw_arguments_of sorts a)
  arguments_spelled sorts names (sort s) j below low = tt
  arguments_spelled sorts names (a ⇒ b) j below low =
      (part_spelled sorts names a j below.0 (omega arith), arguments_spelled sorts names b j below.1 (omega arith))

pub type_spelled : (sorts : List (List ℕ)) → All IsName sorts → (a : Ty) (j : ℕ) → SortsBelow (length sorts) a → j + type_nesting a ≤ 16 → IsSpelledType j (raw_type_of sorts a)
type_spelled sorts names (sort s) j below low = (tt, names s [] below)
type_spelled sorts names (a ⇒ b) j below low = (arguments_spelled sorts names (a ⇒ b) j below low, result-named sorts names b below.1)
