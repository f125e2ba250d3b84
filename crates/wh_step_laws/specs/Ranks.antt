-- Ranks of sorts, and the places of symbols that are accessible under them.
use Rattle.std.specs.Prelude.{ℕ, suc, ◌≡◌, ◌<◌, ◌≤◌, max, List, Some, slice_get, get_or}
use Rattle.wh_types.specs.Ty.{Ty, sort, ◌⇒◌, arguments, result_sort}
use Rattle.wh_terms.specs.Typing.{Symbols}

-- the rank of a sort, where the ranks are listed in order of the sorts
abbrev pub rank_of : List ℕ → ℕ → ℕ
rank_of ranks s = get_or ranks s 0

-- every sort in the type has a rank below n
abbrev pub RanksBelow : (ℕ → ℕ) → ℕ → Ty → Type 0
RanksBelow rank n (sort s) = rank s < n
RanksBelow rank n (a ⇒ b) = RanksBelow rank n a × RanksBelow rank n b

-- the least number above the ranks of all sorts in the type
abbrev pub above_ranks : (ℕ → ℕ) → Ty → ℕ
above_ranks rank (sort s) = suc (rank s)
above_ranks rank (a ⇒ b) = max (above_ranks rank a) (above_ranks rank b)

-- an argument of type a is accessible in what has the sort s: its type is a sort of a rank that is not greater, or a
-- functional type whose sorts have smaller ranks (Blanqui, Jouannaud and Okada 2002, accessible arguments; Fuhs and Kop
-- 2019, in their form; that a functional place asks for smaller ranks throughout is ours)
abbrev pub IsAccessibleIn : (ℕ → ℕ) → ℕ → Ty → Type 0
IsAccessibleIn rank s (sort r) = rank r ≤ rank s
IsAccessibleIn rank s (a ⇒ b) = RanksBelow rank (rank s) (a ⇒ b)

-- the argument number i of the symbol f, counted from 0, has the type a
abbrev pub PlaceHas : Symbols → ℕ → ℕ → Ty → Type 0
PlaceHas S f i a = (b : Ty) × (slice_get S.funs f ≡ Some b) × (slice_get (arguments b) i ≡ Some a)

-- the place i of the symbol f is accessible
abbrev pub IsAccessible : Symbols → (ℕ → ℕ) → ℕ → ℕ → Type 0
IsAccessible S rank f i = (a b : Ty) × (slice_get S.funs f ≡ Some b) × (slice_get (arguments b) i ≡ Some a)
    × IsAccessibleIn rank (result_sort b) a
