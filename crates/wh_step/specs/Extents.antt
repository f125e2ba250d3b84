-- The extents of trees (size, height, length of the spine), and the answers of the walks that measure them.
use Rattle.std.specs.Prelude.{ℕ, ◌≡◌, ◌≤◌, List, [], ◌∷◌, Option, Some, None, Result, Ok, Err}
use Rattle.wh_types.specs.Limits.{most_arguments, greatest_height, greatest_size}
use Rattle.wh_types.specs.declared.want.Or.{Or}
use Rattle.wh_types.specs.declared.want.Or.TheVariants.{NoMemory, Because}
use Rattle.wh_terms.specs.Tree.{Tm, Tms, none, more, argument_count}
use Rattle.wh_terms.specs.Measures.{size, height, Fits}
use Rattle.wh_step.specs.declared.extent.Extent.{Extent}
use Rattle.wh_step.specs.declared.extent.PastLimit.{PastLimit}

-- the tree fits, and e has its measures
pub record IsExtent (t : Tm) (e : Extent) : Type 0 where
  pub fits : Fits t
  pub sized : e.size ≡ size t
  pub high : e.height ≡ height t
  pub broad : e.arguments ≡ argument_count t

-- a measuring of t answers with its extent, or that t does not fit; nothing is said of want of memory
abbrev pub Measures : Tm → Result Extent (Or PastLimit) → Type 0
Measures t (Ok e) = IsExtent t e
Measures t (Err NoMemory) = Unit {0}
Measures t (Err (Because _)) = Fits t → ⊥

-- the extent is the one of the tree where one is known, and the tree does not fit where none is
abbrev pub Knows : Tm → Option Extent → Type 0
Knows t (Some e) = IsExtent t e
Knows t None = Fits t → ⊥

-- the trees of a list, one by one
abbrev pub AllKnown : Tms → List (Option Extent) → Type 0
AllKnown none [] = Unit {0}
AllKnown (more t ts) (e ∷ es) = Knows t e × AllKnown ts es
AllKnown _ _ = ⊥

-- the answer has these measures, or they do not keep the limits
abbrev pub Limits : ℕ → ℕ → ℕ → Result Extent (Or PastLimit) → Type 0
Limits s h n (Ok e) = (e.size ≡ s) × (e.height ≡ h) × (e.arguments ≡ n)
Limits s h n (Err NoMemory) = ⊥
Limits s h n (Err (Because _)) = s ≤ greatest_size → h ≤ greatest_height → n ≤ most_arguments → ⊥
