-- What a part that is put at a position brings to the tree around it: to its height, and to the spine that it joins.
-- These are working forms, which callers do not see.
use Rattle.std.specs.Prelude.{ℕ, zero, suc, ◌≡◌, ◌+◌, ◌≤◌, Bool, true, false, List, [], ◌∷◌, Option, Some, None}
use Rattle.wh_types.specs.Limits.{most_arguments, greatest_height, greatest_size}
use Rattle.wh_terms.specs.Tree.{Tm, lam, app, argument_count}
use Rattle.wh_terms.specs.Measures.{size, height, risen, Fits}
use Rattle.wh_terms.specs.Places.{part_at}
use Rattle.wh_step.specs.Roots.{put_at}
use Rattle.wh_step.specs.Extents.{IsExtent}
use Rattle.wh_step.specs.declared.extent.Extent.{Extent}
use Rattle.wh_step.specs.declared.joint.Joint.{Joint}

-- how high the tree stands above its root where v is put at the path: what stands above the place, and v's own height
abbrev pub reach : List ℕ → Tm → Tm → ℕ
reach [] v t = height v
reach (zero ∷ path) v (app t u) = risen (put_at path v t) (reach path v t)
reach (suc d ∷ path) v (app t u) = 1 + reach path v u
reach (d ∷ path) v (lam a t) = 1 + reach path v t
reach (d ∷ path) v t = 0

-- the path leads from function to function, so that the place is on the spine that the tree is
abbrev pub is_front : List ℕ → Tm → Bool
is_front [] t = true
is_front (zero ∷ path) (app t u) = is_front path t
is_front _ _ = false

abbrev pub one_more_if : Bool → ℕ → ℕ
one_more_if true n = n + 1
one_more_if false n = n

-- how many arguments the spine has that v joins at the place
abbrev pub joined_arguments : List ℕ → Tm → Tm → ℕ
joined_arguments [] v t = argument_count v
joined_arguments (zero ∷ path) v (app t u) = one_more_if (is_front path t) (joined_arguments path v t)
joined_arguments (suc d ∷ path) v (app t u) = joined_arguments path v u
joined_arguments (d ∷ path) v (lam a t) = joined_arguments path v t
joined_arguments (d ∷ path) v t = 0

-- v fits in t in place of its part r at the path: only v, the sizes, and what stands right above the place count
pub record FitsThere (path : List ℕ) (v t r : Tm) : Type 0 where
  pub part : Fits v
  pub small : size t + size v ≤ greatest_size + size r
  pub low : reach path v t ≤ greatest_height
  pub narrow : joined_arguments path v t ≤ most_arguments

-- the height that a tree gives to the spine that it begins, beyond its own
abbrev pub rise_of : Bool → ℕ
rise_of true = 0
rise_of false = 1

-- j is what v brings to the tree where it is put at the path
pub record IsJoint (path : List ℕ) (v t : Tm) (j : Joint) : Type 0 where
  pub high : j.height ≡ reach path v t
  pub broad : j.arguments ≡ joined_arguments path v t
  pub fronted : j.is_front ≡ is_front path t
  pub raised : risen (put_at path v t) 0 ≡ rise_of j.is_applied

-- a measuring at the place answers with that, or that it is past a limit
abbrev pub Joins : List ℕ → Tm → Tm → Option Joint → Type 0
Joins path v t (Some j) = IsJoint path v t j
Joins path v t None = reach path v t ≤ greatest_height → joined_arguments path v t ≤ most_arguments → ⊥

-- what is measured before the result: t, which fits, has the size n, its part r the size m, and v is to be put in place
-- of r
pub record IsMeasured (path : List ℕ) (v t r : Tm) (n m : ℕ) (e : Extent) (o : Option Joint) : Type 0 where
  pub here : part_at path t ≡ Some r
  pub fits : Fits t
  pub whole : n ≡ size t
  pub old : m ≡ size r
  pub part : IsExtent v e
  pub joins : Joins path v t o

-- the size of the tree with the part, where it fits
abbrev pub NewSize : Tm → Option ℕ → Type 0
NewSize w (Some n) = Fits w × (n ≡ size w)
NewSize w None = Fits w → ⊥

-- the joint has these measures, or they do not keep the limits
abbrev pub LimitsJoint : ℕ → ℕ → Bool → Bool → Option Joint → Type 0
LimitsJoint h n f a (Some j) = (j.height ≡ h) × (j.arguments ≡ n) × (j.is_front ≡ f) × (j.is_applied ≡ a)
LimitsJoint h n f a None = h ≤ greatest_height → n ≤ most_arguments → ⊥
