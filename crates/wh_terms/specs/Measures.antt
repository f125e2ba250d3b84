-- The measures of a tree: its size, its height and its nesting, and `Fits`, the limits on terms.
use Rattle.std.specs.Prelude.{ℕ, ◌+◌, ◌≤◌, ◌<◌, ◌^◌, max}
use Rattle.wh_types.specs.Limits.{most_arguments, greatest_height, greatest_size}
use Rattle.wh_terms.specs.Tree.{Tm, bound, meta, lam, app, Tms, none, more, argument_count}

-- the size counts symbols, variables, meta-applications, abstractions and binary applications (ours)
abbrev mutual
  pub size : Tm → ℕ
  size (meta z ts) = 1 + sizes ts
  size (lam a t) = 1 + size t
  size (app t u) = 1 + size t + size u
  size _ = 1

  pub sizes : Tms → ℕ
  sizes none = 0
  sizes (more t ts) = size t + sizes ts

-- the height of a spine with arguments, and of a meta-variable with arguments, is one more than the greatest
-- height of its parts; that of an abstraction one more than its body's; all else has height 0 (ours).
-- An application goes on with the spine that its function is: `risen t` is what t and t's own arguments, as
-- parts of a longer spine, give to that spine's height.
abbrev pub risen : Tm → ℕ → ℕ
risen (app t u) n = n
risen _ n = 1 + n

abbrev mutual
  pub height : Tm → ℕ
  height (meta z none) = 0
  height (meta z (more t ts)) = 1 + max (height t) (heights ts)
  height (lam a t) = 1 + height t
  height (app t u) = max (risen t (height t)) (1 + height u)
  height _ = 0

  pub heights : Tms → ℕ
  heights none = 0
  heights (more t ts) = max (height t) (heights ts)

-- the nesting of the tree itself, each node a level
abbrev mutual
  pub nesting : Tm → ℕ
  nesting (meta z ts) = 1 + nestings ts
  nesting (lam a t) = 1 + nesting t
  nesting (app t u) = 1 + max (nesting t) (nesting u)
  nesting _ = 0

  pub nestings : Tms → ℕ
  nestings none = 0
  nestings (more t ts) = max (nesting t) (nestings ts)

-- no spine in the tree has more than n arguments
abbrev mutual
  pub SpinesWithin : ℕ → Tm → Type 0
  SpinesWithin n (meta z ts) = AllSpinesWithin n ts
  SpinesWithin n (lam a t) = SpinesWithin n t
  SpinesWithin n (app t u) = (argument_count t + 1 ≤ n) × SpinesWithin n t × SpinesWithin n u
  SpinesWithin n _ = Unit {0}

  pub AllSpinesWithin : ℕ → Tms → Type 0
  AllSpinesWithin n none = Unit {0}
  AllSpinesWithin n (more t ts) = SpinesWithin n t × AllSpinesWithin n ts

-- a tree fits if its height is at most 200, each spine has at most 32 arguments and its size is at most 65,536 (ours)
pub record Fits (t : Tm) : Type 0 where
  pub low : height t ≤ greatest_height
  pub narrow : SpinesWithin most_arguments t
  pub small : size t ≤ greatest_size

-- each number of a bound variable is below n
abbrev mutual
  pub BoundNumbersBelow : ℕ → Tm → Type 0
  BoundNumbersBelow n (bound i) = i < n
  BoundNumbersBelow n (meta z ts) = AllBoundNumbersBelow n ts
  BoundNumbersBelow n (lam a t) = BoundNumbersBelow n t
  BoundNumbersBelow n (app t u) = BoundNumbersBelow n t × BoundNumbersBelow n u
  BoundNumbersBelow n _ = Unit {0}

  pub AllBoundNumbersBelow : ℕ → Tms → Type 0
  AllBoundNumbersBelow n none = Unit {0}
  AllBoundNumbersBelow n (more t ts) = BoundNumbersBelow n t × AllBoundNumbersBelow n ts

-- what every call on terms asks: nesting and numbers of bound variables below 2^30 (ours)
pub record Manageable (t : Tm) : Type 0 where
  pub nested : nesting t < 2 ^ 30
  pub numbered : BoundNumbersBelow (2 ^ 30) t
