-- What the places that are passed demand of the ranks, and the cycles in which these demands can't be met (ours).
use Rattle.std.specs.Prelude.{ℕ, ◌≡◌, ◌≢◌, ◌⊎◌, Bool, true, false, List, [], ◌∷◌, Some, slice_get, Contains, AllPairs}
use Rattle.wh_types.specs.Ty.{Ty, sort, ◌⇒◌, arguments, result_sort}
use Rattle.wh_terms.specs.Sight.{Occurs}
use Rattle.wh_terms.specs.Typing.{Symbols}
use Rattle.wh_terms.specs.Rules.{RewriteRule}
use Rattle.wh_access.specs.Readings.{Place, reading_of}

-- the rank of one sort is to be at most that of another, or below it where the demand is strict
pub record Demand : Type 0 where
  pub from : ℕ
  pub to : ℕ
  pub strict : Bool

-- the sort s is in the type
abbrev pub HasSort : ℕ → Ty → Type 0
HasSort s (sort r) = r ≡ s
HasSort s (a ⇒ b) = HasSort s a ⊎ HasSort s b

-- a place of a type in a symbol of the result sort t demands that its sort is at most t, or, where the type is
-- functional, that each sort in it is below t
abbrev pub Asks : Ty → ℕ → Demand → Type 0
Asks (sort r) t d = (d.from ≡ r) × (d.to ≡ t) × (d.strict ≡ false)
Asks (a ⇒ b) t d = HasSort d.from (a ⇒ b) × (d.to ≡ t) × (d.strict ≡ true)

-- the place demands it
abbrev pub IsAskedAt : Symbols → Place → Demand → Type 0
IsAskedAt S p d = (a b : Ty) × (slice_get S.funs p.symbol ≡ Some b) × (slice_get (arguments b) p.index ≡ Some a) × Asks a (result_sort b) d

-- a place on the way demands it
abbrev pub IsAskedOn : Symbols → List Place → Demand → Type 0
IsAskedOn S way d = (p : Place) × Contains way p × IsAskedAt S p d

-- the demand is one on the way to z in the left side of the rule, where z is used in the right side
abbrev pub IsAskedFor : Symbols → RewriteRule → ℕ → Demand → Type 0
IsAskedFor S r z d = Occurs z r.right × ((way : List Place) × (reading_of r.left z ≡ Some way) × IsAskedOn S way d)

-- the demand is one on the way to a meta-variable of a right side
abbrev pub IsDemand : Symbols → List RewriteRule → Demand → Type 0
IsDemand S rules d = (r : RewriteRule) × Contains rules r × ((z : ℕ) × IsAskedFor S r z d)

-- a demand leads from one sort to the other, and a strict one does
abbrev pub Leads : Symbols → List RewriteRule → ℕ → ℕ → Type 0
Leads S rules s t = (b : Bool) × IsDemand S rules (record { from = s; to = t; strict = b })

abbrev pub LeadsStrictly : Symbols → List RewriteRule → ℕ → ℕ → Type 0
LeadsStrictly S rules s t = IsDemand S rules (record { from = s; to = t; strict = true })

-- P leads from s to the first of the list, from each to the next, and from the last to t
abbrev pub LeadsAlong : (ℕ → ℕ → Type 0) → ℕ → List ℕ → ℕ → Type 0
LeadsAlong P s [] t = P s t
LeadsAlong P s (u ∷ us) t = P s u × LeadsAlong P u us t

-- Q leads somewhere from one to the next on that way
abbrev pub LeadsSomewhere : (ℕ → ℕ → Type 0) → ℕ → List ℕ → ℕ → Type 0
LeadsSomewhere Q s [] t = Q s t
LeadsSomewhere Q s (u ∷ us) t = Q s u ⊎ LeadsSomewhere Q u us t

-- the sorts of a list, each once, where P leads from each to the next and from the last to the first, and Q does so
-- somewhere
abbrev pub IsCycle : (ℕ → ℕ → Type 0) → (ℕ → ℕ → Type 0) → List ℕ → Type 0
IsCycle P Q [] = ⊥
IsCycle P Q (s ∷ ss) = AllPairs (λ x y. x ≢ y) (s ∷ ss) × LeadsAlong P s ss s × LeadsSomewhere Q s ss s

-- a cycle of demands with a strict one
abbrev pub IsStrictCycle : Symbols → List RewriteRule → List ℕ → Type 0
IsStrictCycle S rules = IsCycle (Leads S rules) (LeadsStrictly S rules)
