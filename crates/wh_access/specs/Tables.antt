-- Demands on ranks, kept in tables, and the answers of the walks that fill these tables.
use Rattle.std.specs.Prelude.{ℕ, ◌≡◌, ◌+◌, ◌*◌, ◌<◌, ◌↔◌, ◌⊎◌, Bool, true, false, IsTrue, List, Option, Some, None, slice_get, slice_index_or}
use Rattle.wh_types.specs.Limits.{most_sorts}
use Rattle.wh_types.specs.Ty.{Ty, SortsBelow}
use Rattle.wh_terms.specs.Typing.{Symbols}
use Rattle.wh_terms.specs.Rules.{RewriteRule}
use Rattle.wh_access.specs.Readings.{Place, Reading, way_to}
use Rattle.wh_access.specs.Demands.{Demand, IsAskedOn, IsAskedFor}
use Rattle.wh_access.specs.declared.relation.Relation.{Relation}
use Rattle.wh_access.specs.declared.demands.Demands.{Demands}

-- whether the table has the sort s related to the sort t
abbrev pub relates : Relation → ℕ → ℕ → Bool
relates r s t = slice_index_or r.held.items (s * most_sorts + t) false

-- the table of the strict demands, or of the weak ones
abbrev pub table_of : Demands → Bool → Relation
table_of demands true = demands.strict
table_of demands false = demands.weak

-- the demand is in the tables
abbrev pub InTables : Demands → Demand → Type 0
InTables demands d = IsTrue (relates (table_of demands d.strict) d.from d.to)

-- a demand in the tables leads from s to t, and a strict one does
abbrev pub LeadsIn : Demands → ℕ → ℕ → Type 0
LeadsIn demands s t = (b : Bool) × InTables demands (record { from = s; to = t; strict = b })

abbrev pub LeadsStrictlyIn : Demands → ℕ → ℕ → Type 0
LeadsStrictlyIn demands s t = InTables demands (record { from = s; to = t; strict = true })

-- a demand in the tables leads from s to t, which are sorts below n, and a strict one does
abbrev pub LeadsBelow : Demands → ℕ → ℕ → ℕ → Type 0
LeadsBelow demands n s t = (s < n) × (t < n) × LeadsIn demands s t

abbrev pub LeadsStrictlyBelow : Demands → ℕ → ℕ → ℕ → Type 0
LeadsStrictlyBelow demands n s t = (s < n) × (t < n) × LeadsStrictlyIn demands s t

-- the new tables have the demands of the old ones and those in A
abbrev pub Grows : Demands → Demands → (Demand → Type 0) → Type 0
Grows old new A = (d : Demand) → d.from < most_sorts → d.to < most_sorts → InTables new d ↔ (InTables old d ⊎ A d)

-- each sort in the type of a symbol has a number below n
abbrev pub SortsWithin : ℕ → Symbols → Type 0
SortsWithin n S = (f : ℕ) (b : Ty) → slice_get S.funs f ≡ Some b → SortsBelow n b

-- at true z is read, and the demands on the way to it have joined; at false z is not read, and nothing has joined
abbrev pub TellsAsked : Symbols → ℕ → List Reading → Demands → Demands → Bool → Type 0
TellsAsked S z rs old new true = (way : List Place) × (way_to z rs ≡ Some way) × Grows old new (IsAskedOn S way)
TellsAsked S z rs old new false = (way_to z rs ≡ None) × (new ≡ old)

-- at None the demands on the ways to all meta-variables of the rule have joined
abbrev pub TellsAskedByRule : Symbols → RewriteRule → Demands → Demands → Option ℕ → Type 0
TellsAskedByRule S r old new None = Grows old new (λ d. (z : ℕ) × IsAskedFor S r z d)
TellsAskedByRule S r old new (Some z) = Unit {0}
