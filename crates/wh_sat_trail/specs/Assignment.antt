-- An assignment is the list of the literals that are true, in the order in which they became so (ours).
use Rattle.std.specs.Prelude.{◌≡◌, ℕ, ◌+◌, ◌<◌, Bool, not, cond, List, [], ◌∷◌, length, get_or, take, Option, Some, None, nat_eq}
use Rattle.wh_sat_trail.specs.declared.literal.Literal.{Literal}

-- the value of a variable
abbrev pub value_in : List Literal → ℕ → Option Bool
value_in [] v = None
value_in (l ∷ ls) v = cond (nat_eq l.variable v) (Some l.positive) (value_in ls v)

abbrev pub negated : Literal → Literal
negated l = record { variable = l.variable; positive = not l.positive }

-- the literal is true, is false, has no value
abbrev pub Holds : List Literal → Literal → Type 0
Holds t l = value_in t l.variable ≡ Some l.positive

abbrev pub Fails : List Literal → Literal → Type 0
Fails t l = value_in t l.variable ≡ Some (not l.positive)

abbrev pub Open : List Literal → Literal → Type 0
Open t l = value_in t l.variable ≡ None

-- the variables of the literals are below a number
abbrev pub AllBelow : ℕ → List Literal → Type 0
AllBelow n c = (i : ℕ) (d : Literal) → i < length c → (get_or c i d).variable < n

-- no variable stands twice
abbrev pub IsFresh : List Literal → Type 0
IsFresh t = (k : ℕ) (d : Literal) → k < length t → value_in (take k t) (get_or t k d).variable ≡ None

-- a table has the values by variable
abbrev pub Tabled : ℕ → List (Option Bool) → List Literal → Type 0
Tabled n values t = (v : ℕ) → v < n → get_or values v None ≡ value_in t v

-- how many places of a table have no value
abbrev pub count_none : List (Option Bool) → ℕ
count_none [] = 0
count_none (None ∷ xs) = 1 + count_none xs
count_none (Some _ ∷ xs) = count_none xs
