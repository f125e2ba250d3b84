-- Short clauses that need no second look (ours).
use Rattle.std.specs.Prelude.{ℕ, ◌<◌, ◌≤◌, List, [], ◌∷◌, length, get_or, take}
use Rattle.wh_sat_trail.specs.declared.literal.Literal.{Literal}
use Rattle.wh_sat_trail.specs.declared.watch.Stop.{Stop}
use Rattle.wh_sat_trail.specs.Assignment.{Holds}

-- the literals before the first level
abbrev pub ground_of : List Stop → List Literal → List Literal
ground_of [] t = t
ground_of (s ∷ stops) t = take s.mark t

-- some literal of the clause is true
abbrev pub IsMet : List Literal → List Literal → Type 0
IsMet t c = ((i : ℕ) (d : Literal) → i < length c → Holds t (get_or c i d) → ⊥) → ⊥

-- the first short clauses have a literal that is true before the first level
pub record Settled (clauses : List (List Literal)) (ground : List Literal) (short : List ℕ) (settled : ℕ) : Type 0 where
  pub within : settled ≤ length short
  pub known : (i : ℕ) → i < settled → get_or short i 0 < length clauses
  pub met : (i : ℕ) → i < settled → IsMet ground (get_or clauses (get_or short i 0) [])
