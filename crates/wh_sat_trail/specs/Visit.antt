-- The state behind a visit of one clause that watches a false literal.
use Rattle.std.specs.Prelude.{◌≡◌, ℕ, ◌+◌, ◌<◌, List, [], length, get_or}
use Rattle.wh_sat_trail.specs.declared.literal.Literal.{Literal}
use Rattle.wh_sat_trail.specs.declared.trail.Trail.{Trail}
use Rattle.wh_sat_trail.specs.declared.watch.Visit.{Visit}
use Rattle.wh_sat_trail.specs.declared.watch.Visit.TheVariants.{Stays, Moved, Refuted}
use Rattle.wh_sat_trail.specs.Propagation.{IsRefuted}
use Rattle.wh_sat_trail.specs.Watch.{Pending}
use Rattle.wh_sat_trail.specs.Code.{code_of}

abbrev pub list_of : Trail → Literal → List ℕ
list_of s a = get_or s.lists.items (code_of a) []

abbrev pub PendingIn : Trail → Literal → ℕ → Type 0
PendingIn s a i = Pending s.formula.clauses s.assignment.literals.items s.head s.lists.items s.pairs.items a i

-- the walk goes on at the next place, at the same place of a list that has lost an entry, or ends at a false clause
abbrev pub Visits : Trail → Trail → ℕ → Literal → Visit → Type 0
Visits before after at a Stays = PendingIn after a (at + 1) × (length (list_of after a) ≡ length (list_of before a))
Visits before after at a Moved = PendingIn after a at × (length (list_of after a) + 1 ≡ length (list_of before a))
Visits before after at a (Refuted k) = (k < length before.formula.clauses)
    × IsRefuted after.assignment.literals.items (get_or before.formula.clauses k [])
