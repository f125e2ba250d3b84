-- Where the meta-variables of a pattern are read, and the places of symbols that are passed on the way there.
use Rattle.std.specs.Prelude.{ℕ, ◌==◌, Bool, true, false, List, [], ◌∷◌, ◌++◌, map, Option, Some, None}
use Rattle.wh_terms.specs.Tree.{Tm, fun, meta, lam, app, head, argument_count}

-- the argument of a symbol with that index, counted from 0
pub record Place : Type 0 where
  pub symbol : ℕ
  pub index : ℕ

-- an occurrence of a meta-variable, with the places of symbols that are passed on the way to it, the outermost first
pub record Reading : Type 0 where
  pub meta : ℕ
  pub way : List Place

-- the symbol that a tree is, if it is one
abbrev pub symbol_of : Tm → Option ℕ
symbol_of (fun f) = Some f
symbol_of _ = None

-- the reading with one more place passed before the others
abbrev pub behind : Place → Reading → Reading
behind p r = record { meta = r.meta; way = p ∷ r.way }

-- what is read within the argument number i of a head: where the head is a symbol, this place is passed; within an
-- argument of a bound variable nothing is read
abbrev pub within_argument : Option ℕ → ℕ → List Reading → List Reading
within_argument (Some f) i rs = map (behind (record { symbol = f; index = i })) rs
within_argument None i rs = []

-- the readings in a pattern, in preorder: the occurrences of meta-variables that do not lie within an argument of a
-- bound variable (ours)
abbrev pub readings : Tm → List Reading
readings (meta z ts) = record { meta = z; way = [] } ∷ []
readings (lam a t) = readings t
readings (app t u) = readings t ++ within_argument (symbol_of (head t)) (argument_count t) (readings u)
readings _ = []

-- the readings in a left side are those in its arguments, from the left; the side's own head is not on the way
abbrev pub readings_of_left : Tm → List Reading
readings_of_left (app t u) = readings_of_left t ++ readings u
readings_of_left _ = []

-- the way where it is given, or else the rest
abbrev pub first_way : Bool → List Place → Option (List Place) → Option (List Place)
first_way true way rest = Some way
first_way false way rest = rest

-- the way of the first reading of the meta-variable z; None where it is not read
abbrev pub way_to : ℕ → List Reading → Option (List Place)
way_to z [] = None
way_to z (r ∷ rs) = first_way (r.meta == z) r.way (way_to z rs)

-- the way on which the left side l is read for z: only the first reading counts, also where a later one would pass
-- (Fuhs and Kop 2019, accessible function passing; that the first one decides is ours)
abbrev pub reading_of : Tm → ℕ → Option (List Place)
reading_of l z = way_to z (readings_of_left l)
