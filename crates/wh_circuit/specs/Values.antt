-- Lists of wires under values of all variables: how many are true, and which number they write.
use Rattle.std.specs.Prelude.{ℕ, ◌+◌, ◌*◌, ◌&&◌, Bool, true, false, List, [], ◌∷◌}
use Rattle.wh_sat_trail.specs.declared.literal.Literal.{Literal}
use Rattle.wh_sat.specs.Solving.{literal_true}

-- all of the wires are true
abbrev pub all_true : (ℕ → Bool) → List Literal → Bool
all_true v [] = true
all_true v (l ∷ c) = literal_true v l && all_true v c

abbrev pub bit : Bool → ℕ
bit true = 1
bit false = 0

-- how many of the wires are true
abbrev pub true_count : (ℕ → Bool) → List Literal → ℕ
true_count v [] = 0
true_count v (l ∷ c) = bit (literal_true v l) + true_count v c

-- the number with these bits, the lowest first
abbrev pub number_of : (ℕ → Bool) → List Literal → ℕ
number_of v [] = 0
number_of v (l ∷ c) = bit (literal_true v l) + 2 * number_of v c
