-- Two watched literals a clause, as in MiniSat. Levels are known by stops alone: how much of the queue was done, and
-- how many literals were assigned (ours).
use Rattle.std.specs.Prelude.{◌≡◌, ◌≢◌, ℕ, ◌+◌, ◌-◌, ◌<◌, ◌≤◌, true, false, cond, List, [], ◌∷◌, ◌++◌, length, get_or, take, drop, sum_by, eqb, ◌⊎◌}
use Rattle.wh_sat_trail.specs.declared.literal.Literal.{Literal}
use Rattle.wh_sat_trail.specs.declared.watch.Stop.{Stop}
use Rattle.wh_sat_trail.specs.declared.watch.Pair.{Pair}
use Rattle.wh_sat_trail.specs.Code.{code_of}
use Rattle.wh_sat_trail.specs.Assignment.{Holds, Fails, Open, negated}
use Rattle.wh_sat_trail.specs.Member.{member}

-- two literals at a stop: where one was false when the queue stood there, the other is true by then
pub record Safe (t : List Literal) (a b : Literal) (done mark : ℕ) : Type 0 where
  pub left : Fails (take done t) a → Holds (take mark t) b
  pub right : Fails (take done t) b → Holds (take mark t) a

abbrev pub nothing : Literal
nothing = record { variable = 0; positive = false }

abbrev pub no_stop : Stop
no_stop = record { done = 0; mark = 0 }

abbrev pub no_pair : Pair
no_pair = record { first = nothing; second = nothing; watched = false }

abbrev pub pair : Literal → Literal → Pair
pair a b = record { first = a; second = b; watched = true }

abbrev pub count_of : ℕ → List ℕ → ℕ
count_of k xs = sum_by (λ x. cond (eqb x k) 1 0) xs

abbrev pub Listed : List (List ℕ) → Literal → ℕ → Type 0
Listed lists l k = 0 < count_of k (get_or lists (code_of l) [])

-- what clause k keeps with its two watches
pub record Guard (t : List Literal) (stops : List Stop) (head : ℕ) (lists : List (List ℕ)) (c : List Literal) (k : ℕ)
    (p : Pair) : Type 0 where
  pub first_in : member p.first c ≡ true
  pub second_in : member p.second c ≡ true
  pub distinct : p.first ≢ p.second
  pub first_listed : Listed lists p.first k
  pub second_listed : Listed lists p.second k
  pub here : Safe t p.first p.second head (length t)
  pub past : (j : ℕ) → j < length stops → Safe t p.first p.second (get_or stops j no_stop).done (get_or stops j no_stop).mark

-- a watched clause is guarded, and any other one is among the short ones
pub record Guarded (clauses : List (List Literal)) (t : List Literal) (stops : List Stop) (head : ℕ) (lists : List (List ℕ))
    (pairs : List Pair) (short : List ℕ) : Type 0 where
  pub watched : (k : ℕ) → k < length clauses → (get_or pairs k no_pair).watched ≡ true
      → Guard t stops head lists (get_or clauses k []) k (get_or pairs k no_pair)
  pub others : (k : ℕ) → k < length clauses → (get_or pairs k no_pair).watched ≡ false → 0 < count_of k short

-- the stops rise within n literals, of which `head` are done
pub record Ordered (stops : List Stop) (head n : ℕ) : Type 0 where
  pub head_in : head ≤ n
  pub stop : (j : ℕ) → j < length stops → (get_or stops j no_stop).done ≤ (get_or stops j no_stop).mark
  pub marks_in : (j : ℕ) → j < length stops → (get_or stops j no_stop).mark < n
  pub dones_in : (j : ℕ) → j < length stops → (get_or stops j no_stop).done ≤ head
  pub marks : (i j : ℕ) → i < j → j < length stops → (get_or stops i no_stop).mark < (get_or stops j no_stop).mark
  pub dones : (i j : ℕ) → i < j → j < length stops → (get_or stops i no_stop).done ≤ (get_or stops j no_stop).done

-- every watched clause is safe at a stop
abbrev pub AllSafe : List (List Literal) → List Literal → List Pair → ℕ → ℕ → Type 0
AllSafe clauses t pairs done mark = (k : ℕ) → k < length clauses → (get_or pairs k no_pair).watched ≡ true
    → Safe t (get_or pairs k no_pair).first (get_or pairs k no_pair).second done mark

-- the literal behind `head` makes a false
pub record Turn (t : List Literal) (head : ℕ) (a : Literal) : Type 0 where
  pub within : head < length t
  pub before : Open (take head t) a
  pub next : take (head + 1) t ≡ take head t ++ negated a ∷ []

-- while the list of a is walked, each watched clause is safe one literal further, or stands in the list from place i on
abbrev pub Pending : List (List Literal) → List Literal → ℕ → List (List ℕ) → List Pair → Literal → ℕ → Type 0
Pending clauses t head lists pairs a i = (k : ℕ) → k < length clauses → (get_or pairs k no_pair).watched ≡ true
    → (Safe t (get_or pairs k no_pair).first (get_or pairs k no_pair).second (head + 1) (length t))
    ⊎ (0 < count_of k (drop i (get_or lists (code_of a) [])))

-- how much of the queue was done when the last level began
abbrev pub done_of : List Stop → ℕ
done_of stops = (get_or stops (length stops - 1) no_stop).done
