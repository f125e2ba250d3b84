use Rattle.std.proofs.Common.{◌≡◌, ℕ, ◌+◌, ◌<◌, ◌≤◌, Bool, true, false, List, [], ◌++◌, length, get_or, take, drop, replicate, sym, ◌∙◌, ap, subst, inl, inr, arith}
use Rattle.std.proofs.lemmas.List.{drop-take, get_or-drop, get_or-take, length-drop, length-replicate, length-take, take-append-drop, take-take}
use Rattle.std.proofs.lemmas.Bool.{cases_lt}
use Rattle.wh_sat_trail.specs.declared.literal.Literal.{Literal}
use Rattle.wh_sat.specs.Learning.{IsLearnt, Learnt}
use Rattle.wh_sat.specs.Solving.{Known, Solves, SolvesGiven, clause_true}
use Rattle.wh_sat.specs.State.{Extends, Sound, clauses_of}
use Rattle.wh_sat.specs.declared.learner.Learner.{Learner}

take_both : (n m : ℕ) (xs : List (List Literal)) → take (n + m) xs ≡ take n xs ++ take m (drop n xs)
take_both n m xs =
    sym (take-append-drop n (take (n + m) xs)) ∙ ap (λ ys. ys ++ drop n (take (n + m) xs)) (take-take n (n + m) xs (omega arith)) ∙ ap (λ ys. take n xs ++ ys) (drop-take n m xs)

-- the clauses that have joined a formula are a learnt list
pub list_learnt : (n : ℕ) (given all : List (List Literal)) (learnt : List Bool) → take (length given) all ≡ given
    → ((k : ℕ) → length given ≤ k → k < length all → get_or learnt k false ≡ true) → Known n all learnt → Learnt n given (drop (length given) all)
list_learnt n given all learnt front later q k w =
    let m = length given in
    let u : m + k < length all = omega (arith, w, length-drop m all) in
    let l = q.each (m + k) u (later (m + k) (omega arith) u) in
    let e : take (m + k) all ≡ given ++ take k (drop m all) = take_both m k all ∙ ap (λ ys. ys ++ take k (drop m all)) front in
    subst (λ x. IsLearnt n x (get_or (drop m all) k [])) e (subst (IsLearnt n (take (m + k) all)) (sym (get_or-drop m all k [])) l)

front_is : (given all : List (List Literal)) (k : ℕ) → take (length given) all ≡ given → k < length given → get_or all k [] ≡ get_or given k []
front_is given all k front w = sym (get_or-take (length given) all k [] w) ∙ ap (λ xs. get_or xs k []) front

front_long : (given all : List (List Literal)) → take (length given) all ≡ given → length given ≤ length all
front_long given all front = omega (arith, ap length front, length-take (length given) all)

pub solves_front : (v : ℕ → Bool) (given all : List (List Literal)) → take (length given) all ≡ given → Solves v all → Solves v given
solves_front v given all front s k w = subst (λ x. clause_true v x ≡ true) (front_is given all k front w) (s k (omega (arith, w, front_long given all front)))

pub solves_given : (v : ℕ → Bool) (given all : List (List Literal)) (learnt : List Bool) → take (length given) all ≡ given
    → ((k : ℕ) → length given ≤ k → k < length all → get_or learnt k false ≡ true) → Solves v given → SolvesGiven v all learnt
solves_given v given all learnt front later s k w e = elim (cases_lt k (length given)) [
  | inl early ↦ subst (λ x. clause_true v x ≡ true) (sym (front_is given all k front early)) (s k early)
  | inr late ↦ let f : true ≡ false = sym (later k late w) ∙ e in absurd (grind (arith, f))
]

-- a search that began with a formula alone: its clauses come first, the others are learnt
pub record Begun (f : List (List Literal)) (budget : ℕ) (after : Learner) : Type 0 where
  pub front : take (length f) (clauses_of after) ≡ f
  pub later : (k : ℕ) → length f ≤ k → k < length (clauses_of after) → get_or after.learnt.items k false ≡ true
  pub long : length f ≤ length (clauses_of after)
  pub count : length (clauses_of after) + after.left ≡ length f + budget

pub begun : (f : List (List Literal)) (budget : ℕ) (before after : Learner) → clauses_of before ≡ f → before.learnt.items ≡ replicate (length f) false → before.left ≡ budget
    → Extends before after → Sound after → Begun f budget after
begun f budget before after ec el eb x s =
    let front : take (length f) (clauses_of after) ≡ f = subst (λ y. take (length y) (clauses_of after) ≡ y) ec x.clauses in
    let n : length before.learnt.items ≡ length f = ap length el ∙ length-replicate (length f) false in
    record {
      front = front;
      later = λ k w v. x.later k (omega (arith, n, w)) (omega (arith, v, s.known.marked));
      long = front_long f (clauses_of after) front;
      count = x.count ∙ ap (λ c. length c + before.left) ec ∙ ap (λ b. length f + b) eb;
    }
