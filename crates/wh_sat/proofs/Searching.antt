use Rattle.std.proofs.Common.{◌≡◌, ℕ, ◌+◌, ◌-◌, ◌*◌, ◌<◌, ◌≤◌, Bool, true, false, not, cond, List, [], ◌∷◌, ◌++◌, length, get_or, take, map, Option, Some, None, refl, sym, ◌∙◌, ap, subst, inl, inr, arith}
use Rattle.std.specs.Option.{unwrap_or}
use Rattle.std.proofs.Math.Nat.{mul-le-mul_left}
use Rattle.std.proofs.lemmas.List.{take-take, take_all, length-take, get_or-take, nil_from_length}
use Rattle.std.proofs.lemmas.Bool.{cases_lt}
use Rattle.wh_sat_trail.specs.declared.literal.Literal.{Literal}
use Rattle.wh_sat_trail.specs.declared.formula.Formula.{Formula}
use Rattle.wh_sat_trail.specs.declared.trail.Trail.{Trail}
use Rattle.wh_sat_trail.specs.Assignment.{value_in, negated, AllBelow}
use Rattle.wh_sat_trail.specs.Propagation.{Grows, IsClosed, IsRefuted, Within}
use Rattle.wh_sat_trail.specs.State.{assigned, formula_of, marks_of}
use Rattle.wh_sat.specs.declared.learner.Learner.{Learner}
use Rattle.wh_sat.specs.Learning.{Derives, Has, IsLearnt, Reduced, Refutes}
use Rattle.wh_sat.specs.Solving.{Known, Levels, Solves, SolvesGiven, clause_true, decisions}
use Rattle.wh_sat.specs.State.{Extends, Sound, clauses_of, variables_of}
use Rattle.wh_sat.proofs.Assuring.{all_false, cases_bool, refutes_false}
use Rattle.wh_sat.proofs.Learnable.{is_learnt}
use Rattle.wh_sat.proofs.Leveling.{conflict_refutes, known_as, levels_decide, levels_grow, rising_marks}

-- the literals of a trail have variables of its formula
pub trail_below : (s : Trail) → AllBelow (formula_of s).variables (assigned s)
trail_below s = subst (λ n. AllBelow n (assigned s)) s.width s.assignment.below

-- at most as many literals are true as there are variables
pub trail_short : (s : Trail) → length (assigned s) ≤ (formula_of s).variables
trail_short s = omega (arith, s.assignment.counted, s.width)

-- what is learnt after a conflict
pub learnt_after : (s u : Trail) (literals kept clause : List Literal) → 0 < length (marks_of s) → Levels (formula_of s).clauses (assigned s) (marks_of s)
    → formula_of u ≡ formula_of s → assigned u ≡ take (get_or (marks_of s) 0 (length (assigned s))) (assigned s) → literals ≡ decisions (assigned s) (marks_of s)
    → Reduced (formula_of u).clauses (assigned u) literals kept → clause ≡ map negated kept → IsLearnt (formula_of s).variables (formula_of s).clauses clause
learnt_after s u literals kept clause some lv ef ea el red ec =
    let t = assigned s in
    let cs = (formula_of s).clauses in
    let r1 = subst (λ (f : Formula). Reduced f.clauses (assigned u) literals kept) ef red in
    let r2 = subst (λ x. Reduced cs x literals kept) ea r1 in
    subst (IsLearnt (formula_of s).variables cs) (sym ec)
    (is_learnt (formula_of s).variables cs t (marks_of s) literals kept some (rising_marks s) s.assignment.fresh (trail_below s) lv (λ m h. subst (λ x. Has x m) el h) r2)

pub extends_refl : (a : Learner) → length a.learnt.items ≡ length (clauses_of a) → Extends a a
extends_refl a e = record {
  variables = refl;
  clauses = take_all (length (clauses_of a)) (clauses_of a) (omega arith);
  earlier = take_all (length a.learnt.items) a.learnt.items (omega arith);
  later = λ k w v. absurd (omega (arith, w, v));
  count = refl;
}

pub extends_trans : (a b c : Learner) → Extends a b → Extends b c → Extends a c
extends_trans a b c f g =
    let nc : length (clauses_of a) ≤ length (clauses_of b) = omega (arith, ap length f.clauses, length-take (length (clauses_of a)) (clauses_of b)) in
    let nl : length a.learnt.items ≤ length b.learnt.items = omega (arith, ap length f.earlier, length-take (length a.learnt.items) b.learnt.items) in
    record {
      variables = g.variables ∙ f.variables;
      clauses = sym (take-take (length (clauses_of a)) (length (clauses_of b)) (clauses_of c) nc) ∙ ap (take (length (clauses_of a))) g.clauses ∙ f.clauses;
      earlier = sym (take-take (length a.learnt.items) (length b.learnt.items) c.learnt.items nl) ∙ ap (take (length a.learnt.items)) g.earlier ∙ f.earlier;
      later = λ k w v. elim (cases_lt k (length b.learnt.items)) [
        | inl early ↦ sym (get_or-take (length b.learnt.items) c.learnt.items k false early) ∙ ap (λ xs. get_or xs k false) g.earlier ∙ f.later k w early
        | inr late ↦ g.later k late v
      ];
      count = g.count ∙ f.count;
    }

-- another learner with the same clauses
pub extends_as : (a b c : Learner) → formula_of c.trail ≡ formula_of b.trail → c.learnt.items ≡ b.learnt.items → c.left ≡ b.left → Extends a b → Extends a c
extends_as a b c e el ek f = record {
  variables = ap (λ (x : Formula). x.variables) e ∙ f.variables;
  clauses = ap (λ (x : Formula). take (length (clauses_of a)) x.clauses) e ∙ f.clauses;
  earlier = ap (take (length a.learnt.items)) el ∙ f.earlier;
  later = λ k w v. ap (λ xs. get_or xs k false) el ∙ f.later k w (subst (λ xs. k < length xs) el v);
  count = ap (λ (x : Formula). length x.clauses + c.left) e ∙ ap (λ n. length (clauses_of b) + n) ek ∙ f.count;
}

pub known_trail : (b : Learner) (u : Trail) → formula_of u ≡ formula_of b.trail → Known (variables_of b) (clauses_of b) b.learnt.items → Known (formula_of u).variables (formula_of u).clauses b.learnt.items
known_trail b u e q = known_as (variables_of b) (formula_of u).variables (clauses_of b) (formula_of u).clauses b.learnt.items b.learnt.items (ap (λ (x : Formula). x.variables) e) (ap (λ (x : Formula). x.clauses) e) refl q

-- back at the ground level, from a trail t
pub sound_back : (b c : Learner) (t : Trail) → t ≡ b.trail → c.learnt.items ≡ b.learnt.items → formula_of c.trail ≡ formula_of t → marks_of c.trail ≡ [] → assigned c.trail ≡ take (get_or (marks_of t) 0 (length (assigned t))) (assigned t)
    → Known (variables_of b) (clauses_of b) b.learnt.items → Levels (clauses_of b) (assigned b.trail) (marks_of b.trail) → Sound c
sound_back b c t et el ef em ea' q lv =
    let e : formula_of c.trail ≡ formula_of b.trail = ef ∙ ap formula_of et in
    let ea : assigned c.trail ≡ take (get_or (marks_of b.trail) 0 (length (assigned b.trail))) (assigned b.trail) = ea' ∙ ap (λ (x : Trail). take (get_or (marks_of x) 0 (length (assigned x))) (assigned x)) et in
    record {
      known = known_as (variables_of b) (variables_of c) (clauses_of b) (clauses_of c) b.learnt.items c.learnt.items (ap (λ (x : Formula). x.variables) e) (ap (λ (x : Formula). x.clauses) e) el q;
      ground = em;
      derived = λ m h. subst (λ (x : Formula). Derives x.clauses [] m) (sym e) (lv.ground m (subst (λ x. Has x m) ea h));
    }

-- without a level
pub sound_ground : (b : Learner) → length (marks_of b.trail) ≡ 0 → Known (variables_of b) (clauses_of b) b.learnt.items → Levels (clauses_of b) (assigned b.trail) (marks_of b.trail) → Sound b
sound_ground b e q lv =
    let n : marks_of b.trail ≡ [] = nil_from_length (marks_of b.trail) e in
    record { known = q; ground = n; derived = λ m h. subst (λ ms. Derives (clauses_of b) (decisions (assigned b.trail) ms) m) n (lv.derived m h) }

-- a false clause without a level: propagation alone refutes the clauses
pub ground_refutes : (b : Learner) (k : ℕ) → length (marks_of b.trail) ≡ 0 → Levels (clauses_of b) (assigned b.trail) (marks_of b.trail)
    → k < length (clauses_of b) → IsRefuted (assigned b.trail) (get_or (clauses_of b) k []) → Refutes (clauses_of b) []
ground_refutes b k e lv w r =
    let n : marks_of b.trail ≡ [] = nil_from_length (marks_of b.trail) e in
    subst (λ ms. Refutes (clauses_of b) (decisions (assigned b.trail) ms)) n (conflict_refutes (clauses_of b) (assigned b.trail) (marks_of b.trail) k lv w r)

-- and no assignment makes the given clauses true
pub ground_conflict : (b : Learner) (k : ℕ) → length (marks_of b.trail) ≡ 0 → Known (variables_of b) (clauses_of b) b.learnt.items → Levels (clauses_of b) (assigned b.trail) (marks_of b.trail)
    → k < length (clauses_of b) → IsRefuted (assigned b.trail) (get_or (clauses_of b) k []) → (v : ℕ → Bool) → SolvesGiven v (clauses_of b) b.learnt.items → ⊥
ground_conflict b k e q lv w r v s =
    refutes_false v (clauses_of b) [] (q.follows v s) (λ m h. absurd (omega (arith, h.within))) (ground_refutes b k e lv w r)

not_false : (b : Bool) → not b ≡ false → b ≡ true
not_false true e = refl
not_false false e = grind (arith, e)

fails_by_value : (o : Option Bool) (p b : Bool) → (o ≡ None → ⊥) → b ≡ unwrap_or o false → cond p b (not b) ≡ false → o ≡ Some (not p)
fails_by_value None p b n e f = absurd (n refl)
fails_by_value (Some x) true b n e f = ap (λ y. Some y) (sym e ∙ f)
fails_by_value (Some x) false b n e f = ap (λ y. Some y) (sym e ∙ not_false b f)

-- where all is propagated and every variable has a value, these values make all clauses true
pub closed_solves : (n : ℕ) (clauses : List (List Literal)) (t : List Literal) (values : List Bool) → Within n clauses → IsClosed clauses t
    → ((v : ℕ) → v < n → value_in t v ≡ None → ⊥) → ((v : ℕ) → v < n → get_or values v false ≡ unwrap_or (value_in t v) false) → Solves (λ v. get_or values v false) clauses
closed_solves n clauses t values b c full same k w =
    let v = λ (x : ℕ). get_or values x false in
    let cl = get_or clauses k [] in
    elim (cases_bool (clause_true v cl)) [
      | inl p ↦ p
      | inr q ↦ absurd (c.unrefuted k w (λ i d u.
          let l = get_or cl i d in
          let lw = b k w i d u in
          fails_by_value (value_in t l.variable) l.positive (get_or values l.variable false) (full l.variable lw) (same l.variable lw) (all_false v cl i d q u)))
    ]

pub fewer_left : (n a b x y : ℕ) → a < b → x ≤ n → (n + 1) * a + x < (n + 1) * b + y
fewer_left n a b x y w v = omega (arith, mul-le-mul_left (n + 1) w, v)

pub measure_turned : (n m t s x y : ℕ) → m ≡ n → s < t → (m + 1) * s + (m - y) < (n + 1) * t + (n - x)
measure_turned n m t s x y e w = subst (λ k. (k + 1) * s + (k - y) < (n + 1) * t + (n - x)) (sym e) (fewer_left n s t (n - y) (n - x) w (omega arith))

pub measure_decided : (n m t s x y : ℕ) → m ≡ n → s ≡ t → x < y → y ≤ n → (m + 1) * s + (m - y) < (n + 1) * t + (n - x)
measure_decided n m t s x y e f w v =
    subst (λ k. (k + 1) * s + (k - y) < (n + 1) * t + (n - x)) (sym e) (subst (λ k. (n + 1) * k + (n - y) < (n + 1) * t + (n - x)) (sym f) (omega (arith, w, v)))

-- what is left counts twice, and a plan once less
abbrev pub turns : ℕ → Bool → ℕ
turns left is_planned = 2 * left + cond is_planned 0 1

pub turns_planned : (a b : ℕ) (was is : Bool) → a ≡ b → was ≡ false → is ≡ true → turns a is < turns b was
turns_planned a b true is e f g = absurd (grind (arith, f))
turns_planned a b false true e f g = omega (arith, e)
turns_planned a b false false e f g = absurd (grind (arith, g))

pub turns_learnt : (a b : ℕ) (was is : Bool) → a < b → turns a is < turns b was
turns_learnt a b true true w = omega (arith, w)
turns_learnt a b true false w = omega (arith, w)
turns_learnt a b false true w = omega (arith, w)
turns_learnt a b false false w = omega (arith, w)

-- the levels after propagation, and after a decision
pub levels_after : (s u : Trail) → formula_of u ≡ formula_of s → marks_of u ≡ marks_of s → Grows (formula_of s).clauses (assigned s) (assigned u)
    → Levels (formula_of s).clauses (assigned s) (marks_of s) → Levels (formula_of u).clauses (assigned u) (marks_of u)
levels_after s u e em g lv =
    subst (λ (f : Formula). Levels f.clauses (assigned u) (marks_of u)) (sym e) (subst (Levels (formula_of s).clauses (assigned u)) (sym em)
    (levels_grow (formula_of s).clauses (assigned s) (assigned u) (marks_of s) lv (rising_marks s) g))

pub levels_decided : (s u : Trail) (l : Literal) → formula_of u ≡ formula_of s → marks_of u ≡ marks_of s ++ length (assigned s) ∷ [] → assigned u ≡ assigned s ++ l ∷ []
    → IsClosed (formula_of s).clauses (assigned s) → Levels (formula_of s).clauses (assigned s) (marks_of s) → Levels (formula_of u).clauses (assigned u) (marks_of u)
levels_decided s u l e em ea c lv =
    subst (λ (f : Formula). Levels f.clauses (assigned u) (marks_of u)) (sym e) (subst (λ t. Levels (formula_of s).clauses t (marks_of u)) (sym ea) (subst (Levels (formula_of s).clauses (assigned s ++ l ∷ [])) (sym em)
    (levels_decide (formula_of s).clauses (assigned s) (marks_of s) l lv (rising_marks s) c)))
