-- A gate that joins.
use Rattle.std.proofs.Common.{◌≡◌, ℕ, ◌+◌, ◌-◌, ◌<◌, ◌≤◌, Bool, true, false, List, [], ◌∷◌, ◌++◌, ◌⊎◌, Some, None, Option, length, get_or, take, refl, sym, ◌∙◌, ap, subst, inl, inr, arith, tests, suc, zero, slice_get, map, length-append}
use Rattle.std.proofs.Math.Seq.{take-append_seam}
use Rattle.std.proofs.lemmas.List.{get_or_append_left, get_or-append_right}
use Rattle.std.proofs.lemmas.Bool.{cases_lt}
use Rattle.std.proofs.lemmas.Option.{slice_get_within}
use Rattle.wh_sat_trail.specs.declared.literal.Literal.{Literal}
use Rattle.wh_sat_trail.specs.Assignment.{AllBelow, negated}
use Rattle.wh_sat_trail.specs.Propagation.{Within}
use Rattle.wh_circuit.specs.Values.{all_true}
use Rattle.wh_circuit.specs.declared.circuit.Gate.{Gate}
use Rattle.wh_circuit_gates.specs.Clauses.{gate_clauses, no, shorts, yes}
use Rattle.wh_circuit.specs.Gates.{Agrees, Extends, IsAlwaysTrue, Ordered}
use Rattle.wh_circuit.proofs.Solving.{negated_below}

pub at_left : (gs : List Gate) (g h : Gate) (k : ℕ) → slice_get gs k ≡ Some h → slice_get (gs ++ g ∷ []) k ≡ Some h
at_left [] g h k e = absurd (omega (arith, slice_get_within [] k h e))
at_left (x ∷ gs) g h zero e = e
at_left (x ∷ gs) g h (suc k) e = at_left gs g h k e

pub at_last : (gs : List Gate) (g : Gate) → slice_get (gs ++ g ∷ []) (length gs) ≡ Some g
at_last [] g = refl
at_last (x ∷ gs) g = at_last gs g

pub at_either : (gs : List Gate) (g h : Gate) (k : ℕ) → slice_get (gs ++ g ∷ []) k ≡ Some h → (slice_get gs k ≡ Some h) ⊎ ((k ≡ length gs) × (Some g ≡ Some h))
at_either [] g h zero e = inr (refl, e)
at_either [] g h (suc k) e = absurd (omega (arith, slice_get_within (g ∷ []) (suc k) h e))
at_either (x ∷ gs) g h zero e = inl e
at_either (x ∷ gs) g h (suc k) e = elim (at_either gs g h k e) [ inl y ↦ inl y | inr y ↦ inr (omega (arith, y.0), y.1) ]

abbrev of : Option Gate → List Literal
of (Some g) = g.of
of None = []

abbrev kind : Option Gate → Bool
kind (Some g) = g.is_input
kind None = false

pub agrees_left : (gs : List Gate) (g : Gate) (v : ℕ → Bool) → Agrees (gs ++ g ∷ []) v → Agrees gs v
agrees_left gs g v a k h e = a k h (at_left gs g h k e)

pub agrees_last : (gs : List Gate) (g : Gate) (v : ℕ → Bool) → Agrees (gs ++ g ∷ []) v → g.is_input ≡ false → v (length gs) ≡ all_true v g.of
agrees_last gs g v a i = a (length gs) g (at_last gs g) i

pub agrees_push : (gs : List Gate) (g : Gate) (v : ℕ → Bool) → Agrees gs v → v (length gs) ≡ all_true v g.of → Agrees (gs ++ g ∷ []) v
agrees_push gs g v a q k h e i = elim (at_either gs g h k e) [
  | inl y ↦ a k h y i
  | inr y ↦ subst (λ n. v n ≡ all_true v h.of) (sym y.0) (q ∙ ap (λ o. all_true v (of o)) y.1)
]

pub ordered_push : (gs : List Gate) (g : Gate) → Ordered gs → AllBelow (length gs) g.of → Ordered (gs ++ g ∷ [])
ordered_push gs g o b k h e = elim (at_either gs g h k e) [
  | inl y ↦ o k h y
  | inr y ↦ subst (λ n. AllBelow n h.of) (sym y.0) (subst (λ o. AllBelow (length gs) (of o)) y.1 b)
]

pub gate_extends : (gs : List Gate) (g : Gate) → g.is_input ≡ false → Extends 1 gs (gs ++ g ∷ [])
gate_extends gs g i = record {
  kept = take-append_seam gs (g ∷ []);
  more = omega (arith, length-append gs (g ∷ []));
  few = omega (arith, length-append gs (g ∷ []));
  made = λ k h low e. elim (at_either gs g h k e) [
    | inl y ↦ absurd (omega (arith, low, slice_get_within gs k h y))
    | inr y ↦ subst (λ o. kind o ≡ false) y.1 i
  ];
}

pub gate_at : (gs : List Gate) (k : ℕ) → k < length gs → (g : Gate) × (slice_get gs k ≡ Some g)
gate_at [] k w = absurd (omega (arith, w))
gate_at (g ∷ gs) zero w = (g, refl)
gate_at (g ∷ gs) (suc k) w = gate_at gs k (omega (arith, w))

pub slice_get_front : (n : ℕ) (gs : List Gate) (k : ℕ) (h : Gate) → slice_get (take n gs) k ≡ Some h → slice_get gs k ≡ Some h
slice_get_front zero gs k h e = absurd (omega (arith, slice_get_within [] k h e))
slice_get_front (suc n) [] k h e = e
slice_get_front (suc n) (g ∷ gs) zero h e = e
slice_get_front (suc n) (g ∷ gs) (suc k) h e = slice_get_front n gs k h e

pub agrees_take : (n : ℕ) (gs hs : List Gate) (v : ℕ → Bool) → take n gs ≡ hs → Agrees gs v → Agrees hs v
agrees_take n gs hs v e a k h q = a k h (slice_get_front n gs k h (subst (λ xs. slice_get xs k ≡ Some h) (sym e) q))

pub always_push : (gs : List Gate) (g : Gate) (k : ℕ) → IsAlwaysTrue gs k → IsAlwaysTrue (gs ++ g ∷ []) k
always_push gs g k t = (omega (arith, t.0, length-append gs (g ∷ [])), λ v a. t.1 v (agrees_left gs g v a))

pub below_more : (n m : ℕ) (c : List Literal) → n ≤ m → AllBelow n c → AllBelow m c
below_more n m c w b i d q = omega (arith, w, b i d q)

below_cons : (n : ℕ) (l : Literal) (c : List Literal) → l.variable < n → AllBelow n c → AllBelow n (l ∷ c)
below_cons n l c w b zero d q = w
below_cons n l c w b (suc i) d q = b i d (omega (arith, q))

pub within_more : (n m : ℕ) (clauses : List (List Literal)) → n ≤ m → Within n clauses → Within m clauses
within_more n m clauses w b k q = below_more n m (get_or clauses k []) w (b k q)

pub within_both : (n : ℕ) (xs ys : List (List Literal)) → Within n xs → Within n ys → Within n (xs ++ ys)
within_both n xs ys s t k w = elim (cases_lt k (length xs)) [
  | inl u ↦ subst (AllBelow n) (sym (get_or_append_left xs ys [] k u)) (s k u)
  | inr u ↦ subst (AllBelow n) (sym (get_or-append_right xs ys (length xs) k [] refl u)) (t (k - length xs) (omega (arith, w, u, length-append xs ys)))
]

within_clause : (n : ℕ) (c : List Literal) → AllBelow n c → Within n (c ∷ [])
within_clause n c b zero w = b
within_clause n c b (suc k) w = absurd (omega (arith, w))

pub within_one : (n : ℕ) (l : Literal) → l.variable < n → Within n ((l ∷ []) ∷ [])
within_one n l w = within_clause n (l ∷ []) (below_cons n l [] w (λ i d q. absurd (omega (arith, q))))

within_shorts : (n k : ℕ) (ls : List Literal) → k < n → AllBelow n ls → Within n (shorts k ls)
within_shorts n k [] w b i q = absurd (omega (arith, q))
within_shorts n k (l ∷ ls) w b zero q = below_cons n (no k) (l ∷ []) w (below_cons n l [] (b 0 l (omega arith)) (λ i d u. absurd (omega (arith, u))))
within_shorts n k (l ∷ ls) w b (suc i) q = within_shorts n k ls w (λ j d u. b (suc j) d (omega (arith, u))) i (omega (arith, q))

pub within_gate : (k : ℕ) (clauses : List (List Literal)) (ls : List Literal) → Within k clauses → AllBelow k ls → Within (k + 1) (clauses ++ gate_clauses k ls)
within_gate k clauses ls s b =
    let more : AllBelow (k + 1) ls = below_more k (k + 1) ls (omega arith) b in
    within_both (k + 1) clauses (gate_clauses k ls) (within_more k (k + 1) clauses (omega arith) s)
    (within_both (k + 1) (shorts k ls) ((yes k ∷ map negated ls) ∷ []) (within_shorts (k + 1) k ls (omega arith) more)
    (within_clause (k + 1) (yes k ∷ map negated ls) (below_cons (k + 1) (yes k) (map negated ls) (omega arith) (negated_below (k + 1) ls more))))

true_not_false : (b : Bool) → b ≡ true → b ≡ false → ⊥
true_not_false b e f = absurd (grind (arith, tests, sym e ∙ f))

pub agrees_input : (gs : List Gate) (g : Gate) (v : ℕ → Bool) → g.is_input ≡ true → Agrees gs v → Agrees (gs ++ g ∷ []) v
agrees_input gs g v i a k h e j = elim (at_either gs g h k e) [
  | inl y ↦ a k h y j
  | inr y ↦ absurd (true_not_false h.is_input (sym (ap kind y.1) ∙ i) j)
]

pub slice_get_take : (n : ℕ) (gs : List Gate) (k : ℕ) (h : Gate) → k < n → slice_get gs k ≡ Some h → slice_get (take n gs) k ≡ Some h
slice_get_take zero gs k h w e = absurd (omega (arith, w))
slice_get_take (suc n) [] k h w e = e
slice_get_take (suc n) (g ∷ gs) zero h w e = e
slice_get_take (suc n) (g ∷ gs) (suc k) h w e = slice_get_take n gs k h (omega (arith, w)) e
