-- Values of all variables, made gate by gate from the front.
use Rattle.std.proofs.Common.{◌≡◌, ℕ, ◌+◌, ◌<◌, ◌≤◌, Bool, true, false, if◌then◌else◌, nat_eq, List, [], ◌∷◌, Some, None, Option, length, refl, sym, ◌∙◌, ap, subst, inl, inr, arith, tests, suc, zero, slice_get}
use Rattle.std.proofs.lemmas.Bool.{cases_eq}
use Rattle.std.proofs.lemmas.Option.{slice_get_within}
use Rattle.wh_sat_trail.specs.declared.literal.Literal.{Literal}
use Rattle.wh_sat_trail.specs.Assignment.{AllBelow}
use Rattle.wh_circuit.specs.Values.{all_true}
use Rattle.wh_circuit.specs.declared.circuit.Gate.{Gate}
use Rattle.wh_circuit.specs.Gates.{Ordered}
use Rattle.wh_circuit.specs.Laws.{Carries, ValuesAreUnique, ValuesExist}
use Rattle.wh_circuit.proofs.Gating.{gate_at}
use Rattle.wh_circuit.proofs.Solving.{cases_bool}

-- the value at one place is another one
abbrev set : (ℕ → Bool) → ℕ → Bool → ℕ → Bool
set v k b x = if nat_eq x k then b else v x

abbrev value : (ℕ → Bool) → (ℕ → Bool) → ℕ → Gate → Bool
value given v k g = if g.is_input then given k else all_true v g.of

-- the values that gates from number k on make of v
abbrev run : List Gate → ℕ → (ℕ → Bool) → (ℕ → Bool) → ℕ → Bool
run [] k given v = v
run (g ∷ gs) k given v = run gs (suc k) given (set v k (value given v k g))

set_other : (v : ℕ → Bool) (k : ℕ) (b : Bool) (x : ℕ) → x < k → set v k b x ≡ v x
set_other v k b x w = grind (arith, tests, w)

set_here : (v : ℕ → Bool) (k : ℕ) (b : Bool) → set v k b k ≡ b
set_here v k b = grind (arith, tests)

run_below : (gs : List Gate) (k : ℕ) (given v : ℕ → Bool) (x : ℕ) → x < k → run gs k given v x ≡ v x
run_below [] k given v x w = refl
run_below (g ∷ gs) k given v x w = run_below gs (suc k) given (set v k (value given v k g)) x (omega (arith, w)) ∙ set_other v k (value given v k g) x w

all_same : (v w : ℕ → Bool) (n : ℕ) (ls : List Literal) → AllBelow n ls → ((x : ℕ) → x < n → v x ≡ w x) → all_true v ls ≡ all_true w ls
all_same v w n [] b e = refl
all_same v w n (l ∷ ls) b e = grind (arith, tests, e l.variable (b 0 l (omega arith)), all_same v w n ls (λ i d q. b (suc i) d (omega (arith, q))) e)

value_same : (given v w : ℕ → Bool) (k : ℕ) (g : Gate) → AllBelow k g.of → ((x : ℕ) → x < k → v x ≡ w x) → value given v k g ≡ value given w k g
value_same given v w k g b e = ap (λ (c : Bool). if g.is_input then given k else c) (all_same v w k g.of b e)

abbrev from : Option Gate → Gate → Gate
from (Some g) h = g
from None h = h

run_is : (gs : List Gate) (k : ℕ) (given v : ℕ → Bool) (j x : ℕ) (g : Gate) → x ≡ k + j → slice_get gs j ≡ Some g → AllBelow x g.of
    → run gs k given v x ≡ value given (run gs k given v) x g
run_is [] k given v j x g q e b = absurd (omega (arith, slice_get_within [] j g e))
run_is (h ∷ gs) k given v zero x g q e b =
    let same : h ≡ g = ap (λ o. from o h) e in
    let xk : x ≡ k = omega (arith, q) in
    let w = set v k (value given v k h) in
    let r = run gs (suc k) given w in
    let here : r k ≡ value given v k h = run_below gs (suc k) given w k (omega arith) ∙ set_here v k (value given v k h) in
    let low : AllBelow k h.of = subst (λ (m : Gate). AllBelow k m.of) (sym same) (subst (λ y. AllBelow y g.of) xk b) in
    let keep : value given v k h ≡ value given r k h = value_same given v r k h low (λ y z. sym (run_below gs (suc k) given w y (omega (arith, z)) ∙ set_other v k (value given v k h) y z)) in
    subst (λ (m : Gate). r x ≡ value given r x m) same (subst (λ y. r y ≡ value given r y h) (sym xk) (here ∙ keep))
run_is (h ∷ gs) k given v (suc j) x g q e b = run_is gs (suc k) given (set v k (value given v k h)) j x g (omega (arith, q)) e b

value_gate : (given v : ℕ → Bool) (k : ℕ) (g : Gate) → g.is_input ≡ false → value given v k g ≡ all_true v g.of
value_gate given v k g i = ap (λ (b : Bool). if b then given k else all_true v g.of) i

value_input : (given v : ℕ → Bool) (k : ℕ) (g : Gate) → g.is_input ≡ true → value given v k g ≡ given k
value_input given v k g i = ap (λ (b : Bool). if b then given k else all_true v g.of) i

pub values_exist_law : ValuesExist
values_exist_law gates given o = (
  run gates 0 given given,
  record {
    agrees = λ k g e i. run_is gates 0 given given k k g (omega arith) e (o k g e) ∙ value_gate given (run gates 0 given given) k g i;
    inputs = λ k g e i. run_is gates 0 given given k k g (omega arith) e (o k g e) ∙ value_input given (run gates 0 given given) k g i;
  },
)

value_of : (gs : List Gate) (given v : ℕ → Bool) → Carries gs given v → (k : ℕ) (g : Gate) → slice_get gs k ≡ Some g → v k ≡ value given v k g
value_of gs given v c k g e = elim (cases_bool g.is_input) [
  | inl p ↦ c.inputs k g e p ∙ sym (value_input given v k g p)
  | inr p ↦ c.agrees k g e p ∙ sym (value_gate given v k g p)
]

-- below a number, by induction on it
alike : (gs : List Gate) (given v w : ℕ → Bool) → Ordered gs → Carries gs given v → Carries gs given w → (n : ℕ) → n ≤ length gs → (x : ℕ) → x < n → v x ≡ w x
alike gs given v w o c d zero q x u = absurd (omega (arith, u))
alike gs given v w o c d (suc n) q x u = elim (cases_eq x n) [
  | inl e ↦ let g = gate_at gs n (omega (arith, q)) in
      let below = alike gs given v w o c d n (omega (arith, q)) in
      subst (λ y. v y ≡ w y) (sym e) (value_of gs given v c n g.0 g.1 ∙ value_same given v w n g.0 (o n g.0 g.1) below ∙ sym (value_of gs given w d n g.0 g.1))
  | inr e ↦ alike gs given v w o c d n (omega (arith, q)) x (omega (arith, u, e))
]

pub values_are_unique_law : ValuesAreUnique
values_are_unique_law gates given v w o c d k q = alike gates given v w o c d (length gates) (omega arith) k q
