-- What is required, one thing after another.
use Rattle.std.proofs.Common.{◌≡◌, ℕ, ◌+◌, ◌<◌, ◌&&◌, Bool, true, List, [], ◌∷◌, ◌++◌, ap, sym, subst, ◌∙◌, arith, tests, below_more}
use Rattle.wh_sat_trail.specs.declared.literal.Literal.{Literal}
use Rattle.wh_sat.specs.Solving.{literal_true}
use Rattle.wh_circuit.specs.declared.circuit.Circuit.{Circuit}
use Rattle.wh_circuit.specs.Gates.{Agrees, Means}
use Rattle.wh_circuit.specs.State.{gates_of, required_of}
use Rattle.wh_circuit.specs.Values.{all_true}
use Rattle.wh_circuit.proofs.Solving.{all_true_push}
use Rattle.wh_find_flat.specs.Numbers.{Later, Builds, Asks}
use Rattle.wh_find_flat.proofs.Growth.{later_then, agrees_early}

both : {a b : Bool} → a ≡ true → b ≡ true → (a && b) ≡ true
both {a = a} {b = b} h k = grind (arith, tests, h, k)

left_of : (a b : Bool) → (a && b) ≡ true → a ≡ true
left_of a b h = grind (arith, tests, h)

right_of : (a b : Bool) → (a && b) ≡ true → b ≡ true
right_of a b h = grind (arith, tests, h)

-- nothing more is required
pub asks_built : (n : ℕ) (a b : Circuit) (P : (ℕ → Bool) → Type 0) → Builds n a b → ((v : ℕ → Bool) → P v) → Asks a b P
asks_built n a b P g always = record {
  gates = g.gates;
  met = λ v h t. (subst (λ (ls : List Literal). all_true v ls ≡ true) g.required t, always v);
  asks = λ v h t p. subst (λ (ls : List Literal). all_true v ls ≡ true) (sym g.required) t;
}

-- one wire more is required
pub asks_wire : (a b c : Circuit) (w : Literal) (stated : (ℕ → Bool) → Bool) (P : (ℕ → Bool) → Type 0) → Later (gates_of a) (gates_of b)
    → required_of b ≡ required_of a → gates_of c ≡ gates_of b → required_of c ≡ required_of b ++ w ∷ [] → Means (gates_of b) w stated
    → ((v : ℕ → Bool) → Agrees (gates_of b) v → stated v ≡ true → P v) → ((v : ℕ → Bool) → Agrees (gates_of b) v → P v → stated v ≡ true) → Asks a c P
asks_wire a b c w stated P l same gates more means there back =
    let is : required_of c ≡ required_of a ++ w ∷ [] = more ∙ ap (λ ls. ls ++ w ∷ []) same in
    record {
      gates = subst (Later (gates_of a)) (sym gates) l;
      met = λ v h t. (
          let k = subst (λ gs. Agrees gs v) gates h in
          let e = sym (all_true_push v (required_of a) w) ∙ sym (ap (all_true v) is) ∙ t in
          (left_of (all_true v (required_of a)) (literal_true v w) e, there v k (sym (means.is v k) ∙ right_of (all_true v (required_of a)) (literal_true v w) e)));
      asks = λ v h t p. (
          let k = subst (λ gs. Agrees gs v) gates h in
          ap (all_true v) is ∙ all_true_push v (required_of a) w ∙ both t (means.is v k ∙ back v k p));
    }

pub asks_then : (a b c : Circuit) (P Q R : (ℕ → Bool) → Type 0) → Asks a b P → Asks b c Q → ((v : ℕ → Bool) → Agrees (gates_of c) v → P v → Q v → R v)
    → ((v : ℕ → Bool) → Agrees (gates_of c) v → R v → P v) → ((v : ℕ → Bool) → Agrees (gates_of c) v → R v → Q v) → Asks a c R
asks_then a b c P Q R g h into first second = record {
  gates = later_then (gates_of a) (gates_of b) (gates_of c) g.gates h.gates;
  met = λ v k t. (
      let e = h.met v k t in
      let d = g.met v (agrees_early (gates_of b) (gates_of c) v h.gates k) e.0 in
      (d.0, into v k d.1 e.1));
  asks = λ v k t r. h.asks v k (g.asks v (agrees_early (gates_of b) (gates_of c) v h.gates k) t (first v k r)) (second v k r);
}

-- gates join before, and what is required is said by what they mean
pub asks_after : (n : ℕ) (a b c : Circuit) (P Q : (ℕ → Bool) → Type 0) → Builds n a b → Asks b c P
    → ((v : ℕ → Bool) → Agrees (gates_of c) v → P v → Q v) → ((v : ℕ → Bool) → Agrees (gates_of c) v → Q v → P v) → Asks a c Q
asks_after n a b c P Q g h there back = record {
  gates = later_then (gates_of a) (gates_of b) (gates_of c) g.gates h.gates;
  met = λ v k t. (let e = h.met v k t in (subst (λ (ls : List Literal). all_true v ls ≡ true) g.required e.0, there v k e.1));
  asks = λ v k t q. h.asks v k (subst (λ (ls : List Literal). all_true v ls ≡ true) (sym g.required) t) (back v k q);
}

pub asks_same : (a b : Circuit) (P Q : (ℕ → Bool) → Type 0) → Asks a b P → ((v : ℕ → Bool) → P v → Q v) → ((v : ℕ → Bool) → Q v → P v) → Asks a b Q
asks_same a b P Q g there back = record {
  gates = g.gates;
  met = λ v k t. (let e = g.met v k t in (e.0, there v e.1));
  asks = λ v k t q. g.asks v k t (back v q);
}

-- of each number below n, and then of n too
pub asks_more : (a b c : Circuit) (F : (ℕ → Bool) → ℕ → Type 0) (n : ℕ) → Asks a b (λ v. (z : ℕ) → z < n → F v z) → Asks b c (λ v. F v n)
    → Asks a c (λ v. (z : ℕ) → z < n + 1 → F v z)
asks_more a b c F n g h = asks_then a b c (λ v. (z : ℕ) → z < n → F v z) (λ v. F v n) (λ v. (z : ℕ) → z < n + 1 → F v z) g h
    (λ v k p q. below_more (F v) n p q) (λ v k r z l. r z (omega (arith, l))) (λ v k r. r n (omega arith))

pub asks_for_nothing : (a b : Circuit) (F : (ℕ → Bool) → ℕ → Type 0) (n : ℕ) → Asks a b (λ v. (z : ℕ) → z < n → F v z) → ((v : ℕ → Bool) → F v n)
    → Asks a b (λ v. (z : ℕ) → z < n + 1 → F v z)
asks_for_nothing a b F n g here = asks_same a b (λ v. (z : ℕ) → z < n → F v z) (λ v. (z : ℕ) → z < n + 1 → F v z) g
    (λ v p. below_more (F v) n p (here v)) (λ v r z l. r z (omega (arith, l)))
