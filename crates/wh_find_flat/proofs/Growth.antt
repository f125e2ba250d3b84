-- Circuits that grow.
use Rattle.std.proofs.Common.{◌≡◌, ℕ, ◌+◌, ◌≤◌, Bool, List, [], ◌∷◌, length, take, Result, Ok, Err, IfOk, OnOk, refl, ◌∙◌, ap, arith}
use Rattle.std.proofs.lemmas.Option.{slice_get_within}
use Rattle.std.specs.declared.alloc.AllocError.{AllocError}
use Rattle.wh_sat_trail.specs.declared.literal.Literal.{Literal}
use Rattle.wh_circuit.specs.declared.circuit.Circuit.{Circuit}
use Rattle.wh_circuit.specs.declared.circuit.Gate.{Gate}
use Rattle.wh_circuit.specs.Gates.{Agrees, AreWires, Means, MeansNumber}
use Rattle.wh_circuit.specs.State.{Grows, gates_of}
use Rattle.wh_circuit.proofs.Gating.{below_more}
use Rattle.wh_circuit.proofs.Growing.{agrees_before, extends_then, means_later}
use Rattle.wh_find_flat.specs.Numbers.{Later, Builds}

pub later_then : (xs ys zs : List Gate) → Later xs ys → Later ys zs → Later xs zs
later_then xs ys zs (n, e) (m, f) = (n + m, extends_then n m (n + m) xs ys zs e f (omega arith))

pub later_more : (xs ys : List Gate) → Later xs ys → length xs ≤ length ys
later_more xs ys (n, e) = e.more

pub agrees_early : (xs ys : List Gate) (v : ℕ → Bool) → Later xs ys → Agrees ys v → Agrees xs v
agrees_early xs ys v (n, e) a = agrees_before n xs ys v e a

pub wires_later : (xs ys : List Gate) (ls : List Literal) → Later xs ys → AreWires xs ls → AreWires ys ls
wires_later xs ys ls l a = below_more (length xs) (length ys) ls (later_more xs ys l) a

pub number_later : (xs ys : List Gate) (ls : List Literal) (f : (ℕ → Bool) → ℕ) → Later xs ys → MeansNumber xs ls f → MeansNumber ys ls f
number_later xs ys ls f l m = record {
  own = wires_later xs ys ls l m.own;
  is = λ v a. m.is v (agrees_early xs ys v l a);
}

pub wire_later : (xs ys : List Gate) (l : Literal) (f : (ℕ → Bool) → Bool) → Later xs ys → Means xs l f → Means ys l f
wire_later xs ys l f (n, e) m = means_later n xs ys l f e m

pub builds_grown : (n m : ℕ) (a b : Circuit) → Grows n a b → n ≤ m → Builds m a b
builds_grown n m a b g h = record {
  gates = (n, g.gates);
  few = (let f = g.gates.few in omega (arith, f, h));
  required = g.required;
}

pub builds_then : (n m k : ℕ) (a b c : Circuit) → Builds n a b → Builds m b c → n + m ≤ k → Builds k a c
builds_then n m k a b c g h w = record {
  gates = later_then (gates_of a) (gates_of b) (gates_of c) g.gates h.gates;
  few = (let f = g.few in let e = h.few in omega (arith, f, e, w));
  required = h.required ∙ g.required;
}

-- what is known of a result, where there is one
pub ok_so : {A : Type 0} (r : Result A AllocError) (P Q : A → Type 0) → ((x : A) → P x → Q x) → IfOk r P → IfOk r Q
ok_so (Ok x) P Q f h = f x h
ok_so (Err e) P Q f h = tt

pub on_ok : {A : Type 0} (r : Result A AllocError) (P : Type 0) → P → OnOk r P
on_ok (Ok x) P h = h
on_ok (Err e) P h = tt

pub on_ok_so : {A : Type 0} (r : Result A AllocError) (P Q : Type 0) → (P → Q) → OnOk r P → OnOk r Q
on_ok_so (Ok x) P Q f h = f h
on_ok_so (Err e) P Q f h = tt

pub builds_none : (n : ℕ) (a : Circuit) → Builds n a a
builds_none n a = record {
  gates = (0, record { kept = take_length (gates_of a); more = omega arith; few = omega arith; made = λ k g low q. absurd (omega (arith, low, slice_get_within (gates_of a) k g q)) });
  few = omega arith;
  required = refl;
}
  where
    take_length : {A : Type 0} (xs : List A) → take (length xs) xs ≡ xs
    take_length [] = refl
    take_length (x ∷ xs) = ap (λ r. x ∷ r) (take_length xs)

pub builds_more : (n m : ℕ) (a b : Circuit) → Builds n a b → n ≤ m → Builds m a b
builds_more n m a b g h = record { gates = g.gates; few = (let f = g.few in omega (arith, f, h)); required = g.required }

pub if_both : {A : Type 0} (r : Result A AllocError) (P : Type 0) (Q R : A → Type 0) → ((x : A) → P → Q x → R x) → OnOk r P → IfOk r Q → IfOk r R
if_both (Ok x) P Q R f h k = f x h k
if_both (Err e) P Q R f h k = tt

pub on_both : {A : Type 0} (r : Result A AllocError) (P Q R : Type 0) → (P → Q → R) → OnOk r P → OnOk r Q → OnOk r R
on_both (Ok x) P Q R f h k = f h k
on_both (Err e) P Q R f h k = tt
