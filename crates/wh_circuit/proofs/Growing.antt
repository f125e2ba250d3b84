-- Circuits that grow.
use Rattle.std.proofs.Common.{◌≡◌, ℕ, ◌+◌, ◌<◌, ◌≤◌, Bool, ◌&&◌, ◌||◌, List, [], ◌∷◌, Some, length, take, refl, sym, ◌∙◌, ap, subst, inl, inr, arith, suc, zero, slice_get}
use Rattle.std.proofs.lemmas.Bool.{cases_lt}
use Rattle.std.proofs.lemmas.Option.{slice_get_within}
use Rattle.wh_sat_trail.specs.declared.literal.Literal.{Literal}
use Rattle.wh_sat.specs.Solving.{literal_true}
use Rattle.wh_circuit.specs.declared.circuit.Circuit.{Circuit}
use Rattle.wh_circuit.specs.declared.circuit.Gate.{Gate}
use Rattle.wh_circuit.specs.Gates.{Agrees, Extends, Means}
use Rattle.wh_circuit.specs.State.{Grows, Unchanged, formula_of, gates_of}
use Rattle.wh_circuit.proofs.Gating.{agrees_take, slice_get_take}

take_length : {A : Type 0} (xs : List A) → take (length xs) xs ≡ xs
take_length [] = refl
take_length (x ∷ xs) = ap (λ r. x ∷ r) (take_length xs)

-- a front of a front
take_shorter : {A : Type 0} (n m : ℕ) (xs : List A) → n ≤ m → take n (take m xs) ≡ take n xs
take_shorter zero m xs w = refl
take_shorter (suc n) zero xs w = absurd (omega (arith, w))
take_shorter (suc n) (suc m) [] w = refl
take_shorter (suc n) (suc m) (x ∷ xs) w = ap (λ r. x ∷ r) (take_shorter n m xs (omega (arith, w)))

front_of_front : {A : Type 0} (xs ys zs : List A) → length xs ≤ length ys → take (length xs) ys ≡ xs → take (length ys) zs ≡ ys → take (length xs) zs ≡ xs
front_of_front xs ys zs w e f = sym (take_shorter (length xs) (length ys) zs w) ∙ ap (take (length xs)) f ∙ e

length_front : {A : Type 0} (xs ys : List A) → take (length xs) ys ≡ xs → length xs ≤ length ys
length_front [] ys e = omega arith
length_front (a ∷ xs) [] e = omega (arith, ap length e)
length_front (a ∷ xs) (b ∷ ys) e =
    let same : take (length xs) ys ≡ xs = cc in
    omega (arith, length_front xs ys same)

pub extends_then : (n m k : ℕ) (xs ys zs : List Gate) → Extends n xs ys → Extends m ys zs → n + m ≤ k → Extends k xs zs
extends_then n m k xs ys zs e f w = record {
  kept = front_of_front xs ys zs e.more e.kept f.kept;
  more = omega (arith, e.more, f.more);
  few = omega (arith, e.few, f.few, w);
  made = λ j g low q. elim (cases_lt j (length ys)) [
    | inl u ↦ e.made j g low (subst (λ gs. slice_get gs j ≡ Some g) f.kept (slice_get_take (length ys) zs j g u q))
    | inr u ↦ f.made j g u q
  ];
}

pub grows_then : (n m k : ℕ) (a b c : Circuit) → Grows n a b → Grows m b c → n + m ≤ k → Grows k a c
grows_then n m k a b c g h w = record {
  gates = extends_then n m k (gates_of a) (gates_of b) (gates_of c) g.gates h.gates w;
  clauses = front_of_front (formula_of a).clauses (formula_of b).clauses (formula_of c).clauses
      (length_front (formula_of a).clauses (formula_of b).clauses g.clauses) g.clauses h.clauses;
  required = h.required ∙ g.required;
}

pub unchanged_grows : (k : ℕ) (a b : Circuit) → Unchanged a b → Grows k a b
unchanged_grows k a b u = record {
  gates = subst (Extends k (gates_of a)) (sym u.gates) (record {
    kept = take_length (gates_of a);
    more = omega arith;
    few = omega arith;
    made = λ j g low q. absurd (omega (arith, low, slice_get_within (gates_of a) j g q));
  });
  clauses = ap (λ f. take (length (formula_of a).clauses) f.clauses) u.formula ∙ take_length (formula_of a).clauses;
  required = u.required;
}

pub agrees_before : (n : ℕ) (xs ys : List Gate) (v : ℕ → Bool) → Extends n xs ys → Agrees ys v → Agrees xs v
agrees_before n xs ys v e a = agrees_take (length xs) ys xs v e.kept a

-- what a wire means stays
pub means_later : (n : ℕ) (xs ys : List Gate) (l : Literal) (f : (ℕ → Bool) → Bool) → Extends n xs ys → Means xs l f → Means ys l f
means_later n xs ys l f e m = record {
  own = omega (arith, m.own, e.more);
  is = λ v a. m.is v (agrees_before n xs ys v e a);
}

pub means_same : (gs : List Gate) (l : Literal) (f h : (ℕ → Bool) → Bool) → ((v : ℕ → Bool) → Agrees gs v → f v ≡ h v) → Means gs l f → Means gs l h
means_same gs l f h e m = record { own = m.own; is = λ v a. m.is v a ∙ e v a }

pub wire_means : (gs : List Gate) (l : Literal) → l.variable < length gs → Means gs l (λ v. literal_true v l)
wire_means gs l w = record { own = w; is = λ v a. refl }

pub both_means : (n : ℕ) (gs hs : List Gate) (l m r : Literal) (f h : (ℕ → Bool) → Bool) → Extends n gs hs → Means gs l f → Means gs m h
    → Means hs r (λ v. literal_true v l && literal_true v m) → Means hs r (λ v. f v && h v)
both_means n gs hs l m r f h e x y z = record {
  own = z.own;
  is = λ v a. z.is v a ∙ ap (λ b. b && literal_true v m) (x.is v (agrees_before n gs hs v e a)) ∙ ap (λ b. f v && b) (y.is v (agrees_before n gs hs v e a));
}

pub either_means : (n : ℕ) (gs hs : List Gate) (l m r : Literal) (f h : (ℕ → Bool) → Bool) → Extends n gs hs → Means gs l f → Means gs m h
    → Means hs r (λ v. literal_true v l || literal_true v m) → Means hs r (λ v. f v || h v)
either_means n gs hs l m r f h e x y z = record {
  own = z.own;
  is = λ v a. z.is v a ∙ ap (λ b. b || literal_true v m) (x.is v (agrees_before n gs hs v e a)) ∙ ap (λ b. f v || b) (y.is v (agrees_before n gs hs v e a));
}
