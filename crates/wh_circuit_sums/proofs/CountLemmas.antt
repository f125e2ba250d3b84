-- Counts, wire by wire.
use Rattle.std.proofs.Common.{◌≡◌, ℕ, ◌+◌, ◌<◌, Bool, true, false, not, ◌&&◌, ◌||◌, nat_eq, nat_lt, List, [], ◌∷◌, length, get_or, take, add-one, refl, sym, ◌∙◌, ap, arith, tests, suc, zero}
use Rattle.wh_sat_trail.specs.declared.literal.Literal.{Literal}
use Rattle.wh_sat.specs.Solving.{literal_true}
use Rattle.wh_circuit.specs.declared.circuit.Gate.{Gate}
use Rattle.wh_circuit.specs.Values.{bit, true_count}
use Rattle.wh_circuit_sums.specs.Steps.{Counts}
use Rattle.wh_circuit_sums.specs.declared.count.Count.{Count}
use Rattle.wh_circuit.proofs.Growing.{means_same}

count_suc : (v : ℕ → Bool) (ls : List Literal) (i : ℕ) (d : Literal) → i < length ls
    → bit (literal_true v (get_or ls i d)) + true_count v (take i ls) ≡ true_count v (take (suc i) ls)
count_suc v [] i d w = absurd (omega (arith, w))
count_suc v (l ∷ ls) zero d w = refl
count_suc v (l ∷ ls) (suc i) d w = omega (arith, count_suc v ls i d (omega (arith, w)))

pub count_more : (v : ℕ → Bool) (ls : List Literal) (i : ℕ) (d : Literal) → i < length ls
    → bit (literal_true v (get_or ls i d)) + true_count v (take i ls) ≡ true_count v (take (i + 1) ls)
count_more v ls i d w = count_suc v ls i d w ∙ ap (λ n. true_count v (take n ls)) (sym (add-one i))

pub some_more : (b : Bool) (n : ℕ) → (nat_lt 0 n || b) ≡ nat_lt 0 (bit b + n)
some_more true zero = refl
some_more true (suc n) = grind (arith, tests)
some_more false zero = refl
some_more false (suc n) = grind (arith, tests)

pub two_more : (b : Bool) (n : ℕ) → (nat_lt 1 n || (nat_lt 0 n && b)) ≡ nat_lt 1 (bit b + n)
two_more true zero = refl
two_more true (suc zero) = refl
two_more true (suc (suc n)) = grind (arith, tests)
two_more false zero = refl
two_more false (suc zero) = refl
two_more false (suc (suc n)) = grind (arith, tests)

pub one_alone : (n : ℕ) → (nat_lt 0 n && not (nat_lt 1 n)) ≡ nat_eq n 1
one_alone zero = refl
one_alone (suc zero) = refl
one_alone (suc (suc n)) = grind (arith, tests)

pub counts_same : (gs : List Gate) (count : Count) (n m : (ℕ → Bool) → ℕ) → ((v : ℕ → Bool) → n v ≡ m v) → Counts gs count n → Counts gs count m
counts_same gs count n m e c = record {
  some = means_same gs count.some (λ v. nat_lt 0 (n v)) (λ v. nat_lt 0 (m v)) (λ v a. ap (nat_lt 0) (e v)) c.some;
  more = means_same gs count.more (λ v. nat_lt 1 (n v)) (λ v. nat_lt 1 (m v)) (λ v a. ap (nat_lt 1) (e v)) c.more;
}
