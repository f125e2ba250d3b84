-- Lists that are made number by number.
use Rattle.std.proofs.Common.{◌≡◌, ℕ, zero, suc, ◌+◌, ◌<◌, ◌≤◌, List, [], ◌∷◌, ◌++◌, length, map, Some, All, append_assoc, refl, sym, ap, ◌∙◌, subst, arith}
use Rattle.std.specs.Prelude.{slice_get}
use Rattle.std.specs.List.{flat_map, range_with_len}
use Rattle.std.proofs.lemmas.List.{append-nil}
use Rattle.std.proofs.lemmas.List.Elements.{All-nil, All-cons, All-append}

-- what holds for each number below n holds of each item of these lists

from_each : {X : Type 0} (P : X → Type 0) (f : ℕ → X) (n a k : ℕ) → a + k ≤ n → ((i : ℕ) → i < n → P (f i)) → All P (map f (range_with_len a k))
from_each P f n a zero within each = All-nil P
from_each P f n a (suc k) within each =
    All-cons P (f a) (map f (range_with_len (a + 1) k)) (each a (omega arith)) (from_each P f n (a + 1) k (omega arith) each)

pub all_mapped : {X : Type 0} (P : X → Type 0) (f : ℕ → X) (n : ℕ) → ((i : ℕ) → i < n → P (f i)) → All P (map f (range_with_len 0 n))
all_mapped P f n each = from_each P f n 0 n (omega arith) each

joined_each : {X : Type 0} (P : X → Type 0) (f : ℕ → List X) (n a k : ℕ) → a + k ≤ n → ((i : ℕ) → i < n → All P (f i)) → All P (flat_map f (range_with_len a k))
joined_each P f n a zero within each = All-nil P
joined_each P f n a (suc k) within each =
    All-append P (f a) (flat_map f (range_with_len (a + 1) k)) (each a (omega arith)) (joined_each P f n (a + 1) k (omega arith) each)

pub all_joined : {X : Type 0} (P : X → Type 0) (f : ℕ → List X) (n : ℕ) → ((i : ℕ) → i < n → All P (f i)) → All P (flat_map f (range_with_len 0 n))
all_joined P f n each = joined_each P f n 0 n (omega arith) each

-- two items for each number
pub length-pairs : {X : Type 0} (f g : ℕ → X) (a k : ℕ) → length (flat_map (λ i. f i ∷ g i ∷ []) (range_with_len a k)) ≡ k + k
length-pairs f g a zero = refl
length-pairs f g a (suc k) = let rest = length-pairs f g (a + 1) k in omega (arith, rest)

-- an item of a list that has one value only
pub constant_at : {X : Type 0} (v : X) (a k i : ℕ) → i < k → slice_get (map (λ _. v) (range_with_len a k)) i ≡ Some v
constant_at v a zero i within = absurd (omega arith)
constant_at v a (suc k) zero within = refl
constant_at v a (suc k) (suc i) within = constant_at v (a + 1) k i (omega arith)

-- the items for one number more

joined_more : {X : Type 0} (f : ℕ → List X) (a k j : ℕ) → a + k ≡ j → flat_map f (range_with_len a (suc k)) ≡ flat_map f (range_with_len a k) ++ f j
joined_more f a zero j same = let here : a ≡ j = omega arith in append-nil (f a) ∙ ap f here
joined_more f a (suc k) j same = ap (λ xs. f a ++ xs) (joined_more f (a + 1) k j (omega arith)) ∙ sym (append_assoc (f a) (flat_map f (range_with_len (a + 1) k)) (f j))

pub joined_next : {X : Type 0} (f : ℕ → List X) (n : ℕ) → flat_map f (range_with_len 0 (n + 1)) ≡ flat_map f (range_with_len 0 n) ++ f n
joined_next f n =
    let next : suc n ≡ n + 1 = omega arith in
    subst (λ k. flat_map f (range_with_len 0 k) ≡ flat_map f (range_with_len 0 n) ++ f n) next (joined_more f 0 n n (omega arith))
