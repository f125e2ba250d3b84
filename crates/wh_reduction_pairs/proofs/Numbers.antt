-- Numbers that follow each other.
use Rattle.std.proofs.Common.{◌≡◌, ℕ, zero, suc, ◌+◌, ◌<◌, [], ◌∷◌, ◌++◌, length, Some, slice_get, get_or, All, refl, ap, subst, ◌∙◌, arith}
use Rattle.std.proofs.lemmas.Option.{slice_get-get_or}
use Rattle.wh_reduction_pairs.specs.TaskData.{numbers_from}

-- one number more
numbers_more : (n k : ℕ) → numbers_from n (suc k) ≡ numbers_from n k ++ (n + k) ∷ []
numbers_more n zero = ap (λ m. m ∷ []) (omega arith)
numbers_more n (suc k) =
    let same : suc n + k ≡ n + suc k = omega arith in
    ap (λ l. n ∷ l) (numbers_more (suc n) k ∙ ap (λ m. numbers_from (suc n) k ++ m ∷ []) same)

pub numbers_push : (n k : ℕ) → numbers_from n (k + 1) ≡ numbers_from n k ++ (n + k) ∷ []
numbers_push n k = let next : k + 1 ≡ suc k = omega arith in ap (numbers_from n) next ∙ numbers_more n k

pub numbers_length : (n k : ℕ) → length (numbers_from n k) ≡ k
numbers_length n zero = refl
numbers_length n (suc k) = ap suc (numbers_length (suc n) k)

-- each stands at its place
pub numbers_at : (n k i : ℕ) → i < k → slice_get (numbers_from n k) i ≡ Some (n + i)
numbers_at n zero i less = absurd (omega arith)
numbers_at n (suc k) zero less = ap (λ m. Some m) (omega arith)
numbers_at n (suc k) (suc i) less =
    let same : suc n + i ≡ n + suc i = omega arith in
    numbers_at (suc n) k i (omega arith) ∙ ap (λ m. Some m) same

-- and none but these
pub numbers_are : (n k i m : ℕ) → slice_get (numbers_from n k) i ≡ Some m → (m ≡ n + i) × (i < k)
numbers_are n zero i m at = absurd (cc)
numbers_are n (suc k) zero m at = (let same : n ≡ m = cc in omega (arith, same), omega arith)
numbers_are n (suc k) (suc i) m at = let (is, less) = numbers_are (suc n) k i m at in (omega (arith, is), omega (arith, less))

-- all are below the end
pub numbers_within : (k : ℕ) → All (λ n. n < k) (numbers_from 0 k)
numbers_within k i d within =
    let less : i < k = subst (λ n. i < n) (numbers_length 0 k) within in
    let there = slice_get-get_or (numbers_from 0 k) i d within in
    let (is, below) = numbers_are 0 k i (get_or (numbers_from 0 k) i d) there in
    omega (arith, is, below)
