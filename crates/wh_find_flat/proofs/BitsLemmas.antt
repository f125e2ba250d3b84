-- Coefficients that bits write, one by one.
use Rattle.std.proofs.Common.{◌≡◌, ℕ, zero, suc, ◌+◌, ◌*◌, ◌^◌, ◌<◌, ◌≤◌, Bool, true, false, if◌then◌else◌, List, [], ◌∷◌, length, get_or, refl, ap, ◌∙◌, arith}
use Rattle.wh_poly_space.specs.Coefficients.{capped}
use Rattle.wh_poly_blocking.specs.Bits.{digit, digits}
use Rattle.wh_poly_blocking.specs.Sizes.{bits_in, first_of, lists_of}
use Rattle.wh_poly_blocking.proofs.BitLemmas.{first_next, first_within}
use Rattle.wh_find_flat.specs.Lists.{IsAbsent, IsWrittenAt}

list_at : (v : ℕ → Bool) (x : ℕ) (sizes : List ℕ) (n : ℕ) → n < length sizes
    → get_or (lists_of v x sizes) n [] ≡ digits v (x + first_of sizes n) (get_or sizes n 0)
list_at v x [] n h = absurd (omega (arith, h))
list_at v x (k ∷ sizes) zero h = let e : x ≡ x + 0 = omega arith in ap (λ y. digits v y k) e
list_at v x (k ∷ sizes) (suc n) h =
    let e : (2 * k + x) + first_of sizes n ≡ x + (2 * k + first_of sizes n) = omega arith in
    list_at v (2 * k + x) sizes n (omega (arith, h)) ∙ ap (λ y. digits v y (get_or sizes n 0)) e

list_past : (v : ℕ → Bool) (x : ℕ) (sizes : List ℕ) (n : ℕ) → length sizes ≤ n → get_or (lists_of v x sizes) n [] ≡ []
list_past v x [] n h = refl
list_past v x (k ∷ sizes) zero h = absurd (omega (arith, h))
list_past v x (k ∷ sizes) (suc n) h = list_past v (2 * k + x) sizes n (omega (arith, h))

digit_at : (v : ℕ → Bool) (x k j : ℕ) → j < k → get_or (digits v x k) j 0 ≡ digit v (x + 2 * j)
digit_at v x zero j h = absurd (omega (arith, h))
digit_at v x (suc k) zero h = let e : x ≡ x + 2 * 0 = omega arith in ap (digit v) e
digit_at v x (suc k) (suc j) h =
    let e : (2 + x) + 2 * j ≡ x + 2 * suc j = omega arith in digit_at v (2 + x) k j (omega (arith, h)) ∙ ap (digit v) e

digit_past : (v : ℕ → Bool) (x k j : ℕ) → k ≤ j → get_or (digits v x k) j 0 ≡ 0
digit_past v x zero j h = refl
digit_past v x (suc k) zero h = absurd (omega (arith, h))
digit_past v x (suc k) (suc j) h = digit_past v (2 + x) k j (omega (arith, h))

digit_small : (a b : Bool) → capped ((if a then 1 else 0) + (if b then 2 else 0)) ≡ (if a then 1 else 0) + (if b then 2 else 0)
digit_small true true = refl
digit_small true false = refl
digit_small false true = refl
digit_small false false = refl

-- an element that is there, whatever stands for one that is not
pub there : (xs : List ℕ) (n d e : ℕ) → n < length xs → get_or xs n d ≡ get_or xs n e
there [] n d e h = absurd (omega (arith, h))
there (x ∷ xs) zero d e h = refl
there (x ∷ xs) (suc n) d e h = there xs n d e (omega (arith, h))

pub written_at : (sizes : List ℕ) (n j size first x : ℕ) → n < length sizes → size ≡ get_or sizes n 0 → j < size → first ≡ first_of sizes n
    → x ≡ first + 2 * j → IsWrittenAt sizes n j x
written_at sizes n j size first x h s w f e = record {
  within = (let a = first_next sizes n 0 h in let b = first_within sizes (suc n) in omega (arith, a, b, s, w, f, e));
  is = λ v. (let y : 0 + first_of sizes n + 2 * j ≡ x = omega (arith, f, e) in
      ap (λ l. capped (get_or l j 0)) (list_at v 0 sizes n h)
      ∙ ap capped (digit_at v (0 + first_of sizes n) (get_or sizes n 0) j (omega (arith, s, w)))
      ∙ digit_small (v (0 + first_of sizes n + 2 * j)) (v (suc (0 + first_of sizes n + 2 * j))) ∙ ap (digit v) y);
}

pub absent_past : (sizes : List ℕ) (n j : ℕ) → length sizes ≤ n → IsAbsent sizes n j
absent_past sizes n j h v = ap (λ l. capped (get_or l j 0)) (list_past v 0 sizes n h)

pub absent_at : (sizes : List ℕ) (n j size : ℕ) → n < length sizes → size ≡ get_or sizes n 0 → size ≤ j → IsAbsent sizes n j
absent_at sizes n j size h s w v = ap (λ l. capped (get_or l j 0)) (list_at v 0 sizes n h)
    ∙ ap capped (digit_past v (0 + first_of sizes n) (get_or sizes n 0) j (omega (arith, s, w)))

pub room_at : (sizes : List ℕ) (n j size first : ℕ) → n < length sizes → size ≡ get_or sizes n 0 → j < size → first ≡ first_of sizes n
    → bits_in sizes < 2 ^ 32 → first + 2 * j + 1 < 2 ^ 32
room_at sizes n j size first h s w f b = let a = first_next sizes n 0 h in let c = first_within sizes (suc n) in omega (arith, a, c, s, w, f, b)
