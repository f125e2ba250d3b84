-- Coefficients that bits write, one after another.
use Rattle.std.proofs.Common.{◌≡◌, ℕ, zero, suc, ◌+◌, ◌*◌, ◌-◌, ◌<◌, ◌≤◌, inl, inr, Bool, List, [], ◌∷◌, ◌++◌, length, get_or, drop, refl, ap, sym, ◌∙◌, append_assoc, arith}
use Rattle.std.proofs.lemmas.List.{append-nil, drop_more, get_or_push, get_or_append_left}
use Rattle.std.proofs.lemmas.Bool.{cases_eq}
use Rattle.wh_poly_blocking.specs.Bits.{digit, digits}
use Rattle.wh_poly_blocking.specs.Sizes.{bits_in, first_of, lists_of}

pub digits_start : (v : ℕ → Bool) (x k : ℕ) → digits v (x + 2 * 0) (k - 0) ≡ digits v x k
digits_start v x k =
    let e : x + 2 * 0 ≡ x = omega arith in
    let f : k - 0 ≡ k = omega arith in
    ap (λ y. digits v y (k - 0)) e ∙ ap (digits v x) f

digits_step : (v : ℕ → Bool) (x y k m : ℕ) → k ≡ suc m → y ≡ 2 + x → digits v x k ≡ digit v x ∷ digits v y m
digits_step v x y k m more next = ap (digits v x) more ∙ ap (λ z. digit v x ∷ digits v z m) (sym next)

-- one more digit is written
pub digits_next : (v : ℕ → Bool) (x k i d : ℕ) (made : List ℕ) → i < k → d ≡ digit v (x + 2 * i)
    → (made ++ d ∷ []) ++ digits v (x + 2 * (i + 1)) (k - (i + 1)) ≡ made ++ digits v (x + 2 * i) (k - i)
digits_next v x k i d made within is =
    append_assoc made (d ∷ []) (digits v (x + 2 * (i + 1)) (k - (i + 1)))
    ∙ ap (λ e. made ++ e ∷ digits v (x + 2 * (i + 1)) (k - (i + 1))) is
    ∙ ap (λ l. made ++ l) (sym (digits_step v (x + 2 * i) (x + 2 * (i + 1)) (k - i) (k - (i + 1)) (omega arith) (omega arith)))

pub digits_end : (v : ℕ → Bool) (x k i : ℕ) (made : List ℕ) → k ≤ i → made ++ digits v (x + 2 * i) (k - i) ≡ made
digits_end v x k i made past =
    let e : k - i ≡ 0 = omega arith in
    ap (λ m. made ++ digits v (x + 2 * i) m) e ∙ append-nil made

pub first_zero : (sizes : List ℕ) → first_of sizes 0 ≡ 0
first_zero [] = refl
first_zero (k ∷ sizes) = refl

-- the scopes' bits are numbered one after another
pub first_next : (sizes : List ℕ) (i d : ℕ) → i < length sizes → first_of sizes (suc i) ≡ first_of sizes i + 2 * get_or sizes i d
first_next [] i d within = absurd (omega (arith, within))
first_next (k ∷ sizes) zero d within = omega (arith, first_zero sizes)
first_next (k ∷ sizes) (suc i) d within = omega (arith, first_next sizes i d (omega (arith, within)))

pub first_all : (sizes : List ℕ) → first_of sizes (length sizes) ≡ bits_in sizes
first_all [] = refl
first_all (k ∷ sizes) = ap (λ n. 2 * k + n) (first_all sizes)

-- all bits lie before the last one
pub first_within : (sizes : List ℕ) (n : ℕ) → first_of sizes n ≤ bits_in sizes
first_within [] n = omega arith
first_within (k ∷ sizes) zero = omega arith
first_within (k ∷ sizes) (suc n) = omega (arith, first_within sizes n)

-- a table of the numbers of first bits

pub firsts_start : (sizes items : List ℕ) → items ≡ 0 ∷ [] → (n : ℕ) → n ≤ 0 → get_or items n 0 ≡ first_of sizes n
firsts_start sizes items is n none =
    let e : n ≡ 0 = omega arith in
    ap (λ l. get_or l n 0) is ∙ ap (λ i. get_or (0 ∷ []) i 0) e ∙ sym (first_zero sizes) ∙ ap (first_of sizes) (sym e)

pub firsts_next : (sizes items new : List ℕ) (i total : ℕ) → new ≡ items ++ total ∷ [] → length items ≡ i + 1 → total ≡ first_of sizes (suc i)
    → ((n : ℕ) → n ≤ i → get_or items n 0 ≡ first_of sizes n) → (n : ℕ) → n ≤ i + 1 → get_or new n 0 ≡ first_of sizes n
firsts_next sizes items new i total is long sum before n within = elim (cases_eq n (suc i)) [
  | inl here ↦ ap (λ l. get_or l n 0) is ∙ get_or_push items total 0 n (omega (arith, long, here)) ∙ sum ∙ ap (first_of sizes) (sym here)
  | inr other ↦ let u : n ≤ i = omega arith in ap (λ l. get_or l n 0) is ∙ get_or_append_left items (total ∷ []) 0 n (omega (arith, long, u)) ∙ before n u
]

-- lists of coefficients, one after another

lists_step : (v : ℕ → Bool) (x : ℕ) (sizes : List ℕ) (k : ℕ) (rest : List ℕ) → sizes ≡ k ∷ rest → lists_of v x sizes ≡ digits v x k ∷ lists_of v (2 * k + x) rest
lists_step v x sizes k rest is = ap (lists_of v x) is

bits_step : (sizes : List ℕ) (k : ℕ) (rest : List ℕ) → sizes ≡ k ∷ rest → bits_in sizes ≡ 2 * k + bits_in rest
bits_step sizes k rest is = ap bits_in is

-- the bits that are left behind one more list of coefficients
pub room_next : (sizes : List ℕ) (i d from all : ℕ) → i < length sizes → from + bits_in (drop i sizes) ≡ all
    → (from + 2 * get_or sizes i d) + bits_in (drop (i + 1) sizes) ≡ all
room_next sizes i d from all within is = omega (arith, is, bits_step (drop i sizes) (get_or sizes i d) (drop (i + 1) sizes) (drop_more sizes i d within))

-- one more list is written
pub lists_next : (v : ℕ → Bool) (sizes : List ℕ) (i d from : ℕ) (made : List (List ℕ)) (list : List ℕ) → i < length sizes → list ≡ digits v from (get_or sizes i d)
    → (made ++ list ∷ []) ++ lists_of v (from + 2 * get_or sizes i d) (drop (i + 1) sizes) ≡ made ++ lists_of v from (drop i sizes)
lists_next v sizes i d from made list within is =
    let k = get_or sizes i d in
    let rest = drop (i + 1) sizes in
    let turned : from + 2 * k ≡ 2 * k + from = omega arith in
    append_assoc made (list ∷ []) (lists_of v (from + 2 * k) rest)
    ∙ ap (λ l. made ++ l ∷ lists_of v (from + 2 * k) rest) is
    ∙ ap (λ x. made ++ digits v from k ∷ lists_of v x rest) turned
    ∙ ap (λ l. made ++ l) (sym (lists_step v from (drop i sizes) k rest (drop_more sizes i d within)))
