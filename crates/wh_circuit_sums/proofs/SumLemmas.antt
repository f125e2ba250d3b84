-- Sums and products, bit by bit.
use Rattle.std.proofs.Common.{◌≡◌, ℕ, ◌+◌, ◌*◌, ◌^◌, ◌<◌, ◌≤◌, Bool, true, false, not, ◌&&◌, ◌||◌, List, [], ◌∷◌, ◌++◌, length, get_or, drop, add-one, refl, sym, ◌∙◌, ap, arith, suc, zero}
use Rattle.std.proofs.Math.Nat.{pow-suc}
use Rattle.std.proofs.lemmas.List.{at_drop_more, at_drop_all}
use Rattle.wh_sat_trail.specs.declared.literal.Literal.{Literal}
use Rattle.wh_sat.specs.Solving.{literal_true}
use Rattle.wh_circuit.specs.Values.{bit, number_of}

abbrev pub unlike_bits : Bool → Bool → Bool
unlike_bits a b = a && not b || not a && b

bits_add : (a b c : Bool) → bit (unlike_bits (unlike_bits a b) c) + 2 * bit (a && b || unlike_bits a b && c) ≡ bit a + bit b + bit c
bits_add true true true = refl
bits_add true true false = refl
bits_add true false true = refl
bits_add true false false = refl
bits_add false true true = refl
bits_add false true false = refl
bits_add false false true = refl
bits_add false false false = refl

pub bits_added : (a b c u l h : Bool) → u ≡ unlike_bits a b → l ≡ unlike_bits u c → h ≡ (a && b || u && c) → bit l + 2 * bit h ≡ bit a + bit b + bit c
bits_added a b c u l h e f g =
    ap (λ x. bit x + 2 * bit h) f ∙ ap (λ x. bit (unlike_bits u c) + 2 * bit x) g ∙ ap (λ x. bit (unlike_bits x c) + 2 * bit (a && b || x && c)) e ∙ bits_add a b c

pub power_more : (i : ℕ) → 2 ^ (i + 1) ≡ 2 ^ i * 2
power_more i = ap (λ n. 2 ^ n) (add-one i) ∙ pow-suc 2 i

pub number_append : (v : ℕ → Bool) (xs ys : List Literal) → number_of v (xs ++ ys) ≡ number_of v xs + 2 ^ length xs * number_of v ys
number_append v [] ys = omega arith
number_append v (x ∷ xs) ys =
    let more = ap (λ p. p * number_of v ys) (pow-suc 2 (length xs)) in
    let rest = number_append v xs ys in
    omega (arith, more, rest)

pub number_push : (v : ℕ → Bool) (xs : List Literal) (l : Literal) (i : ℕ) → length xs ≡ i → number_of v (xs ++ l ∷ []) ≡ number_of v xs + 2 ^ i * bit (literal_true v l)
number_push v xs l i e =
    let it = number_append v xs (l ∷ []) in
    let p = ap (λ n. 2 ^ n * bit (literal_true v l)) e in
    omega (arith, it, p)

number_suc : (v : ℕ → Bool) (ls : List Literal) (i : ℕ) (d : Literal) → literal_true v d ≡ false
    → number_of v (drop i ls) ≡ bit (literal_true v (get_or ls i d)) + 2 * number_of v (drop (suc i) ls)
number_suc v [] zero d e = let none = ap bit e in omega (arith, none)
number_suc v [] (suc i) d e = let none = ap bit e in omega (arith, none)
number_suc v (l ∷ ls) zero d e = refl
number_suc v (l ∷ ls) (suc i) d e = number_suc v ls i d e

-- past the end of a number its bits are false
pub number_at : (v : ℕ → Bool) (ls : List Literal) (i : ℕ) (d : Literal) → literal_true v d ≡ false
    → number_of v (drop i ls) ≡ bit (literal_true v (get_or ls i d)) + 2 * number_of v (drop (i + 1) ls)
number_at v ls i d e = number_suc v ls i d e ∙ ap (λ n. bit (literal_true v (get_or ls i d)) + 2 * number_of v (drop n ls)) (sym (add-one i))

pub number_head : (v : ℕ → Bool) (ls : List Literal) (d : Literal) → 0 < length ls → number_of v ls ≡ bit (literal_true v (get_or ls 0 d)) + 2 * number_of v (drop 1 ls)
number_head v [] d w = absurd (omega (arith, w))
number_head v (l ∷ ls) d w = refl

add_step : (p m a x b y c l h : ℕ) → l + 2 * h ≡ a + b + c → (m + p * l) + p * 2 * (x + y + h) ≡ m + p * ((a + 2 * x) + (b + 2 * y) + c)
add_step p m a x b y c l h e =
    let more = ap (λ n. p * n) e in
    omega (arith, more)

pub sum_more : (v : ℕ → Bool) (a b made : List Literal) (i : ℕ) (d low high carry : Literal) → length made ≡ i → literal_true v d ≡ false
    → bit (literal_true v low) + 2 * bit (literal_true v high) ≡ bit (literal_true v (get_or a i d)) + bit (literal_true v (get_or b i d)) + bit (literal_true v carry)
    → number_of v (made ++ low ∷ []) + 2 ^ (i + 1) * (number_of v (drop (i + 1) a) + number_of v (drop (i + 1) b) + bit (literal_true v high))
    ≡ number_of v made + 2 ^ i * (number_of v (drop i a) + number_of v (drop i b) + bit (literal_true v carry))
sum_more v a b made i d low high carry n z e =
    let x = number_of v (drop (i + 1) a) in
    let y = number_of v (drop (i + 1) b) in
    let c = bit (literal_true v carry) in
    let h = bit (literal_true v high) in
    let m = number_of v made in
    ap (λ k. k + 2 ^ (i + 1) * (x + y + h)) (number_push v made low i n)
    ∙ ap (λ q. (m + 2 ^ i * bit (literal_true v low)) + q * (x + y + h)) (power_more i)
    ∙ add_step (2 ^ i) m (bit (literal_true v (get_or a i d))) x (bit (literal_true v (get_or b i d))) y c (bit (literal_true v low)) h e
    ∙ ap (λ k. m + 2 ^ i * (k + (bit (literal_true v (get_or b i d)) + 2 * y) + c)) (sym (number_at v a i d z))
    ∙ ap (λ k. m + 2 ^ i * (number_of v (drop i a) + k + c)) (sym (number_at v b i d z))

pub sum_all : (v : ℕ → Bool) (a b made : List Literal) (i total : ℕ) (carry : Literal) → length made ≡ i → length a ≤ i → length b ≤ i
    → number_of v made + 2 ^ i * (number_of v (drop i a) + number_of v (drop i b) + bit (literal_true v carry)) ≡ total
    → number_of v (made ++ carry ∷ []) ≡ total
sum_all v a b made i total carry n p q e =
    let c = bit (literal_true v carry) in
    let x = ap (λ k. 2 ^ i * (k + number_of v (drop i b) + c)) (at_drop_all (number_of v) a i p) in
    let y = ap (λ k. 2 ^ i * (0 + k + c)) (at_drop_all (number_of v) b i q) in
    let it = number_push v made carry i n in
    omega (arith, x, y, it, e)

pub bit_and : (a b : Bool) → bit (a && b) ≡ bit a * bit b
bit_and true b = omega arith
bit_and false b = omega arith

row_step : (p m w x y : ℕ) → (m + p * (w * y)) + p * 2 * (w * x) ≡ m + p * (w * (y + 2 * x))
row_step p m w x y = omega arith

pub row_more : (v : ℕ → Bool) (b made : List Literal) (i : ℕ) (d both wire : Literal) → length made ≡ i → i < length b
    → literal_true v both ≡ (literal_true v wire && literal_true v (get_or b i d))
    → number_of v (made ++ both ∷ []) + 2 ^ (i + 1) * (bit (literal_true v wire) * number_of v (drop (i + 1) b))
    ≡ number_of v made + 2 ^ i * (bit (literal_true v wire) * number_of v (drop i b))
row_more v b made i d both wire n w e =
    let x = number_of v (drop (i + 1) b) in
    let y = bit (literal_true v (get_or b i d)) in
    let f = bit (literal_true v wire) in
    let m = number_of v made in
    ap (λ k. k + 2 ^ (i + 1) * (f * x)) (number_push v made both i n)
    ∙ ap (λ k. (m + 2 ^ i * k) + 2 ^ (i + 1) * (f * x)) (ap bit e ∙ bit_and (literal_true v wire) (literal_true v (get_or b i d)))
    ∙ ap (λ q. (m + 2 ^ i * (f * y)) + q * (f * x)) (power_more i)
    ∙ row_step (2 ^ i) m f x y ∙ ap (λ k. m + 2 ^ i * (f * k)) (sym (at_drop_more (number_of v) b i d w))

pub row_all : (v : ℕ → Bool) (b made : List Literal) (i f total : ℕ) → length b ≤ i → number_of v made + 2 ^ i * (f * number_of v (drop i b)) ≡ total → number_of v made ≡ total
row_all v b made i f total w e =
    let none = ap (λ k. 2 ^ i * (f * k)) (at_drop_all (number_of v) b i w) in
    omega (arith, none, e)

times_step : (p m r s t l w x y : ℕ) → s ≡ r + w * y → s ≡ l + 2 * t → (m + p * l) + p * 2 * (t + x * y) ≡ m + p * (r + (w + 2 * x) * y)
times_step p m r s t l w x y e f =
    let one = ap (λ n. p * n) e in
    let two = ap (λ n. p * n) f in
    omega (arith, one, two)

pub times_more : (v : ℕ → Bool) (a b made rest sum : List Literal) (i : ℕ) (d : Literal) → length made ≡ i → i < length a → 0 < length sum
    → number_of v sum ≡ number_of v rest + bit (literal_true v (get_or a i d)) * number_of v b
    → number_of v (made ++ get_or sum 0 d ∷ []) + 2 ^ (i + 1) * (number_of v (drop 1 sum) + number_of v (drop (i + 1) a) * number_of v b)
    ≡ number_of v made + 2 ^ i * (number_of v rest + number_of v (drop i a) * number_of v b)
times_more v a b made rest sum i d n w u e =
    let x = number_of v (drop (i + 1) a) in
    let y = number_of v b in
    let t = number_of v (drop 1 sum) in
    let m = number_of v made in
    let l = bit (literal_true v (get_or sum 0 d)) in
    ap (λ k. k + 2 ^ (i + 1) * (t + x * y)) (number_push v made (get_or sum 0 d) i n)
    ∙ ap (λ q. (m + 2 ^ i * l) + q * (t + x * y)) (power_more i)
    ∙ times_step (2 ^ i) m (number_of v rest) (number_of v sum) t l (bit (literal_true v (get_or a i d))) x y e (number_head v sum d u)
    ∙ ap (λ k. m + 2 ^ i * (number_of v rest + k * y)) (sym (at_drop_more (number_of v) a i d w))

pub times_all : (v : ℕ → Bool) (a b made rest : List Literal) (i total : ℕ) → length made ≡ i → length a ≤ i
    → number_of v made + 2 ^ i * (number_of v rest + number_of v (drop i a) * number_of v b) ≡ total → number_of v (made ++ rest) ≡ total
times_all v a b made rest i total n w e =
    let none = ap (λ k. 2 ^ i * (number_of v rest + k * number_of v b)) (at_drop_all (number_of v) a i w) in
    let joined = number_append v made rest in
    let power = ap (λ k. 2 ^ k * number_of v rest) n in
    omega (arith, none, joined, power, e)
