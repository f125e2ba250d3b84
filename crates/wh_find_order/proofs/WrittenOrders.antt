-- Each order that is tried is written by some bits.
use Rattle.std.proofs.Common.{◌≡◌, ℕ, zero, suc, ◌+◌, ◌-◌, ◌*◌, ◌/◌, ◌<◌, ◌≤◌, ◌^◌, ◌==◌, nat_lt, inl, inr, Bool, true, false, if◌then◌else◌, List, [], ◌∷◌, length, map, Some, slice_get, All, refl, ap, ap₂, sym, subst, ◌∙◌, arith}
use Rattle.std.proofs.Math.Nat.{pow-suc}
use Rattle.std.proofs.lemmas.Bool.{cases_eq, eq-eqb, ne_eqb, lt-ltb, le-ltb}
use Rattle.std.proofs.lemmas.List.Elements.{All-head, All-tail}
use Rattle.wh_types.specs.Ty.{Ty, sort}
use Rattle.wh_order_inference.specs.FilterText.{WrittenFilter, keeps, picks}
use Rattle.wh_order_extended.specs.Filtered.{IncreasingFrom}
use Rattle.wh_order_node.specs.Filterings.{IsProperAsWritten}
use Rattle.std.proofs.lemmas.Option.{slice_get_within}
use Rattle.wh_order_space.specs.Bits.{binary_length, bits_of, first_bit, places_from, number_from, filter_with, filter_by}

-- half a number, and whether it is odd

abbrev pub odd : ℕ → Bool
odd zero = false
odd (suc zero) = true
odd (suc (suc n)) = odd n

abbrev pub half : ℕ → ℕ
half zero = 0
half (suc zero) = 0
half (suc (suc n)) = suc (half n)

halves : (n : ℕ) → (if odd n then 1 else 0) + 2 * half n ≡ n
halves zero = refl
halves (suc zero) = refl
halves (suc (suc n)) = omega (arith, halves n)

half_below : (n m : ℕ) → n < 2 * m → half n < m
half_below n m below = omega (arith, halves n, below)

-- the bits of a number, the lowest one first
abbrev pub binary : ℕ → ℕ → Bool
binary n zero = odd n
binary n (suc y) = binary (half n) y

number_is : (v : ℕ → Bool) (x b p : ℕ) → p < 2 ^ b → ((y : ℕ) → y < b → v (x + y) ≡ binary p y) → number_from v x b ≡ p
number_is v x zero p low is = omega (arith, low)
number_is v x (suc b) p low is =
    let e : x + 0 ≡ x = omega arith in
    let first : v x ≡ odd p = sym (ap v e) ∙ is 0 (omega arith) in
    let double = pow-suc 2 b in
    let rest : number_from v (suc x) b ≡ half p = number_is v (suc x) b (half p) (half_below p (2 ^ b) (omega (arith, low, double))) (λ y below.
    let f : suc x + y ≡ x + suc y = omega arith in
    ap v f ∙ is (suc y) (omega (arith, below))) in
    ap₂ (λ c n. (if c then 1 else 0) + 2 * n) first rest ∙ halves p

-- a number fits its binary length

div_two : (n : ℕ) → n < 2 * (n / 2) + 2
div_two n = omega arith

pub length_holds : (most n : ℕ) → n ≤ most → n < 2 ^ binary_length most n
length_holds zero n small = omega (arith, small)
length_holds (suc most) n small = elim (cases_eq n 0) [
  | inl none ↦
      let e = eq-eqb n 0 none in
      subst (λ c. n < 2 ^ (if c then 0 else suc (binary_length most (n / 2)))) (sym e) (omega (arith, none))
  | inr some ↦
      let e = ne_eqb n 0 some in
      let less : n / 2 ≤ most = omega (arith, small, some) in
      let rest = length_holds most (n / 2) less in
      let double = pow-suc 2 (binary_length most (n / 2)) in
      subst (λ c. n < 2 ^ (if c then 0 else suc (binary_length most (n / 2)))) (sym e) (omega (arith, rest, double, div_two n))
]

-- the places of a list, one bit for each

abbrev pub member : ℕ → List ℕ → Bool
member n [] = false
member n (m ∷ ms) = if m == n then true else member n ms

abbrev Rising : ℕ → ℕ → List ℕ → Type 0
Rising from n [] = Unit {0}
Rising from n (m ∷ ms) = (from < m) × (m ≤ n) × Rising m n ms

member_low : (c from n : ℕ) (ms : List ℕ) → c ≤ from → Rising from n ms → member c ms ≡ false
member_low c from n [] low r = refl
member_low c from n (m ∷ ms) low r =
    let e = ne_eqb m c (λ same. omega (arith, same, low, r.0)) in
    ap (λ b. if b then true else member c ms) e ∙ member_low c m n ms (omega (arith, low, r.0)) r.2

first_is : (v : ℕ → Bool) (x from k : ℕ) (ms : List ℕ) → ((y : ℕ) → y < suc k → v (x + y) ≡ member (suc from + y) ms) → v x ≡ member (suc from) ms
first_is v x from k ms is =
    let e : x ≡ x + 0 = omega arith in
    let f : suc from + 0 ≡ suc from = omega arith in
    ap v e ∙ is 0 (omega arith) ∙ ap (λ c. member c ms) f

rest_is : (v : ℕ → Bool) (x from k : ℕ) (ms ns : List ℕ) → ((y : ℕ) → y < suc k → v (x + y) ≡ member (suc from + y) ms)
    → ((y : ℕ) → member (suc (suc from) + y) ms ≡ member (suc (suc from) + y) ns)
    → (y : ℕ) → y < k → v (suc x + y) ≡ member (suc (suc from) + y) ns
rest_is v x from k ms ns is same y below =
    let e : suc x + y ≡ x + suc y = omega arith in
    let f : suc from + suc y ≡ suc (suc from) + y = omega arith in
    ap v e ∙ is (suc y) (omega (arith, below)) ∙ ap (λ c. member c ms) f ∙ same y

places_are : (v : ℕ → Bool) (x from k n : ℕ) (ms : List ℕ) → from + k ≡ n → Rising from n ms
    → ((y : ℕ) → y < k → v (x + y) ≡ member (suc from + y) ms) → places_from v x (suc from) k ≡ ms
places_are v x from zero n [] sum rise is = refl
places_are v x from zero n (m ∷ ms) sum rise is = absurd (omega (arith, sum, rise.0, rise.1))
places_are v x from (suc k) n [] sum rise is =
    let here : v x ≡ false = first_is v x from k [] is in
    ap (λ b. if b then suc from ∷ places_from v (suc x) (suc (suc from)) k else places_from v (suc x) (suc (suc from)) k) here
    ∙ places_are v (suc x) (suc from) k n [] (omega (arith, sum)) tt (rest_is v x from k [] [] is (λ y. refl))
places_are v x from (suc k) n (m ∷ ms) sum rise is = elim (cases_eq m (suc from)) [
  | inl same ↦
      let hit : member (suc from) (m ∷ ms) ≡ true = ap (λ b. if b then true else member (suc from) ms) (eq-eqb m (suc from) same) in
      let here : v x ≡ true = first_is v x from k (m ∷ ms) is ∙ hit in
      let rest : places_from v (suc x) (suc (suc from)) k ≡ ms =
      places_are v (suc x) (suc from) k n ms (omega (arith, sum)) (subst (λ c. Rising c n ms) same rise.2)
      (rest_is v x from k (m ∷ ms) ms is (λ y.
      ap (λ b. if b then true else member (suc (suc from) + y) ms) (ne_eqb m (suc (suc from) + y) (λ other. omega (arith, same, other))))) in
      ap (λ b. if b then suc from ∷ places_from v (suc x) (suc (suc from)) k else places_from v (suc x) (suc (suc from)) k) here
      ∙ ap₂ (λ c l. c ∷ l) (sym same) rest
  | inr other ↦
      let later : Rising (suc from) n (m ∷ ms) = (omega (arith, rise.0, other), rise.1, rise.2) in
      let here : v x ≡ false = first_is v x from k (m ∷ ms) is ∙ member_low (suc from) (suc from) n (m ∷ ms) (omega arith) later in
      ap (λ b. if b then suc from ∷ places_from v (suc x) (suc (suc from)) k else places_from v (suc x) (suc (suc from)) k) here
      ∙ places_are v (suc x) (suc from) k n (m ∷ ms) (omega (arith, sum)) later (rest_is v x from k (m ∷ ms) (m ∷ ms) is (λ y. refl))
]

-- what a filter keeps and what it picks, and its precedence

abbrev pub kept : WrittenFilter → List ℕ
kept (keeps prec ns) = ns
kept (picks n) = []

abbrev pub picked : WrittenFilter → List ℕ
picked (keeps prec ns) = []
picked (picks n) = n ∷ []

abbrev pub prec_of : WrittenFilter → ℕ
prec_of (keeps prec ns) = prec
prec_of (picks n) = 0

whole : (w : WrittenFilter) → filter_with (prec_of w) (kept w) (picked w) ≡ Some w
whole (keeps prec ns) = refl
whole (picks n) = refl

rise_up : (from k : ℕ) (ns : List ℕ) → All (λ n. 0 < n) ns → IncreasingFrom from k (map (λ n. n - 1) ns) → Rising from k ns
rise_up from k [] counted rise = tt
rise_up from k (n ∷ ns) counted rise =
    let some : 0 < n = All-head (λ n. 0 < n) n ns counted in
    let e : suc (n - 1) ≡ n = omega (arith, some) in
    (omega (arith, rise.0, some), omega (arith, rise.1, some), rise_up n k ns (All-tail (λ n. 0 < n) n ns counted) (subst (λ c. IncreasingFrom c k (map (λ n. n - 1) ns)) e rise.2))

kept_rise : (cs : List Ty) (w : WrittenFilter) → IsProperAsWritten cs w → Rising 0 (length cs) (kept w)
kept_rise cs (keeps prec ns) h = rise_up 0 (length cs) ns h.counted h.proper
kept_rise cs (picks n) h = tt

picked_rise : (cs : List Ty) (w : WrittenFilter) → IsProperAsWritten cs w → Rising 0 (length cs) (picked w)
picked_rise cs (keeps prec ns) h = tt
picked_rise cs (picks n) h =
    let some : 0 < n = h.counted in
    let within = slice_get_within cs (n - 1) (sort h.proper.0) h.proper.1 in
    (some, omega (arith, some, within), tt)

-- the bits of a filter for a symbol with k arguments
abbrev pub filter_bit : ℕ → WrittenFilter → ℕ → Bool
filter_bit k w y =
    if nat_lt y k then member (suc y) (kept w) else if nat_lt (y - k) k then member (suc (y - k)) (picked w) else binary (prec_of w) ((y - k) - k)

in_kept : (k : ℕ) (w : WrittenFilter) (y : ℕ) → y < k → filter_bit k w y ≡ member (suc y) (kept w)
in_kept k w y below =
    ap (λ b. if b then member (suc y) (kept w) else if nat_lt (y - k) k then member (suc (y - k)) (picked w) else binary (prec_of w) ((y - k) - k)) (lt-ltb y k below)

in_picked : (k : ℕ) (w : WrittenFilter) (y : ℕ) → y < k → filter_bit k w (k + y) ≡ member (suc y) (picked w)
in_picked k w y below =
    let e : k + y - k ≡ y = omega arith in
    ap (λ b. if b then member (suc (k + y)) (kept w) else if nat_lt (k + y - k) k then member (suc (k + y - k)) (picked w) else binary (prec_of w) ((k + y - k) - k))
    (le-ltb (k + y) k (omega arith))
    ∙ ap (λ z. if nat_lt z k then member (suc z) (picked w) else binary (prec_of w) (z - k)) e
    ∙ ap (λ b. if b then member (suc y) (picked w) else binary (prec_of w) (y - k)) (lt-ltb y k below)

in_precedence : (k : ℕ) (w : WrittenFilter) (y : ℕ) → filter_bit k w (k + (k + y)) ≡ binary (prec_of w) y
in_precedence k w y =
    let e : k + (k + y) - k ≡ k + y = omega arith in
    let f : k + y - k ≡ y = omega arith in
    ap (λ b. if b then member (suc (k + (k + y))) (kept w) else if nat_lt (k + (k + y) - k) k then member (suc (k + (k + y) - k)) (picked w) else binary (prec_of w) ((k + (k + y) - k) - k))
    (le-ltb (k + (k + y)) k (omega arith))
    ∙ ap (λ z. if nat_lt z k then member (suc z) (picked w) else binary (prec_of w) (z - k)) e
    ∙ ap (λ b. if b then member (suc (k + y)) (picked w) else binary (prec_of w) (k + y - k)) (le-ltb (k + y) k (omega arith))
    ∙ ap (binary (prec_of w)) f

-- such bits write the filter
module _ (v : ℕ → Bool) (b x : ℕ) (cs : List Ty) (w : WrittenFilter) (proper : IsProperAsWritten cs w) (low : prec_of w < 2 ^ b)
    (is : (y : ℕ) → y < bits_of b cs → v (x + y) ≡ filter_bit (length cs) w y) where
  abbrev k : ℕ
  k = length cs

  pub precedence_written : number_from v (k + (k + x)) b ≡ prec_of w
  precedence_written = number_is v (k + (k + x)) b (prec_of w) low (λ y below.
      let e : (k + (k + x)) + y ≡ x + (k + (k + y)) = omega arith in
      ap v e ∙ is (k + (k + y)) (omega (arith, below)) ∙ in_precedence k w y)

  kept_written : places_from v x 1 k ≡ kept w
  kept_written = places_are v x 0 k k (kept w) (omega arith) (kept_rise cs w proper) (λ y below.
      let f : suc y ≡ 1 + y = omega arith in
      is y (omega (arith, below)) ∙ in_kept k w y below ∙ ap (λ c. member c (kept w)) f)

  picked_written : places_from v (k + x) 1 k ≡ picked w
  picked_written = places_are v (k + x) 0 k k (picked w) (omega arith) (picked_rise cs w proper) (λ y below.
      let e : (k + x) + y ≡ x + (k + y) = omega arith in
      let f : suc y ≡ 1 + y = omega arith in
      ap v e ∙ is (k + y) (omega (arith, below)) ∙ in_picked k w y below ∙ ap (λ c. member c (picked w)) f)

  pub filter_written : filter_by v b x k ≡ Some w
  filter_written =
      ap (λ n. filter_with n (places_from v x 1 k) (places_from v (k + x) 1 k)) precedence_written
      ∙ ap₂ (filter_with (prec_of w)) kept_written picked_written ∙ whole w

-- the bits of filters of symbols, one after another
abbrev pub order_bit : ℕ → List (List Ty) → List WrittenFilter → ℕ → Bool
order_bit b [] ws x = false
order_bit b (cs ∷ scopes) [] x = false
order_bit b (cs ∷ scopes) (w ∷ ws) x =
    if nat_lt x (bits_of b cs) then filter_bit (length cs) w x else order_bit b scopes ws (x - bits_of b cs)

pub order_bits : (b : ℕ) (scopes : List (List Ty)) (ws : List WrittenFilter) (n : ℕ) (cs : List Ty) (w : WrittenFilter)
    → slice_get scopes n ≡ Some cs → slice_get ws n ≡ Some w → (y : ℕ) → y < bits_of b cs
    → order_bit b scopes ws (first_bit b scopes n + y) ≡ filter_bit (length cs) w y
order_bits b [] ws n cs w at there y below = absurd (cc)
order_bits b (ds ∷ scopes) [] n cs w at there y below = absurd (cc)
order_bits b (ds ∷ scopes) (u ∷ ws) zero cs w at there y below =
    let same : ds ≡ cs = cc in
    let also : u ≡ w = cc in
    let zeroed : 0 + y ≡ y = omega arith in
    ap (order_bit b (ds ∷ scopes) (u ∷ ws)) zeroed
    ∙ ap (λ c. if c then filter_bit (length ds) u y else order_bit b scopes ws (y - bits_of b ds))
    (lt-ltb y (bits_of b ds) (subst (λ l. y < bits_of b l) (sym same) below))
    ∙ ap₂ (λ l f. filter_bit (length l) f y) same also
order_bits b (ds ∷ scopes) (u ∷ ws) (suc n) cs w at there y below =
    let z = (bits_of b ds + first_bit b scopes n) + y in
    let e : z - bits_of b ds ≡ first_bit b scopes n + y = omega arith in
    ap (λ c. if c then filter_bit (length ds) u z else order_bit b scopes ws (z - bits_of b ds)) (le-ltb z (bits_of b ds) (omega arith))
    ∙ ap (order_bit b scopes ws) e ∙ order_bits b scopes ws n cs w at there y below
