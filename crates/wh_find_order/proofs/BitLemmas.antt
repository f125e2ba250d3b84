-- What bits write depends only on their values, and is proper but for the type of a place that is picked.
use Rattle.std.proofs.Common.{◌≡◌, ℕ, zero, suc, ◌+◌, ◌-◌, ◌*◌, ◌<◌, ◌≤◌, ◌^◌, Bool, true, false, if◌then◌else◌, List, [], ◌∷◌, ◌++◌, length, map, get_or, None, Some, All, refl, ap, ap₂, sym, subst, ◌∙◌, append_assoc, arith}
use Rattle.std.proofs.Math.Nat.{pow-suc}
use Rattle.std.proofs.Math.Pow.{pow_mono}
use Rattle.std.proofs.lemmas.List.{append-nil}
use Rattle.std.proofs.lemmas.List.Elements.{All-nil, All-cons, All-head}
use Rattle.wh_types.specs.Ty.{Ty}
use Rattle.wh_order_inference.specs.FilterText.{WrittenFilter, keeps, picks, filter_of}
use Rattle.wh_order_extended.specs.Filtered.{IncreasingFrom, IsProper}
use Rattle.wh_order_node.specs.Filterings.{HasPlaces, IsProperAsWritten}
use Rattle.wh_order_space.specs.Bits.{first_bit, bit_count, places_from, number_from, filter_with, filter_by}
use Rattle.wh_find_order.specs.Encodings.{PicksSort}

-- bits that agree write the same

shifted : (v g : ℕ → Bool) (x k : ℕ) → ((y : ℕ) → y < suc k → v (x + y) ≡ g (x + y)) → (y : ℕ) → y < k → v (suc x + y) ≡ g (suc x + y)
shifted v g x k alike y below =
    let e : x + suc y ≡ suc x + y = omega arith in
    subst (λ x. v x ≡ g x) e (alike (suc y) (omega (arith, below)))

first_alike : (v g : ℕ → Bool) (x k : ℕ) → ((y : ℕ) → y < suc k → v (x + y) ≡ g (x + y)) → v x ≡ g x
first_alike v g x k alike =
    let e : x + 0 ≡ x = omega arith in
    subst (λ x. v x ≡ g x) e (alike 0 (omega arith))

places_alike : (v g : ℕ → Bool) (x p k : ℕ) → ((y : ℕ) → y < k → v (x + y) ≡ g (x + y)) → places_from v x p k ≡ places_from g x p k
places_alike v g x p zero alike = refl
places_alike v g x p (suc k) alike =
    ap₂ (λ b l. if b then p ∷ l else l) (first_alike v g x k alike) (places_alike v g (suc x) (suc p) k (shifted v g x k alike))

pub number_alike : (v g : ℕ → Bool) (x k : ℕ) → ((y : ℕ) → y < k → v (x + y) ≡ g (x + y)) → number_from v x k ≡ number_from g x k
number_alike v g x zero alike = refl
number_alike v g x (suc k) alike =
    ap₂ (λ b n. (if b then 1 else 0) + 2 * n) (first_alike v g x k alike) (number_alike v g (suc x) k (shifted v g x k alike))

part_alike : (v g : ℕ → Bool) (x from k all : ℕ) → from + k ≤ all → ((y : ℕ) → y < all → v (x + y) ≡ g (x + y))
    → (y : ℕ) → y < k → v ((from + x) + y) ≡ g ((from + x) + y)
part_alike v g x from k all within alike y below =
    let e : x + (from + y) ≡ (from + x) + y = omega arith in
    subst (λ x. v x ≡ g x) e (alike (from + y) (omega (arith, below, within)))

pub precedence_alike : (v g : ℕ → Bool) (b x k : ℕ) → ((y : ℕ) → y < 2 * k + b → v (x + y) ≡ g (x + y))
    → number_from v (k + (k + x)) b ≡ number_from g (k + (k + x)) b
precedence_alike v g b x k alike =
    let e : k + (k + x) ≡ (k + k) + x = omega arith in
    ap (λ y. number_from v y b) e ∙ number_alike v g ((k + k) + x) b (part_alike v g x (k + k) b (2 * k + b) (omega arith) alike)
    ∙ ap (λ y. number_from g y b) (sym e)

pub filter_alike : (v g : ℕ → Bool) (b x k : ℕ) → ((y : ℕ) → y < 2 * k + b → v (x + y) ≡ g (x + y)) → filter_by v b x k ≡ filter_by g b x k
filter_alike v g b x k alike =
    ap (λ n. filter_with n (places_from v x 1 k) (places_from v (k + x) 1 k)) (precedence_alike v g b x k alike)
    ∙ ap₂ (λ kept picked. filter_with (number_from g (k + (k + x)) b) kept picked)
    (places_alike v g x 1 k (λ y below. alike y (omega (arith, below))))
    (places_alike v g (k + x) 1 k (part_alike v g x k k (2 * k + b) (omega arith) alike))

-- the places are counted from 1, increase and are places of the symbol

abbrev down : List ℕ → List ℕ
down ns = map (λ n. n - 1) ns

later_first : (from n : ℕ) (is : List ℕ) → IncreasingFrom (suc from) n is → IncreasingFrom from n is
later_first from n [] h = tt
later_first from n (i ∷ is) h = (omega (arith, h.0), h.1, h.2)

rise_with : (from n : ℕ) (rest : List ℕ) (b : Bool) → from < n → IncreasingFrom (suc from) n (down rest)
    → IncreasingFrom from n (down (if b then suc from ∷ rest else rest))
rise_with from n rest true within rise =
    let e : suc from - 1 ≡ from = omega arith in
    (omega arith, omega (arith, within), subst (λ i. IncreasingFrom (suc i) n (down rest)) (sym e) rise)
rise_with from n rest false within rise = later_first from n (down rest) rise

places_rise : (v : ℕ → Bool) (x from k n : ℕ) → from + k ≡ n → IncreasingFrom from n (down (places_from v x (suc from) k))
places_rise v x from zero n sum = tt
places_rise v x from (suc k) n sum =
    rise_with from n (places_from v (suc x) (suc (suc from)) k) (v x) (omega (arith, sum)) (places_rise v (suc x) (suc from) k n (omega (arith, sum)))

counted_with : (from : ℕ) (rest : List ℕ) (b : Bool) → All (λ n. 0 < n) rest → All (λ n. 0 < n) (if b then suc from ∷ rest else rest)
counted_with from rest true h = All-cons (λ n. 0 < n) (suc from) rest (omega arith) h
counted_with from rest false h = h

places_counted : (v : ℕ → Bool) (x from k : ℕ) → All (λ n. 0 < n) (places_from v x (suc from) k)
places_counted v x from zero = All-nil (λ n. 0 < n)
places_counted v x from (suc k) =
    counted_with from (places_from v (suc x) (suc (suc from)) k) (v x) (places_counted v (suc x) (suc from) k)

-- the filter, if its bits write one, is proper where it picks a sort

with_places : (prec : ℕ) (kept picked : List ℕ) (w : WrittenFilter) → All (λ n. 0 < n) kept → All (λ n. 0 < n) picked
    → filter_with prec kept picked ≡ Some w → HasPlaces w
with_places prec kept [] w a b is = let same : keeps prec kept ≡ w = cc in subst HasPlaces same a
with_places prec [] (place ∷ []) w a b is = let same : picks place ≡ w = cc in subst HasPlaces same (All-head (λ n. 0 < n) place [] b)
with_places prec [] (place ∷ other ∷ picked) w a b is = absurd (cc)
with_places prec (n ∷ kept) (place ∷ []) w a b is = absurd (cc)
with_places prec (n ∷ kept) (place ∷ other ∷ picked) w a b is = absurd (cc)

pub places_of_filter : (v : ℕ → Bool) (b x k : ℕ) (w : WrittenFilter) → filter_by v b x k ≡ Some w → HasPlaces w
places_of_filter v b x k w is =
    with_places (number_from v (k + (k + x)) b) (places_from v x 1 k) (places_from v (k + x) 1 k) w (places_counted v x 0 k) (places_counted v (k + x) 0 k) is

with_proper : (cs : List Ty) (prec : ℕ) (kept picked : List ℕ) (w : WrittenFilter) → IncreasingFrom 0 (length cs) (down kept)
    → filter_with prec kept picked ≡ Some w → PicksSort cs w → IsProper cs (filter_of w)
with_proper cs prec kept [] w rise is sorted = let same : keeps prec kept ≡ w = cc in subst (λ w. IsProper cs (filter_of w)) same rise
with_proper cs prec [] (place ∷ []) w rise is sorted =
    let same : picks place ≡ w = cc in
    subst (λ w. IsProper cs (filter_of w)) same (subst (PicksSort cs) (sym same) sorted)
with_proper cs prec [] (place ∷ other ∷ picked) w rise is sorted = absurd (cc)
with_proper cs prec (n ∷ kept) (place ∷ []) w rise is sorted = absurd (cc)
with_proper cs prec (n ∷ kept) (place ∷ other ∷ picked) w rise is sorted = absurd (cc)

pub proper_of_filter : (v : ℕ → Bool) (b x : ℕ) (cs : List Ty) (w : WrittenFilter) → filter_by v b x (length cs) ≡ Some w → PicksSort cs w
    → IsProperAsWritten cs w
proper_of_filter v b x cs w is sorted =
    let k = length cs in record {
      counted = places_of_filter v b x k w is;
      proper = with_proper cs (number_from v (k + (k + x)) b) (places_from v x 1 k) (places_from v (k + x) 1 k) w (places_rise v x 0 k k (omega arith)) is sorted;
    }

-- and where it is proper, it picks a sort
pub picks_of_proper : (cs : List Ty) (w : WrittenFilter) → IsProperAsWritten cs w → PicksSort cs w
picks_of_proper cs (keeps prec ns) h = tt
picks_of_proper cs (picks n) h = h.proper

-- one after another

pub places_next : (v : ℕ → Bool) (x k i : ℕ) (made : List ℕ) → i < k
    → made ++ places_from v (x + i) (suc i) (k - i)
    ≡ (if v (x + i) then made ++ suc i ∷ [] else made) ++ places_from v (x + (i + 1)) (suc (i + 1)) (k - (i + 1))
places_next v x k i made within =
    let more : k - i ≡ suc (k - (i + 1)) = omega arith in
    let next : suc (x + i) ≡ x + (i + 1) = omega arith in
    let place : suc (suc i) ≡ suc (i + 1) = omega arith in
    let rest = places_from v (x + (i + 1)) (suc (i + 1)) (k - (i + 1)) in
    let tail : places_from v (suc (x + i)) (suc (suc i)) (k - (i + 1)) ≡ rest =
    ap₂ (λ y p. places_from v y p (k - (i + 1))) next place in
    ap (λ m. made ++ places_from v (x + i) (suc i) m) more
    ∙ ap (λ l. made ++ (if v (x + i) then suc i ∷ l else l)) tail
    ∙ on (v (x + i)) rest
  where
    on : (b : Bool) (rest : List ℕ) → made ++ (if b then suc i ∷ rest else rest) ≡ (if b then made ++ suc i ∷ [] else made) ++ rest
    on true rest = sym (append_assoc made (suc i ∷ []) rest)
    on false rest = refl

-- a place whose bit is set is put at the end
pub places_put : (v : ℕ → Bool) (x k i : ℕ) (made new : List ℕ) → i < k → v (x + i) ≡ true → new ≡ made ++ (i + 1) ∷ []
    → made ++ places_from v (x + i) (suc i) (k - i) ≡ places_from v x 1 k
    → new ++ places_from v (x + (i + 1)) (suc (i + 1)) (k - (i + 1)) ≡ places_from v x 1 k
places_put v x k i made new within set is before =
    let rest = places_from v (x + (i + 1)) (suc (i + 1)) (k - (i + 1)) in
    let place : i + 1 ≡ suc i = omega arith in
    ap (λ l. l ++ rest) (is ∙ ap (λ p. made ++ p ∷ []) place)
    ∙ ap (λ b. (if b then made ++ suc i ∷ [] else made) ++ rest) (sym set)
    ∙ sym (places_next v x k i made within) ∙ before

-- and one whose bit is not set is passed
pub places_pass : (v : ℕ → Bool) (x k i : ℕ) (made : List ℕ) → i < k → v (x + i) ≡ false
    → made ++ places_from v (x + i) (suc i) (k - i) ≡ places_from v x 1 k
    → made ++ places_from v (x + (i + 1)) (suc (i + 1)) (k - (i + 1)) ≡ places_from v x 1 k
places_pass v x k i made within set before =
    let rest = places_from v (x + (i + 1)) (suc (i + 1)) (k - (i + 1)) in
    ap (λ b. (if b then made ++ suc i ∷ [] else made) ++ rest) (sym set) ∙ sym (places_next v x k i made within) ∙ before

pub places_end : (v : ℕ → Bool) (x k i : ℕ) (made : List ℕ) → k ≤ i → made ++ places_from v (x + i) (suc i) (k - i) ≡ made
places_end v x k i made past =
    let e : k - i ≡ 0 = omega arith in
    ap (λ m. made ++ places_from v (x + i) (suc i) m) e ∙ append-nil made

pub places_start : (v : ℕ → Bool) (x k : ℕ) → places_from v (x + 0) 1 (k - 0) ≡ places_from v x 1 k
places_start v x k =
    let e : x + 0 ≡ x = omega arith in
    let f : k - 0 ≡ k = omega arith in
    ap₂ (λ y m. places_from v y 1 m) e f

pub number_next : (v : ℕ → Bool) (x k left next : ℕ) → next + 1 ≡ left → left ≤ k
    → number_from v (x + next) (k - next) ≡ (if v (x + next) then 1 else 0) + 2 * number_from v (x + left) (k - left)
number_next v x k left next less within =
    let more : k - next ≡ suc (k - left) = omega arith in
    let e : suc (x + next) ≡ x + left = omega arith in
    ap (number_from v (x + next)) more ∙ ap (λ y. (if v (x + next) then 1 else 0) + 2 * number_from v y (k - left)) e

pub number_start : (v : ℕ → Bool) (x k : ℕ) → number_from v (x + k) (k - k) ≡ 0
number_start v x k =
    let e : k - k ≡ 0 = omega arith in
    ap (number_from v (x + k)) e

pub number_end : (v : ℕ → Bool) (x k : ℕ) → number_from v (x + 0) (k - 0) ≡ number_from v x k
number_end v x k =
    let e : x + 0 ≡ x = omega arith in
    let f : k - 0 ≡ k = omega arith in
    ap₂ (number_from v) e f

-- k bits write numbers below 2^k
pub number_below : (v : ℕ → Bool) (x k : ℕ) → number_from v x k < 2 ^ k
number_below v x zero = omega arith
number_below v x (suc k) =
    let rest = number_below v (suc x) k in
    let double = pow-suc 2 k in
    omega (arith, rest, double, bit (v x))
  where
    bit : (b : Bool) → (if b then 1 else 0) ≤ 1
    bit true = omega arith
    bit false = omega arith

-- 31 bits write numbers below 2^31
pub number_small : (v : ℕ → Bool) (x k : ℕ) → k < 32 → number_from v x k < 2147483648
number_small v x k few =
    let most : 2 ^ k ≤ 2 ^ 31 = pow_mono {i = k} {j = 31} (omega (arith, few)) in
    omega (arith, number_below v x k, most)

-- the number with one more bit in front
pub number_put : (v : ℕ → Bool) (x k left next low number more : ℕ) → next + 1 ≡ left → left ≤ k → low ≡ (if v (x + next) then 1 else 0)
    → number ≡ number_from v (x + left) (k - left) → more ≡ low + 2 * number → more ≡ number_from v (x + next) (k - next)
number_put v x k left next low number more less within bit before sum =
    sum ∙ ap₂ (λ b n. b + 2 * n) bit before ∙ sym (number_next v x k left next less within)

-- a filter by the places that are kept and picked

with_none : (prec : ℕ) (kept picked : List ℕ) → length picked ≡ 0 → filter_with prec kept picked ≡ Some (keeps prec kept)
with_none prec kept [] none = refl
with_none prec kept (n ∷ picked) none = absurd (omega (arith, none))

with_one : (prec place : ℕ) (kept picked : List ℕ) → length kept ≡ 0 → length picked ≡ 1 → place ≡ get_or picked 0 place
    → filter_with prec kept picked ≡ Some (picks place)
with_one prec place [] (n ∷ []) none one is = let same : place ≡ n = is in ap (λ m. Some (picks m)) (sym same)
with_one prec place [] [] none one is = absurd (omega (arith, one))
with_one prec place [] (n ∷ m ∷ picked) none one is = absurd (omega (arith, one))
with_one prec place (n ∷ kept) picked none one is = absurd (omega (arith, none))

with_more : (prec : ℕ) (kept picked : List ℕ) → 0 < length picked → (length kept ≡ 0 → length picked ≡ 1 → ⊥) → filter_with prec kept picked ≡ None
with_more prec kept [] some other = absurd (omega (arith, some))
with_more prec [] (place ∷ []) some other = absurd (other refl refl)
with_more prec [] (place ∷ more ∷ picked) some other = refl
with_more prec (n ∷ kept) (place ∷ []) some other = refl
with_more prec (n ∷ kept) (place ∷ more ∷ picked) some other = refl

module _ (v : ℕ → Bool) (b x k : ℕ) (kept picked : List ℕ) (kept_is : kept ≡ places_from v x 1 k) (picked_is : picked ≡ places_from v (k + x) 1 k) where
  by_places : filter_by v b x k ≡ filter_with (number_from v (k + (k + x)) b) kept picked
  by_places = ap₂ (filter_with (number_from v (k + (k + x)) b)) (sym kept_is) (sym picked_is)

  pub keeps_by : (prec : ℕ) → prec ≡ number_from v (k + (k + x)) b → length picked ≡ 0 → filter_by v b x k ≡ Some (keeps prec kept)
  keeps_by prec prec_is none = by_places ∙ with_none (number_from v (k + (k + x)) b) kept picked none ∙ ap (λ n. Some (keeps n kept)) (sym prec_is)

  pub picks_by : (place : ℕ) → length kept ≡ 0 → length picked ≡ 1 → place ≡ get_or picked 0 place → filter_by v b x k ≡ Some (picks place)
  picks_by place none one is = by_places ∙ with_one (number_from v (k + (k + x)) b) place kept picked none one is

  pub none_by : 0 < length picked → (length kept ≡ 0 → length picked ≡ 1 → ⊥) → filter_by v b x k ≡ None
  none_by some other = by_places ∙ with_more (number_from v (k + (k + x)) b) kept picked some other

-- tables of first bits

pub first_within : (b : ℕ) (scopes : List (List Ty)) (n : ℕ) → first_bit b scopes n ≤ bit_count b scopes
first_within b [] n = omega arith
first_within b (cs ∷ scopes) zero = omega arith
first_within b (cs ∷ scopes) (suc n) = omega (arith, first_within b scopes n)
