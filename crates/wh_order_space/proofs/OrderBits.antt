-- Bits that say the filters of an order.
use Rattle.std.proofs.Common.{◌≡◌, ℕ, zero, suc, ◌+◌, ◌-◌, ◌<◌, Bool, true, false, ◌||◌, List, [], ◌∷◌, ◌++◌, length, map, refl, ap, ap₂, ◌∙◌, sym, subst, Some, slice_get, cond, arith, eqb-true}
use Rattle.std.specs.Prelude.{◌==◌, nat_lt, not, if◌then◌else◌}
use Rattle.std.proofs.lemmas.Bool.{lt-ltb, le-ltb, eq-eqb, ne_eqb}
use Rattle.wh_types.specs.Ty.{Ty, sort}
use Rattle.wh_order_inference.specs.Filters.{Filter, keep, pick}
use Rattle.wh_order_extended.specs.Filtered.{IncreasingFrom, IsProper, precedence}
use Rattle.wh_order_inference.specs.FilterText.{WrittenFilter, filter_of}
use Rattle.wh_pairs.specs.PairData.{IsIncreasing}
use Rattle.wh_order_node.specs.Filterings.{MarkFilter, filter_among, mark_among}
use Rattle.wh_order_demands.specs.Claims.{HasPlace, Says}
use Rattle.wh_order_demands.proofs.PartLemmas.{below_at}
use Rattle.wh_order_space.specs.Bits.{bits_of, first_bit}

one_of : {A : Type 0} {a b : A} → Some a ≡ Some b → a ≡ b
one_of e = cc

-- the place stands in the list, as a test
abbrev has : List ℕ → ℕ → Bool
has [] x = false
has (y ∷ is) x = (y == x) || has is x

or_true : (a : Bool) {b : Bool} → b ≡ true → (a || b) ≡ true
or_true true e = refl
or_true false e = e

has_place : (is : List ℕ) (x m : ℕ) → slice_get is m ≡ Some x → has is x ≡ true
has_place [] x m e = absurd (cc)
has_place (y ∷ is) x zero e = ap (λ b. b || has is x) (eq-eqb y x (one_of e))
has_place (y ∷ is) x (suc m) e = or_true (y == x) (has_place is x m e)

place_behind : (y : ℕ) (is : List ℕ) (x : ℕ) → (has is x ≡ true → HasPlace is x) → (b : Bool) → (y == x) ≡ b → (b || has is x) ≡ true → HasPlace (y ∷ is) x
place_behind y is x rest true d e = (0, ap Some (eqb-true y x d))
place_behind y is x rest false d e = let (m, at) = rest e in (suc m, at)

place_has : (is : List ℕ) (x : ℕ) → has is x ≡ true → HasPlace is x
place_has [] x e = absurd (cc)
place_has (y ∷ is) x e = place_behind y is x (place_has is x) (y == x) refl e

-- a bit of a symbol with k places and this filter, that a place is kept or picked
abbrev pub filter_bit : ℕ → Filter → ℕ → Bool
filter_bit k (keep p is) o = has is o
filter_bit k (pick i) o = o == k + i

-- the same, or that its precedence is at least that of another symbol
abbrev pub bit_in : (ℕ → ℕ) → ℕ → Filter → ℕ → Bool
bit_in prec k F o = if nat_lt o (k + k) then filter_bit k F o else not (nat_lt (precedence F) (prec (o - (k + k))))

-- the bits of symbols with these argument types and these filters, where precedences are these
abbrev pub value : (ℕ → ℕ) → ℕ → List (List Ty) → List Filter → ℕ → Bool
value prec b [] Fs y = false
value prec b (cs ∷ css) [] y = false
value prec b (cs ∷ css) (F ∷ Fs) y = if nat_lt y (bits_of b cs) then bit_in prec (length cs) F y else value prec b css Fs (y - bits_of b cs)

if_true : {A : Type 0} (c : Bool) (x y : A) → c ≡ true → (if c then x else y) ≡ x
if_true c x y e = ap (λ c. if c then x else y) e

if_false : {A : Type 0} (c : Bool) (x y : A) → c ≡ false → (if c then x else y) ≡ y
if_false c x y e = ap (λ c. if c then x else y) e

pub value_at : (prec : ℕ → ℕ) (b : ℕ) (css : List (List Ty)) (Fs : List Filter) (n : ℕ) (cs : List Ty) (F : Filter) (o y : ℕ) → slice_get css n ≡ Some cs → slice_get Fs n ≡ Some F
    → o < bits_of b cs → y ≡ first_bit b css n + o → value prec b css Fs y ≡ bit_in prec (length cs) F o
value_at prec b [] Fs n cs F o y e f l s = absurd (cc)
value_at prec b (ds ∷ css) [] n cs F o y e f l s = absurd (cc)
value_at prec b (ds ∷ css) (G ∷ Fs) zero cs F o y e f l s =
    let same : y ≡ o = omega (arith, s) in
    let types : ds ≡ cs = one_of e in
    let below : y < bits_of b ds = subst (λ ds. y < bits_of b ds) (sym types) (omega (arith, same, l)) in
    if_true (nat_lt y (bits_of b ds)) (bit_in prec (length ds) G y) (value prec b css Fs (y - bits_of b ds)) (lt-ltb y (bits_of b ds) below) ∙ ap₂ (λ ds F. bit_in prec (length ds) F y) types (one_of f) ∙ ap (bit_in prec (length cs) F) same
value_at prec b (ds ∷ css) (G ∷ Fs) (suc n) cs F o y e f l s =
    if_false (nat_lt y (bits_of b ds)) (bit_in prec (length ds) G y) (value prec b css Fs (y - bits_of b ds)) (le-ltb y (bits_of b ds) (omega (arith, s))) ∙ value_at prec b css Fs n cs F o (y - bits_of b ds) e f l (omega (arith, s))

increasing_below : (from n : ℕ) (is : List ℕ) (m i : ℕ) → IncreasingFrom from n is → slice_get is m ≡ Some i → i < n
increasing_below from n [] m i h e = absurd (cc)
increasing_below from n (j ∷ is) zero i h e = subst (λ j. j < n) (one_of e) h.1
increasing_below from n (j ∷ is) (suc m) i h e = increasing_below (suc j) n is m i h.2 e

increasing_above : (from n : ℕ) (is : List ℕ) (m i : ℕ) → IncreasingFrom from n is → slice_get is m ≡ Some i → from < suc i
increasing_above from n [] m i h e = absurd (cc)
increasing_above from n (j ∷ is) zero i h e = subst (λ j. from < suc j) (one_of e) h.0
increasing_above from n (j ∷ is) (suc m) i h e = omega (arith, h.0, increasing_above (suc j) n is m i h.2 e)

-- a lesser place stands further to the front
increasing_order : (from n : ℕ) (is : List ℕ) (a b i j : ℕ) → IncreasingFrom from n is → slice_get is a ≡ Some i → slice_get is b ≡ Some j → j < i → b < a
increasing_order from n [] a b i j h e f l = absurd (cc)
increasing_order from n (x ∷ is) zero zero i j h e f l = absurd (omega (arith, l, one_of e, one_of f))
increasing_order from n (x ∷ is) zero (suc b) i j h e f l = absurd (omega (arith, l, one_of e, increasing_above (suc x) n is b j h.2 f))
increasing_order from n (x ∷ is) (suc a) zero i j h e f l = omega arith
increasing_order from n (x ∷ is) (suc a) (suc b) i j h e f l = omega (arith, increasing_order (suc x) n is a b i j h.2 e f l)

-- where each bit is that of the filter, they say the filter
module _ (v : ℕ → Bool) (x : ℕ) (cs : List Ty) (F : Filter) (proper : IsProper cs F)
    (at : (o : ℕ) → o < length cs + length cs → v (x + o) ≡ filter_bit (length cs) F o) where
  abbrev k : ℕ
  k = length cs

  in_place : (p : ℕ) (is : List ℕ) (i m : ℕ) → F ≡ keep p is → slice_get is m ≡ Some i → i < k
  in_place p is i m e there = increasing_below 0 k is m i (subst (IsProper cs) e proper) there

  moved : (i : ℕ) → k + x + i ≡ x + (k + i)
  moved i = omega arith

  -- the bit of a place that is kept, and of one that is picked
  kept_bit : (i : ℕ) → i < k → v (x + i) ≡ filter_bit k F i
  kept_bit i l = at i (omega (arith, l))

  picked_bit : (i : ℕ) → i < k → v (k + x + i) ≡ filter_bit k F (k + i)
  picked_bit i l = ap v (moved i) ∙ at (k + i) (omega (arith, l))

  of_kept : (p : ℕ) (is : List ℕ) (o : ℕ) → F ≡ keep p is → filter_bit k F o ≡ has is o
  of_kept p is o e = ap (λ F. filter_bit k F o) e

  of_picked : (i o : ℕ) → F ≡ pick i → filter_bit k F o ≡ (o == k + i)
  of_picked i o e = ap (λ F. filter_bit k F o) e

  pub says : Says v x (length cs) F
  says = record {
    within = λ p is i e (m, there). in_place p is i m e there;
    in_order = λ p is a b i j e there also less. increasing_order 0 k is a b i j (subst (IsProper cs) e proper) there also less;
    kept = λ p is i e (m, there). kept_bit i (in_place p is i m e there) ∙ of_kept p is i e ∙ has_place is i m there;
    others = λ p is i e l set. place_has is i (sym (of_kept p is i e) ∙ sym (kept_bit i l) ∙ set);
    none_picked = λ p is i e l set. (
        let (m, there) = place_has is (k + i) (sym (of_kept p is (k + i) e) ∙ sym (picked_bit i l) ∙ set) in
        omega (arith, in_place p is (k + i) m e there));
    picked = λ i e. (
        let (s, there) = subst (IsProper cs) e proper in
        let below : i < k = below_at cs i (sort s) there in
        (below, picked_bit i below ∙ of_picked i (k + i) e ∙ eq-eqb (k + i) (k + i) refl));
    one_picked = λ i j e l set. (
        let same : k + j ≡ k + i = eqb-true (k + j) (k + i) (sym (of_picked i (k + j) e) ∙ sym (picked_bit j l) ∙ set) in
        omega (arith, same));
    none_kept = λ i j e l set. (
        let same : j ≡ k + i = eqb-true j (k + i) (sym (of_picked i j e) ∙ sym (kept_bit j l) ∙ set) in
        omega (arith, same, l));
  }

-- the bits in a table are those of the filter, and behind them those of precedences
pub first_part : (prec : ℕ → ℕ) (k : ℕ) (F : Filter) (o : ℕ) → o < k + k → bit_in prec k F o ≡ filter_bit k F o
first_part prec k F o l = if_true (nat_lt o (k + k)) (filter_bit k F o) (not (nat_lt (precedence F) (prec (o - (k + k))))) (lt-ltb o (k + k) l)

pub order_part : (prec : ℕ → ℕ) (k : ℕ) (F : Filter) (g : ℕ) → bit_in prec k F (k + k + g) ≡ not (nat_lt (precedence F) (prec g))
order_part prec k F g =
    let same : k + k + g - (k + k) ≡ g = omega arith in
    if_false (nat_lt (k + k + g) (k + k)) (filter_bit k F (k + k + g)) (not (nat_lt (precedence F) (prec (k + k + g - (k + k))))) (le-ltb (k + k + g) (k + k) (omega arith)) ∙ ap (λ g. not (nat_lt (precedence F) (prec g))) same

-- filters of symbols and of marked symbols in one list

pub symbol_filter : (ws : List WrittenFilter) (n : ℕ) → n < length ws → slice_get (map filter_of ws) n ≡ Some (filter_among ws n)
symbol_filter [] n l = absurd (omega (arith, l))
symbol_filter (w ∷ ws) zero l = refl
symbol_filter (w ∷ ws) (suc n) l = symbol_filter ws n (omega (arith, l))

increasing_first : (x : ℕ) (xs : List ℕ) (i f : ℕ) → IsIncreasing (x ∷ xs) → slice_get xs i ≡ Some f → x < f
increasing_first x [] i f h e = absurd (cc)
increasing_first x (y ∷ xs) zero f h e = subst (λ y. x < y) (one_of e) h.0
increasing_first x (y ∷ xs) (suc i) f h e = omega (arith, h.0, increasing_first y xs i f h.1 e)

increasing_rest : (x : ℕ) (xs : List ℕ) → IsIncreasing (x ∷ xs) → IsIncreasing xs
increasing_rest x [] h = tt
increasing_rest x (y ∷ xs) h = h.1

cond_true : {A : Type 0} (c : Bool) (x y : A) → c ≡ true → cond c x y ≡ x
cond_true c x y e = ap (λ c. cond c x y) e

cond_false : {A : Type 0} (c : Bool) (x y : A) → c ≡ false → cond c x y ≡ y
cond_false c x y e = ap (λ c. cond c x y) e

pub mark_filter_at : (ms : List MarkFilter) (i f : ℕ) → IsIncreasing (map (λ m. m.symbol) ms) → slice_get (map (λ m. m.symbol) ms) i ≡ Some f
    → slice_get (map (λ (m : MarkFilter). filter_of m.filter) ms) i ≡ Some (mark_among ms f)
mark_filter_at [] i f h e = absurd (cc)
mark_filter_at (m ∷ ms) zero f h e = ap Some (sym (cond_true (m.symbol == f) (filter_of m.filter) (mark_among ms f) (eq-eqb m.symbol f (one_of e))))
mark_filter_at (m ∷ ms) (suc i) f h e =
    let less : m.symbol < f = increasing_first m.symbol (map (λ (m : MarkFilter). m.symbol) ms) i f h e in
    mark_filter_at ms i f (increasing_rest m.symbol (map (λ (m : MarkFilter). m.symbol) ms) h) e
    ∙ ap Some (sym (cond_false (m.symbol == f) (filter_of m.filter) (mark_among ms f) (ne_eqb m.symbol f (λ s. omega (arith, less, s)))))

pub at_mapped : {A B : Type 0} (f : A → B) (xs : List A) (n : ℕ) (x : A) → slice_get xs n ≡ Some x → slice_get (map f xs) n ≡ Some (f x)
at_mapped f [] n x e = absurd (cc)
at_mapped f (y ∷ xs) zero x e = ap (λ y. Some (f y)) (one_of e)
at_mapped f (y ∷ xs) (suc n) x e = at_mapped f xs n x e

pub mapped_at : {A B : Type 0} (f : A → B) (xs : List A) (n : ℕ) (y : B) → slice_get (map f xs) n ≡ Some y → (x : A) × (slice_get xs n ≡ Some x) × (f x ≡ y)
mapped_at f [] n y e = absurd (cc)
mapped_at f (x ∷ xs) zero y e = (x, refl, one_of e)
mapped_at f (x ∷ xs) (suc n) y e = mapped_at f xs n y e

-- what stands in the front part of a list, and behind it
pub front_at : {A : Type 0} (xs ys : List A) (n : ℕ) (x : A) → n < length xs → slice_get (xs ++ ys) n ≡ Some x → slice_get xs n ≡ Some x
front_at [] ys n x l e = absurd (omega (arith, l))
front_at (z ∷ xs) ys zero x l e = e
front_at (z ∷ xs) ys (suc n) x l e = front_at xs ys n x (omega (arith, l)) e

pub back_at : {A : Type 0} (xs ys : List A) (n : ℕ) (x : A) → slice_get (xs ++ ys) (length xs + n) ≡ Some x → slice_get ys n ≡ Some x
back_at [] ys n x e = let same : 0 + n ≡ n = omega arith in subst (λ n. slice_get ys n ≡ Some x) same e
back_at (z ∷ xs) ys n x e =
    let same : suc (length xs) + n ≡ suc (length xs + n) = omega arith in
    back_at xs ys n x (subst (λ n. slice_get (z ∷ (xs ++ ys)) n ≡ Some x) same e)
