-- Rules and pairs one after another.
use Rattle.std.proofs.Common.{◌≡◌, ℕ, zero, suc, ◌+◌, ◌<◌, ◌≤◌, ◌==◌, if◌then◌else◌, nat_lt, ◌⊎◌, inl, inr, Bool, true, false, List, [], ◌∷◌, ◌++◌, length, take, get_or, sum_by, Some, slice_get, refl, ap, sym, subst, ◌∙◌, arith, tests}
use Rattle.std.proofs.lemmas.Option.{none-some, same_Some}
use Rattle.std.proofs.lemmas.Bool.{cases_eq}
use Rattle.std.proofs.lemmas.List.Sums.{sum_by-cons}
use Rattle.wh_sat_trail.specs.declared.literal.Literal.{Literal}
use Rattle.wh_terms.specs.Rules.{RewriteRule}
use Rattle.wh_pairs.specs.PairData.{PairData}
use Rattle.wh_pairs.proofs.ByPlace.{some_one}
use Rattle.wh_circuit.specs.declared.circuit.Circuit.{Circuit}
use Rattle.wh_circuit.specs.declared.circuit.Gate.{Gate}
use Rattle.wh_circuit.specs.Gates.{Means}
use Rattle.wh_circuit.proofs.Gating.{at_left, at_last}
use Rattle.wh_poly_flat.specs.Worth.{IsAtLeast, constant_of}
use Rattle.wh_poly_flat.specs.Dominance.{place_among}
use Rattle.wh_find_flat.specs.Lists.{lists_for}
use Rattle.wh_find_flat.specs.Numbers.{Later, AreInputs, Asks}
use Rattle.wh_find_flat.specs.Ready.{RuleHolds, PairHolds, TellsGreater, left_of, right_of}
use Rattle.wh_find_flat.proofs.AskLemmas.{asks_built, asks_more, asks_same}
use Rattle.wh_find_flat.proofs.Growth.{builds_none, wire_later}

pub sum_next : {A : Type 0} (f : A → ℕ) (xs : List A) (i : ℕ) (x : A) → slice_get xs i ≡ Some x → sum_by f (take (i + 1) xs) ≡ sum_by f (take i xs) + f x
sum_next f [] i x e = absurd (none-some x e)
sum_next f (y ∷ xs) zero x e = let s = ap f (same_Some y x e) in let z : 0 + 1 ≡ 1 = omega arith in
    ap (λ k. sum_by f (take k (y ∷ xs))) z ∙ (let t : 0 + f y ≡ 0 + f x = omega (arith, s) in t)
sum_next f (y ∷ xs) (suc i) x e =
    let s = sum_next f xs i x e in
    let k : suc i + 1 ≡ suc (i + 1) = omega arith in
    ap (λ k. sum_by f (take k (y ∷ xs))) k ∙ sum_by-cons f y (take (i + 1) xs)
    ∙ (let t : f y + sum_by f (take (i + 1) xs) ≡ (f y + sum_by f (take i xs)) + f x = omega (arith, s) in t)
    ∙ ap (λ n. n + f x) (sym (sum_by-cons f y (take i xs)))

pub sum_all : {A : Type 0} (f : A → ℕ) (xs : List A) (i : ℕ) → length xs ≤ i → sum_by f (take i xs) ≡ sum_by f xs
sum_all f [] zero h = refl
sum_all f [] (suc i) h = refl
sum_all f (x ∷ xs) zero h = absurd (omega (arith, h))
sum_all f (x ∷ xs) (suc i) h =
    sum_by-cons f x (take i xs) ∙ ap (λ n. f x + n) (sum_all f xs i (omega (arith, h))) ∙ sym (sum_by-cons f x xs)

pub rule_asks : (a b c : Circuit) (sizes : List ℕ) (rules : List RewriteRule) (listed : List ℕ) (k n : ℕ) (r : RewriteRule)
    → slice_get listed k ≡ Some n → slice_get rules n ≡ Some r
    → Asks a b (λ v. (j : ℕ) → j < k → RuleHolds sizes rules listed v j) → Asks b c (λ v. IsAtLeast (lists_for sizes v) r.left r.right)
    → Asks a c (λ v. (j : ℕ) → j < k + 1 → RuleHolds sizes rules listed v j)
rule_asks a b c sizes rules listed k n r at there g h = asks_more a b c (RuleHolds sizes rules listed) k g
    (asks_same b c (λ v. IsAtLeast (lists_for sizes v) r.left r.right) (λ v. RuleHolds sizes rules listed v k) h
    (λ v p m s e f. subst (λ (s : RewriteRule). IsAtLeast (lists_for sizes v) s.left s.right)
    (some_one there (subst (λ m. slice_get rules m ≡ Some s) (some_one e at) f)) p) (λ v q. q n r at there))

pub pair_asks : (a b c : Circuit) (sizes : List ℕ) (first : ℕ) (marked : List ℕ) (pairs : List PairData) (set : List ℕ) (k n : ℕ) (p : PairData)
    → slice_get set k ≡ Some n → slice_get pairs n ≡ Some p
    → Asks a b (λ v. (j : ℕ) → j < k → PairHolds sizes first marked pairs set v j)
    → Asks b c (λ v. IsAtLeast (lists_for sizes v) (left_of first marked p) (right_of first marked p))
    → Asks a c (λ v. (j : ℕ) → j < k + 1 → PairHolds sizes first marked pairs set v j)
pair_asks a b c sizes first marked pairs set k n p at there g h = asks_more a b c (PairHolds sizes first marked pairs set) k g
    (asks_same b c (λ v. IsAtLeast (lists_for sizes v) (left_of first marked p) (right_of first marked p)) (λ v. PairHolds sizes first marked pairs set v k) h
    (λ v h m q e f. subst (λ (q : PairData). IsAtLeast (lists_for sizes v) (left_of first marked q) (right_of first marked q))
    (some_one there (subst (λ m. slice_get pairs m ≡ Some q) (some_one e at) f)) h) (λ v q. q n p at there))

-- wires that tell greater sides stay, and one more joins

pub greater_later : (xs ys : List Gate) (sizes : List ℕ) (first : ℕ) (marked : List ℕ) (pairs : List PairData) (set : List ℕ) (k : ℕ) (w : Literal) → Later xs ys
    → TellsGreater sizes first marked pairs set xs k w → TellsGreater sizes first marked pairs set ys k w
greater_later xs ys sizes first marked pairs set k w l t n p e f = wire_later xs ys w _ l (t n p e f)

pub greater_here : (gates : List Gate) (sizes : List ℕ) (first : ℕ) (marked : List ℕ) (pairs : List PairData) (set : List ℕ) (k n : ℕ) (p : PairData) (w : Literal)
    → slice_get set k ≡ Some n → slice_get pairs n ≡ Some p
    → Means gates w (λ v. nat_lt (constant_of (lists_for sizes v) (right_of first marked p)) (constant_of (lists_for sizes v) (left_of first marked p)))
    → TellsGreater sizes first marked pairs set gates k w
greater_here gates sizes first marked pairs set k n p w at there means m q e f =
    subst (λ (q : PairData). Means gates w (λ v. nat_lt (constant_of (lists_for sizes v) (right_of first marked q)) (constant_of (lists_for sizes v) (left_of first marked q))))
    (some_one there (subst (λ m. slice_get pairs m ≡ Some q) (some_one e at) f)) means

-- a list with one more element at the end
pub last_or_before : {A : Type 0} (xs : List A) (x y : A) (k : ℕ) → slice_get (xs ++ x ∷ []) k ≡ Some y → (slice_get xs k ≡ Some y) ⊎ ((k ≡ length xs) × (x ≡ y))
last_or_before [] x y zero e = inr (refl, same_Some x y e)
last_or_before [] x y (suc k) e = absurd (none-some y e)
last_or_before (z ∷ xs) x y zero e = inl e
last_or_before (z ∷ xs) x y (suc k) e = elim (last_or_before xs x y k e) [ inl h ↦ inl h | inr (l, h) ↦ inr (omega (arith, l), h) ]

pub greater_more : (xs ys : List Gate) (sizes : List ℕ) (first : ℕ) (marked : List ℕ) (pairs : List PairData) (set : List ℕ) (wires : List Literal) (w : Literal)
    (i : ℕ) → Later xs ys → length wires ≡ i → ((k : ℕ) (w : Literal) → slice_get wires k ≡ Some w → TellsGreater sizes first marked pairs set xs k w)
    → TellsGreater sizes first marked pairs set ys i w
    → (k : ℕ) (u : Literal) → slice_get (wires ++ w ∷ []) k ≡ Some u → TellsGreater sizes first marked pairs set ys k u
greater_more xs ys sizes first marked pairs set wires w i l long before here k u e = elim (last_or_before wires w u k e) [
  | inl h ↦ greater_later xs ys sizes first marked pairs set k u l (before k u h)
  | inr (last, same) ↦
      let at : i ≡ k = sym (last ∙ long) in
      subst (λ k. TellsGreater sizes first marked pairs set ys k u) at (subst (λ u. TellsGreater sizes first marked pairs set ys i u) same here)
]

-- inputs

pub input_more : (n : ℕ) (gates : List Gate) (g : Gate) → length gates ≡ n → g.is_input ≡ true → AreInputs n gates → AreInputs (n + 1) (gates ++ g ∷ [])
input_more n gates g long is before k less = elim (cases_eq k n) [
  | inl e ↦ (g, subst (λ k. slice_get (gates ++ g ∷ []) k ≡ Some g) (long ∙ sym e) (at_last gates g), is)
  | inr ne ↦ let (h, at, i) = before k (omega (arith, less, ne)) in (h, at_left gates g h k at, i)
]

-- places of symbols

pub place_here : (g f : ℕ) (rest : List ℕ) → g ≡ f → place_among (g ∷ rest) f ≡ 0
place_here g f rest e = let h : (g == f) ≡ true = grind (arith, tests, e) in ap (λ b. if b then 0 else suc (place_among rest f)) h

pub place_past : (g f : ℕ) (rest : List ℕ) → (g ≡ f → ⊥) → place_among (g ∷ rest) f ≡ suc (place_among rest f)
place_past g f rest ne = let h : (g == f) ≡ false = grind (arith, tests, ne) in ap (λ b. if b then 0 else suc (place_among rest f)) h

pub place_within : (marked : List ℕ) (f : ℕ) → place_among marked f ≤ length marked
place_within [] f = omega arith
place_within (g ∷ marked) f = go (g == f) (place_within marked f)
  where
    go : (b : Bool) → place_among marked f ≤ length marked → (if b then 0 else suc (place_among marked f)) ≤ length (g ∷ marked)
    go true h = omega arith
    go false h = omega (arith, h)

-- an element that is there
pub element : {A : Type 0} (xs : List A) (i : ℕ) (x : A) → x ≡ get_or xs i x → i < length xs → slice_get xs i ≡ Some x
element [] i x e h = absurd (omega (arith, h))
element (y ∷ xs) zero x e h = ap Some (sym e)
element (y ∷ xs) (suc i) x e h = element xs i x e (omega (arith, h))

-- nothing is required yet
pub asks_nothing : (a : Circuit) (F : (ℕ → Bool) → ℕ → Type 0) → Asks a a (λ v. (k : ℕ) → k < 0 → F v k)
asks_nothing a F = asks_built 0 a a (λ v. (k : ℕ) → k < 0 → F v k) (builds_none 0 a) (λ v k h. absurd (omega (arith, h)))
