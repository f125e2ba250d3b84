-- Entries of pairs, one behind the other.
use Rattle.std.proofs.Common.{ℕ, zero, suc, ◌≡◌, ◌+◌, ◌-◌, ◌<◌, ◌≤◌, ◌⊎◌, ◌↔◌, inl, inr, List, [], ◌∷◌, ◌++◌, length, map, take, get_or, Contains, Some, slice_get, refl, sym, ap, ◌∙◌, subst, arith}
use Rattle.std.proofs.lemmas.List.{length-append, length-map, get_or_default}
use Rattle.std.proofs.lemmas.List.Elements.{Contains-append_left, Contains-append_cases}
use Rattle.std.proofs.lemmas.Option.{none-some, same_Some, slice_get_within, slice_get_read, get_or_from_slice_get}
use Rattle.wh_terms.specs.Tree.{Tm, bound}
use Rattle.wh_terms.specs.Erase.{tm}
use Rattle.wh_terms.specs.declared.term.Term.{Term}
use Rattle.wh_system.specs.Systems.{SystemData}
use Rattle.wh_pairs.specs.PairData.{PairData, pair_data}
use Rattle.wh_pairs.specs.declared.pair.Pair.{Pair}
use Rattle.wh_pairs.specs.SystemPairs.{HasPairs}
use Rattle.wh_pairs.proofs.ByPlace.{some_one, read_map, contains_at, place_of, unmap, remap}
use Rattle.wh_pairs.proofs.ListLemmas.{map_take}
use Rattle.wh_pairs.proofs.MemberLemmas.{image_there}
use Rattle.wh_intern.specs.Trees.{tree_at, IsPart}
use Rattle.wh_intern.specs.declared.sides.Sides.{Sides}
use Rattle.wh_intern_pairs.specs.NumberedSides.{AreNumbersOf, AreSidesOf, AreSides, IsPartOfOne, IsPartOfSides, Joins}
use Rattle.wh_intern_pairs.proofs.JoinLaws.{numbers_kept, of_all}
use Rattle.wh_intern_pairs.proofs.RuleSides.{one_left}

-- places

taken_back : {A : Type 0} (n k : ℕ) (xs : List A) (x : A) → slice_get (take n xs) k ≡ Some x → slice_get xs k ≡ Some x
taken_back zero k xs x e = absurd (none-some x e)
taken_back (suc n) k [] x e = e
taken_back (suc n) zero (y ∷ xs) x e = e
taken_back (suc n) (suc k) (y ∷ xs) x e = taken_back n k xs x e

last_or_front : {A : Type 0} (xs : List A) (y : A) (k : ℕ) (x : A) → slice_get (xs ++ y ∷ []) k ≡ Some x
    → (slice_get xs k ≡ Some x) ⊎ ((k ≡ length xs) × (y ≡ x))
last_or_front [] y zero x e = inr (refl, same_Some y x e)
last_or_front [] y (suc k) x e = absurd (none-some x e)
last_or_front (z ∷ xs) y zero x e = inl e
last_or_front (z ∷ xs) y (suc k) x e = go (last_or_front xs y k x e)
  where
    go : (slice_get xs k ≡ Some x) ⊎ ((k ≡ length xs) × (y ≡ x)) → (slice_get xs k ≡ Some x) ⊎ ((suc k ≡ suc (length xs)) × (y ≡ x))
    go (inl h) = inl h
    go (inr h) = inr (ap suc h.0, h.1)

-- entries that are kept

pub entry_kept : (a b : List Tm) (P : Tm → Type 0) (s : Sides) (p : PairData) → Joins a b P → AreSidesOf a s p → AreSidesOf b s p
entry_kept a b P s p j h = record {
  left_fun = h.left_fun;
  left = numbers_kept a b P s.left p.left j h.left;
  right_fun = h.right_fun;
  right = numbers_kept a b P s.right p.right j h.right;
}

pub no_sides : (ts : List Tm) → AreSides ts [] []
no_sides ts = record { long = refl; each = λ k s p at there. absurd (none-some s at) }

module _ (a b : List Tm) (P : Tm → Type 0) (j : Joins a b P) (done : List Sides) (qs : List PairData) (s : Sides) (q : PairData)
    (before : AreSides a done qs) (is : AreSidesOf b s q) where
  pick : (k : ℕ) (t : Sides) (p : PairData) → (slice_get done k ≡ Some t) ⊎ ((k ≡ length done) × (s ≡ t))
      → (slice_get qs k ≡ Some p) ⊎ ((k ≡ length qs) × (q ≡ p)) → AreSidesOf b t p
  pick k t p (inl at) (inl there) = entry_kept a b P t p j (before.each k t p at there)
  pick k t p (inl at) (inr last) = absurd (omega (arith, slice_get_within done k t at, last.0, before.long))
  pick k t p (inr last) (inl there) = absurd (omega (arith, slice_get_within qs k p there, last.0, before.long))
  pick k t p (inr last) (inr also) = subst (λ e. AreSidesOf b e p) last.1 (subst (AreSidesOf b s) also.1 is)

  sides_push : AreSides b (done ++ s ∷ []) (qs ++ q ∷ [])
  sides_push = record {
    long = omega (arith, length-append done (s ∷ []), length-append qs (q ∷ []), before.long);
    each = λ k t p at there. pick k t p (last_or_front done s k t at) (last_or_front qs q k p there);
  }

pub there_is : {A : Type 0} (xs : List A) (i : ℕ) → i < length xs → (x : A) × (slice_get xs i ≡ Some x)
there_is [] i within = absurd (omega (arith, within))
there_is (x ∷ xs) zero within = (x, refl)
there_is (x ∷ xs) (suc i) within = there_is xs i (omega (arith, within))

-- the entry of the pair at a place joins those before it
pub sides_next : (a b : List Tm) (P : Tm → Type 0) (xs : List Pair) (i : ℕ) (done new : List Sides) (s : Sides) → Joins a b P → i < length xs
    → AreSides a done (map pair_data (take i xs)) → ((p : PairData) → slice_get (map pair_data xs) i ≡ Some p → AreSidesOf b s p)
    → new ≡ done ++ s ∷ [] → AreSides b new (map pair_data (take (i + 1) xs))
sides_next a b P xs i done new s j within before is pushed =
    let (x, at) = there_is xs i within in
    let e : x ≡ get_or xs i x = sym (get_or_from_slice_get xs i x x at) in
    subst (λ l. AreSides b l (map pair_data (take (i + 1) xs))) (sym pushed)
    (subst (AreSides b (done ++ s ∷ [])) (sym (map_take pair_data xs i x within e))
    (sides_push a b P j done (map pair_data (take i xs)) s (pair_data x) before (is (pair_data x) (remap pair_data xs i x at))))

-- the numbers of the pair before, which is one of the same rule
pub left_taken : (d : SystemData) (a : List Tm) (xs : List Pair) (i : ℕ) (done : List Sides) (s : Sides) (p : PairData)
    → HasPairs d (map pair_data xs) → AreSides a done (map pair_data (take i xs)) → 0 < i → i - 1 < length done → s ≡ get_or done (i - 1) s
    → ((q r : PairData) → slice_get (map pair_data xs) (i - 1) ≡ Some q → slice_get (map pair_data xs) i ≡ Some r → q.rule ≡ r.rule)
    → slice_get (map pair_data xs) i ≡ Some p → AreNumbersOf a s.left p.left
left_taken d a xs i done s p has before some within is same at =
    let early : i - 1 < length (map pair_data (take i xs)) = omega (arith, before.long, within) in
    let (q, there) = there_is (map pair_data (take i xs)) (i - 1) early in
    let (x, front, e) = unmap pair_data (take i xs) (i - 1) q there in
    let whole : slice_get (map pair_data xs) (i - 1) ≡ Some q =
    remap pair_data xs (i - 1) x (taken_back i (i - 1) xs x front) ∙ ap (λ y. Some y) e in
    let entry = before.each (i - 1) s q (slice_get_read done (length done) (i - 1) s refl within is) there in
    subst (AreNumbersOf a s.left)
    (one_left d (map pair_data xs) q p has (contains_at (map pair_data xs) (i - 1) q whole) (contains_at (map pair_data xs) i p at) (same q p whole at))
    entry.left

taken_long : {A : Type 0} (n : ℕ) (xs : List A) → n ≤ length xs → length (take n xs) ≡ n
taken_long zero xs h = refl
taken_long (suc n) [] h = absurd (omega (arith, h))
taken_long (suc n) (x ∷ xs) h = ap suc (taken_long n xs (omega (arith, h)))

pub place_before : (a : List Tm) (xs : List Pair) (i : ℕ) (done : List Sides) → AreSides a done (map pair_data (take i xs)) → i < length xs
    → 0 < i → i - 1 < length done
place_before a xs i done before within some =
    omega (arith, before.long, length-map (take i xs) pair_data, taken_long i xs (omega (arith, within)), some)

-- the pair at a place
module _ (xs : List Pair) (i : ℕ) (x : Pair) (within : i < length xs) (is : x ≡ get_or xs i x) where
  pub left_parts : (us : List Term) → us ≡ x.left.value → (s : Tm) → IsPartOfOne (map tm us) s → IsPartOfSides (map pair_data xs) s
  left_parts us e s part = (pair_data x, image_there pair_data xs i x within is, inl (subst (λ vs. IsPartOfOne (map tm vs) s) e part))

  pub right_parts : (us : List Term) → us ≡ x.right → (s : Tm) → IsPartOfOne (map tm us) s → IsPartOfSides (map pair_data xs) s
  right_parts us e s part = (pair_data x, image_there pair_data xs i x within is, inr (subst (λ vs. IsPartOfOne (map tm vs) s) e part))

  the_pair : (p : PairData) → slice_get (map pair_data xs) i ≡ Some p → pair_data x ≡ p
  the_pair p at = some_one (read_map pair_data xs i x within is) at

pub left_made : (b : List Tm) (xs : List Pair) (i : ℕ) (x : Pair) → i < length xs → x ≡ get_or xs i x → (us : List Term) → us ≡ x.left.value → (ns : List ℕ)
    → AreNumbersOf b ns (map tm us) → (p : PairData) → slice_get (map pair_data xs) i ≡ Some p → AreNumbersOf b ns p.left
left_made b xs i x within is us e ns h p at =
    subst (λ (q : PairData). AreNumbersOf b ns q.left) (the_pair xs i x within is p at) (subst (λ vs. AreNumbersOf b ns (map tm vs)) e h)

pub entry_made : (b d : List Tm) (P : Tm → Type 0) (xs : List Pair) (i : ℕ) (x : Pair) → i < length xs → x ≡ get_or xs i x → (ns ms : List ℕ)
    (us : List Term) → us ≡ x.right → Joins b d P → ((p : PairData) → slice_get (map pair_data xs) i ≡ Some p → AreNumbersOf b ns p.left)
    → AreNumbersOf d ms (map tm us) → (p : PairData) → slice_get (map pair_data xs) i ≡ Some p
    → AreSidesOf d (record { left_fun = x.left_fun; left = ns; right_fun = x.right_fun; right = ms }) p
entry_made b d P xs i x within is ns ms us e j left right p at =
    subst (AreSidesOf d (record { left_fun = x.left_fun; left = ns; right_fun = x.right_fun; right = ms })) (the_pair xs i x within is p at) (record {
      left_fun = refl;
      left = numbers_kept b d P ns (map tm x.left.value) j (left (pair_data x) (read_map pair_data xs i x within is));
      right_fun = refl;
      right = subst (λ vs. AreNumbersOf d ms (map tm vs)) e right;
    })

-- what there is in the table where all pairs have their entries

number_of : (ts : List Tm) (ns : List ℕ) (us : List Tm) (i : ℕ) (u : Tm) → AreNumbersOf ts ns us → slice_get us i ≡ Some u
    → (n : ℕ) × (slice_get ts n ≡ Some u)
number_of ts [] [] i u e at = absurd (none-some u at)
number_of ts [] (v ∷ us) i u e at = absurd (cc)
number_of ts (n ∷ ns) [] i u e at = absurd (none-some u at)
number_of ts (n ∷ ns) (v ∷ us) zero u e at = let here : slice_get ts n ≡ Some v = cc in (n, here ∙ at)
number_of ts (n ∷ ns) (v ∷ us) (suc i) u e at = let rest : AreNumbersOf ts ns us = cc in number_of ts ns us i u rest at

number_of_part : (ts : List Tm) (ns : List ℕ) (us : List Tm) (s : Tm) → AreNumbersOf ts ns us → IsPartOfOne us s
    → (n : ℕ) × (n < length ts) × IsPart s (tree_at ts n)
number_of_part ts ns us s e (u, at, part) =
    let (i, there) = place_of us u at in
    let (n, is) = number_of ts ns us i u e there in
    (n, slice_get_within ts n u is, subst (IsPart s) (sym (get_or_from_slice_get ts n u (bound 0) is)) part)

number_of_side : (ts : List Tm) (sides : List Sides) (ps : List PairData) (s : Tm) → AreSides ts sides ps → IsPartOfSides ps s
    → (n : ℕ) × (n < length ts) × IsPart s (tree_at ts n)
number_of_side ts sides ps s are (p, at, part) =
    let (k, there) = place_of ps p at in
    let within : k < length sides = omega (arith, slice_get_within ps k p there, are.long) in
    let (e, here) = there_is sides k within in
    side e (are.each k e p here there) part
  where
    side : (e : Sides) → AreSidesOf ts e p → IsPartOfOne p.left s ⊎ IsPartOfOne p.right s → (n : ℕ) × (n < length ts) × IsPart s (tree_at ts n)
    side e h (inl left) = number_of_part ts e.left p.left s h.left left
    side e h (inr right) = number_of_part ts e.right p.right s h.right right

pub sides_joined : (a b : List Tm) (sides : List Sides) (ps : List PairData) → AreSides b sides ps → Joins a b (IsPartOfSides ps)
    → ((m : ℕ) (s : Tm) → m < length b → IsPart s (tree_at b m) → (k : ℕ) × (k < length b) × (tree_at b k ≡ s))
    → (s : Tm) → Contains b s ↔ (Contains a s ⊎ IsPartOfSides ps s)
sides_joined a b sides ps are j has s =
    (λ c. came (Contains-append_cases a j.parts s (subst (λ ts. Contains ts s) j.behind c)), there)
  where
    came : Contains a s ⊎ Contains j.parts s → Contains a s ⊎ IsPartOfSides ps s
    came (inl c) = inl c
    came (inr c) = inr (of_all (IsPartOfSides ps) j.parts s j.all c)

    there : Contains a s ⊎ IsPartOfSides ps s → Contains b s
    there (inl c) = subst (λ ts. Contains ts s) (sym j.behind) (Contains-append_left a j.parts s c)
    there (inr part) =
        let (n, within, is) = number_of_side b sides ps s are part in
        let (k, low, e) = has n s within is in
        (k, low, get_or_default b k s (bound 0) low ∙ e)
