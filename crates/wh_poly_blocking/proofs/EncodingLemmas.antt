-- The tables of the bits and of what is used.
use Rattle.std.proofs.Common.{◌≡◌, ◌↔◌, ℕ, zero, suc, ◌+◌, ◌*◌, ◌<◌, ◌≤◌, inl, inr, Bool, List, [], ◌∷◌, length, map, drop, Some, slice_get, Contains, refl, ap, sym, ◌∙◌, arith}
use Rattle.std.specs.Global.{Vec}
use Rattle.std.specs.List.{flat_map}
use Rattle.std.proofs.lemmas.Option.{get_or_from_slice_get, slice_get-get_or, slice_get_within}
use Rattle.std.proofs.lemmas.List.{get_or-drop, length-append, length-drop, length-map}
use Rattle.std.proofs.lemmas.List.Elements.{All-contains, Contains-append_cases, Contains-append_left, Contains-append_right}
use Rattle.wh_types.specs.Ty.{Ty, arguments}
use Rattle.wh_pairs.specs.PairData.{PairData}
use Rattle.wh_reduction_pairs.specs.TaskData.{TaskData}
use Rattle.wh_polycheck.specs.Covering.{IsTypedTask}
use Rattle.wh_pairs.proofs.ByPlace.{contains_at, place_of}
use Rattle.wh_polycheck.specs.Marks.{marked_types}
use Rattle.wh_poly_covering.proofs.Walks.{some_at}
use Rattle.wh_poly_guesses.specs.Coefficients.{scopes_of}
use Rattle.wh_poly_guesses.specs.Conditions.{Condition, covers_pair, some_strictly, IsCondition, of_rule, of_pair, of_set, UsesNumber}
use Rattle.wh_pairs.specs.Sets.{InSet}
use Rattle.wh_poly_space.specs.Space.{space_of}
use Rattle.wh_poly_guesses.specs.Uses.{AreAllUses, AreUsesIn}
use Rattle.wh_poly_guesses.specs.declared.uses.Uses.{Uses}
use Rattle.wh_poly_blocking.specs.Bits.{bits_of, bit_count, digits, first_bit, lists_by, lists_from}
use Rattle.wh_poly_blocking.specs.Numbers.{AreNumbers, on_sides}
use Rattle.wh_poly_blocking.specs.Sizes.{bits_in, first_of, lists_of}
use Rattle.wh_poly_blocking.proofs.BitLemmas.{first_all}
use Rattle.wh_poly_blocking.proofs.NumberLemmas.{contains_flat, flat_contains}

-- bits by sizes are bits by scopes

pub first_same : (scopes : List (List Ty)) (n : ℕ) → first_of (map (λ Γ. length (space_of Γ)) scopes) n ≡ first_bit scopes n
first_same [] n = refl
first_same (Γ ∷ scopes) zero = refl
first_same (Γ ∷ scopes) (suc n) = ap (λ m. 2 * length (space_of Γ) + m) (first_same scopes n)

pub lists_same : (v : ℕ → Bool) (x : ℕ) (scopes : List (List Ty)) → lists_of v x (map (λ Γ. length (space_of Γ)) scopes) ≡ lists_from v x scopes
lists_same v x [] = refl
lists_same v x (Γ ∷ scopes) = ap (λ l. digits v x (length (space_of Γ)) ∷ l) (lists_same v (bits_of Γ + x) scopes)

-- all bits lie before the last one
pub bit_within : (scopes : List (List Ty)) (n : ℕ) → first_bit scopes n ≤ bit_count scopes
bit_within [] n = omega arith
bit_within (Γ ∷ scopes) zero = omega arith
bit_within (Γ ∷ scopes) (suc n) = omega (arith, bit_within scopes n)

-- there are as many scopes as symbols and marked ones
pub scopes_long : (T : TaskData) (marked : List ℕ) → length (scopes_of T marked) ≡ length T.symbols.funs + length marked
scopes_long T marked =
    omega (
      arith,
      length-append (map arguments T.symbols.funs) (map (marked_types T.symbols T.rules) marked),
      length-map T.symbols.funs arguments,
      length-map marked (marked_types T.symbols T.rules),
    )

-- what is used has a scope
pub uses_within : (T : TaskData) (marked : List ℕ) (c : Condition) (n : ℕ) → UsesNumber T marked c n → n < length (scopes_of T marked)
uses_within T marked c n (inl (less, uses)) = omega (arith, less, scopes_long T marked)
uses_within T marked c n (inr (i, f, is, at, uses)) = omega (arith, is, slice_get_within marked i f at, scopes_long T marked)

pub via : {A B C : Type 0} → A ↔ B → B ↔ C → A ↔ C
via p q = (λ a. q.0 (p.0 a), λ c. p.1 (q.1 c))

-- what is used in the condition that a pair is covered is used in the last one
strict_uses : (T : TaskData) (marked : List ℕ) (p : PairData) (n : ℕ) → InSet T.pairs T.set p
    → UsesNumber T marked (covers_pair p) n → UsesNumber T marked some_strictly n
strict_uses T marked p n of (inl (less, stands)) = inl (less, (p, of, stands))
strict_uses T marked p n of (inr (i, f, is, at, heads)) = inr (i, f, is, at, (p, of, heads))

-- and the other way round
uses_strict : (T : TaskData) (marked : List ℕ) (n : ℕ) → UsesNumber T marked some_strictly n
    → (p : PairData) × InSet T.pairs T.set p × UsesNumber T marked (covers_pair p) n
uses_strict T marked n (inl (less, (p, of, stands))) = (p, of, inl (less, stands))
uses_strict T marked n (inr (i, f, is, at, (p, of, heads))) = (p, of, inr (i, f, is, at, heads))

-- an element behind the first ones
slice_get_drop : {A : Type 0} (xs : List A) (n i : ℕ) (x : A) → slice_get xs (n + i) ≡ Some x → slice_get (drop n xs) i ≡ Some x
slice_get_drop xs n i x at =
    let within = slice_get_within xs (n + i) x at in
    slice_get-get_or (drop n xs) i x (omega (arith, within, length-drop n xs)) ∙ ap Some (get_or-drop n xs i x ∙ get_or_from_slice_get xs (n + i) x x at)

drop_slice_get : {A : Type 0} (xs : List A) (n i : ℕ) (x : A) → slice_get (drop n xs) i ≡ Some x → slice_get xs (n + i) ≡ Some x
drop_slice_get xs n i x at =
    let within = slice_get_within (drop n xs) i x at in
    slice_get-get_or xs (n + i) x (omega (arith, within, length-drop n xs)) ∙ ap Some (sym (get_or-drop n xs i x) ∙ get_or_from_slice_get (drop n xs) i x x at)

module _ (T : TaskData) (marked : List ℕ) (uses : List Uses) (numbers : List (Vec ℕ)) (typed : IsTypedTask T) (are : AreAllUses T marked uses)
    (tables : AreNumbers (length T.covered) uses numbers) where
  sides_used : (c : Condition) (u : Uses) → AreUsesIn T marked c u → (n : ℕ) → Contains (on_sides u) n ↔ UsesNumber T marked c n
  sides_used c u is n = (
    λ found. (is n).0 (Contains-append_cases u.left.items u.right.items n found),
    λ used. elim ((is n).1 used) [
      | inl left ↦ Contains-append_left u.left.items u.right.items n left
      | inr right ↦ Contains-append_right u.left.items u.right.items n right
    ],
  )

  one_used : (k : ℕ) (c : Condition) (ns : Vec ℕ) → IsCondition T k c → k < length uses → slice_get numbers k ≡ Some ns
      → (n : ℕ) → Contains ns.items n ↔ UsesNumber T marked c n
  one_used k c ns is within at n =
      let (u, used) = some_at uses k within in
      via (tables.each k u ns used at n) (sides_used c u (are.each k c u is used) n)

  all_used : (n : ℕ) → Contains (flat_map on_sides (drop (length T.covered) uses)) n ↔ UsesNumber T marked some_strictly n
  all_used n = (
    λ found.
        let (u, there, here) = flat_contains on_sides (drop (length T.covered) uses) n found in
        let (i, at) = place_of (drop (length T.covered) uses) u there in
        let used = drop_slice_get uses (length T.covered) i u at in
        let inside : i < length T.set = omega (arith, slice_get_within uses (length T.covered + i) u used, are.count) in
        let (m, at_set) = some_at T.set i inside in
        let below : m < length T.pairs = All-contains (λ k. k < length T.pairs) T.set m typed.task.within (contains_at T.set i m at_set) in
        let (p, at_pair) = some_at T.pairs m below in
        strict_uses T marked p n (m, contains_at T.set i m at_set, at_pair)
        ((sides_used (covers_pair p) u (are.each (length T.covered + i) (covers_pair p) u (of_pair i m p at_set at_pair) used) n).0 here),
    λ uses'.
        let (p, (m, found, at_pair), uses_pair) = uses_strict T marked n uses' in
        let (i, at_set) = place_of T.set m found in
        let (u, used) = some_at uses (length T.covered + i) (omega (arith, slice_get_within T.set i m at_set, are.count)) in
        let here = (sides_used (covers_pair p) u (are.each (length T.covered + i) (covers_pair p) u (of_pair i m p at_set at_pair) used) n).1 uses_pair in
        contains_flat on_sides (drop (length T.covered) uses) n i u (slice_get_drop uses (length T.covered) i u used) here,
  )

  -- for each condition the table has the numbers of what is used in it
  pub numbers_used : (k : ℕ) (c : Condition) (ns : Vec ℕ) → IsCondition T k c → slice_get numbers k ≡ Some ns
      → (n : ℕ) → Contains ns.items n ↔ UsesNumber T marked c n
  numbers_used k c ns (of_rule k' m r place at) here n =
      one_used k c ns (of_rule k m r place at) (omega (arith, slice_get_within T.covered k m place, are.count)) here n
  numbers_used k c ns (of_pair i m p at_set at_pair) here n =
      one_used (length T.covered + i) (covers_pair p) ns (of_pair i m p at_set at_pair) (omega (arith, slice_get_within T.set i m at_set, are.count)) here n
  numbers_used k c ns of_set here n = via (tables.last ns (ap (slice_get numbers) are.count ∙ here) n) (all_used n)

  pub numbers_long : length numbers ≡ length T.covered + length T.set + 1
  numbers_long = tables.count ∙ ap (λ n. n + 1) are.count

-- there is a table of each condition
pub condition_within : (T : TaskData) (k : ℕ) (c : Condition) → IsCondition T k c → k < length T.covered + length T.set + 1
condition_within T k c (of_rule k' m r place at) = omega (arith, slice_get_within T.covered k m place)
condition_within T k c (of_pair i m p at_set at_pair) = omega (arith, slice_get_within T.set i m at_set)
condition_within T k c of_set = omega arith

-- how many bits there are, by sizes
pub first_total : (scopes : List (List Ty)) (sizes : List ℕ) → sizes ≡ map (λ Γ. length (space_of Γ)) scopes → first_of sizes (length sizes) ≡ bit_count scopes
first_total scopes sizes is =
    ap (λ l. first_of l (length l)) is ∙ first_same scopes (length (map (λ Γ. length (space_of Γ)) scopes))
    ∙ ap (first_bit scopes) (length-map scopes (λ Γ. length (space_of Γ)))

pub bits_total : (scopes : List (List Ty)) (sizes : List ℕ) → sizes ≡ map (λ Γ. length (space_of Γ)) scopes → bits_in sizes ≡ bit_count scopes
bits_total scopes sizes is = sym (first_all sizes) ∙ first_total scopes sizes is

pub sizes_long : (scopes : List (List Ty)) (sizes : List ℕ) → sizes ≡ map (λ Γ. length (space_of Γ)) scopes → length sizes ≡ length scopes
sizes_long scopes sizes is = ap length is ∙ length-map scopes (λ Γ. length (space_of Γ))

-- there is a list for each scope
pub lists_long : (v : ℕ → Bool) (x : ℕ) (scopes : List (List Ty)) → length (lists_from v x scopes) ≡ length scopes
lists_long v x [] = refl
lists_long v x (Γ ∷ scopes) = ap suc (lists_long v (bits_of Γ + x) scopes)

pub lists_are : (scopes : List (List Ty)) (sizes : List ℕ) (v : ℕ → Bool) (lists : List (List ℕ)) → sizes ≡ map (λ Γ. length (space_of Γ)) scopes
    → lists ≡ lists_of v 0 sizes → lists ≡ lists_by v scopes
lists_are scopes sizes v lists is by = by ∙ ap (lists_of v 0) is ∙ lists_same v 0 scopes
