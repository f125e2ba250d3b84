-- The rules of the symbols that are called are in each closed list, and they are closed if some list is.
use Rattle.std.proofs.Common.{◌≡◌, ℕ, zero, suc, ◌+◌, ◌<◌, ◌≤◌, inl, inr, List, [], ◌∷◌, length, All, Contains, Some, get_or, refl, ap, ap₂, sym, subst, ◌∙◌, arith}
use Rattle.std.proofs.lemmas.Option.{slice_get_within, slice_get-get_or, get_or_from_slice_get}
use Rattle.std.proofs.lemmas.List.Elements.{All-contains}
use Rattle.wh_terms.specs.Tree.{Tm, fun, head, tms_of}
use Rattle.wh_terms.specs.Rules.{RewriteRule}
use Rattle.wh_pairs.specs.PairData.{IsIncreasing}
use Rattle.wh_pairs.proofs.ByPlace.{some_one, contains_at}
use Rattle.wh_pairs.proofs.Increasing.{increasing_rest, increasing_at}
use Rattle.wh_pairs.proofs.SetLemmas.{all_from_members}
use Rattle.wh_reduction_pairs.specs.TaskData.{TaskData, CoversAll, numbers_from}
use Rattle.wh_reduction_pairs.proofs.Numbers.{numbers_at}
use Rattle.wh_usable.specs.Closed.{HaveSymbol, ListsRulesOf, ListsRulesInEach, AreClosedRules, AreClosedPairs, IsClosed, IsUsable}
use Rattle.wh_usable_rules.specs.Called.{from, by_rule, IsCalled, AreRulesOfCalled}
use Rattle.wh_usable_rules.specs.Least.{covering, IsOnlyWhole}

-- lists of trees

module _ (rules : List RewriteRule) (listed : List ℕ) where
  in_each : (ts : List Tm) → ListsRulesInEach rules listed ts → (f : ℕ) → HaveSymbol f (tms_of ts) → ListsRulesOf rules listed f
  in_each [] all f has = absurd has
  in_each (t ∷ ts) all f (inl here) = all.0 f here
  in_each (t ∷ ts) all f (inr later) = in_each ts all.1 f later

  each_in : (ts : List Tm) → ((f : ℕ) → HaveSymbol f (tms_of ts) → ListsRulesOf rules listed f) → ListsRulesInEach rules listed ts
  each_in [] all = tt
  each_in (t ∷ ts) all = (λ f here. all f (inl here), each_in ts (λ f later. all f (inr later)))

-- a list that is closed for the set

module _ (T : TaskData) (other : List ℕ) (rules : AreClosedRules (covering T other)) (pairs : AreClosedPairs (covering T other)) where
  pub lists_called : {f : ℕ} → IsCalled T f → ListsRulesOf T.rules other f
  lists_called (from f (p, inside, has)) = in_each T.rules other p.right (pairs p inside).calls f has
  lists_called (by_rule n r g f at heads called has) = (rules n r (lists_called called n r at heads) at).calls f has

  pub in_closed : (listed : List ℕ) → AreRulesOfCalled (covering T listed) → (n : ℕ) → Contains listed n → Contains other n
  in_closed listed are n found = let (r, f, at, heads, called) = are.of_called n found in lists_called called n r at heads

  pub called_closed : (listed : List ℕ) → AreRulesOfCalled (covering T listed) → IsClosed (covering T listed)
  called_closed listed are = inr (
    λ n r found at.
        let is = rules n r (in_closed listed are n found) at in
        let (q, g, there, heads, called) = are.of_called n found in
        let head_is : head r.left ≡ fun g = subst (λ (x : RewriteRule). head x.left ≡ fun g) (some_one there at) heads in
        record {
          of_a_sort = is.of_a_sort;
          left = is.left;
          right = is.right;
          calls = λ f has. are.all f (by_rule n r g f at head_is called has);
        },
    λ p inside.
        let is = pairs p inside in
        record {
          left_head = is.left_head;
          right_head = is.right_head;
          left = is.left;
          right = is.right;
          calls = each_in T.rules listed p.right (λ f has. are.all f (from f (p, inside, has)));
        },
  )

-- increasing numbers below a bound, each of which is among them, are all of them

member_at : (ns : List ℕ) (n : ℕ) → Contains ns n → (i : ℕ) × (i < length ns) × (get_or ns i 0 ≡ n)
member_at ns n (i, within, at) = (i, within, get_or_from_slice_get ns i n 0 (slice_get-get_or ns i n within ∙ ap Some at))

above_first : (n : ℕ) (ns : List ℕ) (m : ℕ) → IsIncreasing (n ∷ ns) → Contains ns m → n < m
above_first n ns m up found =
    let (i, within, at) = member_at ns m found in
    let above = increasing_at (n ∷ ns) 0 (suc i) up (omega arith) (omega (arith, within)) in omega (arith, above, at)

later : (n : ℕ) (ns : List ℕ) (m : ℕ) → Contains ns m → Contains (n ∷ ns) m
later n ns m (i, within, at) = (suc i, omega (arith, within), at)

in_rest : (n : ℕ) (ns : List ℕ) (m : ℕ) → n < m → Contains (n ∷ ns) m → Contains ns m
in_rest n ns m above (zero, within, at) = absurd (omega (arith, above, at))
in_rest n ns m above (suc i, within, at) = (i, omega (arith, within), at)

first_is : (n : ℕ) (ns : List ℕ) (a : ℕ) → IsIncreasing (n ∷ ns) → a ≤ n → Contains (n ∷ ns) a → n ≡ a
first_is n ns a up le (zero, within, at) = at
first_is n ns a up le (suc i, within, at) =
    let above = above_first n ns a up (i, omega (arith, within), at) in absurd (omega (arith, above, le))

same_numbers : (ns : List ℕ) (a k : ℕ) → IsIncreasing ns → ((m : ℕ) → Contains ns m → (a ≤ m) × (m < a + k))
    → ((m : ℕ) → a ≤ m → m < a + k → Contains ns m) → ns ≡ numbers_from a k
same_numbers [] a zero up within all = refl
same_numbers [] a (suc k) up within all = let (i, below, at) = all a (omega arith) (omega arith) in absurd (omega (arith, below))
same_numbers (n ∷ ns) a zero up within all = let (le, less) = within n (0, omega arith, refl) in absurd (omega (arith, le, less))
same_numbers (n ∷ ns) a (suc k) up within all =
    let (le, less) = within n (0, omega arith, refl) in
    let same : n ≡ a = first_is n ns a up le (all a (omega arith) (omega arith)) in
    ap₂ (λ m ms. m ∷ ms) same
    (same_numbers ns (suc a) k (increasing_rest n ns up)
    (λ m found. (
      let above = above_first n ns m up found in omega (arith, above, same),
      let bounds = within m (later n ns m found) in omega (arith, bounds.1),
    ))
    (λ m low below. in_rest n ns m (omega (arith, low, same)) (all m (omega (arith, low)) (omega (arith, below)))))

all_have : (k n : ℕ) → n < k → Contains (numbers_from 0 k) n
all_have k n less = let same : 0 + n ≡ n = omega arith in contains_at (numbers_from 0 k) n n (numbers_at 0 k n less ∙ ap Some same)

-- the list of the rules of the symbols that are called

module _ (T : TaskData) (listed : List ℕ) (are : AreRulesOfCalled (covering T listed)) where
  pub least_is : (other : List ℕ) → IsUsable (covering T other) → (n : ℕ) → Contains listed n → Contains other n
  least_is other usable n found = elim usable.closed [
    | inl whole ↦
        let (r, f, at, heads, called) = are.of_called n found in
        let within = slice_get_within T.rules n r at in
        subst (λ (l : List ℕ). Contains l n) (sym whole)
        (all_have (length T.rules) n within)
    | inr closed ↦ in_closed T other closed.0 closed.1 listed are n found
  ]

  pub are_rules : All (λ n. n < length T.rules) listed
  are_rules = all_from_members (λ n. n < length T.rules) listed (λ n found. let (r, f, at, heads, called) = are.of_called n found in slice_get_within T.rules n r at)

  -- where these are all rules, each closed list has all of them
  pub only_whole : CoversAll (covering T listed) → IsOnlyWhole T
  only_whole all other usable =
      same_numbers other 0 (length T.rules) usable.increasing
      (λ m found. (omega arith, let below = All-contains (λ n. n < length T.rules) other m usable.are_rules found in omega (arith, below)))
      (λ m low below.
      least_is other usable m (subst (λ (l : List ℕ). Contains l m) (sym all)
      (all_have (length T.rules) m (omega (arith, below)))))

  -- and so it is where they are not closed
  pub none_closed : (IsClosed (covering T listed) → ⊥) → IsOnlyWhole T
  none_closed not_closed other usable = elim usable.closed [
    | inl whole ↦ whole
    | inr closed ↦ absurd (not_closed (called_closed T other closed.0 closed.1 listed are))
  ]
