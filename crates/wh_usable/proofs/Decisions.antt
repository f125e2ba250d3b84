-- A list of rules is closed for a set, or some rule or pair is the first for which it is not.
use Rattle.std.proofs.Common.{◌≡◌, ℕ, ◌<◌, ◌⊎◌, inl, inr, List, [], ◌∷◌, Contains, Option, Some, None, slice_get, length, refl, ap, sym, subst, ◌∙◌, arith}
use Rattle.std.proofs.lemmas.Option.{slice_get_within}
use Rattle.std.proofs.lemmas.Bool.{cases_lt}
use Rattle.wh_types.specs.Ty.{Ty, sort, ◌⇒◌, arguments}
use Rattle.wh_terms.specs.Tree.{Tm, bound, free, fun, meta, lam, app, head, Tms, none, more}
use Rattle.wh_terms.specs.Typing.{Symbols, Declared, Typed}
use Rattle.wh_terms.specs.Rules.{RewriteRule}
use Rattle.wh_terms.proofs.TypingLaws.{typed_one}
use Rattle.wh_system.proofs.TypedDecided.{Decided, HasType, below_decided, decided_by, both_decided, same_type_decided, typed_decided}
use Rattle.wh_pairs.specs.PairData.{PairData, IsIncreasing}
use Rattle.wh_pairs.proofs.ByPlace.{some_one, contains_at}
use Rattle.wh_pairs.proofs.Searches.{all_decided, not_decided, not_refuted, equal_decided, list_decided, member_decided, some_below, first_place}
use Rattle.wh_reduction_pairs.specs.TaskData.{TaskData, numbers_from}
use Rattle.wh_hopoly.specs.Evaluation.{type_at}
use Rattle.wh_polycheck.specs.Marks.{marked_types}
use Rattle.wh_usable_first_order.specs.FirstOrder.{AreSorts, IsNullary, IsFlatTree, AreFlatTrees}
use Rattle.wh_usable.specs.Closed.{AreRulesInOrder, HaveSymbol, ListsRulesOf, ListsRulesIn, ListsRulesInEach, IsClosedRule, IsClosedPair, AreClosedPairs, IsClosed}
use Rattle.wh_usable.specs.Open.{IsFirstNot, IsFirstOpen}
use Rattle.wh_usable.specs.declared.closed.NotClosed.{NotClosed}
use Rattle.wh_usable.specs.declared.closed.NotClosed.TheVariants.{Rule, Pair}
use Rattle.wh_usable.proofs.Firsts.{IsAt, is_at}
use Rattle.wh_usable.proofs.TableLemmas.{symbol_is}

-- lists of rules in order

increasing_decided : (numbers : List ℕ) → Decided (IsIncreasing numbers)
increasing_decided [] = inl tt
increasing_decided (n ∷ []) = inl tt
increasing_decided (m ∷ n ∷ rest) = both_decided (below_decided m n) (increasing_decided (n ∷ rest))

pub in_order_decided : (count : ℕ) (numbers : List ℕ) → Decided (AreRulesInOrder count numbers)
in_order_decided count numbers =
    both_decided (increasing_decided numbers) (all_decided (λ n. n < count) (λ n. below_decided n count) numbers)

-- first-order trees

sorts_decided : (Γ : List Ty) → Decided (AreSorts Γ)
sorts_decided [] = inl tt
sorts_decided (sort s ∷ Γ) = sorts_decided Γ
sorts_decided ((a ⇒ b) ∷ Γ) = inr (λ h. h)

declared_nullary : (M : List Declared) (z : ℕ) (types : List Ty) (o : Ty) → slice_get M z ≡ Some (record { args = types; out = o }) → Decided (IsNullary M z)
declared_nullary M z [] (sort s) e = inl (s, e)
declared_nullary M z [] (a ⇒ b) e =
    inr (λ (s, at). absurd (let same : (a ⇒ b) ≡ sort s = ap (λ (d : Declared). d.out) (some_one e at) in cc))
declared_nullary M z (a ∷ types) o e =
    inr (λ (s, at). absurd (let same : (a ∷ types) ≡ [] = ap (λ (d : Declared). d.args) (some_one e at) in cc))

nullary_decided : (M : List Declared) (z : ℕ) → Decided (IsNullary M z)
nullary_decided M z = go (slice_get M z) refl
  where
    go : (o : Option Declared) → slice_get M z ≡ o → Decided (IsNullary M z)
    go None e = inr (λ (s, at). absurd (cc (e, at)))
    go (Some d) e = declared_nullary M z d.args d.out e

flat_decided : (S : Symbols) (M : List Declared) (t : Tm) → Decided (IsFlatTree S M t)
flat_decided S M (bound i) = inr (λ h. h)
flat_decided S M (free x a) = inr (λ h. h)
flat_decided S M (fun f) = sorts_decided (arguments (type_at S.funs f))
flat_decided S M (meta z none) = nullary_decided M z
flat_decided S M (meta z (more t ts)) = inr (λ h. h)
flat_decided S M (lam a t) = inr (λ h. h)
flat_decided S M (app t u) = both_decided (flat_decided S M t) (flat_decided S M u)

flat_trees_decided : (S : Symbols) (M : List Declared) (ts : List Tm) → Decided (AreFlatTrees S M ts)
flat_trees_decided S M [] = inl tt
flat_trees_decided S M (t ∷ ts) = both_decided (flat_decided S M t) (flat_trees_decided S M ts)

-- what is called

module _ (rules : List RewriteRule) (listed : List ℕ) where
  -- the rule with this number is one of the symbol, and not listed
  abbrev IsUnlisted : ℕ → ℕ → Type 0
  IsUnlisted f n = (r : RewriteRule) × (slice_get rules n ≡ Some r) × (head r.left ≡ fun f) × (Contains listed n → ⊥)

  listed_decided : (n : ℕ) → Decided (Contains listed n)
  listed_decided n = member_decided equal_decided listed n

  unlisted_decided : (f n : ℕ) → Decided (IsUnlisted f n)
  unlisted_decided f n = go (slice_get rules n) refl
    where
      go : (o : Option RewriteRule) → slice_get rules n ≡ o → Decided (IsUnlisted f n)
      go None e = inr (λ (r, at, heads, missing). absurd (cc (e, at)))
      go (Some r) e =
          decided_by (λ (heads, missing). (r, e, heads, missing))
          (λ (q, at, heads, missing). (subst (λ (x : RewriteRule). head x.left ≡ fun f) (some_one at e) heads, missing))
          (both_decided (symbol_is f (head r.left)) (not_decided (listed_decided n)))

  rules_decided : (f : ℕ) → Decided (ListsRulesOf rules listed f)
  rules_decided f = elim (some_below (IsUnlisted f) (unlisted_decided f) (length rules)) [
    | inl (n, less, (r, at, heads, missing)) ↦ inr (λ lists. missing (lists n r at heads))
    | inr all ↦
        inl (λ n r at heads. not_refuted (listed_decided n) (λ missing. all (n, slice_get_within rules n r at, (r, at, heads, missing))))
  ]

  -- all rules of each symbol in one of the trees are listed
  abbrev ListsRulesInAll : Tms → Type 0
  ListsRulesInAll ts = (f : ℕ) → HaveSymbol f ts → ListsRulesOf rules listed f

  mutual
    calls_decided : (t : Tm) → Decided (ListsRulesIn rules listed t)
    calls_decided (bound i) = inl (λ f found. absurd found)
    calls_decided (free x a) = inl (λ f found. absurd found)
    calls_decided (fun g) =
        decided_by (λ h f same. subst (ListsRulesOf rules listed) (sym same) h) (λ h. h g refl) (rules_decided g)
    calls_decided (meta z ts) = all_calls_decided ts
    calls_decided (lam a t) = calls_decided t
    calls_decided (app t u) =
        decided_by (λ (h, k) f found. elim found [ inl x ↦ h f x | inr y ↦ k f y ]) (λ h. (λ f x. h f (inl x), λ f y. h f (inr y)))
        (both_decided (calls_decided t) (calls_decided u))

    all_calls_decided : (ts : Tms) → Decided (ListsRulesInAll ts)
    all_calls_decided none = inl (λ f found. absurd found)
    all_calls_decided (more t ts) =
        decided_by (λ (h, k) f found. elim found [ inl x ↦ h f x | inr y ↦ k f y ]) (λ h. (λ f x. h f (inl x), λ f y. h f (inr y)))
        (both_decided (calls_decided t) (all_calls_decided ts))

  each_calls_decided : (ts : List Tm) → Decided (ListsRulesInEach rules listed ts)
  each_calls_decided [] = inl tt
  each_calls_decided (t ∷ ts) = both_decided (calls_decided t) (each_calls_decided ts)

-- rules and pairs

-- the two sides of the rule have one sort
abbrev AreOfASort : Symbols → RewriteRule → Type 0
AreOfASort S r = (s : ℕ) × Typed S r.metas [] r.left (sort s) × Typed S r.metas [] r.right (sort s)

sort_of_sides : (S : Symbols) (r : RewriteRule) → Decided (HasType S r.metas [] r.left) → Decided (HasType S r.metas [] r.right)
    → Decided (AreOfASort S r)
sort_of_sides S r (inr untyped) right = inr (λ (s, l, q). untyped (sort s, l))
sort_of_sides S r (inl left) (inr untyped) = inr (λ (s, l, q). untyped (sort s, q))
sort_of_sides S r (inl (a ⇒ b, left)) (inl (c, right)) =
    inr (λ (s, l, q). absurd (let e : (a ⇒ b) ≡ sort s = typed_one left l in cc))
sort_of_sides S r (inl (sort s, left)) (inl (c, right)) = elim (same_type_decided c (sort s)) [
  | inl same ↦ inl (s, left, subst (Typed S r.metas [] r.right) same right)
  | inr other ↦ inr (λ (n, l, q). other (typed_one right q ∙ sym (typed_one left l)))
]

sort_decided : (S : Symbols) (r : RewriteRule) → Decided (AreOfASort S r)
sort_decided S r = sort_of_sides S r (typed_decided S r.metas r.left []) (typed_decided S r.metas r.right [])

closed_rule_decided : (S : Symbols) (rules : List RewriteRule) (listed : List ℕ) (r : RewriteRule) → Decided (IsClosedRule S rules listed r)
closed_rule_decided S rules listed r =
    decided_by (λ (of_a_sort, (left, (right, calls))). record { of_a_sort = of_a_sort; left = left; right = right; calls = calls })
    (λ is. (is.of_a_sort, (is.left, (is.right, is.calls))))
    (both_decided (sort_decided S r) (both_decided (flat_decided S r.metas r.left)
    (both_decided (flat_decided S r.metas r.right) (calls_decided rules listed r.right))))

closed_pair_decided : (S : Symbols) (rules : List RewriteRule) (listed : List ℕ) (p : PairData) → Decided (IsClosedPair S rules listed p)
closed_pair_decided S rules listed p =
    decided_by
    (λ (left_head, (right_head, (left, (right, calls)))). record {
      left_head = left_head;
      right_head = right_head;
      left = left;
      right = right;
      calls = calls;
    })
    (λ is. (is.left_head, (is.right_head, (is.left, (is.right, is.calls)))))
    (both_decided (sorts_decided (marked_types S rules p.left_fun)) (both_decided (sorts_decided (marked_types S rules p.right_fun))
    (both_decided (flat_trees_decided S p.metas p.left) (both_decided (flat_trees_decided S p.metas p.right)
    (each_calls_decided rules listed p.right)))))

-- the first number of a list that is that of an element that is not Q

module _ {A : Type 0} (Q : A → Type 0) (decided : (x : A) → Decided (Q x)) (xs : List A) where
  at_decided : (n : ℕ) → Decided (IsAt Q xs n)
  at_decided n = go (slice_get xs n) refl
    where
      go : (o : Option A) → slice_get xs n ≡ o → Decided (IsAt Q xs n)
      go None e = inl (λ x at. absurd (cc (e, at)))
      go (Some x) e = decided_by (is_at Q xs n x e) (λ h. h x e) (decided x)

  some_not : (n : ℕ) → (IsAt Q xs n → ⊥) → (x : A) × (slice_get xs n ≡ Some x) × (Q x → ⊥)
  some_not n not = go (slice_get xs n) refl
    where
      go : (o : Option A) → slice_get xs n ≡ o → (x : A) × (slice_get xs n ≡ Some x) × (Q x → ⊥)
      go None e = absurd (not (λ x at. absurd (cc (e, at))))
      go (Some x) e = (x, e, λ holds. not (is_at Q xs n x e holds))

  all_or_first_not : (numbers : List ℕ) → ((n : ℕ) → Contains numbers n → IsAt Q xs n) ⊎ ((n : ℕ) × IsFirstNot Q xs numbers n)
  all_or_first_not numbers = elim (first_place (λ n. IsAt Q xs n → ⊥) (λ n. not_decided (at_decided n)) numbers) [
    | inl (i, n, there, not, before) ↦
        inr (
          n,
          record {
            place = i;
            there = there;
            fails = some_not n not;
            before = λ k m x less at_k at_m. not_refuted (at_decided m) (before k m less at_k) x at_m;
          },
        )
    | inr all ↦ inl (λ n found. not_refuted (at_decided n) (all n found))
  ]

pub neither_below : (m n : ℕ) → (m < n → ⊥) → (n < m → ⊥) → m ≡ n
neither_below m n above below = elim (cases_lt m n) [
  | inl less ↦ absurd (above less)
  | inr le ↦ elim (cases_lt n m) [ inl less ↦ absurd (below less) | inr same ↦ omega arith ]
]

first_not_one : {A : Type 0} (Q : A → Type 0) (xs : List A) (numbers : List ℕ) (n m : ℕ) → IsFirstNot Q xs numbers n → IsFirstNot Q xs numbers m → n ≡ m
first_not_one Q xs numbers n m first other =
    let (x, at, not) = first.fails in
    let (y, also, neither) = other.fails in
    let place : first.place ≡ other.place = neither_below first.place other.place
    (λ less. not (other.before first.place n x less first.there at)) (λ less. neither (first.before other.place m y less other.there also)) in
    some_one (sym (ap (slice_get numbers) place) ∙ first.there) other.there

all_or_not : {A : Type 0} (Q : A → Type 0) (xs : List A) (numbers : List ℕ) (n : ℕ) → IsFirstNot Q xs numbers n
    → ((k : ℕ) (x : A) → Contains numbers k → slice_get xs k ≡ Some x → Q x) → ⊥
all_or_not Q xs numbers n first all =
    let (x, at, not) = first.fails in not (all n x (contains_at numbers first.place n first.there) at)

-- all together

module _ (T : TaskData) where
  abbrev RuleIsClosed : RewriteRule → Type 0
  RuleIsClosed = IsClosedRule T.symbols T.rules T.covered

  abbrev PairIsClosed : PairData → Type 0
  PairIsClosed = IsClosedPair T.symbols T.rules T.covered

  pairs_closed : AreClosedPairs T → (n : ℕ) (p : PairData) → Contains T.set n → slice_get T.pairs n ≡ Some p → PairIsClosed p
  pairs_closed closed n p found at = closed p (n, found, at)

  pub closed_or_open : IsClosed T ⊎ ((f : NotClosed) × IsFirstOpen T f)
  closed_or_open = elim (list_decided equal_decided T.covered (numbers_from 0 (length T.rules))) [
    | inl whole ↦ inl (inl whole)
    | inr fewer ↦
        elim (all_or_first_not RuleIsClosed (closed_rule_decided T.symbols T.rules T.covered) T.rules T.covered) [
          | inr (n, first) ↦ inr (Rule n, (fewer, first))
          | inl rules ↦
              elim (all_or_first_not PairIsClosed (closed_pair_decided T.symbols T.rules T.covered) T.pairs T.set) [
                | inr (n, first) ↦ inr (Pair n, (fewer, (λ k r found at. rules k found r at), first))
                | inl pairs ↦ inl (inr ((λ k r found at. rules k found r at), λ p (k, found, at). pairs k found p at))
              ]
        ]
  ]

  pub closed_not_open : (f : NotClosed) → IsClosed T → IsFirstOpen T f → ⊥
  closed_not_open (Rule n) (inl whole) (fewer, first) = fewer whole
  closed_not_open (Rule n) (inr (rules, pairs)) (fewer, first) =
      all_or_not RuleIsClosed T.rules T.covered n first (λ k r found at. rules k r found at)
  closed_not_open (Pair n) (inl whole) (fewer, rules, first) = fewer whole
  closed_not_open (Pair n) (inr (rules, pairs)) (fewer, also, first) = all_or_not PairIsClosed T.pairs T.set n first (pairs_closed pairs)

  pub one_open : (f g : NotClosed) → IsFirstOpen T f → IsFirstOpen T g → f ≡ g
  one_open (Rule n) (Rule m) (fewer, first) (also, other) = ap Rule (first_not_one RuleIsClosed T.rules T.covered n m first other)
  one_open (Rule n) (Pair m) (fewer, first) (also, rules, other) = absurd (all_or_not RuleIsClosed T.rules T.covered n first rules)
  one_open (Pair n) (Rule m) (fewer, rules, first) (also, other) = absurd (all_or_not RuleIsClosed T.rules T.covered m other rules)
  one_open (Pair n) (Pair m) (fewer, rules, first) (also, again, other) = ap Pair (first_not_one PairIsClosed T.pairs T.set n m first other)
