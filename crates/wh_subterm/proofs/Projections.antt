-- Choices are a projection, or there is a first thing wrong with them.
use Rattle.std.proofs.Common.{◌≡◌, ℕ, ◌+◌, ◌<◌, ◌≤◌, ◌⊎◌, inl, inr, Bool, true, false, List, [], ◌∷◌, length, get_or, Option, Some, None, slice_get, All, Contains, refl, ap, ap₂, subst, ◌∙◌}
use Rattle.std.proofs.lemmas.Option.{slice_get_within, slice_get-get_or}
use Rattle.std.proofs.lemmas.List.Elements.{All-contains}
use Rattle.wh_terms.specs.Tree.{Tm, bound}
use Rattle.wh_terms.specs.Rules.{RewriteRule}
use Rattle.wh_system.specs.Needs.{need_of}
use Rattle.wh_pairs.specs.PairData.{PairData, IsIncreasing}
use Rattle.wh_system.proofs.TypedDecided.{Decided, below_decided, decided_by, both_decided}
use Rattle.wh_pairs.proofs.ByPlace.{some_one, contains_at}
use Rattle.wh_pairs.proofs.DropLemmas.{contains_or_not, drops_some, drops_once, drops_within}
use Rattle.wh_pairs.specs.Marked.{HeadsASide, Heads, IsMarked, AreMarked}
use Rattle.wh_subterm.specs.ProperParts.{Part}
use Rattle.wh_subterm.specs.Projections.{Chosen, IsProjected, Equal, Below, Decreasing}
use Rattle.wh_subterm.specs.SubtermRows.{chosen_symbols, AreForMarked, HasNone, IsPlace, IsNotDecreasing, NoneIs, IsProjection, IsFirstSubtermFault}
use Rattle.wh_pairs.specs.Drops.{IsBadDrop}
use Rattle.wh_subterm.specs.declared.projection.SubtermFault.{SubtermFault}
use Rattle.wh_subterm.specs.declared.projection.SubtermFault.TheVariants.{BadArgs, NoProjection, BadArgument, BadDrop, NotDecreasing}
use Rattle.wh_subterm.proofs.ProjectionLemmas.{unprojected, decreasing_part, decreasing_same, decreasing_cases}
use Rattle.wh_pairs.proofs.Searches.{SomeOrNone, not_decided, either_decided, not_refuted, equal_decided, at_most_decided, false_decided, member_decided, HasFirst, HasNoneOf, first_place, all_unless, least_below, some_below, bound_of}
use Rattle.wh_pairs.proofs.DropsDecided.{bad_drop_decided}
use Rattle.wh_subterm.proofs.PartsDecided.{tree_decided, part_decided}

-- the marked symbols

increasing_decided : (ns : List ℕ) → Decided (IsIncreasing ns)
increasing_decided [] = inl tt
increasing_decided (n ∷ []) = inl tt
increasing_decided (m ∷ n ∷ ns) = both_decided (below_decided m n) (increasing_decided (n ∷ ns))

heads_decided : (pairs : List PairData) (f n : ℕ) → Decided (Heads pairs f n)
heads_decided pairs f n = go (slice_get pairs n) refl
  where
    go : (o : Option PairData) → slice_get pairs n ≡ o → Decided (Heads pairs f n)
    go None d = inr (λ (a, at, heads). cc (d, at))
    go (Some a) d =
        decided_by (λ heads. (a, d, heads)) (λ (b, at, heads). subst (HeadsASide f) (some_one at d) heads)
        (either_decided (equal_decided f a.left_fun) (equal_decided f a.right_fun))

marked_decided : (pairs : List PairData) (set : List ℕ) (f : ℕ) → Decided (IsMarked pairs set f)
marked_decided pairs set f = elim (first_place (Heads pairs f) (heads_decided pairs f) set) [
  | inl (i, n, at, heads, before) ↦ inl (n, contains_at set i n at, heads)
  | inr none ↦ inr (λ (n, found, heads). none n found heads)
]

each_marked_decided : (pairs : List PairData) (set fs : List ℕ) → Decided ((f : ℕ) → Contains fs f → IsMarked pairs set f)
each_marked_decided pairs set fs = elim (first_place (λ f. IsMarked pairs set f → ⊥) (λ f. not_decided (marked_decided pairs set f)) fs) [
  | inl (i, f, at, not, before) ↦ inr (λ each. not (each f (contains_at fs i f at)))
  | inr none ↦ inl (λ f found. not_refuted (marked_decided pairs set f) (none f found))
]

-- a symbol that heads a side of the pair is not in the list
abbrev IsUnlisted : List PairData → List ℕ → ℕ → Type 0
IsUnlisted pairs fs n = (a : PairData) × (slice_get pairs n ≡ Some a) × ((Contains fs a.left_fun → ⊥) ⊎ (Contains fs a.right_fun → ⊥))

unlisted_decided : (pairs : List PairData) (fs : List ℕ) (n : ℕ) → Decided (IsUnlisted pairs fs n)
unlisted_decided pairs fs n = go (slice_get pairs n) refl
  where
    go : (o : Option PairData) → slice_get pairs n ≡ o → Decided (IsUnlisted pairs fs n)
    go None d = inr (λ (a, at, missing). cc (d, at))
    go (Some a) d =
        decided_by (λ missing. (a, d, missing))
        (λ (b, at, missing). subst (λ (p : PairData). (Contains fs p.left_fun → ⊥) ⊎ (Contains fs p.right_fun → ⊥)) (some_one at d) missing)
        (either_decided (not_decided (contains_or_not fs a.left_fun)) (not_decided (contains_or_not fs a.right_fun)))

abbrev AllListed : List PairData → List ℕ → List ℕ → Type 0
AllListed pairs set fs = (f : ℕ) → IsMarked pairs set f → Contains fs f

not_listed : (pairs : List PairData) (set fs : List ℕ) (n : ℕ) → Contains set n → IsUnlisted pairs fs n → AllListed pairs set fs → ⊥
not_listed pairs set fs n found (a, at, inl missing) all = missing (all a.left_fun (n, found, (a, at, inl refl)))
not_listed pairs set fs n found (a, at, inr missing) all = missing (all a.right_fun (n, found, (a, at, inr refl)))

listed_all : (pairs : List PairData) (set fs : List ℕ) → HasNoneOf (IsUnlisted pairs fs) set → AllListed pairs set fs
listed_all pairs set fs none f (n, found, (a, at, inl left)) =
    not_refuted (contains_or_not fs f) (λ missing. none n found (a, at, inl (subst (λ g. Contains fs g → ⊥) left missing)))
listed_all pairs set fs none f (n, found, (a, at, inr right)) =
    not_refuted (contains_or_not fs f) (λ missing. none n found (a, at, inr (subst (λ g. Contains fs g → ⊥) right missing)))

all_listed_decided : (pairs : List PairData) (set fs : List ℕ) → Decided (AllListed pairs set fs)
all_listed_decided pairs set fs = elim (first_place (IsUnlisted pairs fs) (unlisted_decided pairs fs) set) [
  | inl (i, n, at, unlisted, before) ↦ inr (not_listed pairs set fs n (contains_at set i n at) unlisted)
  | inr none ↦ inl (listed_all pairs set fs none)
]

pub are_marked_decided : (pairs : List PairData) (set fs : List ℕ) → Decided (AreMarked pairs set fs)
are_marked_decided pairs set fs =
    decided_by (λ (up, (each, all)). record { in_order = up; each = λ f. (each f, all f) })
    (λ marked. (marked.in_order, (λ f found. (marked.each f).0 found, λ f is. (marked.each f).1 is)))
    (both_decided (increasing_decided fs) (both_decided (each_marked_decided pairs set fs) (all_listed_decided pairs set fs)))

pub for_marked_decided : (pairs : List PairData) (set : List ℕ) (args : List Chosen) → Decided (AreForMarked pairs set args)
for_marked_decided pairs set args = are_marked_decided pairs set (chosen_symbols args)

-- places

none_decided : (rules : List RewriteRule) (c : Chosen) → Decided (HasNone rules c)
none_decided rules c = go (need_of rules c.symbol) refl
  where
    go : (o : Option ℕ) → need_of rules c.symbol ≡ o → Decided (HasNone rules c)
    go None d = inr (λ is. cc (d, is))
    go (Some n) d = decided_by (λ same. d ∙ ap (λ k. Some k) same) (λ is. some_one d is) (equal_decided n 0)

place_decided : (rules : List RewriteRule) (c : Chosen) → Decided (IsPlace rules c)
place_decided rules c = go (need_of rules c.symbol) refl
  where
    go : (o : Option ℕ) → need_of rules c.symbol ≡ o → Decided (IsPlace rules c)
    go None d = inr (λ (need, is, above, within). cc (d, is))
    go (Some n) d =
        decided_by (λ (above, within). (n, d, above, within)) (λ (need, is, above, within). (above, subst (λ m. c.argument ≤ m) (some_one is d) within))
        (both_decided (below_decided 0 c.argument) (at_most_decided c.argument n))

-- the projected sides

abbrev choice : ℕ → ℕ → Chosen
choice f i = record { symbol = f; argument = i }

choice_decided : (c e : Chosen) → Decided (c ≡ e)
choice_decided c e =
    decided_by (λ (s, a). ap₂ choice s a) (λ same. (ap (λ (x : Chosen). x.symbol) same, ap (λ (x : Chosen). x.argument) same))
    (both_decided (equal_decided c.symbol e.symbol) (equal_decided c.argument e.argument))

projected_or_not : (args : List Chosen) (f : ℕ) (ts : List Tm) → SomeOrNone (IsProjected args f ts)
projected_or_not args f ts = elim (some_below (λ i. Contains args (choice f (i + 1))) (λ i. member_decided choice_decided args (choice f (i + 1))) (length ts)) [
  | inl (i, within, found) ↦ inl (get_or ts i (bound 0), (i, found, slice_get-get_or ts i (bound 0) within))
  | inr none ↦ inr (λ t (i, found, at). none (i, slice_get_within ts i t at, found))
]

-- what a projection asks of a pair is decided
decreasing_decided : (args : List Chosen) (a : PairData) (dropped : Bool) → IsIncreasing (chosen_symbols args) → Decided (Decreasing args dropped a)
decreasing_decided args a dropped up = go (projected_or_not args a.left_fun a.left) (projected_or_not args a.right_fun a.right)
  where
    from : (t u : Tm) → IsProjected args a.left_fun a.left t → IsProjected args a.right_fun a.right u
        → Part u t ⊎ ((dropped ≡ false) × (t ≡ u)) → Decreasing args dropped a
    from t u left right (inl part) = decreasing_part args a t u dropped left right part
    from t u left right (inr (free, same)) = decreasing_same args a t u dropped free left right same

    go : SomeOrNone (IsProjected args a.left_fun a.left)
        → SomeOrNone (IsProjected args a.right_fun a.right) → Decided (Decreasing args dropped a)
    go (inl (t, left)) (inl (u, right)) =
        decided_by (from t u left right) (decreasing_cases args a t u dropped up left right)
        (either_decided (part_decided u t) (both_decided (false_decided dropped) (tree_decided t u)))
    go (inl (t, left)) (inr none) = inr (unprojected args a dropped (λ v u also right. none u right))
    go (inr none) other = inr (unprojected args a dropped (λ t u left right. none t left))

-- what is wrong with a pair
abbrev IsWrong : List Chosen → List ℕ → ℕ → PairData → Type 0
IsWrong args drop n a = ((Equal args a ⊎ Below args a) → ⊥) ⊎ (Contains drop n × (Below args a → ⊥))

wrong_decided : (args : List Chosen) (drop : List ℕ) (n : ℕ) (a : PairData) → IsIncreasing (chosen_symbols args) → Decided (IsWrong args drop n a)
wrong_decided args drop n a up =
    either_decided (not_decided (decreasing_decided args a false up)) (both_decided (contains_or_not drop n) (not_decided (decreasing_decided args a true up)))

not_decreasing_decided : (pairs : List PairData) (args : List Chosen) (drop : List ℕ) (n : ℕ) → IsIncreasing (chosen_symbols args)
    → Decided (IsNotDecreasing pairs args drop n)
not_decreasing_decided pairs args drop n up = go (slice_get pairs n) refl
  where
    go : (o : Option PairData) → slice_get pairs n ≡ o → Decided (IsNotDecreasing pairs args drop n)
    go None d = inr (λ (a, at, wrong). cc (d, at))
    go (Some a) d = decided_by (λ wrong. (a, d, wrong)) (λ (b, at, wrong). subst (IsWrong args drop n) (some_one at d) wrong) (wrong_decided args drop n a up)

-- all together, from the last condition to the first

abbrev pub ProjectionOrFault : List RewriteRule → List PairData → List ℕ → List Chosen → List ℕ → Type 0
ProjectionOrFault rules pairs set args drop = IsProjection rules pairs set args drop ⊎ ((f : SubtermFault) × IsFirstSubtermFault rules pairs set args drop f)

no_fault : (rules : List RewriteRule) (pairs : List PairData) (set : List ℕ) (args : List Chosen) (drop : List ℕ) → AreForMarked pairs set args
    → All (IsPlace rules) args → (IsBadDrop set drop → ⊥) → ((n : ℕ) → Contains set n → IsNotDecreasing pairs args drop n → ⊥)
    → IsProjection rules pairs set args drop
no_fault rules pairs set args drop marked places good right = record {
  marked = marked;
  places = places;
  some_dropped = drops_some set drop good;
  once = drops_once set drop good;
  within = drops_within set drop good;
  decreasing = λ n a found at. not_refuted (decreasing_decided args a false marked.in_order) (λ wrong. right n found (a, at, inl wrong));
  below = λ n a dropped at.
      not_refuted (decreasing_decided args a true marked.in_order)
      (λ wrong. right n (All-contains (Contains set) drop n (drops_within set drop good) dropped) (a, at, inr (dropped, wrong)));
}

pairs_or_fault : (rules : List RewriteRule) (pairs : List PairData) (set : List ℕ) (args : List Chosen) (drop : List ℕ) → AreForMarked pairs set args
    → All (IsPlace rules) args → (IsBadDrop set drop → ⊥) → ProjectionOrFault rules pairs set args drop
pairs_or_fault rules pairs set args drop marked places good = go (bound_of set)
  where
    wrong_there : (n : ℕ) → Decided (Contains set n × IsNotDecreasing pairs args drop n)
    wrong_there n = both_decided (contains_or_not set n) (not_decreasing_decided pairs args drop n marked.in_order)

    go : (k : ℕ) × ((n : ℕ) → Contains set n → n < k) → ProjectionOrFault rules pairs set args drop
    go (k, below) = elim (least_below (λ n. Contains set n × IsNotDecreasing pairs args drop n) wrong_there k) [
      | inl (n, less, ((found, wrong), least)) ↦ inr (NotDecreasing n, (marked, places, good, found, wrong, λ m under there bad. least m under (there, bad)))
      | inr none ↦ inl (no_fault rules pairs set args drop marked places good (λ n found wrong. none n (below n found) (found, wrong)))
    ]

places_or_fault : (rules : List RewriteRule) (pairs : List PairData) (set : List ℕ) (args : List Chosen) (drop : List ℕ) → AreForMarked pairs set args
    → NoneIs (HasNone rules) args → ProjectionOrFault rules pairs set args drop
places_or_fault rules pairs set args drop marked none_none = elim (first_place (λ c. IsPlace rules c → ⊥) (λ c. not_decided (place_decided rules c)) args) [
  | inl (i, c, at, bad, before) ↦ inr (BadArgument c.symbol, (marked, none_none, (i, c, at, refl, bad, before)))
  | inr none ↦ go (all_unless (IsPlace rules) (place_decided rules) args none) (bad_drop_decided set drop)
]
  where
    go : All (IsPlace rules) args → Decided (IsBadDrop set drop) → ProjectionOrFault rules pairs set args drop
    go places (inl bad) = inr (BadDrop, (marked, places, bad))
    go places (inr good) = pairs_or_fault rules pairs set args drop marked places good

pub projection_or_fault : (rules : List RewriteRule) (pairs : List PairData) (set : List ℕ) (args : List Chosen) (drop : List ℕ)
    → ProjectionOrFault rules pairs set args drop
projection_or_fault rules pairs set args drop = go (for_marked_decided pairs set args) (first_place (HasNone rules) (none_decided rules) args)
  where
    go : Decided (AreForMarked pairs set args) → HasFirst (HasNone rules) args ⊎ HasNoneOf (HasNone rules) args → ProjectionOrFault rules pairs set args drop
    go (inr not) first = inr (BadArgs, not)
    go (inl marked) (inl (i, c, at, none, before)) = inr (NoProjection c.symbol, (marked, (i, c, at, refl, none, before)))
    go (inl marked) (inr none) = places_or_fault rules pairs set args drop marked none
