-- Lines are right, or one of them is the first that is not: whatever a line shows, and whatever can be wrong with it.
use Rattle.std.proofs.Common.{◌≡◌, ◌↔◌, ◌⊎◌, inl, inr, ℕ, zero, suc, ◌<◌, ◌≤◌, Bool, true, false, List, length, Option, Some, None, slice_get, Contains, refl, sym, subst, arith}
use Rattle.std.proofs.lemmas.Bool.{cases_lt}
use Rattle.std.proofs.lemmas.List.Elements.{All-contains}
use Rattle.std.proofs.lemmas.Option.{slice_get_within}
use Rattle.wh_terms.specs.Rules.{RewriteRule}
use Rattle.wh_pairs.specs.PairData.{PairData}
use Rattle.wh_pairs.specs.Drops.{IsBadDrop, IsDropped}
use Rattle.wh_pairs.proofs.ByPlace.{some_one}
use Rattle.wh_pairs.proofs.DropLemmas.{contains_or_not, drops_some, drops_once, drops_within}
use Rattle.wh_pairs.proofs.DropsDecided.{bad_drop_decided}
use Rattle.wh_pairs.proofs.Searches.{equal_decided}
use Rattle.wh_reduction_pairs.specs.TaskData.{TaskData}
use Rattle.wh_reduction_pairs.specs.ReductionPair.{Evidence, Showing, IsRightRule, IsRightPair, IsReductionPair}
use Rattle.wh_reduction_pairs.specs.FirstFault.{Blaming, AreBadLines, AreCounted, IsRuleFault, IsPairFault, IsFirstRuleFault, IsFirstPairFault}

-- a pair is dropped or not, and so it is in each list of the same numbers

pub dropped_or_not : (drop : List ℕ) (n : ℕ) → (strict : Bool) × IsDropped drop n strict
dropped_or_not drop n = elim (contains_or_not drop n) [
  | inl dropped ↦ (true, dropped)
  | inr kept ↦ (false, kept)
]

pub dropped_one : (drop : List ℕ) (n : ℕ) (a b : Bool) → IsDropped drop n a → IsDropped drop n b → a ≡ b
dropped_one drop n true true is also = refl
dropped_one drop n true false is not = absurd (not is)
dropped_one drop n false true not is = absurd (not is)
dropped_one drop n false false not also = refl

pub dropped_same : (ns ms : List ℕ) → ((n : ℕ) → Contains ns n ↔ Contains ms n) → (n : ℕ) (b : Bool) → IsDropped ns n b → IsDropped ms n b
dropped_same ns ms same n true d = (same n).0 d
dropped_same ns ms same n false d = λ found. d ((same n).1 found)

-- P holds of all numbers below k, or Q of one, and P of those before it
abbrev pub AllOrFirst : (ℕ → Type 0) → (ℕ → Type 0) → ℕ → Type 0
AllOrFirst P Q k = ((i : ℕ) → i < k → P i) ⊎ ((i : ℕ) × (i < k) × Q i × ((j : ℕ) → j < i → P j))

pub all_or_first : (P Q : ℕ → Type 0) → ((i : ℕ) → P i ⊎ Q i) → (k : ℕ) → AllOrFirst P Q k
all_or_first P Q each zero = inl (λ i less. absurd (omega arith))
all_or_first P Q each (suc k) = go (all_or_first P Q each k) (each k)
  where
    go : AllOrFirst P Q k → P k ⊎ Q k → AllOrFirst P Q (suc k)
    go (inr (i, less, q, before)) here = inr (i, omega (arith, less), q, before)
    go (inl all) (inr q) = inr (k, omega arith, q, all)
    go (inl all) (inl p) = inl (λ i less. elim (cases_lt i k) [
      | inl below ↦ all i below
      | inr le ↦ let same : i ≡ k = omega (arith, less, le) in subst P (sym same) p
    ])

module _ {Line Fault : Type 0} (shows : Showing Line) (blames : Blaming Line Fault) (T : TaskData) where
  -- one line

  pub rule_right : (lines : List Line) (i n : ℕ) (r : RewriteRule) (l : Line) → slice_get T.covered i ≡ Some n → slice_get T.rules n ≡ Some r
      → slice_get lines i ≡ Some l → shows.rule r l → IsRightRule shows T lines i
  rule_right lines i n r l at here line right m u k also there other =
      let number : n ≡ m = some_one at also in
      let rule : r ≡ u = some_one here (subst (λ x. slice_get T.rules x ≡ Some u) (sym number) there) in
      let same : l ≡ k = some_one line other in
      subst (λ (x : Line). shows.rule u x) same (subst (λ (x : RewriteRule). shows.rule x l) rule right)

  pub pair_right : (lines : List Line) (drop : List ℕ) (i n : ℕ) (p : PairData) (l : Line) (strict : Bool) → slice_get T.set i ≡ Some n
      → slice_get T.pairs n ≡ Some p → slice_get lines i ≡ Some l → IsDropped drop n strict → shows.pair p strict l
      → IsRightPair shows T lines drop i
  pair_right lines drop i n p l strict at here line dropped right m q k asked also there other also_dropped =
      let number : n ≡ m = some_one at also in
      let pair : p ≡ q = some_one here (subst (λ x. slice_get T.pairs x ≡ Some q) (sym number) there) in
      let same : l ≡ k = some_one line other in
      let alike : strict ≡ asked = dropped_one drop n strict asked dropped (subst (λ x. IsDropped drop x asked) (sym number) also_dropped) in
      subst (λ (x : Bool). shows.pair q x k) alike
      (subst (λ (x : Line). shows.pair q strict x) same (subst (λ (x : PairData). shows.pair x strict l) pair right))

  -- what holds before the end of the lines holds of all of them

  pub rules_past : (lines : List Line) (i : ℕ) → ((k : ℕ) → k < i → IsRightRule shows T lines k) → length lines ≤ i
      → (k : ℕ) → IsRightRule shows T lines k
  rules_past lines i before past k n r l at here line =
      let within = slice_get_within lines k l line in before k (omega (arith, within, past)) n r l at here line

  pub pairs_past : (lines : List Line) (drop : List ℕ) (i : ℕ) → ((k : ℕ) → k < i → IsRightPair shows T lines drop k) → length lines ≤ i
      → (k : ℕ) → IsRightPair shows T lines drop k
  pairs_past lines drop i before past k n p l strict at here line dropped =
      let within = slice_get_within lines k l line in before k (omega (arith, within, past)) n p l strict at here line dropped

  -- another list of the same dropped pairs

  pub right_pair_same : (lines : List Line) (ns ms : List ℕ) → ((n : ℕ) → Contains ns n ↔ Contains ms n) → (k : ℕ)
      → IsRightPair shows T lines ns k → IsRightPair shows T lines ms k
  right_pair_same lines ns ms same k right n p l strict at here line dropped =
      right n p l strict at here line (dropped_same ms ns (λ n. ((same n).1, (same n).0)) n strict dropped)

  pub first_pair_same : (lines : List Line) (ns ms : List ℕ) → ((n : ℕ) → Contains ns n ↔ Contains ms n) → (n : ℕ) (f : Fault)
      → IsFirstPairFault shows blames T lines ns n f → IsFirstPairFault shows blames T lines ms n f
  first_pair_same lines ns ms same n f (i, before, (p, l, strict, at, here, line, dropped, wrong)) = (
    i,
    (λ k less. right_pair_same lines ns ms same k (before k less)),
    (p, l, strict, at, here, line, dropped_same ns ms same n strict dropped, wrong),
  )

  -- each line is right or not

  module _ (rule_decided : (r : RewriteRule) (l : Line) → shows.rule r l ⊎ ((f : Fault) × blames.rule r l f))
      (pair_decided : (p : PairData) (strict : Bool) (l : Line) → shows.pair p strict l ⊎ ((f : Fault) × blames.pair p strict l f)) where
    abbrev RuleOrFault : List Line → ℕ → Type 0
    RuleOrFault lines i = IsRightRule shows T lines i ⊎ ((n : ℕ) × (f : Fault) × IsRuleFault blames T lines i n f)

    rule_at : (lines : List Line) (i n : ℕ) (r : RewriteRule) (l : Line) → slice_get T.covered i ≡ Some n → slice_get T.rules n ≡ Some r
        → slice_get lines i ≡ Some l → RuleOrFault lines i
    rule_at lines i n r l at here line = elim (rule_decided r l) [
      | inl right ↦ inl (rule_right lines i n r l at here line right)
      | inr (f, wrong) ↦ inr (n, f, (r, l, at, here, line, wrong))
    ]

    rule_or_fault : (lines : List Line) (i : ℕ) → RuleOrFault lines i
    rule_or_fault lines i = go (slice_get T.covered i) refl (slice_get lines i) refl
      where
        of_number : (n : ℕ) (l : Line) → slice_get T.covered i ≡ Some n → slice_get lines i ≡ Some l → (o : Option RewriteRule)
            → slice_get T.rules n ≡ o → RuleOrFault lines i
        of_number n l at line None d = inl (λ m r k also there other.
            let here : slice_get T.rules n ≡ Some r = subst (λ x. slice_get T.rules x ≡ Some r) (some_one also at) there in absurd (cc (d, here)))
        of_number n l at line (Some r) d = rule_at lines i n r l at d line

        go : (o : Option ℕ) → slice_get T.covered i ≡ o → (u : Option Line) → slice_get lines i ≡ u → RuleOrFault lines i
        go None d u e = inl (λ n r l at here line. absurd (cc (d, at)))
        go (Some n) d None e = inl (λ m r l at here line. absurd (cc (e, line)))
        go (Some n) d (Some l) e = of_number n l d e (slice_get T.rules n) refl

    abbrev PairOrFault : List Line → List ℕ → ℕ → Type 0
    PairOrFault lines drop i = IsRightPair shows T lines drop i ⊎ ((n : ℕ) × (f : Fault) × IsPairFault blames T lines drop i n f)

    pair_at : (lines : List Line) (drop : List ℕ) (i n : ℕ) (p : PairData) (l : Line) → slice_get T.set i ≡ Some n
        → slice_get T.pairs n ≡ Some p → slice_get lines i ≡ Some l → PairOrFault lines drop i
    pair_at lines drop i n p l at here line = let (strict, dropped) = dropped_or_not drop n in elim (pair_decided p strict l) [
      | inl right ↦ inl (pair_right lines drop i n p l strict at here line dropped right)
      | inr (f, wrong) ↦ inr (n, f, (p, l, strict, at, here, line, dropped, wrong))
    ]

    pair_or_fault : (lines : List Line) (drop : List ℕ) (i : ℕ) → PairOrFault lines drop i
    pair_or_fault lines drop i = go (slice_get T.set i) refl (slice_get lines i) refl
      where
        of_number : (n : ℕ) (l : Line) → slice_get T.set i ≡ Some n → slice_get lines i ≡ Some l → (o : Option PairData)
            → slice_get T.pairs n ≡ o → PairOrFault lines drop i
        of_number n l at line None d = inl (λ m p k strict also there other dropped.
            let here : slice_get T.pairs n ≡ Some p = subst (λ x. slice_get T.pairs x ≡ Some p) (some_one also at) there in absurd (cc (d, here)))
        of_number n l at line (Some p) d = pair_at lines drop i n p l at d line

        go : (o : Option ℕ) → slice_get T.set i ≡ o → (u : Option Line) → slice_get lines i ≡ u → PairOrFault lines drop i
        go None d u e = inl (λ n p l strict at here line dropped. absurd (cc (d, at)))
        go (Some n) d None e = inl (λ m p l strict at here line dropped. absurd (cc (e, line)))
        go (Some n) d (Some l) e = of_number n l d e (slice_get T.pairs n) refl

    pub rules_or_first : (lines : List Line)
        → ((i : ℕ) → IsRightRule shows T lines i) ⊎ ((n : ℕ) × (f : Fault) × IsFirstRuleFault shows blames T lines n f)
    rules_or_first lines =
        elim (all_or_first (IsRightRule shows T lines) (λ i. (n : ℕ) × (f : Fault) × IsRuleFault blames T lines i n f) (rule_or_fault lines)
        (length T.covered)) [
          | inl all ↦ inl (λ i n r l at. all i (slice_get_within T.covered i n at) n r l at)
          | inr (i, less, (n, f, wrong), before) ↦ inr (n, f, (i, before, wrong))
        ]

    pub pairs_or_first : (lines : List Line) (drop : List ℕ)
        → ((i : ℕ) → IsRightPair shows T lines drop i) ⊎ ((n : ℕ) × (f : Fault) × IsFirstPairFault shows blames T lines drop n f)
    pairs_or_first lines drop =
        elim (all_or_first (IsRightPair shows T lines drop) (λ i. (n : ℕ) × (f : Fault) × IsPairFault blames T lines drop i n f)
        (pair_or_fault lines drop) (length T.set)) [
          | inl all ↦ inl (λ i n p l strict at. all i (slice_get_within T.set i n at) n p l strict at)
          | inr (i, less, (n, f, wrong), before) ↦ inr (n, f, (i, before, wrong))
        ]

  -- of what is wrong one thing is the first

  neither_below : (m n : ℕ) → (m < n → ⊥) → (n < m → ⊥) → m ≡ n
  neither_below m n above below = omega (arith, above, below)

  module _ (Alike : Fault → Fault → Type 0) (rule_excluded : (r : RewriteRule) (l : Line) (f : Fault) → shows.rule r l → blames.rule r l f → ⊥)
      (pair_excluded : (p : PairData) (strict : Bool) (l : Line) (f : Fault) → shows.pair p strict l → blames.pair p strict l f → ⊥) where
    pub rule_or_not : (lines : List Line) (i n : ℕ) (f : Fault) → IsRuleFault blames T lines i n f → IsRightRule shows T lines i → ⊥
    rule_or_not lines i n f (r, l, at, here, line, wrong) right = rule_excluded r l f (right n r l at here line) wrong

    pub pair_or_not : (lines : List Line) (drop : List ℕ) (i n : ℕ) (f : Fault) → IsPairFault blames T lines drop i n f
        → IsRightPair shows T lines drop i → ⊥
    pair_or_not lines drop i n f (p, l, strict, at, here, line, dropped, wrong) right =
        pair_excluded p strict l f (right n p l strict at here line dropped) wrong

    module _ (rule_one : (r : RewriteRule) (l : Line) (f g : Fault) → blames.rule r l f → blames.rule r l g → Alike f g)
        (pair_one : (p : PairData) (strict : Bool) (l : Line) (f g : Fault) → blames.pair p strict l f → blames.pair p strict l g → Alike f g)
      where
        rule_alike : (lines : List Line) (i n m : ℕ) (f g : Fault) → IsRuleFault blames T lines i n f → IsRuleFault blames T lines i m g
            → (n ≡ m) × Alike f g
        rule_alike lines i n m f g (r, l, at, here, line, wrong) (u, k, also, there, other, wrong_too) =
            let number : n ≡ m = some_one at also in
            let rule : u ≡ r = some_one there (subst (λ x. slice_get T.rules x ≡ Some r) number here) in
            let same : k ≡ l = some_one other line in (
              number,
              rule_one r l f g wrong
                  (subst (λ (x : Line). blames.rule r x g) same (subst (λ (x : RewriteRule). blames.rule x k g) rule wrong_too)),
            )

        pub first_rule_one : (lines : List Line) (n m : ℕ) (f g : Fault) → IsFirstRuleFault shows blames T lines n f
            → IsFirstRuleFault shows blames T lines m g → (n ≡ m) × Alike f g
        first_rule_one lines n m f g (i, before, wrong) (j, earlier, also) =
            let place : j ≡ i = neither_below j i (λ less. rule_or_not lines j m g also (before j less))
            (λ less. rule_or_not lines i n f wrong (earlier i less)) in
            rule_alike lines i n m f g wrong (subst (λ x. IsRuleFault blames T lines x m g) place also)

        pair_alike : (lines : List Line) (drop : List ℕ) (i n m : ℕ) (f g : Fault) → IsPairFault blames T lines drop i n f
            → IsPairFault blames T lines drop i m g → (n ≡ m) × Alike f g
        pair_alike lines drop i n m f g (p, l, strict, at, here, line, dropped, wrong) (q, k, asked, also, there, other, also_dropped, wrong_too) =
            let number : n ≡ m = some_one at also in
            let pair : q ≡ p = some_one there (subst (λ x. slice_get T.pairs x ≡ Some p) number here) in
            let same : k ≡ l = some_one other line in
            let alike : asked ≡ strict = dropped_one drop m asked strict also_dropped (subst (λ x. IsDropped drop x strict) number dropped) in (
              number,
              pair_one p strict l f g wrong
                  (subst (λ (x : Bool). blames.pair p x l g) alike (subst (λ (x : Line). blames.pair p asked x g) same
                  (subst (λ (x : PairData). blames.pair x asked k g) pair wrong_too))),
            )

        pub first_pair_one : (lines : List Line) (drop : List ℕ) (n m : ℕ) (f g : Fault) → IsFirstPairFault shows blames T lines drop n f
            → IsFirstPairFault shows blames T lines drop m g → (n ≡ m) × Alike f g
        first_pair_one lines drop n m f g (i, before, wrong) (j, earlier, also) =
            let place : j ≡ i = neither_below j i (λ less. pair_or_not lines drop j m g also (before j less))
            (λ less. pair_or_not lines drop i n f wrong (earlier i less)) in
            pair_alike lines drop i n m f g wrong (subst (λ x. IsPairFault blames T lines drop x m g) place also)

-- what is asked before the first line

bad_lines_decided : {Line : Type 0} (T : TaskData) (E : Evidence Line) → AreBadLines T E
    ⊎ ((length E.of_rules ≡ length T.covered) × (length E.of_pairs ≡ length T.set))
bad_lines_decided T E = elim (equal_decided (length E.of_rules) (length T.covered)) [
  | inr other ↦ inl (inl other)
  | inl same ↦ elim (equal_decided (length E.of_pairs) (length T.set)) [
    | inr other ↦ inl (inr other)
    | inl also ↦ inr (same, also)
  ]
]

pub counted_or_not : {Line : Type 0} (T : TaskData) (E : Evidence Line)
    → AreCounted T E ⊎ (AreBadLines T E ⊎ ((AreBadLines T E → ⊥) × IsBadDrop T.set E.drop))
counted_or_not T E = elim (bad_lines_decided T E) [
  | inl bad ↦ inr (inl bad)
  | inr (same, also) ↦ elim (bad_drop_decided T.set E.drop) [
    | inl bad ↦ inr (inr ((λ lines. elim lines [ inl other ↦ other same | inr other ↦ other also ]), bad))
    | inr good ↦ inl (record { rule_count = same; pair_count = also; good_drop = good })
  ]
]

pub counted_not_bad : {Line : Type 0} {T : TaskData} {E : Evidence Line} → AreCounted T E → AreBadLines T E → ⊥
counted_not_bad counted (inl other) = other counted.rule_count
counted_not_bad counted (inr other) = other counted.pair_count

-- where nothing is wrong the conditions hold, and the other way round

pub all_right : {Line : Type 0} (shows : Showing Line) (T : TaskData) (E : Evidence Line) → AreCounted T E
    → ((i : ℕ) → IsRightRule shows T E.of_rules i) → ((i : ℕ) → IsRightPair shows T E.of_pairs E.drop i) → IsReductionPair shows T E
all_right shows T E counted rules pairs = record {
  rule_count = counted.rule_count;
  pair_count = counted.pair_count;
  some_dropped = drops_some T.set E.drop counted.good_drop;
  once = drops_once T.set E.drop counted.good_drop;
  within = drops_within T.set E.drop counted.good_drop;
  rules = rules;
  pairs = pairs;
}

pub counted_of : {Line : Type 0} (shows : Showing Line) (T : TaskData) (E : Evidence Line) → IsReductionPair shows T E → AreCounted T E
counted_of shows T E is = record {
  rule_count = is.rule_count;
  pair_count = is.pair_count;
  good_drop = good;
}
  where
    good : IsBadDrop T.set E.drop → ⊥
    good (inl empty) = is.some_dropped empty
    good (inr (inl (n, (i, j, less, at, also)))) = let same : i ≡ j = is.once i j n at also in omega (arith, same, less)
    good (inr (inr (n, found, stray))) = stray (All-contains (Contains T.set) E.drop n is.within found)

-- lines that show more are right where they show less
pub shows_less : {Line : Type 0} (shows less : Showing Line) (T : TaskData) (E : Evidence Line)
    → ((r : RewriteRule) (l : Line) → shows.rule r l → less.rule r l)
    → ((p : PairData) (strict : Bool) (l : Line) → shows.pair p strict l → less.pair p strict l) → IsReductionPair shows T E
    → IsReductionPair less T E
shows_less shows less T E rule pair is = record {
  rule_count = is.rule_count;
  pair_count = is.pair_count;
  some_dropped = is.some_dropped;
  once = is.once;
  within = is.within;
  rules = λ i n r l at here line. rule r l (is.rules i n r l at here line);
  pairs = λ i n p l strict at here line dropped. pair p strict l (is.pairs i n p l strict at here line dropped);
}
