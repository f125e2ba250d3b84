-- Ranges whose ends are cut off, and ranges that are split: what is lost and what is not.
use Rattle.std.proofs.Common.{◌≡◌, ◌≢◌, ◌⊎◌, inl, inr, ℕ, zero, suc, ◌<◌, ◌≤◌, List, [], ◌∷◌, length, get_or, Bool, true, false, Result, Ok, Err, IfOk, refl, sym, subst, ◌∙◌, arith}
use Rattle.std.specs.Bool.{OnTrue}
use Rattle.std.specs.declared.alloc.AllocError.{AllocError}
use Rattle.wh_reduction_pairs.specs.TaskData.{TaskData}
use Rattle.wh_poly_ranges.specs.Excluded.{coefficient_in, LieIn, IsExcluded, AreKept}
use Rattle.wh_poly_ranges.specs.Bounds.{Has, IsSetTo}

-- a coefficient that is not 0 is there
missing : (cs : List ℕ) (j : ℕ) → length cs ≤ j → get_or cs j 0 ≡ 0
missing [] j past = refl
missing (c ∷ cs) zero past = absurd (omega (arith, past))
missing (c ∷ cs) (suc j) past = missing cs j (omega (arith, past))

lt_or_le : (i j : ℕ) → (i < j) ⊎ (j ≤ i)
lt_or_le i zero = inr (omega arith)
lt_or_le zero (suc j) = inl (omega arith)
lt_or_le (suc i) (suc j) = elim (lt_or_le i j) [
  | inl less ↦ inl (omega (arith, less))
  | inr more ↦ inr (omega (arith, more))
]

equal_or_not : (i j : ℕ) → (i ≡ j) ⊎ (i ≢ j)
equal_or_not zero zero = inl refl
equal_or_not zero (suc j) = inr (λ e. cc)
equal_or_not (suc i) zero = inr (λ e. cc)
equal_or_not (suc i) (suc j) = elim (equal_or_not i j) [
  | inl same ↦ inl (omega (arith, same))
  | inr apart ↦ inr (λ e. apart (omega (arith, e)))
]

pub has_more : (lists : List (List ℕ)) (n j c : ℕ) → c < coefficient_in lists n j → Has lists n j
has_more lists n j c more = elim (lt_or_le j (length (get_or lists n []))) [
  | inl there ↦ there
  | inr past ↦ absurd (omega (arith, missing (get_or lists n []) j past, more))
]

-- what holds at one place and at all others holds everywhere
by_place : (n j : ℕ) (P : ℕ → ℕ → Type 0) → P n j → ((m i : ℕ) → (m ≢ n) ⊎ (i ≢ j) → P m i) → (m i : ℕ) → P m i
by_place n j P here others m i = elim (equal_or_not m n) [
  | inr apart ↦ others m i (inl apart)
  | inl same ↦ elim (equal_or_not i j) [
    | inr apart ↦ others m i (inr apart)
    | inl also ↦ subst (λ m. P m i) (sym same) (subst (λ i. P n i) (sym also) here)
  ]
]

-- what a coefficient is at most after it was set
set_most : (n j value : ℕ) (old new : List (List ℕ)) → IsSetTo n j value old new → coefficient_in old n j ≤ value → coefficient_in new n j ≤ value
set_most n j value old new set most = elim (lt_or_le j (length (get_or old n []))) [
  | inl there ↦ (let e = set.here there in omega (arith, e))
  | inr past ↦ (let l = set.sizes n in let e = missing (get_or new n []) j (omega (arith, l, past)) in omega (arith, e))
]

-- lists that were set at a place, and there back again
set_back : (n j value back : ℕ) (old mid new : List (List ℕ)) → IsSetTo n j value old mid → IsSetTo n j back mid new
    → back ≡ coefficient_in old n j → Has old n j → (m i : ℕ) → coefficient_in new m i ≡ coefficient_in old m i
set_back n j value back old mid new first second was there =
    by_place n j (λ m i. coefficient_in new m i ≡ coefficient_in old m i)
    (second.here (let l = first.sizes n in omega (arith, l, there)) ∙ was)
    (λ m i apart. second.others m i apart ∙ first.others m i apart)

-- what lies in ranges lies below a coefficient, or above it
lies_below : (n j c : ℕ) (low high cut lists : List (List ℕ)) → IsSetTo n j c high cut → Has high n j → LieIn low high lists
    → coefficient_in lists n j ≤ c → LieIn low cut lists
lies_below n j c low high cut lists set there lie small = record {
  above = lie.above;
  below = by_place n j (λ m i. coefficient_in lists m i ≤ coefficient_in cut m i)
      (let e = set.here there in omega (arith, e, small))
      (λ m i apart. let e = set.others m i apart in let l = lie.below m i in omega (arith, e, l));
}

lies_above : (n j c : ℕ) (low high cut lists : List (List ℕ)) → IsSetTo n j c low cut → LieIn low high lists
    → c ≤ coefficient_in lists n j → coefficient_in low n j ≤ c → LieIn cut high lists
lies_above n j c low high cut lists set lie great least = record {
  above = by_place n j (λ m i. coefficient_in cut m i ≤ coefficient_in lists m i)
      (let e = set_most n j c low cut set least in omega (arith, e, great))
      (λ m i apart. let e = set.others m i apart in let l = lie.above m i in omega (arith, e, l));
  below = lie.below;
}

-- ranges whose upper ends are the same, or whose lower ones are
lie_same : (low high low' high' lists : List (List ℕ)) → ((m i : ℕ) → coefficient_in low' m i ≡ coefficient_in low m i)
    → ((m i : ℕ) → coefficient_in high' m i ≡ coefficient_in high m i) → LieIn low high lists → LieIn low' high' lists
lie_same low high low' high' lists lows highs lie = record {
  above = λ m i. let e = lows m i in let l = lie.above m i in omega (arith, e, l);
  below = λ m i. let e = highs m i in let l = lie.below m i in omega (arith, e, l);
}

-- what is told is so
pub told : (b : Bool) (P : Type 0) → b ≡ true → OnTrue b P → P
told true P is so = so
told false P is so = absurd (cc)

pub told_as : (r : Result Bool AllocError) (P Q : Type 0) → (P → Q) → IfOk r (λ told. OnTrue told P) → IfOk r (λ told. OnTrue told Q)
told_as (Ok true) P Q f h = f h
told_as (Ok false) P Q f h = tt
told_as (Err e) P Q f h = tt

module _ (T : TaskData) (strict : ℕ) where
  abbrev Out : List (List ℕ) → List (List ℕ) → Type 0
  Out low high = IsExcluded T strict low high

  abbrev Kept : List (List ℕ) → List (List ℕ) → List (List ℕ) → List (List ℕ) → Type 0
  Kept low high low' high' = AreKept T strict low high low' high'

  pub kept_same : (low high : List (List ℕ)) → Kept low high low high
  kept_same low high lists R fit lie = lie

  pub kept_then : (a b c d e f : List (List ℕ)) → Kept a b c d → Kept c d e f → Kept a b e f
  kept_then a b c d e f first second lists R fit lie = second lists R fit (first lists R fit lie)

  pub kept_out : (a b c d : List (List ℕ)) → Kept a b c d → Out c d → Out a b
  kept_out a b c d kept out lists R fit lie = out lists R fit (kept lists R fit lie)

  -- the upper end was put down to the lower one, and up again: nothing has changed
  pub high_back : (n j least most : ℕ) (low high mid back : List (List ℕ)) → IsSetTo n j least high mid → IsSetTo n j most mid back
      → most ≡ coefficient_in high n j → Has high n j → Kept low high low back
  high_back n j least most low high mid back first second was there lists R fit lie =
      lie_same low high low back lists (λ m i. refl) (set_back n j least most high mid back first second was there) lie

  pub low_back : (n j most least : ℕ) (low high mid back : List (List ℕ)) → IsSetTo n j most low mid → IsSetTo n j least mid back
      → least ≡ coefficient_in low n j → Kept low high back high
  low_back n j most least low high mid back first second was lists R fit lie =
      lie_same low high back high lists back_is (λ m i. refl) lie
    where
      back_is : (m i : ℕ) → coefficient_in back m i ≡ coefficient_in low m i
      back_is = by_place n j (λ m i. coefficient_in back m i ≡ coefficient_in low m i)
          (elim (lt_or_le j (length (get_or low n []))) [
            | inl there ↦ second.here (let l = first.sizes n in omega (arith, l, there)) ∙ was
            | inr past ↦ missing (get_or back n []) j (let l = first.sizes n in let k = second.sizes n in omega (arith, l, k, past))
                ∙ sym (missing (get_or low n []) j past)
          ])
          (λ m i apart. second.others m i apart ∙ first.others m i apart)

  -- nothing fits where the coefficient is at its lower end: that goes up
  pub raised : (n j least next : ℕ) (low high mid up : List (List ℕ)) → IsSetTo n j least high mid → IsSetTo n j next low up
      → least ≡ coefficient_in low n j → next ≡ suc least → coefficient_in low n j < coefficient_in high n j → Out low mid
      → Kept low high up high
  raised n j least next low high mid up down set is more opened out lists R fit lie =
      elim (lt_or_le least (coefficient_in lists n j)) [
        | inl above ↦ lies_above n j next low high up lists set lie (omega (arith, above, more)) (omega (arith, is, more))
        | inr below ↦ absurd (out lists R fit (lies_below n j least low high mid lists down (has_more high n j (coefficient_in low n j) opened) lie below))
      ]

  -- and so at its upper end
  pub lowered : (n j most less : ℕ) (low high mid down : List (List ℕ)) → IsSetTo n j most low mid → IsSetTo n j less high down
      → most ≡ coefficient_in high n j → suc less ≡ most → coefficient_in low n j < coefficient_in high n j → Out mid high
      → Kept low high low down
  lowered n j most less low high mid down up set is next opened out lists R fit lie =
      elim (lt_or_le (coefficient_in lists n j) most) [
        | inl below ↦ lies_below n j less low high down lists set (has_more high n j (coefficient_in low n j) opened) lie (omega (arith, below, next))
        | inr above ↦ absurd (out lists R fit (lies_above n j most low high mid lists up lie above (omega (arith, is, opened))))
      ]

  -- nothing fits below the coefficient and nothing above it
  pub halves_out : (n j least next : ℕ) (low high down up : List (List ℕ)) → IsSetTo n j least high down → IsSetTo n j next low up
      → least ≡ coefficient_in low n j → next ≡ suc least → coefficient_in low n j < coefficient_in high n j → Out low down → Out up high
      → Out low high
  halves_out n j least next low high down up below above is more opened first second lists R fit lie =
      second lists R fit (raised n j least next low high down up below above is more opened first lists R fit lie)
