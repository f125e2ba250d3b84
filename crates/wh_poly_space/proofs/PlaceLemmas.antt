-- Places that are counted along a scope.
use Rattle.std.proofs.Common.{◌≡◌, ℕ, zero, suc, ◌+◌, ◌-◌, ◌^◌, ◌<◌, ◌≤◌, ◌⊎◌, inl, inr, Bool, true, false, cond, min, nat_lt, List, [], ◌∷◌, length, get_or, Some, slice_get, refl, ap, sym, subst, ◌∙◌, arith}
use Rattle.std.proofs.lemmas.Bool.Decides.{nat_tests}
use Rattle.std.proofs.lemmas.List.{get_or_past}
use Rattle.std.proofs.lemmas.Option.{slice_get_within, get_or_from_slice_get}
use Rattle.wh_types.specs.Ty.{Ty}
use Rattle.wh_poly_space.specs.Coefficients.{capped}
use Rattle.wh_hopoly.specs.Evaluation.{type_at}
use Rattle.wh_poly_space.specs.Space.{is_sort, sort_variables, functional_variables}
use Rattle.wh_poly_space.specs.Spots.{IsSpot, IsSpotBelow, weight_before, sorts_before, functional_before, products_before, alone_place, row_place, place, IsUpTo, IsPlace, IsWalk}
use Rattle.wh_poly_space.specs.declared.space.Spot.{Spot}
use Rattle.wh_poly_space.specs.declared.space.Spot.TheVariants.{Constant, One, Two}
use Rattle.wh_poly_space.specs.declared.places.Place.{Place}
use Rattle.wh_poly_space.specs.declared.places.Walk.{Walk}

less_or_more : (a b : ℕ) → (a ≤ b) ⊎ (b ≤ a)
less_or_more zero b = inl (omega arith)
less_or_more (suc a) zero = inr (omega arith)
less_or_more (suc a) (suc b) = elim (less_or_more a b) [
  | inl less ↦ inl (omega (arith, less))
  | inr more ↦ inr (omega (arith, more))
]

-- sums that stay at the greatest number

abbrev IsCut : ℕ → ℕ → ℕ → Type 0
IsCut top exact n = (n ≡ exact) ⊎ ((n ≡ top) × (top ≤ exact))

cut_sum : (top a b m n r : ℕ) → IsCut top a m → IsCut top b n → r ≡ min (m + n) top → IsCut top (a + b) r
cut_sum top a b m n r (inl e) (inl f) is = elim (less_or_more (m + n) top) [
  | inl below ↦ inl (omega (arith, is, e, f, below))
  | inr above ↦ inr (omega (arith, is, above), omega (arith, e, f, above))
]
cut_sum top a b m n r (inl e) (inr (f, past)) is = inr (omega (arith, is, f), omega (arith, past))
cut_sum top a b m n r (inr (e, past)) other is = inr (omega (arith, is, e), omega (arith, past))

pub up_to_sum : (a b m n r : ℕ) → IsUpTo a m → IsUpTo b n → r ≡ min (m + n) (2 ^ 64 - 1) → IsUpTo (a + b) r
up_to_sum a b m n r is_m is_n is = cut_sum (2 ^ 64 - 1) a b m n r is_m is_n is

up_to_same : (a b n r : ℕ) → IsUpTo a n → a ≡ b → r ≡ n → IsUpTo b r
up_to_same a b n r is same result = subst (λ (a : ℕ). IsUpTo a r) same (subst (IsUpTo a) (sym result) is)

-- what stands before a variable, and before the next one

none_before : (weight : Ty → ℕ) (Γ : List Ty) → weight_before weight Γ 0 ≡ 0
none_before weight [] = refl
none_before weight (A ∷ Γ) = refl

one_more : (weight : Ty → ℕ) (Γ : List Ty) (x : ℕ) → x < length Γ → weight_before weight Γ (suc x) ≡ weight_before weight Γ x + weight (type_at Γ x)
one_more weight [] x within = absurd (omega (arith, within))
one_more weight (A ∷ Γ) zero within = let h = none_before weight Γ in omega (arith, h)
one_more weight (A ∷ Γ) (suc x) within = let h = one_more weight Γ x (omega (arith, within)) in omega (arith, h)

module _ (Γ : List Ty) where
  pub walk_begins : (w : Walk) (sorts others first : ℕ) → sorts ≡ length (sort_variables Γ) → others ≡ length (functional_variables Γ) → first ≡ min (sorts + 1) (2 ^ 64 - 1)
      → w.sorts ≡ 0 → w.functional ≡ first → w.row ≡ min (first + others) (2 ^ 64 - 1) → IsWalk Γ 0 w
  walk_begins w sorts others first all rest first_is none functional row =
      let one = up_to_sum sorts 1 sorts 1 first (inl refl) (inl refl) first_is in
      let both = up_to_sum (sorts + 1) others first others w.row one (inl refl) row in
      record {
        sorts = inl (omega (arith, none, none_before (λ A. cond (is_sort A) 1 0) Γ));
        functional = up_to_same (sorts + 1) _ first w.functional one (omega (arith, all, none_before (λ A. cond (is_sort A) 0 1) Γ)) functional;
        row = up_to_same (sorts + 1 + others) _ w.row w.row both (omega (arith, all, rest, none_before (λ A. cond (is_sort A) 0 (length (sort_variables Γ))) Γ)) refl;
      }

  module _ (x : ℕ) (w : Walk) (walk : IsWalk Γ x w) where
    pub sort_here : (p : Place) → is_sort (type_at Γ x) ≡ true → p.alone ≡ min (w.sorts + 1) (2 ^ 64 - 1) → p.row ≡ w.sorts → IsPlace Γ x p
    sort_here p is alone row = record {
      alone = up_to_same (sorts_before Γ x + 1) (alone_place Γ x) p.alone p.alone (up_to_sum (sorts_before Γ x) 1 w.sorts 1 p.alone walk.sorts (inl refl) alone)
          (let e : sorts_before Γ x + 1 ≡ 1 + sorts_before Γ x = omega arith in
          e ∙ sym (ap (λ (b : Bool). cond b (1 + sorts_before Γ x) (1 + (length (sort_variables Γ) + functional_before Γ x))) is)) refl;
      row = up_to_same (sorts_before Γ x) (row_place Γ x) w.sorts p.row walk.sorts
          (sym (ap (λ (b : Bool). cond b (sorts_before Γ x) (1 + (length (sort_variables Γ) + (length (functional_variables Γ) + products_before (length (sort_variables Γ)) Γ x)))) is)) row;
    }

    pub functional_here : (p : Place) → is_sort (type_at Γ x) ≡ false → p.alone ≡ w.functional → p.row ≡ w.row → IsPlace Γ x p
    functional_here p is alone row = record {
      alone = up_to_same _ (alone_place Γ x) w.functional p.alone walk.functional
          (sym (ap (λ (b : Bool). cond b (1 + sorts_before Γ x) (1 + (length (sort_variables Γ) + functional_before Γ x))) is)) alone;
      row = up_to_same _ (row_place Γ x) w.row p.row walk.row
          (sym (ap (λ (b : Bool). cond b (sorts_before Γ x) (1 + (length (sort_variables Γ) + (length (functional_variables Γ) + products_before (length (sort_variables Γ)) Γ x)))) is)) row;
    }

    module _ (v : Walk) (within : x < length Γ) where
      pub walk_sort : is_sort (type_at Γ x) ≡ true → v.sorts ≡ min (w.sorts + 1) (2 ^ 64 - 1) → v.functional ≡ w.functional → v.row ≡ w.row → IsWalk Γ (suc x) v
      walk_sort is sorts functional row =
          let counted = one_more (λ A. cond (is_sort A) 1 0) Γ x within ∙ ap (λ (b : Bool). sorts_before Γ x + cond b 1 0) is in
          let others = one_more (λ A. cond (is_sort A) 0 1) Γ x within ∙ ap (λ (b : Bool). functional_before Γ x + cond b 0 1) is in
          let count = length (sort_variables Γ) in
          let rows = one_more (λ A. cond (is_sort A) 0 count) Γ x within ∙ ap (λ (b : Bool). products_before count Γ x + cond b 0 count) is in
          record {
            sorts = up_to_same (sorts_before Γ x + 1) _ v.sorts v.sorts (up_to_sum (sorts_before Γ x) 1 w.sorts 1 v.sorts walk.sorts (inl refl) sorts) (omega (arith, counted)) refl;
            functional = up_to_same _ _ w.functional v.functional walk.functional (omega (arith, others)) functional;
            row = up_to_same _ _ w.row v.row walk.row (omega (arith, rows)) row;
          }

      pub walk_functional : (count : ℕ) → count ≡ length (sort_variables Γ) → is_sort (type_at Γ x) ≡ false → v.sorts ≡ w.sorts
          → v.functional ≡ min (w.functional + 1) (2 ^ 64 - 1) → v.row ≡ min (w.row + count) (2 ^ 64 - 1) → IsWalk Γ (suc x) v
      walk_functional count all is sorts functional row =
          let counted = one_more (λ A. cond (is_sort A) 1 0) Γ x within ∙ ap (λ (b : Bool). sorts_before Γ x + cond b 1 0) is in
          let others = one_more (λ A. cond (is_sort A) 0 1) Γ x within ∙ ap (λ (b : Bool). functional_before Γ x + cond b 0 1) is in
          let number = length (sort_variables Γ) in
          let rows = one_more (λ A. cond (is_sort A) 0 number) Γ x within ∙ ap (λ (b : Bool). products_before number Γ x + cond b 0 number) is in
          record {
            sorts = up_to_same _ _ w.sorts v.sorts walk.sorts (omega (arith, counted)) sorts;
            functional = up_to_same _ _ v.functional v.functional (up_to_sum _ 1 w.functional 1 v.functional walk.functional (inl refl) functional) (omega (arith, others)) refl;
            row = up_to_same _ _ v.row v.row (up_to_sum _ count w.row count v.row walk.row (inl refl) row) (omega (arith, rows, all)) refl;
          }

-- the variables of a spot are in the scope
pub spot_below : (Γ : List Ty) (n : ℕ) → n ≡ length Γ → (s : Spot) → IsSpot Γ s → IsSpotBelow n s
spot_below Γ n is Constant of = tt
spot_below Γ n is (One x) within = omega (arith, is, within)
spot_below Γ n is (Two x y) (less, within, apart) = (omega (arith, is, less, within), omega (arith, is, within))

-- the coefficient at a place, and behind all of them

at_or : (cs : List ℕ) (i c : ℕ) → slice_get cs i ≡ Some c → get_or cs i 0 ≡ c
at_or cs i c at = get_or_from_slice_get cs i c 0 at

capped_least : (c r : ℕ) → r ≡ min c 3 → r ≡ capped c
capped_least c r is = by (nat_lt 3 c) refl
  where
    by : (b : Bool) → nat_lt 3 c ≡ b → r ≡ cond b 3 c
    by true t = let less : 3 < c = grind (arith, nat_tests, t) in omega (arith, is, less)
    by false t = let least : c ≤ 3 = grind (arith, nat_tests, t) in omega (arith, is, least)

pub coefficient_there : (cs : List ℕ) (place exact c r : ℕ) → length cs ≤ 2 ^ 64 - 1 → IsUpTo exact place → slice_get cs place ≡ Some c → r ≡ min c 3 → r ≡ capped (get_or cs exact 0)
coefficient_there cs place exact c r few (inl same) at is =
    capped_least c r is ∙ ap capped (sym (at_or cs place c at) ∙ ap (λ (i : ℕ). get_or cs i 0) same)
coefficient_there cs place exact c r few (inr (top, past)) at is = let within = slice_get_within cs place c at in absurd (omega (arith, within, few, top))

pub coefficient_past : (cs : List ℕ) (place exact : ℕ) → length cs ≤ 2 ^ 64 - 1 → IsUpTo exact place → length cs ≤ place → 0 ≡ capped (get_or cs exact 0)
coefficient_past cs place exact few up out = ap capped (sym (get_or_past cs exact 0 (beyond up)))
  where
    beyond : IsUpTo exact place → length cs ≤ exact
    beyond (inl same) = omega (arith, same, out)
    beyond (inr (top, past)) = omega (arith, few, past)
