-- Raw types whose arguments are a list: their trees, what is left of a list, and the measure of a recursion.
use Rattle.std.proofs.Common.{◌≡◌, ℕ, zero, suc, ◌+◌, ◌<◌, ◌≤◌, List, [], ◌∷◌, ◌++◌, length, drop, get_or, Some, None, slice_get, ◌==◌, false, true, refl, ap, sym, ◌∙◌, arith}
use Rattle.std.proofs.lemmas.List.{drop_more, drop_all}
use Rattle.wh_text.specs.RawTree.{RTy, raw_type, RTys, no_types, more_types}
use Rattle.wh_system_parts.specs.Faults.{first_fault}
use Rattle.wh_system_parts.specs.Tests.{type_offset, width_of_type, width_of_types, count_of_types}
use Rattle.wh_system_parts.specs.declared.fault.SystemFault.TheVariants.{TooMany}
use Rattle.wh_system_parts.proofs.FaultLemmas.{fault_after, fault_in_first, past_test, fault_at_test}
use Rattle.wh_text.specs.Erase.{rty, rtys}
use Rattle.wh_text.specs.declared.raw.RawType.{RawType, out-RawType}
use Rattle.wh_text.proofs.RawLemmas.{rty_parts}

-- what is left of a list at a place: one step on, and at the end
pub types_next : (xs : List RawType) (i : ℕ) (a : RawType) → i < length xs → a ≡ get_or xs i a → rtys (drop i xs) ≡ more_types (rty a) (rtys (drop (i + 1) xs))
types_next xs i a within e =
    ap rtys (drop_more xs i a within) ∙ ap (λ b. more_types (rty b) (rtys (drop (i + 1) xs))) (sym e)

pub types_end : (xs : List RawType) (i : ℕ) → length xs ≤ i → rtys (drop i xs) ≡ no_types
types_end xs i past = ap rtys (drop_all i xs past)

-- an argument has less weight than the whole
abbrev mutual
  pub type_weight : RTy → ℕ
  type_weight (raw_type args s at) = 1 + type_weights args

  pub type_weights : RTys → ℕ
  type_weights no_types = 0
  type_weights (more_types a rest) = 1 + (type_weight a + type_weights rest)

weight-get : (xs : List RawType) (i : ℕ) (a : RawType) → i < length xs → a ≡ get_or xs i a → type_weight (rty a) < type_weights (rtys xs)
weight-get [] i a within e = absurd (omega arith)
weight-get (x ∷ xs) zero a within e = omega (arith, ap (λ b. type_weight (rty b)) e)
weight-get (x ∷ xs) (suc i) a within e = omega (arith, weight-get xs i a (omega arith) e)

pub type_weight_in : (a : RawType) (xs : List RawType) (i : ℕ) (b : RawType) → xs ≡ (out-RawType a).args → i < length xs → b ≡ get_or xs i b
    → type_weight (rty b) < type_weight (rty a)
type_weight_in a xs i b from within e =
    omega (arith, weight-get xs i b within e, ap (λ us. type_weights (rtys us)) from, ap type_weight (rty_parts a))

-- where a type stands

place-first : (xs : List RawType) (s : List ℕ) (at : ℕ) (b : RawType) → slice_get xs 0 ≡ Some b → type_offset (rty b) ≡ type_offset (raw_type (rtys xs) s at)
place-first [] s at b e = absurd (cc)
place-first (x ∷ xs) s at b e = let is : b ≡ x = cc in ap (λ c. type_offset (rty c)) is

pub place_some : (a : RawType) (xs : List RawType) (b : RawType) → xs ≡ (out-RawType a).args → slice_get xs 0 ≡ Some b
    → type_offset (rty b) ≡ type_offset (rty a)
place_some a xs b from e =
    place-first xs (out-RawType a).sort (out-RawType a).at b e
    ∙ ap (λ ys. type_offset (raw_type (rtys ys) (out-RawType a).sort (out-RawType a).at)) from ∙ sym (ap type_offset (rty_parts a))

place-none : (xs : List RawType) (s : List ℕ) (at : ℕ) → slice_get xs 0 ≡ None → at ≡ type_offset (raw_type (rtys xs) s at)
place-none [] s at e = refl
place-none (x ∷ xs) s at e = absurd (cc)

pub place_none : (a : RawType) (xs : List RawType) → xs ≡ (out-RawType a).args → slice_get xs 0 ≡ None → (out-RawType a).at ≡ type_offset (rty a)
place_none a xs from e =
    place-none xs (out-RawType a).sort (out-RawType a).at e
    ∙ ap (λ ys. type_offset (raw_type (rtys ys) (out-RawType a).sort (out-RawType a).at)) from ∙ sym (ap type_offset (rty_parts a))

-- the tests of a type's width, from one argument on

pub width_start : (a : RawType) (xs : List RawType) → xs ≡ (out-RawType a).args → first_fault (width_of_type (rty a)) ≡ first_fault (width_of_types 0 (rtys xs))
width_start a xs from = ap (λ t. first_fault (width_of_type t)) (rty_parts a) ∙ ap (λ ys. first_fault (width_of_types 0 (rtys ys))) (sym from)

pub is_false : (k n : ℕ) → (k ≡ n → ⊥) → (k == n) ≡ false
is_false k n other = grind arith

pub is_true : (k n : ℕ) → k ≡ n → (k == n) ≡ true
is_true k n same = grind arith

pub width_step : (xs : List RawType) (k : ℕ) (a : RawType) → k < length xs → a ≡ get_or xs k a → (k ≡ 32 → ⊥) → first_fault (width_of_type (rty a)) ≡ None
    → first_fault (width_of_types k (rtys (drop k xs))) ≡ first_fault (width_of_types (k + 1) (rtys (drop (k + 1) xs)))
width_step xs k a within e other passed =
    ap (λ us. first_fault (width_of_types k us)) (types_next xs k a within e)
    ∙ past_test (k == 32) (TooMany (type_offset (rty a))) (width_of_type (rty a) ++ width_of_types (k + 1) (rtys (drop (k + 1) xs))) (is_false k 32 other)
    ∙ fault_after (width_of_type (rty a)) (width_of_types (k + 1) (rtys (drop (k + 1) xs))) passed

pub width_inner : (xs : List RawType) (k : ℕ) (a : RawType) (f : _) → k < length xs → a ≡ get_or xs k a → (k ≡ 32 → ⊥) → first_fault (width_of_type (rty a)) ≡ Some f
    → first_fault (width_of_types k (rtys (drop k xs))) ≡ Some f
width_inner xs k a f within e other failed =
    ap (λ us. first_fault (width_of_types k us)) (types_next xs k a within e)
    ∙ past_test (k == 32) (TooMany (type_offset (rty a))) (width_of_type (rty a) ++ width_of_types (k + 1) (rtys (drop (k + 1) xs))) (is_false k 32 other)
    ∙ fault_in_first (width_of_type (rty a)) (width_of_types (k + 1) (rtys (drop (k + 1) xs))) f failed

pub width_past : (xs : List RawType) (k : ℕ) (a : RawType) → k < length xs → a ≡ get_or xs k a → k ≡ 32
    → first_fault (width_of_types k (rtys (drop k xs))) ≡ Some (TooMany (type_offset (rty a)))
width_past xs k a within e same =
    ap (λ us. first_fault (width_of_types k us)) (types_next xs k a within e)
    ∙ fault_at_test (k == 32) (TooMany (type_offset (rty a))) (width_of_type (rty a) ++ width_of_types (k + 1) (rtys (drop (k + 1) xs))) (is_true k 32 same)

pub width_end : (xs : List RawType) (k : ℕ) → length xs ≤ k → first_fault (width_of_types k (rtys (drop k xs))) ≡ None
width_end xs k past = ap (λ us. first_fault (width_of_types k us)) (types_end xs k past)

-- the number of types in a list

pub count_past : (xs : List RawType) (j k : ℕ) (a : RawType) → k + j ≡ 32 → slice_get xs j ≡ Some a → first_fault (count_of_types k (rtys xs)) ≡ Some (TooMany (type_offset (rty a)))
count_past [] j k a sum e = absurd (cc)
count_past (x ∷ xs) zero k a sum e =
    let is : x ≡ a = cc in fault_at_test (k == 32) (TooMany (type_offset (rty x))) (count_of_types (k + 1) (rtys xs)) (is_true k 32 (omega arith)) ∙ ap (λ b. Some (TooMany (type_offset (rty b)))) is
count_past (x ∷ xs) (suc j) k a sum e =
    past_test (k == 32) (TooMany (type_offset (rty x))) (count_of_types (k + 1) (rtys xs)) (is_false k 32 (λ same. omega arith)) ∙ count_past xs j (k + 1) a (omega arith) e

pub count_within : (xs : List RawType) (j k : ℕ) → k + j ≡ 32 → length xs ≤ j → first_fault (count_of_types k (rtys xs)) ≡ None
count_within [] j k sum few = refl
count_within (x ∷ xs) zero k sum few = absurd (omega arith)
count_within (x ∷ xs) (suc j) k sum few =
    past_test (k == 32) (TooMany (type_offset (rty x))) (count_of_types (k + 1) (rtys xs)) (is_false k 32 (λ same. omega arith)) ∙ count_within xs j (k + 1) (omega arith) (omega arith)
