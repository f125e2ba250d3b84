-- Lines that are found one after another.
use Rattle.std.proofs.Common.{◌≡◌, ℕ, ◌+◌, ◌<◌, ◌↔◌, inl, inr, true, false, IsTrue, List, [], ◌∷◌, ◌++◌, length, map, Some, slice_get, All, Contains, ap, sym, subst, ◌∙◌, arith}
use Rattle.std.proofs.lemmas.Option.{slice_get_within, get_or_from_slice_get}
use Rattle.std.proofs.lemmas.List.{length-map, length-append}
use Rattle.std.proofs.lemmas.List.Elements.{Contains-push_cases, Contains-append_left, Contains-push}
use Rattle.wh_pairs.specs.PairData.{PairData, IsIncreasing}
use Rattle.wh_pairs.proofs.Increasing.{one_place, increasing_at}
use Rattle.wh_pairs.proofs.PairLemmas.{increasing_push}
use Rattle.wh_pairs.proofs.ByPlace.{some_one, contains_at}
use Rattle.wh_pairs.proofs.SetLemmas.{all_from_members}
use Rattle.wh_reduction_pairs.specs.TaskData.{TaskData}
use Rattle.wh_order_inference.specs.Inferences as m
use Rattle.wh_order_inference.specs.Said.{inference}
use Rattle.wh_order_inference.specs.declared.inference.Inference.{Inference}
use Rattle.wh_order_node.specs.Filterings.{FilteringData}
use Rattle.wh_poly_space.proofs.PushLemmas.{EachAt, each_push, map_push}
use Rattle.wh_order_lines.specs.OrderLines.{IsPairLine}
use Rattle.wh_order_lines.specs.OrderWalks.{IsLineOfRule, AreRuleLines, IsDropped, IsLineOfPair, ArePairLines}
use Rattle.wh_order_lines.specs.declared.lines.PairLine.{PairLine}

-- rules

pub record HasRuleLines (T : TaskData) (D : FilteringData) (i : ℕ) (lines : List Inference) : Type 0 where
  pub count : length lines ≡ i
  pub each : EachAt (λ k line. (n : ℕ) → slice_get T.covered k ≡ Some n → IsLineOfRule T D n line) (map inference lines)

module _ (T : TaskData) (D : FilteringData) where
  pub rule_lines_none : (lines : List Inference) → lines ≡ [] → HasRuleLines T D 0 lines
  rule_lines_none lines none = record {
    count = ap length none;
    each = λ k line at. absurd (let within = slice_get_within (map inference lines) k line at in omega (arith, within, length-map lines inference, ap length none));
  }

  pub rule_lines_more : (i n : ℕ) (lines new : List Inference) (line : Inference) → HasRuleLines T D i lines → new ≡ lines ++ line ∷ []
      → slice_get T.covered i ≡ Some n → IsLineOfRule T D n (inference line) → HasRuleLines T D (i + 1) new
  rule_lines_more i n lines new line has is place here = record {
    count = omega (arith, ap length is, length-append lines (line ∷ []), has.count);
    each = each_push (λ k x. (n : ℕ) → slice_get T.covered k ≡ Some n → IsLineOfRule T D n x)
        (map inference lines) (map inference new) (inference line) (map_push inference lines new line is) has.each
        (λ m at.
        let same : n ≡ m = some_one place (ap (slice_get T.covered) (sym (length-map lines inference ∙ has.count)) ∙ at) in
        subst (λ (m : ℕ). IsLineOfRule T D m (inference line)) same here);
  }

  pub rule_lines_all : (i : ℕ) (lines : List Inference) → HasRuleLines T D i lines → i ≡ length T.covered → AreRuleLines T D (map inference lines)
  rule_lines_all i lines has all = record {
    count = length-map lines inference ∙ has.count ∙ all;
    each = λ k n line at there. has.each k line there n at;
  }

  -- pairs

  pub record HasPairLines (i : ℕ) (lines : List Inference) (drop : List ℕ) : Type 0 where
    pub count : length lines ≡ i
    pub each : EachAt (λ k line. (n : ℕ) → slice_get T.set k ≡ Some n → IsLineOfPair T D drop n line) (map inference lines)
    pub increasing : IsIncreasing drop
    pub earlier : (m : ℕ) → Contains drop m → (k : ℕ) × (k < i) × (slice_get T.set k ≡ Some m)

  pub pair_lines_none : (lines : List Inference) (drop : List ℕ) → lines ≡ [] → drop ≡ [] → HasPairLines 0 lines drop
  pair_lines_none lines drop none empty = record {
    count = ap length none;
    each = λ k line at. absurd (let within = slice_get_within (map inference lines) k line at in omega (arith, within, length-map lines inference, ap length none));
    increasing = subst IsIncreasing (sym empty) tt;
    earlier = λ m found. absurd (let (k, within, e) = subst (λ (l : List ℕ). Contains l m) empty found in omega arith);
  }

  -- the same of what is dropped, in other words
  dropped_same : (P Q : Type 0) (p : PairData) (line : m.Inference) → P ↔ Q → IsDropped T D P p line → IsDropped T D Q p line
  dropped_same P Q p line same h = record {
    narrow = h.narrow;
    good = h.good;
    within = h.within;
    strict_is = (λ q. h.strict_is.0 (same.1 q), λ o. same.0 (h.strict_is.1 o));
    differ = λ q. h.differ (same.1 q);
  }

  module _ (up : IsIncreasing T.set) (i n : ℕ) (p : PairData) (lines new : List Inference) (drop : List ℕ) (line : PairLine) (has : HasPairLines i lines drop)
      (place : slice_get T.set i ≡ Some n) (pair : slice_get T.pairs n ≡ Some p) (is : new ≡ lines ++ line.inference ∷ [])
      (found : IsPairLine T.symbols T.rules D p line) where
    -- what was dropped before is not this pair
    not_yet : Contains drop n → ⊥
    not_yet there = let (k, less, at) = has.earlier n there in let same = one_place T.set k i n up at place in omega (arith, same, less)

    as_line : IsDropped T D (IsTrue line.strict) p (inference line.inference)
    as_line = record { narrow = found.narrow; good = found.good; within = found.within; strict_is = found.strict_is; differ = found.differ }

    here : (more : List ℕ) → (Contains more n ↔ IsTrue line.strict) → IsLineOfPair T D more n (inference line.inference)
    here more dropped q at =
        subst (λ (q : PairData). IsDropped T D (Contains more n) q (inference line.inference)) (some_one pair at)
        (dropped_same (IsTrue line.strict) (Contains more n) p (inference line.inference) (dropped.1, dropped.0) as_line)

    at_last : (more : List ℕ) → (Contains more n ↔ IsTrue line.strict) → (k : ℕ) → slice_get T.set (length (map inference lines)) ≡ Some k
        → IsLineOfPair T D more k (inference line.inference)
    at_last more dropped k at =
        let same : n ≡ k = some_one place (ap (slice_get T.set) (sym (length-map lines inference ∙ has.count)) ∙ at) in
        subst (λ (k : ℕ). IsLineOfPair T D more k (inference line.inference)) same (here more dropped)

    count_more : length new ≡ i + 1
    count_more = omega (arith, ap length is, length-append lines (line.inference ∷ []), has.count)

    earlier_more : (k : ℕ) → Contains drop k → (j : ℕ) × (j < i + 1) × (slice_get T.set j ≡ Some k)
    earlier_more k there = let (j, less, at) = has.earlier k there in (j, omega arith, at)

    pub pair_kept : line.strict ≡ false → HasPairLines (i + 1) new drop
    pair_kept kept = record {
      count = count_more;
      each = each_push (λ k x. (n : ℕ) → slice_get T.set k ≡ Some n → IsLineOfPair T D drop n x) (map inference lines) (map inference new) (inference line.inference)
          (map_push inference lines new line.inference is) has.each (at_last drop (λ there. absurd (not_yet there), λ strict. cc));
      increasing = has.increasing;
      earlier = earlier_more;
    }

    -- an earlier pair is dropped as before
    as_before : (longer : List ℕ) → longer ≡ drop ++ n ∷ [] → (j k : ℕ) → j < i → slice_get T.set j ≡ Some k → Contains longer k ↔ Contains drop k
    as_before longer more j k less at = (
      λ there. elim (Contains-push_cases drop n k (subst (λ (l : List ℕ). Contains l k) more there)) [
        | inl before ↦ before
        | inr same ↦ absurd (let one = one_place T.set j i n up (at ∙ ap Some (sym same)) place in omega (arith, one, less))
      ],
      λ there. subst (λ (l : List ℕ). Contains l k) (sym more) (Contains-append_left drop (n ∷ []) k there),
    )

    below_all : All (λ k. k < n) drop
    below_all = all_from_members (λ k. k < n) drop (λ k there.
        let (j, less, at) = has.earlier k there in
        let next = increasing_at T.set j i up less (slice_get_within T.set i n place) in
        omega (arith, next, get_or_from_slice_get T.set j k 0 at, get_or_from_slice_get T.set i n 0 place))

    pub pair_dropped : (longer : List ℕ) → longer ≡ drop ++ n ∷ [] → line.strict ≡ true → HasPairLines (i + 1) new longer
    pair_dropped longer more strict = record {
      count = count_more;
      each = each_push (λ k x. (n : ℕ) → slice_get T.set k ≡ Some n → IsLineOfPair T D longer n x) (map inference lines) (map inference new) (inference line.inference)
          (map_push inference lines new line.inference is)
          (λ j x there k at q known.
          let within = slice_get_within (map inference lines) j x there in
          let same = as_before longer more j k (omega (arith, within, length-map lines inference, has.count)) at in
          dropped_same (Contains drop k) (Contains longer k) q x (same.1, same.0) (has.each j x there k at q known))
          (at_last longer (λ _. strict, λ _. subst (λ (l : List ℕ). Contains l n) (sym more) (Contains-push drop n)));
      increasing = subst IsIncreasing (sym more) (increasing_push drop n has.increasing below_all);
      earlier = λ k there. elim (Contains-push_cases drop n k (subst (λ (l : List ℕ). Contains l k) more there)) [
        | inl before ↦ earlier_more k before
        | inr same ↦ (i, omega arith, place ∙ ap Some same)
      ];
    }

  pub pair_lines_all : (i : ℕ) (lines : List Inference) (drop : List ℕ) → HasPairLines i lines drop → i ≡ length T.set
      → ArePairLines T D (map inference lines) drop
  pair_lines_all i lines drop has all = record {
    count = length-map lines inference ∙ has.count ∙ all;
    each = λ k n line at there. has.each k line there n at;
    increasing = has.increasing;
    within = all_from_members (Contains T.set) drop (λ k there. let (j, less, at) = has.earlier k there in contains_at T.set j k at);
  }
