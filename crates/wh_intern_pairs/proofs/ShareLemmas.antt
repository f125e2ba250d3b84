-- Pairs of one rule that stand next to each other in a set.
use Rattle.std.proofs.Common.{ℕ, ◌≡◌, ◌+◌, ◌-◌, ◌<◌, ◌≤◌, inl, inr, List, length, map, get_or, All, Some, slice_get, sym, ap, ◌∙◌, subst, arith}
use Rattle.std.proofs.lemmas.Option.{slice_get_within}
use Rattle.wh_pairs.specs.PairData.{PairData, pair_data}
use Rattle.wh_pairs.specs.declared.pair.Pair.{Pair}
use Rattle.wh_pairs.proofs.ByPlace.{some_one, number_at, read_map, same_or_below}
use Rattle.wh_intern_pairs.specs.Sharing.{ShareAt, ShareARule}

module _ (xs : List Pair) (set : List ℕ) (all : All (λ n. n < length xs) set) where
  module _ (i : ℕ) (x y : Pair) (some : 0 < i) (within : i < length set) (is : x ≡ get_or xs (get_or set (i - 1) 0) x)
      (also : y ≡ get_or xs (get_or set i 0) y) where
    early : i - 1 < length set
    early = omega (arith, some, within)

    next : i ≡ i - 1 + 1
    next = omega (arith, some)

    first_at : slice_get set (i - 1) ≡ Some (get_or set (i - 1) 0)
    first_at = number_at set (i - 1) early

    second_at : slice_get set (i - 1 + 1) ≡ Some (get_or set i 0)
    second_at = subst (λ k. slice_get set k ≡ Some (get_or set i 0)) next (number_at set i within)

    first_is : slice_get (map pair_data xs) (get_or set (i - 1) 0) ≡ Some (pair_data x)
    first_is = read_map pair_data xs (get_or set (i - 1) 0) x (all (i - 1) 0 early) is

    second_is : slice_get (map pair_data xs) (get_or set i 0) ≡ Some (pair_data y)
    second_is = read_map pair_data xs (get_or set i 0) y (all i 0 within) also

    pub share_here : x.rule ≡ y.rule → ShareARule (map pair_data xs) set
    share_here one = (
      i - 1,
      record {
        first = get_or set (i - 1) 0;
        second = get_or set i 0;
        left = pair_data x;
        right = pair_data y;
        here = first_at;
        there = second_at;
        left_is = first_is;
        right_is = second_is;
        one = one;
      },
    )

    shared : ShareAt (map pair_data xs) set (i - 1) → x.rule ≡ y.rule
    shared s =
        let left = some_one (subst (λ n. slice_get (map pair_data xs) n ≡ Some s.left) (some_one s.here first_at) s.left_is) first_is in
        let right = some_one (subst (λ n. slice_get (map pair_data xs) n ≡ Some s.right) (some_one s.there second_at) s.right_is) second_is in
        sym (ap (λ (p : PairData). p.rule) left) ∙ s.one ∙ ap (λ (p : PairData). p.rule) right

    pub none_before : ((k : ℕ) → k + 1 < i → ShareAt (map pair_data xs) set k → ⊥) → (x.rule ≡ y.rule → ⊥)
        → (k : ℕ) → k + 1 < i + 1 → ShareAt (map pair_data xs) set k → ⊥
    none_before none other k less s = elim (same_or_below (k + 1) i less) [
      | inl last ↦ other (shared (subst (ShareAt (map pair_data xs) set) (omega (arith, last)) s))
      | inr under ↦ none k under s
    ]

  pub none_at_all : (i : ℕ) → ((k : ℕ) → k + 1 < i → ShareAt (map pair_data xs) set k → ⊥) → length set ≤ i → ShareARule (map pair_data xs) set → ⊥
  none_at_all i none past (k, s) = none k (omega (arith, slice_get_within set (k + 1) s.second s.there, past)) s
