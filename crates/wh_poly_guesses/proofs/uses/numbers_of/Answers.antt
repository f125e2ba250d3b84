use Rattle.std.proofs.Common.{List, ℕ, Contains, sym, subst, ◌∙◌}
use Rattle.std.proofs.lemmas.List.{take_all}
use Rattle.std.proofs.lemmas.List.Filters.{dedup_is}
use Rattle.std.proofs.lemmas.List.Kept.{Contains-dedup_nat, Contains-from_dedup}
use Rattle.std.proofs.lemmas.List.Sorted.{Contains-permutation, IsPermutation-sym}
use Rattle.wh_poly_guesses.proofs.uses.numbers_of.Goals as goal

pub returns : goal.returns
returns c =
    let is = dedup_is _ _ _ c.dedup.ensures.filtered in
    let moved = c.sort_unstable.ensures.permutation in
    let all = c.loop-symbol.invariant ∙ take_all c.loop-symbol.symbol-index c.deref-symbol-items.result.now c.loop-symbol-test.false ∙ c.deref-symbol-items.ensures.value ∙ is in
    λ n. (
      λ found. subst (λ (l : List ℕ). Contains l n) c.in_ok-sorted.ensures.items (Contains-permutation _ _ n (IsPermutation-sym _ _ moved) (Contains-from_dedup _ _ n (subst (λ (l : List ℕ). Contains l n) all found))),
      λ found. subst (λ (l : List ℕ). Contains l n) (sym all) (Contains-dedup_nat _ n (Contains-permutation _ _ n moved (subst (λ (l : List ℕ). Contains l n) (sym c.in_ok-sorted.ensures.items) found))),
    )
