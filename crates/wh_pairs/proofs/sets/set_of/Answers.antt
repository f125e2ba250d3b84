use Rattle.std.proofs.Common.{ℕ, List, sym, subst}
use Rattle.std.specs.List.Sorted.{IsNonDecreasing, IsPermutation}
use Rattle.std.proofs.lemmas.List.Sorted.{IsNonDecreasingBy-from_sort}
use Rattle.wh_pairs.proofs.SetLemmas.{ok_sorted}
use Rattle.wh_pairs.proofs.sets.set_of.Goals as goal

pub distinct-requires : goal.distinct-requires
distinct-requires c =
    subst IsNonDecreasing (sym c.deref.ensures.value) (IsNonDecreasingBy-from_sort (λ n. n) c.sort_unstable.new.self.items c.sort_unstable.ensures.sorted)

pub returns : goal.returns
returns c =
    let moved = subst (λ (l : List ℕ). IsPermutation l c.deref.result.now) c.in_ok-sorted.ensures.items (subst (IsPermutation c.in_ok-sorted.sorted.items) (sym c.deref.ensures.value) c.sort_unstable.ensures.permutation) in
    ok_sorted c.args.list.now c.deref.result.now c.distinct.result moved c.distinct.ensures
