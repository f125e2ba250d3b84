use Rattle.std.proofs.Common.{◌≡◌, ◌-◌, ◌<◌, ℕ, List, Some, slice_get, length, sym, subst, arith}
use Rattle.std.proofs.lemmas.Bool.Decides.{nat_tests}
use Rattle.wh_pairs.proofs.SetLemmas.{above_last}
use Rattle.wh_pairs.proofs.sets.is_above.Goals as goal

pub returns-in-Some : goal.returns-in-Some
returns-in-Some c =
    let set = c.args.set.now in
    let at = subst (λ (l : List ℕ). slice_get l (length l - 1) ≡ Some c.in-Some.last.now) c.as_slice.ensures.numbers (sym c.in-Some.ensures.value) in
    let decided = above_last set c.in-Some.last.now c.args.number c.as_slice.ensures.increasing at in (
      λ is. decided.0 (grind (arith, nat_tests, is)),
      λ all. let less : c.in-Some.last.now < c.args.number = decided.1 all in grind (arith, nat_tests, less),
    )
