use Rattle.std.proofs.Common.{◌≡◌, ◌-◌, ℕ, List, Some, slice_get, length, sym, subst, arith}
use Rattle.std.proofs.lemmas.Bool.Decides.{nat_tests}
use Rattle.wh_pairs.proofs.SetLemmas.{above_last}
use Rattle.wh_tell_parts.proofs.within.is_within.Goals as goal

pub returns-in-Some : goal.returns-in-Some
returns-in-Some c is =
    let set = c.args.set.now in
    let at = subst (λ (l : List ℕ). slice_get l (length l - 1) ≡ Some c.in-Some.last.now) c.as_slice.ensures.numbers (sym c.in-Some.ensures.value) in
    (above_last set c.in-Some.last.now c.args.count c.as_slice.ensures.increasing at).0 (grind (arith, nat_tests, is))
