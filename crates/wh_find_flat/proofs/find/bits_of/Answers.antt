use Rattle.std.proofs.Common.{ℕ, ◌+◌, ◌<◌, ◌≤◌, ◌≡◌, List, length, get_or, subst, arith}
use Rattle.wh_poly_blocking.specs.Sizes.{bits_in, first_of}
use Rattle.wh_poly_blocking.proofs.BitLemmas.{first_all}
use Rattle.wh_find_flat.proofs.find.bits_of.Goals as goal

pub invariant_of-result-clause-count : goal.invariant_of-result-clause-count
invariant_of-result-clause-count c = subst (λ (l : List ℕ). length c.in_ok-firsts.firsts.items ≡ length l + 1) c.deref.ensures.value c.in_ok-firsts.ensures.count

pub invariant_of-result-clause-each : goal.invariant_of-result-clause-each
invariant_of-result-clause-each c =
    subst (λ (l : List ℕ). (n : ℕ) → n ≤ length l → get_or c.in_ok-firsts.firsts.items n 0 ≡ first_of l n) c.deref.ensures.value c.in_ok-firsts.ensures.each

pub invariant_of-result-clause-few : goal.invariant_of-result-clause-few
invariant_of-result-clause-few c =
    let l = c.deref.result.now in
    let few : bits_in l < 4294967296 = omega (arith, c.in_ok-firsts.ensures.few, first_all l) in
    subst (λ (l : List ℕ). bits_in l < 4294967296) c.deref.ensures.value few
