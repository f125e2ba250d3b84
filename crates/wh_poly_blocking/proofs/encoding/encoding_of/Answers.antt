use Rattle.std.proofs.Common.{◌≡◌, ◌+◌, ◌<◌, ◌≤◌, ℕ, List, length, get_or, ap, refl, subst, ◌∙◌}
use Rattle.wh_poly_guesses.specs.declared.uses.Uses.{Uses}
use Rattle.wh_poly_blocking.specs.Numbers.{AreNumbers}
use Rattle.wh_poly_blocking.specs.Sizes.{first_of}
use Rattle.wh_poly_blocking.proofs.EncodingMade.{encoding_is}
use Rattle.wh_poly_blocking.proofs.encoding.encoding_of.Goals as goal

pub returns-clause-encoding : goal.returns-clause-encoding
returns-clause-encoding c =
    let firsts = c.in_ok-first_bits.first_bits.items in
    let numbers = c.in_ok-numbers.numbers.items in
    let rules = length c.args.task.now.covered.now in
    let sizes = c.deref.ensures.value in
    encoding_is record { task = c.args.task.now; marked = c.args.marked; sizes = c.in_ok-sizes.sizes; first_bits = c.in_ok-first_bits.first_bits; numbers = c.in_ok-numbers.numbers }
    c.in_ok-uses.uses.items rules c.requires.task c.requires.marked c.in_ok-sizes.ensures
    (c.in_ok-first_bits.ensures.count ∙ ap (λ (l : List ℕ). length l + 1) sizes)
    (subst (λ (l : List ℕ). (n : ℕ) → n ≤ length l → get_or firsts n 0 ≡ first_of l n) sizes c.in_ok-first_bits.ensures.each)
    (subst (λ (l : List ℕ). first_of l (length l) < 4294967296) sizes c.in_ok-first_bits.ensures.few)
    c.in_ok-uses.ensures
    (subst (λ (l : List Uses). AreNumbers rules l numbers) c.deref-2.ensures.value c.in_ok-numbers.ensures) refl
