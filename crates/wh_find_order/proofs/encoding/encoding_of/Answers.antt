use Rattle.std.proofs.Common.{◌≡◌, ◌+◌, ◌-◌, ◌<◌, ◌≤◌, ℕ, List, length, get_or, ap, refl, subst, arith, ◌∙◌}
use Rattle.std.specs.Global.{Vec}
use Rattle.wh_types.specs.declared.simple_type.SimpleType.{SimpleType}
use Rattle.wh_poly_guesses.specs.declared.uses.Uses.{Uses}
use Rattle.wh_poly_blocking.specs.Numbers.{AreNumbers}
use Rattle.wh_order_space.specs.Bits.{binary_length, first_bit}
use Rattle.wh_order_space.specs.Spotted.{types_in}
use Rattle.wh_find_order.proofs.TableLemmas.{encoding_is}
use Rattle.wh_find_order.proofs.encoding.encoding_of.Goals as goal

pub returns-clause-encoding : goal.returns-clause-encoding
returns-clause-encoding c =
    let b = c.precedence_bits-precedence_bits.result in
    let firsts = c.in_ok-first_bits.first_bits.items in
    let numbers = c.in_ok-numbers.numbers.items in
    let rules = length c.args.task.now.covered.now in
    let scopes = c.deref.ensures.value in
    let made = c.in_ok-scopes.scopes.items in
    let width = c.in_ok-width.ensures in
    let count : c.len.result ≡ length c.in_ok-scopes.scopes.items = omega (arith, c.len.ensures, c.in_ok-scopes.scopes.ok.0) in
    encoding_is record { task = c.args.task.now; marked = c.args.marked; scopes = c.in_ok-scopes.scopes; precedence_bits = b; first_bits = c.in_ok-first_bits.first_bits; numbers = c.in_ok-numbers.numbers }
    c.in_ok-uses.uses.items rules c.requires.task c.is_well_made.ensures c.requires.marked c.in_ok-scopes.ensures
    (c.precedence_bits-precedence_bits.ensures ∙ ap (λ (n : ℕ). binary_length n (n - 1)) count) (omega (arith, c.if-precedence_bits-ge32.false))
    (c.in_ok-first_bits.ensures.count ∙ ap (λ (l : List (Vec SimpleType)). length l + 1) scopes)
    (subst (λ (k : ℕ). (n : ℕ) → n ≤ length made → get_or firsts n 0 ≡ first_bit k (types_in made) n) width
    (subst (λ (l : List (Vec SimpleType)). (n : ℕ) → n ≤ length l → get_or firsts n 0 ≡ first_bit c.in_ok-width.width (types_in l) n) scopes c.in_ok-first_bits.ensures.each))
    (subst (λ (k : ℕ). first_bit k (types_in made) (length made) < 4294967296) width
    (subst (λ (l : List (Vec SimpleType)). first_bit c.in_ok-width.width (types_in l) (length l) < 4294967296) scopes c.in_ok-first_bits.ensures.few))
    c.in_ok-uses.ensures
    (subst (λ (l : List Uses). AreNumbers rules l numbers) c.deref-2.ensures.value c.in_ok-numbers.ensures) refl
