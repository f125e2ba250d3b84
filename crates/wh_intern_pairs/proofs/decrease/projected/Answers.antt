use Rattle.std.proofs.Common.{◌≡◌, ℕ, ◌-◌, ◌≤◌, Option, List, length, get_or, map, MatchOption, Some, slice_get, sym, subst, ap, arith}
use Rattle.wh_pairs.proofs.ByPlace.{number_at}
use Rattle.wh_subterm.specs.SubtermRows.{chosen}
use Rattle.wh_intern_pairs.specs.SidesAsPairs.{IsChosenNumber}
use Rattle.wh_intern_pairs.proofs.ChosenNumbers.{number_zero, number_past, number_at_place}
use Rattle.wh_intern_pairs.proofs.decrease.projected.Goals as goal

pub returns-in_err-place : goal.returns-in_err-place
returns-in_err-place c =
    let ns = c.args.numbers.now in
    let args = map chosen c.args.args.now in
    let none : (n : ℕ) → IsChosenNumber args c.args.symbol ns n → ⊥ =
    λ n. number_zero args c.args.symbol c.in_ok-argument.argument ns n c.requires c.in_ok-argument.ensures c.in_err-place.ensures in
    subst (λ (o : Option ℕ). MatchOption o ((n : ℕ) → IsChosenNumber args c.args.symbol ns n → ⊥) (IsChosenNumber args c.args.symbol ns))
    (sym c.from_residual-in_err-place.ensures) none

pub returns-then-place-items : goal.returns-then-place-items
returns-then-place-items c =
    let place = c.in_ok-place.field-0 in
    let items = c.as_slice-items.result.now in
    let here = subst (λ (ns : List ℕ). slice_get ns place ≡ Some (get_or items place 0)) c.as_slice-items.ensures
    (number_at items place c.if-place-items.true) in
    let placed : (1 ≤ c.in_ok-argument.argument) × (place ≡ c.in_ok-argument.argument - 1) = c.in_ok-place.ensures in
    number_at_place (map chosen c.args.args.now) c.args.symbol c.in_ok-argument.argument c.args.numbers.now place (get_or items place 0)
    c.in_ok-argument.ensures (omega arith) here

pub returns-else-place-items : goal.returns-else-place-items
returns-else-place-items c =
    let placed : (1 ≤ c.in_ok-argument.argument) × (c.in_ok-place.field-0 ≡ c.in_ok-argument.argument - 1) = c.in_ok-place.ensures in
    λ n. number_past (map chosen c.args.args.now) c.args.symbol c.in_ok-argument.argument c.args.numbers.now n c.requires c.in_ok-argument.ensures
    (omega (arith, ap length c.as_slice-items.ensures, c.if-place-items.false))
