use Rattle.std.proofs.Common.{◌≡◌, ◌*◌, ◌+◌, List, refl, subst}
use Rattle.wh_sat_trail.specs.declared.literal.Literal.{Literal}
use Rattle.wh_circuit.specs.State.{gates_of}
use Rattle.wh_find_flat.specs.Products.{IsProduct}
use Rattle.wh_find_flat.proofs.Applied.{applied_value}
use Rattle.wh_find_flat.proofs.numbers.applied.Goals as goal

pub returns-clause-value : goal.returns-clause-value
returns-clause-value c part t u pt pu it iu =
    let gates = gates_of c.with_product.new.circuit in
    let width = 2 * (c.args.front.occurrences + c.args.last.occurrences) in
    let o = c.of_coefficient-coefficient.result in
    let made = c.in_ok-wires.wires in
    let front : c.deref.result.now ≡ c.args.front.wires.items = c.deref.ensures.value in
    let last : c.deref-2.result.now ≡ c.args.last.wires.items = c.deref-2.ensures.value in
    let product : IsProduct gates o c.args.front.wires.items c.args.last.wires.items width made.items =
    subst (λ (s : List Literal). IsProduct gates o s c.args.last.wires.items width made.items) front
    (subst (λ (n : List Literal). IsProduct gates o c.deref.result.now n width made.items) last c.in_ok-wires.ensures.product) in
    applied_value c.args.bits.now.sizes.items part (gates_of c.args.circuit.now) gates t u c.args.front c.args.last
    (record { wires = made; occurrences = c.args.front.occurrences + c.args.last.occurrences; symbol = c.args.front.symbol; places = c.args.front.places + 1 })
    o c.in_ok-wires.ensures.builds.gates pt pu it iu c.of_coefficient-coefficient.ensures product refl refl refl
