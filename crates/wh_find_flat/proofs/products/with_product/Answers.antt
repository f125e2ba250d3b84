use Rattle.std.proofs.Common.{rules, ◌≡◌, ◌+◌, ◌*◌, None, length, take, List, arith, ap, subst, ◌∙◌}
use Rattle.wh_sat.specs.Solving.{literal_true}
use Rattle.wh_circuit.specs.Gates.{MeansNumber}
use Rattle.wh_circuit.specs.Values.{bit, number_of}
use Rattle.wh_sat_trail.specs.declared.literal.Literal.{Literal}
use Rattle.wh_circuit.specs.State.{gates_of}
use Rattle.wh_find_flat.proofs.Growth.{builds_none, builds_then, ok_so, on_ok}
use Rattle.wh_find_flat.proofs.ProductLemmas.{product_empty, product_none, product_some}
use Rattle.wh_find_flat.proofs.products.with_product.Goals as goal

pub returns-in_default-clause-product : goal.returns-in_default-clause-product
returns-in_default-clause-product c =
    let none : c.args.first ≡ None = search rules in
    ok_so c.lowest.result _ _ (λ made is. product_none (gates_of c.args.circuit.now) c.args.first c.args.sum.now c.args.number.now c.args.width made.items c.requires.own_sum none is) c.lowest.ensures

pub returns-then-is_empty-clause-builds : goal.returns-then-is_empty-clause-builds
returns-then-is_empty-clause-builds c = on_ok c.lowest-then-is_empty.result _ (builds_none 2413 c.args.circuit.now)

pub returns-then-is_empty-clause-product : goal.returns-then-is_empty-clause-product
returns-then-is_empty-clause-product c =
    let empty : length c.args.number.now ≡ 0 = search rules in
    ok_so c.lowest-then-is_empty.result _ _ (λ made is. product_empty (gates_of c.args.circuit.now) c.args.first c.args.sum.now c.args.number.now c.args.width made.items c.requires.own_sum empty is) c.lowest-then-is_empty.ensures

pub returns-clause-builds : goal.returns-clause-builds
returns-clause-builds c =
    let a = c.args.circuit.now in
    let b1 = c.with_row.new.circuit in
    let b2 = c.doubled.new.circuit in
    let b3 = c.with_row-2.new.circuit in
    on_ok c.lowest-2.result _ (builds_then 1202 1201 2413 a b2 b3 (builds_then 1201 1 1202 a b1 b2 c.in_ok-once.ensures.builds c.in_ok-twice.ensures.builds (omega arith)) c.in_ok-all.ensures.builds (omega arith))

pub returns-clause-product : goal.returns-clause-product
returns-clause-product c =
    let gates = gates_of c.with_row-2.new.circuit in
    let all : List Literal = c.in_ok-all.all in
    let high : Literal = c.positive-2.result in
    let third : MeansNumber gates all (λ v. number_of v c.in_ok-once.once + bit (literal_true v high) * number_of v c.in_ok-twice.twice.items) =
    subst (λ (l : List Literal). MeansNumber gates all (λ v. number_of v l + bit (literal_true v high) * number_of v c.in_ok-twice.twice.items)) c.as_slice.ensures
    (subst (λ (l : List Literal). MeansNumber gates all (λ v. number_of v c.as_slice.result.now + bit (literal_true v high) * number_of v l)) c.deref.ensures.value c.in_ok-all.ensures.means) in
    ok_so c.lowest-2.result _ _ (λ made is. product_some (gates_of c.with_row.new.circuit) (gates_of c.doubled.new.circuit) gates
    c.args.first c.in-Some.first c.args.sum.now c.args.number.now c.in_ok-once.once c.in_ok-twice.twice.items all c.positive.result high
    c.args.width made.items c.in_ok-twice.ensures.builds.gates c.in_ok-all.ensures.builds.gates c.in-Some.is c.positive.ensures c.positive-2.ensures
    c.in_ok-once.ensures.means c.in_ok-twice.ensures.means third (is ∙ ap (take c.args.width) c.as_slice-2.ensures)) c.lowest-2.ensures
