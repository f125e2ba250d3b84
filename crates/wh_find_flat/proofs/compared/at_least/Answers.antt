use Rattle.std.proofs.Common.{◌+◌, ◌*◌, ◌≤◌, List, not, nat_lt, length, arith, ap, ap₂, ◌∙◌}
use Rattle.wh_sat_trail.specs.declared.literal.Literal.{Literal}
use Rattle.wh_circuit.specs.State.{gates_of}
use Rattle.wh_circuit.specs.Values.{number_of}
use Rattle.wh_circuit.proofs.Growing.{agrees_before, means_same}
use Rattle.wh_find_flat.proofs.Growth.{builds_grown, builds_then, if_both, on_ok_so}
use Rattle.wh_find_flat.proofs.compared.at_least.Goals as goal

width_told : (c : goal.After-drop-left-2) → length c.deref.result.now ≤ 120
width_told c = omega (arith, ap length c.deref.ensures.value, c.in_ok-left.ensures.width, c.max-width.ensures, c.requires.narrow.0, c.requires.narrow.1)

pub returns-clause-builds : goal.returns-clause-builds
returns-clause-builds c =
    let n = 4 * length c.deref.result.now + 1 in
    on_ok_so c.at_least.result _ _ (λ g. builds_then 1 481 482 c.args.circuit.now c.or.new.self c.at_least.new.self
    (builds_grown 1 1 c.args.circuit.now c.or.new.self c.in_ok-zero.ensures.grows (omega arith))
    (builds_grown n 481 c.or.new.self c.at_least.new.self g (let w = width_told c in omega (arith, w))) (omega arith)) c.at_least.ensures.grows

pub returns-clause-means : goal.returns-clause-means
returns-clause-means c =
    let a : List Literal = c.args.left.now in
    let b : List Literal = c.args.right.now in
    let x : List Literal = c.deref.result.now in
    let y : List Literal = c.deref-2.result.now in
    let n = 4 * length x + 1 in
    let old = gates_of c.or.new.self in
    let new = gates_of c.at_least.new.self in
    if_both c.at_least.result _ _ _ (λ made g m. means_same new made (λ v. not (nat_lt (number_of v x) (number_of v y))) (λ v. not (nat_lt (number_of v a) (number_of v b)))
    (λ v k. let z = c.in_ok-zero.ensures.means.is v (agrees_before n old new v g.gates k) in
    ap₂ (λ p q. not (nat_lt p q)) (ap (number_of v) c.deref.ensures.value ∙ c.in_ok-left.ensures.same v z) (ap (number_of v) c.deref-2.ensures.value ∙ c.in_ok-right.ensures.same v z)) m)
    c.at_least.ensures.grows c.at_least.ensures.means
