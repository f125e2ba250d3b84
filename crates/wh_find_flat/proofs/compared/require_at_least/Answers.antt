use Rattle.std.proofs.Common.{ℕ, ◌≤◌, Bool, not, nat_lt, refl}
use Rattle.wh_circuit.specs.Values.{number_of}
use Rattle.wh_find_flat.proofs.AskLemmas.{asks_wire}
use Rattle.wh_find_flat.proofs.Growth.{on_ok_so}
use Rattle.wh_find_flat.proofs.RowLemmas.{at_least_so, so_at_least}
use Rattle.wh_find_flat.proofs.compared.require_at_least.Goals as goal

pub returns-clause-asks : goal.returns-clause-asks
returns-clause-asks c =
    let a = c.args.left.now in
    let b = c.args.right.now in
    let stated = λ (v : ℕ → Bool). not (nat_lt (number_of v a) (number_of v b)) in
    on_ok_so c.require.result _ _ (λ r. asks_wire c.args.circuit.now c.at_least.new.circuit c.require.new.self c.in_ok-wire.wire stated
    (λ v. number_of v b ≤ number_of v a) c.in_ok-wire.ensures.builds.gates c.in_ok-wire.ensures.builds.required c.require.ensures.gates r c.in_ok-wire.ensures.means
    (λ v k h. at_least_so (stated v) (number_of v a) (number_of v b) refl h) (λ v k h. so_at_least (stated v) (number_of v a) (number_of v b) refl h))
    c.require.ensures.required
