use Rattle.std.proofs.Common.{ℕ, ◌<◌, ◌≤◌, nat_lt}
use Rattle.wh_terms.specs.Erase.{tm}
use Rattle.wh_circuit.specs.State.{gates_of}
use Rattle.wh_poly_flat.specs.Worth.{IsAtLeast, constant_of, factor_of}
use Rattle.wh_find_flat.specs.Lists.{lists_for}
use Rattle.wh_find_flat.proofs.AskLemmas.{asks_then}
use Rattle.wh_find_flat.proofs.Growth.{wire_later}
use Rattle.wh_find_flat.proofs.Standing.{at_least_of}
use Rattle.wh_find_flat.proofs.sides.require_pair.Goals as goal

pub returns-clause-asks : goal.returns-clause-asks
returns-clause-asks c =
    let sizes = c.args.bits.now.sizes.items in
    let t = tm c.args.left.now in
    let u = tm c.args.right.now in
    asks_then c.args.circuit.now c.require_constants.new.circuit c.require_factors.new.circuit
    (λ v. constant_of (lists_for sizes v) u ≤ constant_of (lists_for sizes v) t)
    (λ v. (z : ℕ) → z < c.args.metas → factor_of (lists_for sizes v) z u ≤ factor_of (lists_for sizes v) z t)
    (λ v. IsAtLeast (lists_for sizes v) t u) c.in_ok-greater.ensures.asks c.in_ok-require_factors.ensures.asks
    (λ v k p q. at_least_of (lists_for sizes v) c.args.metas t u c.requires.plain.right_plain c.requires.metas p q)
    (λ v k r. r.constant) (λ v k r z l. r.each z)

pub returns-clause-means : goal.returns-clause-means
returns-clause-means c =
    let sizes = c.args.bits.now.sizes.items in
    wire_later (gates_of c.require_constants.new.circuit) (gates_of c.require_factors.new.circuit) c.in_ok-greater.greater
    (λ v. nat_lt (constant_of (lists_for sizes v) (tm c.args.right.now)) (constant_of (lists_for sizes v) (tm c.args.left.now)))
    c.in_ok-require_factors.ensures.asks.gates c.in_ok-greater.ensures.means
