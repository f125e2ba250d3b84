use Rattle.std.proofs.Common.{◌≡◌, ℕ, ◌+◌, ◌-◌, ◌*◌, ◌≤◌, Bool, arith, ap, ◌∙◌}
use Rattle.wh_terms.specs.Erase.{tm}
use Rattle.wh_circuit.specs.Gates.{Agrees}
use Rattle.wh_circuit.specs.State.{gates_of}
use Rattle.wh_circuit.specs.Values.{number_of}
use Rattle.wh_poly_flat.specs.Flat.{occurrences}
use Rattle.wh_find_flat.specs.Lists.{lists_for}
use Rattle.wh_find_flat.specs.Parts.{number_at}
use Rattle.wh_find_flat.proofs.AskLemmas.{asks_after}
use Rattle.wh_find_flat.proofs.Growth.{agrees_early, builds_then, on_ok_so, later_then}
use Rattle.wh_find_flat.proofs.Small.{occurs_some}
use Rattle.wh_find_flat.proofs.sides.require_part.Goals as goal

pub require_at_least-requires-clause-room : goal.require_at_least-requires-clause-room
require_at_least-requires-clause-room c =
    let a = c.in_ok-first.ensures.builds.few in
    let b = c.in_ok-second.ensures.builds.few in
    let x = occurs_some (tm c.args.left.now) c.requires.plain.left_plain in
    let y = occurs_some (tm c.args.right.now) c.requires.plain.right_plain in
    let r = c.requires.room in
    omega (arith, a, b, x, y, r)

pub returns-clause-asks : goal.returns-clause-asks
returns-clause-asks c =
    let old = c.args.circuit.now in
    let mid = c.number.new.circuit in
    let two = c.number-2.new.circuit in
    let new = c.require_at_least.new.circuit in
    let sizes = c.args.bits.now.sizes.items in
    let part = c.args.part in
    let t = tm c.args.left.now in
    let u = tm c.args.right.now in
    let m = 2414 * occurrences t - 2413 in
    let n = 2414 * occurrences u - 2413 in
    let both = builds_then m n (m + n) old mid two c.in_ok-first.ensures.builds c.in_ok-second.ensures.builds (omega arith) in
    let first = c.in_ok-first.ensures.value.means in
    let second = c.in_ok-second.ensures.value.means in
    on_ok_so c.require_at_least.result _ _ (λ asks.
    let left : (v : ℕ → Bool) → Agrees (gates_of new) v → number_of v c.deref.result.now ≡ number_at part (lists_for sizes v) t =
    (λ v k. ap (number_of v) c.deref.ensures.value ∙ first.is v (agrees_early (gates_of mid) (gates_of new) v (later_then (gates_of mid) (gates_of two) (gates_of new) c.in_ok-second.ensures.builds.gates asks.gates) k)) in
    let right : (v : ℕ → Bool) → Agrees (gates_of new) v → number_of v c.deref-2.result.now ≡ number_at part (lists_for sizes v) u =
    (λ v k. ap (number_of v) c.deref-2.ensures.value ∙ second.is v (agrees_early (gates_of two) (gates_of new) v asks.gates k)) in
    asks_after (m + n) old two new (λ v. number_of v c.deref-2.result.now ≤ number_of v c.deref.result.now)
    (λ v. number_at part (lists_for sizes v) u ≤ number_at part (lists_for sizes v) t) both asks
    (λ v k h. let x = left v k in let y = right v k in omega (arith, h, x, y)) (λ v k h. let x = left v k in let y = right v k in omega (arith, h, x, y)))
    c.require_at_least.ensures.asks

pub returns-clause-few : goal.returns-clause-few
returns-clause-few c =
    let a = c.in_ok-first.ensures.builds.few in
    let b = c.in_ok-second.ensures.builds.few in
    let x = occurs_some (tm c.args.left.now) c.requires.plain.left_plain in
    let y = occurs_some (tm c.args.right.now) c.requires.plain.right_plain in
    on_ok_so c.require_at_least.result _ _ (λ f. omega (arith, a, b, x, y, f)) c.require_at_least.ensures.few
