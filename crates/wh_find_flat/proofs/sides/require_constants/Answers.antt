use Rattle.std.proofs.Common.{◌≡◌, ℕ, ◌+◌, ◌-◌, ◌*◌, ◌≤◌, List, Bool, not, nat_lt, length, arith, ap, ap₂, sym, subst, ◌∙◌}
use Rattle.wh_sat_trail.specs.declared.literal.Literal.{Literal}
use Rattle.wh_sat_trail.specs.Assignment.{AllBelow}
use Rattle.wh_terms.specs.Erase.{tm}
use Rattle.wh_circuit.specs.Gates.{Agrees}
use Rattle.wh_circuit.specs.State.{gates_of}
use Rattle.wh_circuit.specs.Values.{number_of}
use Rattle.wh_poly_flat.specs.Flat.{occurrences}
use Rattle.wh_poly_flat.specs.Worth.{constant_of}
use Rattle.wh_find_flat.specs.Lists.{lists_for}
use Rattle.wh_find_flat.specs.Numbers.{Later}
use Rattle.wh_find_flat.proofs.AskLemmas.{asks_after}
use Rattle.wh_find_flat.proofs.Growth.{agrees_early, builds_then, later_then, later_more, wires_later}
use Rattle.wh_find_flat.proofs.RowLemmas.{not_at_least}
use Rattle.wh_find_flat.proofs.Small.{occurs_some}
use Rattle.wh_find_flat.proofs.sides.require_constants.Goals as goal

pub at_least-requires-clause-room : goal.at_least-requires-clause-room
at_least-requires-clause-room c =
    let a = c.in_ok-first.ensures.builds.few in
    let b = c.in_ok-second.ensures.builds.few in
    let x = occurs_some (tm c.args.left.now) c.requires.plain.left_plain in
    let y = occurs_some (tm c.args.right.now) c.requires.plain.right_plain in
    let r = c.requires.room in
    omega (arith, a, b, x, y, r)

pub require_at_least-requires-clause-room : goal.require_at_least-requires-clause-room
require_at_least-requires-clause-room c =
    let a = c.in_ok-first.ensures.builds.few in
    let b = c.in_ok-second.ensures.builds.few in
    let d = c.in_ok-other.ensures.builds.few in
    let x = occurs_some (tm c.args.left.now) c.requires.plain.left_plain in
    let y = occurs_some (tm c.args.right.now) c.requires.plain.right_plain in
    let r = c.requires.room in
    omega (arith, a, b, d, x, y, r)

pub require_at_least-requires-clause-own : goal.require_at_least-requires-clause-own
require_at_least-requires-clause-own c =
    let mid = gates_of c.number.new.circuit in
    let two = gates_of c.number-2.new.circuit in
    let new = gates_of c.at_least.new.circuit in
    let second = c.in_ok-second.ensures.builds.gates in
    let third = c.in_ok-other.ensures.builds.gates in
    let a = wires_later mid new c.in_ok-first.first.wires.items (later_then mid two new second third) c.in_ok-first.ensures.value.means.own in
    let b = wires_later two new c.in_ok-second.second.wires.items third c.in_ok-second.ensures.value.means.own in
    (subst (λ (ls : List Literal). AllBelow (length new) ls) (sym c.deref-3.ensures.value) a, subst (λ (ls : List Literal). AllBelow (length new) ls) (sym c.deref-4.ensures.value) b)

pub returns-clause-asks : goal.returns-clause-asks
returns-clause-asks c =
    let old = c.args.circuit.now in
    let mid = c.number.new.circuit in
    let two = c.number-2.new.circuit in
    let three = c.at_least.new.circuit in
    let new = c.require_at_least.new.circuit in
    let sizes = c.args.bits.now.sizes.items in
    let t = tm c.args.left.now in
    let u = tm c.args.right.now in
    let m = 2414 * occurrences t - 2413 in
    let n = 2414 * occurrences u - 2413 in
    let both = builds_then (m + n) 482 (m + n + 482) old two three (builds_then m n (m + n) old mid two c.in_ok-first.ensures.builds c.in_ok-second.ensures.builds (omega arith)) c.in_ok-other.ensures.builds (omega arith) in
    let asks = c.in_ok-require_at_least.ensures.asks in
    let late : Later (gates_of two) (gates_of new) = later_then (gates_of two) (gates_of three) (gates_of new) c.in_ok-other.ensures.builds.gates asks.gates in
    let left : (v : ℕ → Bool) → Agrees (gates_of new) v → number_of v c.deref-3.result.now ≡ constant_of (lists_for sizes v) t =
    (λ v k. ap (number_of v) c.deref-3.ensures.value ∙ c.in_ok-first.ensures.value.means.is v (agrees_early (gates_of mid) (gates_of new) v (later_then (gates_of mid) (gates_of two) (gates_of new) c.in_ok-second.ensures.builds.gates late) k)) in
    let right : (v : ℕ → Bool) → Agrees (gates_of new) v → number_of v c.deref-4.result.now ≡ constant_of (lists_for sizes v) u =
    (λ v k. ap (number_of v) c.deref-4.ensures.value ∙ c.in_ok-second.ensures.value.means.is v (agrees_early (gates_of two) (gates_of new) v late k)) in
    asks_after (m + n + 482) old three new (λ v. number_of v c.deref-4.result.now ≤ number_of v c.deref-3.result.now)
    (λ v. constant_of (lists_for sizes v) u ≤ constant_of (lists_for sizes v) t) both asks
    (λ v k h. let x = left v k in let y = right v k in omega (arith, h, x, y)) (λ v k h. let x = left v k in let y = right v k in omega (arith, h, x, y))

pub returns-clause-few : goal.returns-clause-few
returns-clause-few c =
    let a = c.in_ok-first.ensures.builds.few in
    let b = c.in_ok-second.ensures.builds.few in
    let d = c.in_ok-other.ensures.builds.few in
    let e = c.in_ok-require_at_least.ensures.few in
    let x = occurs_some (tm c.args.left.now) c.requires.plain.left_plain in
    let y = occurs_some (tm c.args.right.now) c.requires.plain.right_plain in
    omega (arith, a, b, d, e, x, y)

pub returns-clause-means : goal.returns-clause-means
returns-clause-means c =
    let mid = c.number.new.circuit in
    let two = c.number-2.new.circuit in
    let three = c.at_least.new.circuit in
    let new = c.require_at_least.new.circuit in
    let sizes = c.args.bits.now.sizes.items in
    let t = tm c.args.left.now in
    let u = tm c.args.right.now in
    let last = c.in_ok-require_at_least.ensures.asks.gates in
    let means = c.in_ok-other.ensures.means in
    let more = later_more (gates_of three) (gates_of new) last in
    record {
      own = (let o = means.own in let s = ap (λ (l : Literal). l.variable) c.not.ensures.same in omega (arith, o, more, s));
      is = λ v k. (
          let early = agrees_early (gates_of three) (gates_of new) v last k in
          let second = agrees_early (gates_of two) (gates_of three) v c.in_ok-other.ensures.builds.gates early in
          let first = agrees_early (gates_of mid) (gates_of two) v c.in_ok-second.ensures.builds.gates second in
          let x = ap (number_of v) c.deref-2.ensures.value ∙ c.in_ok-first.ensures.value.means.is v first in
          let y = ap (number_of v) c.deref.ensures.value ∙ c.in_ok-second.ensures.value.means.is v second in
          c.not.ensures.means v ∙ ap not (means.is v early) ∙ not_at_least (number_of v c.deref.result.now) (number_of v c.deref-2.result.now)
          ∙ ap₂ nat_lt y x);
    }
