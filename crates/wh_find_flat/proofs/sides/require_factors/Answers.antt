use Rattle.std.proofs.Common.{◌≡◌, ℕ, ◌+◌, ◌-◌, ◌*◌, ◌<◌, ◌≤◌, Bool, true, false, if◌then◌else◌, length, arith, ap, sym, subst, ◌∙◌}
use Rattle.wh_terms.specs.Erase.{tm}
use Rattle.wh_circuit.specs.State.{gates_of}
use Rattle.wh_circuit.specs.declared.circuit.Circuit.{Circuit}
use Rattle.wh_poly_flat.specs.Flat.{occurrences}
use Rattle.wh_poly_flat.specs.Worth.{factor_of}
use Rattle.wh_find_flat.specs.Lists.{lists_for}
use Rattle.wh_find_flat.specs.Plain.{stands_in, standing}
use Rattle.wh_find_flat.specs.Numbers.{Asks}
use Rattle.wh_find_flat.proofs.AskLemmas.{asks_more, asks_for_nothing}
use Rattle.wh_find_flat.proofs.Small.{occurs_some}
use Rattle.wh_find_flat.proofs.Standing.{at_most_sixty, no_factor, standing_few, standing_more}
use Rattle.wh_find_flat.proofs.sides.require_factors.Goals as goal
use Rattle.wh_find_flat.proofs.sides.require_factors.Goals.{then-stands+in_ok-require_part, else-stands}

pub require_part-requires-clause-room : goal.require_part-requires-clause-room
require_part-requires-clause-room c =
    let t = tm c.args.left.now in
    let u = tm c.args.right.now in
    let n = 2414 * (occurrences t + occurrences u) - 4300 in
    let z = c.loop-meta.meta in
    let s = standing_few (z + 1) u c.requires.plain.right_plain in
    let here : stands_in z u ≡ true = sym c.stands.ensures ∙ c.if-stands.true in
    let count : standing (z + 1) u ≡ 1 + standing z u = standing_more z u ∙ ap (λ b. (if b then 1 else 0) + standing z u) here in
    let few = c.requires.plain.right_few in
    let m = at_most_sixty (1 + standing z u) n (omega (arith, s, few, count)) in
    let f = c.loop-meta.invariant.few in
    let x = occurs_some t c.requires.plain.left_plain in
    let y = occurs_some u c.requires.plain.right_plain in
    let r = c.requires.room in
    omega (arith, m, f, x, y, r)

pub loop-meta-preserved : goal.loop-meta-preserved
loop-meta-preserved c =
    let t = tm c.args.left.now in
    let u = tm c.args.right.now in
    let n = 2414 * (occurrences t + occurrences u) - 4300 in
    let z = c.loop-meta.meta in
    let sizes = c.args.bits.now.sizes.items in
    let F : (ℕ → Bool) → ℕ → Type 0 = λ v z. factor_of (lists_for sizes v) z u ≤ factor_of (lists_for sizes v) z t in
    let before = c.loop-meta.invariant in
    let more = standing_more z u in
    elim c.if-stands.branch [
      | then-stands+in_ok-require_part w ↦
          let s : stands_in z u ≡ true = sym c.stands.ensures ∙ w.if-stands.true in
          let one = ap (λ b. (if b then 1 else 0) + standing z u) s in
          let count : standing (z + 1) u ≡ 1 + standing z u = more ∙ one in
          let product = ap (λ k. k * n) count in
          let x = occurs_some t c.requires.plain.left_plain in
          let y = occurs_some u c.requires.plain.right_plain in
          let f = w.in_ok-require_part.ensures.few in
          let g = before.few in
          let same : c.if-stands.circuit ≡ w.require_part.new.circuit = w.circuit-is in
          let long = ap (λ (k : Circuit). length (gates_of k)) same in
          record {
            asks = subst (λ (k : Circuit). Asks c.args.circuit.now k (λ v. (z' : ℕ) → z' < z + 1 → F v z')) (sym same)
                (asks_more c.args.circuit.now c.loop-meta.circuit w.require_part.new.circuit F z before.asks w.in_ok-require_part.ensures.asks);
            few = omega (arith, product, x, y, f, g, long);
          }
      | else-stands w ↦
          let s : stands_in z u ≡ false = sym c.stands.ensures ∙ w.if-stands.false in
          let none = ap (λ b. (if b then 1 else 0) + standing z u) s in
          let count : standing (z + 1) u ≡ standing z u = more ∙ none ∙ omega arith in
          let product = ap (λ k. k * n) count in
          let g = before.few in
          let same : c.if-stands.circuit ≡ c.loop-meta.circuit = w.circuit-is in
          let long = ap (λ (k : Circuit). length (gates_of k)) same in
          record {
            asks = subst (λ (k : Circuit). Asks c.args.circuit.now k (λ v. (z' : ℕ) → z' < z + 1 → F v z')) (sym same)
                (asks_for_nothing c.args.circuit.now c.loop-meta.circuit F z before.asks
                (λ v. let e = no_factor (lists_for sizes v) z u c.requires.plain.right_plain s in omega (arith, e)));
            few = omega (arith, product, g, long);
          }
    ]

pub returns : goal.returns
returns c =
    let t = tm c.args.left.now in
    let u = tm c.args.right.now in
    let n = 2414 * (occurrences t + occurrences u) - 4300 in
    let s = standing_few c.loop-meta.meta u c.requires.plain.right_plain in
    let few = c.requires.plain.right_few in
    let m = at_most_sixty (standing c.loop-meta.meta u) n (omega (arith, s, few)) in
    let f = c.loop-meta.invariant.few in
    let last : c.loop-meta.meta ≡ c.args.metas = omega arith in
    let sizes = c.args.bits.now.sizes.items in
    record {
      asks = subst (λ k. Asks c.args.circuit.now c.loop-meta.circuit (λ v. (z : ℕ) → z < k → factor_of (lists_for sizes v) z u ≤ factor_of (lists_for sizes v) z t)) last c.loop-meta.invariant.asks;
      few = omega (arith, m, f);
    }
