use mathlib.Core.Path.{subst₂}
use Rattle.std.proofs.Common.{◌≡◌, ℕ, ◌+◌, nat_lt, true, List, length, map, arith, ap, ap₂, sym, subst, ◌∙◌}
use Rattle.std.proofs.lemmas.List.{length-map}
use Rattle.wh_terms.specs.Erase.{declared_meta, tm}
use Rattle.wh_terms.specs.Tree.{Tm, fun, spine}
use Rattle.wh_terms.specs.declared.term.Term.{Term}
use Rattle.wh_pairs.specs.PairData.{PairData, pair_data}
use Rattle.wh_circuit.specs.Gates.{Means}
use Rattle.wh_circuit.specs.State.{gates_of}
use Rattle.wh_poly_flat.specs.Flat.{occurrences, pair_occurrences}
use Rattle.wh_poly_flat.specs.Worth.{IsAtLeast, constant_of}
use Rattle.wh_poly_flat.proofs.Sides.{spine_occurrences}
use Rattle.wh_find_flat.specs.Lists.{lists_for}
use Rattle.wh_find_flat.specs.Numbers.{Asks}
use Rattle.wh_find_flat.specs.Plain.{ArePlainSides, stands_in}
use Rattle.wh_find_flat.specs.Ready.{left_of, right_of}
use Rattle.wh_find_flat.proofs.Growth.{ok_so, on_ok_so}
use Rattle.wh_find_flat.proofs.formula.require_call.Goals as goal

left_is : (c : goal.After-deref-3) → tm c.deref-2.result.now ≡ left_of c.args.calls.now.first c.args.calls.now.marked.now (pair_data c.args.pair.now)
left_is c = ap tm c.deref-2.ensures ∙ c.in_ok-left.ensures ∙ ap₂ (λ k (ts : List Term). spine (fun k) (map tm ts)) c.number.ensures c.deref.ensures

right_is : (c : goal.After-deref-3) → tm c.deref-3.result.now ≡ right_of c.args.calls.now.first c.args.calls.now.marked.now (pair_data c.args.pair.now)
right_is c = ap tm c.deref-3.ensures ∙ c.in_ok-right.ensures ∙ ap (λ k. spine (fun k) (map tm c.args.pair.now.right)) c.number-2.ensures

both_occur : (first : ℕ) (marked : List ℕ) (p : PairData) (t u : Tm) → t ≡ left_of first marked p → u ≡ right_of first marked p
    → occurrences t + occurrences u ≡ pair_occurrences p
both_occur first marked p t u e f =
    let a = ap occurrences e ∙ spine_occurrences _ p.left in
    let b = ap occurrences f ∙ spine_occurrences _ p.right in
    omega (arith, a, b)

pub require_pair-requires : goal.require_pair-requires
require_pair-requires c =
    let first = c.args.calls.now.first in
    let marked = c.args.calls.now.marked.now in
    let p = pair_data c.args.pair.now in
    let t = left_of first marked p in
    let u = right_of first marked p in
    let ready = c.requires.ready in
    let long = length-map c.args.pair.now.metas declared_meta in
    let len = ap length c.as_slice-metas.ensures in
    let all = both_occur first marked p (tm c.deref-2.result.now) (tm c.deref-3.result.now) (left_is c) (right_is c) in
    let room = c.requires.room in
    record {
      plain = subst (λ x. ArePlainSides x (tm c.deref-3.result.now)) (sym (left_is c)) (subst (ArePlainSides t) (sym (right_is c)) ready.plain);
      metas = λ z s. (let b = ready.bounded z (subst (λ x. stands_in z x ≡ true) (right_is c) s) in omega (arith, b, long, len));
      inputs = c.requires.inputs;
      room = omega (arith, all, room);
    }

pub returns : goal.returns
returns c =
    let first = c.args.calls.now.first in
    let marked = c.args.calls.now.marked.now in
    let p = pair_data c.args.pair.now in
    let sizes = c.args.bits.now.sizes.items in
    let old = c.args.circuit.now in
    let new = c.require_pair.new.circuit in
    let x = tm c.deref-2.result.now in
    let y = tm c.deref-3.result.now in
    let left : x ≡ left_of first marked p =
    ap tm c.deref-2.ensures ∙ c.in_ok-left.ensures ∙ ap₂ (λ k (ts : List Term). spine (fun k) (map tm ts)) c.number.ensures c.deref.ensures in
    let right : y ≡ right_of first marked p =
    ap tm c.deref-3.ensures ∙ c.in_ok-right.ensures ∙ ap (λ k. spine (fun k) (map tm c.args.pair.now.right)) c.number-2.ensures in
    let all = both_occur first marked p x y left right in
    record {
      asks = on_ok_so c.require_pair.result _ _ (λ a. subst₂ (λ t u. Asks old new (λ v. IsAtLeast (lists_for sizes v) t u)) left right a) c.require_pair.ensures.asks;
      few = on_ok_so c.require_pair.result _ _ (λ f. omega (arith, f, all)) c.require_pair.ensures.few;
      means = ok_so c.require_pair.result _ _ (λ made m. subst₂ (λ t u. Means (gates_of new) made (λ v. nat_lt (constant_of (lists_for sizes v) u) (constant_of (lists_for sizes v) t))) left right m)
          c.require_pair.ensures.means;
    }
