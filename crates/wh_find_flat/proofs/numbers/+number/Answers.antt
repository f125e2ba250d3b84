use Rattle.std.proofs.Common.{rules, ◌≡◌, ℕ, ◌+◌, ◌*◌, ◌-◌, List, arith, refl, ap, sym, subst, ◌∙◌}
use Rattle.wh_terms.specs.Tree.{Tm, Tms, app, meta, none}
use Rattle.wh_terms.specs.declared.term.Term.{Term}
use Rattle.wh_terms.specs.declared.term.Term.TheVariants.{Meta}
use Rattle.wh_terms.specs.Erase.{tm}
use Rattle.wh_circuit.specs.State.{gates_of}
use Rattle.wh_poly_flat.specs.Flat.{occurrences}
use Rattle.wh_find_flat.specs.Plain.{IsPlain}
use Rattle.wh_find_flat.specs.Numbers.{IsValue}
use Rattle.wh_find_flat.proofs.Applied.{applied_builds, plain_meta, value_later}
use Rattle.wh_find_flat.proofs.Growth.{builds_none, on_ok, ok_so, on_ok_so}
use Rattle.wh_find_flat.proofs.Small.{occurs_some, places_few}
use Rattle.wh_find_flat.proofs.numbers.+number.Goals as goal

abbrev left : (t : ℕ) → goal.After-applied-arg-1 t → Tm
left t c = tm c.deref.result.now

abbrev right : (t : ℕ) → goal.After-applied-arg-1 t → Tm
right t c = tm c.deref-in-App.result.now

is_app : (t : ℕ) (c : goal.After-applied-arg-1 t) → tm c.args.term.now ≡ app (left t c) (right t c)
is_app t c = search rules

plains : (t : ℕ) (c : goal.After-applied-arg-1 t) → IsPlain (left t c) × IsPlain (right t c)
plains t c = subst IsPlain (is_app t c) c.requires.plain

pub applied-requires-clause-some : goal.applied-requires-clause-some
applied-requires-clause-some t c =
    let a = occurs_some (left t c) (plains t c).0 in
    let b = occurs_some (right t c) (plains t c).1 in
    let e = c.in_ok-front-in-App.ensures.value.occurrences_are in
    let f = c.in_ok-last-in-App.ensures.value.occurrences_are in
    (omega (arith, a, e), omega (arith, b, f))

pub applied-requires-clause-room : goal.applied-requires-clause-room
applied-requires-clause-room t c =
    let a = occurs_some (left t c) (plains t c).0 in
    let b = occurs_some (right t c) (plains t c).1 in
    let o : occurrences (tm c.args.term.now) ≡ occurrences (left t c) + occurrences (right t c) = ap occurrences (is_app t c) in
    let e = c.in_ok-front-in-App.ensures.builds.few in
    let f = c.in_ok-last-in-App.ensures.builds.few in
    let r = c.requires.room in
    omega (arith, a, b, o, e, f, r)

pub applied-requires-clause-places : goal.applied-requires-clause-places
applied-requires-clause-places t c =
    let o : occurrences (tm c.args.term.now) ≡ occurrences (left t c) + occurrences (right t c) = ap occurrences (is_app t c) in
    let a = places_few (left t c) (plains t c).0 in
    let e = c.in_ok-front-in-App.ensures.value.places_are in
    let s = c.requires.small in
    omega (arith, o, a, e, s)

pub returns-in-Fun-clause-builds : goal.returns-in-Fun-clause-builds
returns-in-Fun-clause-builds t c = on_ok c.symbol_value.result _ (builds_none (2414 * occurrences (tm c.args.term.now) - 2413) c.args.circuit.now)

-- the tree of a meta-variable
meta_tree : (x : Term) (z : ℕ) (items : List Term) → x ≡ Meta z items → (ts : Tms) × (tm x ≡ meta z ts)
meta_tree x z items e = subst (λ (x : Term). (ts : Tms) × (tm x ≡ meta z ts)) (sym e) (_, refl)

pub returns-in-Meta-clause-value : goal.returns-in-Meta-clause-value
returns-in-Meta-clause-value t c =
    let z = c.in-Meta.meta in
    let (ts, is) = meta_tree c.args.term.now z c.in-Meta.field-1 c.in-Meta.is in
    let same : meta z none ≡ tm c.args.term.now = sym (is ∙ plain_meta z ts (subst IsPlain is c.requires.plain)) in
    ok_so c.meta_value.result _ _ (λ value i. subst (λ (u : Tm). IsValue c.args.bits.now.sizes.items c.args.part (gates_of c.meta_value.new.circuit) u value) same i)
    (c.meta_value.ensures.value c.args.bits.now.sizes.items)

pub returns-in_ok-last-in-App-clause-builds : goal.returns-in_ok-last-in-App-clause-builds
returns-in_ok-last-in-App-clause-builds t c =
    let a = tm c.deref.result.now in
    let b = tm c.deref-in-App.result.now in
    let is : tm c.args.term.now ≡ app a b = search rules in
    on_ok_so c.applied.result _ _ (λ h. applied_builds (tm c.args.term.now) a b c.args.circuit.now c.number.new.circuit c.number-in-App.new.circuit c.applied.new.circuit is
    (subst IsPlain is c.requires.plain) c.in_ok-front-in-App.ensures.builds c.in_ok-last-in-App.ensures.builds h) c.applied.ensures.builds

pub returns-in_ok-last-in-App-clause-value : goal.returns-in_ok-last-in-App-clause-value
returns-in_ok-last-in-App-clause-value t c =
    let a = tm c.deref.result.now in
    let b = tm c.deref-in-App.result.now in
    let is : tm c.args.term.now ≡ app a b = search rules in
    let plain = subst IsPlain is c.requires.plain in
    let sizes = c.args.bits.now.sizes.items in
    let front = value_later sizes c.args.part (gates_of c.number.new.circuit) (gates_of c.number-in-App.new.circuit) a c.in_ok-front-in-App.front
    c.in_ok-last-in-App.ensures.builds.gates c.in_ok-front-in-App.ensures.value in
    ok_so c.applied.result _ _ (λ value i. subst (λ (u : Tm). IsValue sizes c.args.part (gates_of c.applied.new.circuit) u value) (sym is) i)
    (c.applied.ensures.value c.args.part a b plain.0 plain.1 front c.in_ok-last-in-App.ensures.value)
