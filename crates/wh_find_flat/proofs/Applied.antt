-- What gates tell of trees stays, and the value of a tree that is applied to one more argument.
use Rattle.std.proofs.Common.{◌≡◌, ℕ, suc, ◌+◌, ◌-◌, ◌*◌, ◌^◌, ◌<◌, Bool, List, Option, Some, None, MatchOption, refl, ap, ap₂, sym, subst, ◌∙◌, arith}
use Rattle.wh_terms.specs.Tree.{Tm, meta, app, none, more, Tms}
use Rattle.wh_circuit.specs.declared.circuit.Circuit.{Circuit}
use Rattle.wh_circuit.specs.declared.circuit.Gate.{Gate}
use Rattle.wh_circuit.specs.Values.{number_of}
use Rattle.wh_poly_flat.specs.Flat.{occurrences}
use Rattle.wh_poly_flat.specs.Worth.{coefficient, symbol_in, places_in}
use Rattle.wh_find_flat.specs.Lists.{lists_for, IsAbsent, IsWrittenAt}
use Rattle.wh_find_flat.specs.Plain.{IsPlain}
use Rattle.wh_find_flat.specs.Parts.{number_at}
use Rattle.wh_find_flat.specs.Products.{digit_by, IsProduct}
use Rattle.wh_find_flat.specs.Numbers.{Later, Builds, IsValue}
use Rattle.wh_find_flat.specs.declared.part.Part.{Part}
use Rattle.wh_find_flat.specs.declared.value.Value.{Value}
use Rattle.wh_find_flat.proofs.Growth.{agrees_early, builds_then, number_later}
use Rattle.wh_find_flat.proofs.Small.{number_small, occurs_some}

pub value_later : (sizes : List ℕ) (part : Part) (xs ys : List Gate) (t : Tm) (value : Value) → Later xs ys → IsValue sizes part xs t value
    → IsValue sizes part ys t value
value_later sizes part xs ys t value l i = record {
  means = number_later xs ys value.wires.items (λ v. number_at part (lists_for sizes v) t) l i.means;
  width = i.width;
  occurrences_are = i.occurrences_are;
  symbol_is = i.symbol_is;
  places_are = i.places_are;
}

told : (sizes : List ℕ) (n j : ℕ) (o : Option ℕ) → MatchOption o (IsAbsent sizes n j) (IsWrittenAt sizes n j) → (v : ℕ → Bool)
    → digit_by o v ≡ coefficient (lists_for sizes v) n j
told sizes n j None h v = sym (h v)
told sizes n j (Some x) h v = sym (h.is v)

pub applied_value : (sizes : List ℕ) (part : Part) (before after : List Gate) (t u : Tm) (front last made : Value) (o : Option ℕ)
    → Later before after → IsPlain t → IsPlain u → IsValue sizes part before t front → IsValue sizes part before u last
    → MatchOption o (IsAbsent sizes front.symbol (front.places + 1)) (IsWrittenAt sizes front.symbol (front.places + 1))
    → IsProduct after o front.wires.items last.wires.items (2 * (front.occurrences + last.occurrences)) made.wires.items
    → made.occurrences ≡ front.occurrences + last.occurrences → made.symbol ≡ front.symbol → made.places ≡ front.places + 1
    → IsValue sizes part after (app t u) made
applied_value sizes part before after t u front last made o l pt pu it iu found product many head places = record {
  means = record {
    own = product.own;
    is = λ v a. (
        let early = agrees_early before after v l a in
        let x = it.means.is v early in
        let y = iu.means.is v early in
        let j : front.places + 1 ≡ suc (places_in t) = (let e = it.places_are in omega (arith, e)) in
        let c : digit_by o v ≡ coefficient (lists_for sizes v) (symbol_in t) (suc (places_in t)) =
        told sizes front.symbol (front.places + 1) o found v ∙ ap₂ (λ n j. coefficient (lists_for sizes v) n j) it.symbol_is j in
        let sum : number_of v front.wires.items + digit_by o v * number_of v last.wires.items ≡ number_at part (lists_for sizes v) (app t u) =
        ap₂ (λ a b. a + digit_by o v * b) x y
        ∙ ap (λ d. number_at part (lists_for sizes v) t + d * number_at part (lists_for sizes v) u) c in
        let room : 2 * (front.occurrences + last.occurrences) ≡ 2 * occurrences (app t u) =
        (let e = it.occurrences_are in let f = iu.occurrences_are in omega (arith, e, f)) in
        let small : number_at part (lists_for sizes v) (app t u) < 2 ^ (2 * (front.occurrences + last.occurrences)) =
        subst (λ k. number_at part (lists_for sizes v) (app t u) < 2 ^ k) (sym room) (number_small part (lists_for sizes v) (app t u) (pt, pu)) in
        product.is v a (subst (λ n. n < 2 ^ (2 * (front.occurrences + last.occurrences))) (sym sum) small) ∙ sum);
  };
  width = (let w = product.narrow in omega (arith, w, many));
  occurrences_are = (let e = it.occurrences_are in let f = iu.occurrences_are in omega (arith, e, f, many));
  symbol_is = head ∙ it.symbol_is;
  places_are = (let e = it.places_are in omega (arith, e, places));
}

pub plain_meta : (z : ℕ) (ts : Tms) → IsPlain (meta z ts) → meta z ts ≡ meta z none
plain_meta z none p = refl
plain_meta z (more t ts) p = absurd p

-- the gates of a tree applied to one more argument
pub applied_builds : (w t u : Tm) (a b c d : Circuit) → w ≡ app t u → IsPlain (app t u) → Builds (2414 * occurrences t - 2413) a b
    → Builds (2414 * occurrences u - 2413) b c → Builds 2413 c d → Builds (2414 * occurrences w - 2413) a d
applied_builds w t u a b c d is p g h k =
    let o : occurrences w ≡ occurrences t + occurrences u = ap occurrences is in
    let x = occurs_some t p.0 in
    let y = occurs_some u p.1 in
    let m = 2414 * occurrences t - 2413 in
    let n = 2414 * occurrences u - 2413 in
    builds_then (m + n) 2413 (2414 * occurrences w - 2413) a c d (builds_then m n (m + n) a b c g h (omega arith)) k (omega (arith, o, x, y))
