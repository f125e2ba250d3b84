use Rattle.std.proofs.Common.{◌≡◌, Bool, true, false, get_or, refl, sym, ◌∙◌, rules}
use Rattle.std.specs.Bool.{OnTrue}
use Rattle.wh_sat_trail.specs.Watch.{nothing}
use Rattle.wh_sat.specs.Solving.{literal_true}
use Rattle.wh_sat.proofs.Assuring.{clause_true_by}
use Rattle.wh_poly_blocking.specs.Sizes.{value_of}
use Rattle.wh_find_order.proofs.chance.Chance.was_true.Goals as goal

on_true : {P : Type 0} (b : Bool) → (b ≡ true → P) → OnTrue b P
on_true true f = f refl
on_true false f = tt

pub returns-then-place-clause : goal.returns-then-place-clause
returns-then-place-clause c =
    let v = value_of c.args.values.now in
    let cl = c.args.clause.now in
    let i = c.in-Some.place.now in
    let e : c.holds.result ≡ literal_true v (get_or cl i nothing) = search rules in
    on_true c.holds.result (λ is. clause_true_by v cl i nothing c.if-place-clause.true (sym e ∙ is))
