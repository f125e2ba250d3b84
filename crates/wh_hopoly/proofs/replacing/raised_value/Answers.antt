-- The value is raised as far as the scope is longer.
use Rattle.std.proofs.Common.{◌≡◌, ◌-◌, arith, subst, ◌∙◌}
use Rattle.wh_types.specs.Erase.{ty}
use Rattle.wh_poly.specs.Limits.{Exceeds}
use Rattle.wh_poly.specs.Excesses.{ExceedsAs}
use Rattle.wh_hopoly.specs.Scopes.{scope_of}
use Rattle.wh_hopoly.specs.Replacements.{value_at}
use Rattle.wh_poly.specs.Erase.{poly}
use Rattle.wh_hopoly.specs.declared.replacing.Replacement.{Replacement}
use Rattle.wh_hopoly.specs.declared.replacing.Place.{Place}
use Rattle.wh_poly.specs.declared.polynomial.Poly.{Poly}
use Rattle.wh_hopoly.specs.Replacements.{Fits}
use Rattle.wh_poly.specs.Arithmetic.{renumber, raised}
use Rattle.wh_poly.proofs.FaultLaws.{ok_so, because_so}
use Rattle.wh_hopoly.proofs.RenumberLaws.{moved_by}
use Rattle.wh_hopoly.proofs.ReplacingLaws.{place_counts}
use Rattle.wh_hopoly.proofs.replacing.raised_value.Goals as goal

raised_is : (r : Replacement) (place : Place) (p : Poly) → Fits r place → poly p ≡ renumber (raised r.variable (place.count - 1 - r.variable)) (poly r.value.now) → poly p ≡ value_at r place
raised_is r place p f e =
    let counts = place_counts (ty r.kind.now) r.variable place.count (poly r.value.now) (scope_of place.inner) (scope_of place.outer) f.0 f.1 in
    e ∙ moved_by r.variable (place.count - 1 - r.variable) (scope_of place.outer) (poly r.value.now) (let n = counts.0 in let m = counts.1 in omega (arith, n, m))

pub returns-clause-ok : goal.returns-clause-ok
returns-clause-ok c =
    let same = raised_is c.args.replacement.now c.args.place.now c.in_ok-raise.field-0 c.requires.fits c.in_ok-raise.ensures in
    ok_so c.tested.result (λ r. (poly r ≡ poly c.in_ok-raise.field-0) × (Exceeds (poly r) → ⊥)) (λ r. (poly r ≡ value_at c.args.replacement.now c.args.place.now) × (Exceeds (poly r) → ⊥))
    (λ r h. (h.0 ∙ same, h.1)) c.tested.ensures.ok

pub returns-clause-fault : goal.returns-clause-fault
returns-clause-fault c =
    let same = raised_is c.args.replacement.now c.args.place.now c.in_ok-raise.field-0 c.requires.fits c.in_ok-raise.ensures in
    because_so c.tested.result (λ e. ExceedsAs e (poly c.in_ok-raise.field-0)) (λ e. ExceedsAs e (value_at c.args.replacement.now c.args.place.now))
    (λ e h. subst (ExceedsAs e) same h) c.tested.ensures.fault
