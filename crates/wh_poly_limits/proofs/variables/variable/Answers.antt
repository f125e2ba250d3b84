-- What is added was weighed before.
use Rattle.std.proofs.Common.{rules, ◌≡◌, ◌<◌, ◌≤◌, ◌⊎◌, ap, subst, ◌∙◌}
use Rattle.wh_types.specs.Erase.{ty}
use Rattle.wh_poly.specs.Arithmetic.{atom}
use Rattle.wh_poly.specs.Added.{added, variable, added_weight, added_nesting}
use Rattle.wh_poly.specs.Limits.{Exceeds}
use Rattle.wh_poly.specs.Erase.{poly}
use Rattle.wh_poly.proofs.AddedLaws.{variable_is_large, weighed_is_within}
use Rattle.wh_poly_limits.proofs.variables.variable.Goals as goal

pub returns-then-is_none-clause-fault : goal.returns-then-is_none-clause-fault
returns-then-is_none-clause-fault c =
    let past : (65534 < added_weight (ty c.args.kind.now)) ⊎ (400 < added_nesting (ty c.args.kind.now)) = search rules in
    variable_is_large (ty c.args.kind.now) c.args.count c.args.x past

pub returns-clause-ok : goal.returns-clause-ok
returns-clause-ok c =
    let A = ty c.args.kind.now in
    let same : poly c.in_ok-value.value ≡ variable A c.args.count c.args.x =
    c.in_ok-value.ensures ∙ ap (atom c.args.x) (c.in_ok-args.ensures ∙ ap (λ m. added A m c.args.count) c.in_ok-inner.ensures) in
    let within : (added_weight A ≤ 65534) × (added_nesting A ≤ 400) = search rules in
    (same, λ h. weighed_is_within A c.args.count c.args.x within.0 within.1 (subst Exceeds same h))
