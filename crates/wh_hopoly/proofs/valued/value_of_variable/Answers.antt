-- The variable has one type, and its value is the only one.
use Rattle.std.proofs.Common.{◌≡◌, [], ap₂, sym, subst, ◌∙◌, arith, length}
use Rattle.wh_types.specs.Erase.{ty}
use Rattle.wh_hopoly.specs.Evaluation.{one, type_at}
use Rattle.wh_poly.specs.Added.{variable}
use Rattle.wh_poly.specs.Limits.{Exceeds}
use Rattle.wh_poly.specs.Excesses.{ExceedsAs}
use Rattle.wh_hopoly.specs.Outcomes.{PassesLimit}
use Rattle.wh_hopoly.specs.Scopes.{scope_of}
use Rattle.wh_poly.specs.Erase.{poly}
use Rattle.wh_poly.proofs.FaultLaws.{passed_on}
use Rattle.wh_hopoly.proofs.NormalWalk.{has_type_within}
use Rattle.wh_hopoly.proofs.ReplaceLaws.{type_is}
use Rattle.wh_hopoly.proofs.RunLaws.{first_is_there, within_one}
use Rattle.wh_hopoly.proofs.valued.value_of_variable.Goals as goal

pub unreachable-requires : goal.unreachable-requires
unreachable-requires c = let l = has_type_within (scope_of c.args.scope.now) c.args.x c.requires.typed.0 c.requires.typed.1 in let e = c.in_default.ensures in omega (arith, l, e)

pub returns-in_err-value-clause-fault : goal.returns-in_err-value-clause-fault
returns-in_err-value-clause-fault c =
    let Γ = scope_of c.args.scope.now in
    let x = c.args.x in
    let same : variable (ty c.in-Ok.kind.now) c.args.count x ≡ variable (type_at Γ x) (length Γ) x =
    ap₂ (λ A n. variable A n x) (sym (type_is Γ x (ty c.in-Ok.kind.now) c.in-Ok.ensures)) c.requires.counted in
    passed_on c.variable.result c.from_residual.result c.in_err-value.field-0.0 (λ e. ExceedsAs e (variable (ty c.in-Ok.kind.now) c.args.count x)) (PassesLimit (one (variable (type_at Γ x) (length Γ) x)))
    c.from_residual.ensures.1 c.in_err-value.ensures.fault (λ e h. (variable (type_at Γ x) (length Γ) x, first_is_there _ [], subst (ExceedsAs e) same h))

pub returns-clause-ok : goal.returns-clause-ok
returns-clause-ok c =
    let Γ = scope_of c.args.scope.now in
    let x = c.args.x in
    let kind = type_is Γ x (ty c.in-Ok.kind.now) c.in-Ok.ensures in
    let same : poly c.in_ok-value.value ≡ variable (type_at Γ x) (length Γ) x = c.in_ok-value.ensures.ok.0 ∙ ap₂ (λ A n. variable A n x) (sym kind) c.requires.counted in
    ((same, within_one (variable (type_at Γ x) (length Γ) x) (subst (λ p. Exceeds p → ⊥) same c.in_ok-value.ensures.ok.1)), c.in_ok-copy.ensures ∙ sym kind)
