use Rattle.std.proofs.Common.{◌≡◌, ◌+◌, rules, sym, ◌∙◌, ap}
use Rattle.std.specs.Prelude.{Err}
use Rattle.wh_types.specs.Erase.{ty}
use Rattle.wh_terms.specs.Tree.{app, lam, free, fun}
use Rattle.wh_terms.specs.Erase.{tm}
use Rattle.wh_terms.specs.Substitution.{act}
use Rattle.wh_terms.specs.Value.{parameters}
use Rattle.wh_terms.specs.Under.{ups, ups_free, moved}
use Rattle.wh_terms.proofs.UnderLemmas.{ups_free_stays}
use Rattle.wh_step.proofs.ExtentLemmas.{passed_on, past_function, measures_same, known_extent, act_app, act_bound, act_free, act_fun, act_lam}
use Rattle.wh_step.proofs.measuring.+extent_of.Goals as goal

pub returns-in-Bound : goal.returns-in-Bound
returns-in-Bound n c ts k known =
    let σ = ups c.args.depth (parameters ts (moved k)) in
    let w = tm c.args.term.now in
    measures_same (act σ (ups_free c.args.depth free) w) (σ c.in-Bound.number) c.variable_extent.result (act_bound σ (ups_free c.args.depth free) w c.in-Bound.number (ap tm c.in-Bound.is)) (c.variable_extent.ensures ts k known)

pub returns-in-Free : goal.returns-in-Free
returns-in-Free n c ts k known =
    let σ = ups c.args.depth (parameters ts (moved k)) in
    let w = tm c.args.term.now in
    known_extent (act σ (ups_free c.args.depth free) w) (free c.in-Free.field-0 (ty c.in-Free.field-1)) c.leaf.result
    (act_free σ (ups_free c.args.depth free) w c.in-Free.field-0 (ty c.in-Free.field-1) (ap tm c.in-Free.is) ∙ ups_free_stays c.args.depth c.in-Free.field-0 (ty c.in-Free.field-1))
    (c.leaf.ensures.free c.in-Free.field-0 (ty c.in-Free.field-1))

pub returns-in-Fun : goal.returns-in-Fun
returns-in-Fun n c ts k known =
    let σ = ups c.args.depth (parameters ts (moved k)) in
    let w = tm c.args.term.now in
    known_extent (act σ (ups_free c.args.depth free) w) (fun c.in-Fun.field-0) c.leaf-in-Fun.result (act_fun σ (ups_free c.args.depth free) w c.in-Fun.field-0 (ap tm c.in-Fun.is)) (c.leaf-in-Fun.ensures.fun c.in-Fun.field-0)

pub returns-in_ok-inner-in-Lam : goal.returns-in_ok-inner-in-Lam
returns-in_ok-inner-in-Lam n c ts k known =
    let σ = parameters ts (moved k) in
    let w = tm c.args.term.now in
    let inner = c.in_ok-inner-in-Lam.inner in
    let body = tm c.deref.result.now in
    let a = ty c.in-Lam.field-0 in
    let is : w ≡ lam a body = ap tm c.in-Lam.is ∙ ap (λ b. lam a (tm b)) (sym c.deref.ensures) in
    let next : inner ≡ c.args.depth + 1 = search rules in
    measures_same (act (ups c.args.depth σ) (ups_free c.args.depth free) w) (lam a (act (ups inner σ) (ups_free inner free) body)) c.abstracted.result (act_lam σ free c.args.depth inner w a body is next)
    (c.abstracted.ensures a (act (ups inner σ) (ups_free inner free) body) (c.extent_of.ensures ts k known))

pub returns-in_err-front-in-App : goal.returns-in_err-front-in-App
returns-in_err-front-in-App n c ts k known =
    let σ = ups c.args.depth (parameters ts (moved k)) in
    let φ = ups_free c.args.depth free in
    let w = tm c.args.term.now in
    let f = tm c.deref-in-App.result.now in
    let x = tm c.in-App.argument.value in
    let past = c.in_err-front-in-App.field-0.0 in
    let is : w ≡ app f x = ap tm c.in-App.is ∙ ap (λ g. app (tm g) x) (sym c.deref-in-App.ensures) in
    passed_on (act σ φ w) past c.from_residual-in_err-front-in-App.result c.from_residual-in_err-front-in-App.ensures.1
    (measures_same (act σ φ w) (app (act σ φ f) (act σ φ x)) (Err past) (act_app σ φ w f x is) (past_function (act σ φ f) (act σ φ x) past (c.in_err-front-in-App.ensures ts k known)))

pub returns-in_ok-front-in-App : goal.returns-in_ok-front-in-App
returns-in_ok-front-in-App n c ts k known =
    let σ = ups c.args.depth (parameters ts (moved k)) in
    let φ = ups_free c.args.depth free in
    let w = tm c.args.term.now in
    let f = tm c.deref-in-App.result.now in
    let x = tm c.deref-in-App-2.result.now in
    let is : w ≡ app f x = ap tm c.in-App.is ∙ cc (ap tm c.deref-in-App.ensures, ap tm c.deref-in-App-2.ensures) in
    measures_same (act σ φ w) (app (act σ φ f) (act σ φ x)) c.applied.result (act_app σ φ w f x is)
    (c.applied.ensures (act σ φ f) (act σ φ x) (c.in_ok-front-in-App.ensures ts k known) (c.extent_of-in-App-2.ensures ts k known))
