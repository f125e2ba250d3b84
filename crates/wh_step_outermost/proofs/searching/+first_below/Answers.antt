use Rattle.std.proofs.Common.{◌≡◌, ap, sym, ◌∙◌, subst, ℕ, List, Option, Some}
use Rattle.std.specs.Prelude.{MatchOption}
use Rattle.wh_types.specs.Erase.{ty}
use Rattle.wh_terms.specs.Tree.{Tm, lam, app}
use Rattle.wh_terms.specs.Rules.{RewriteRule}
use Rattle.wh_terms.specs.Erase.{tm, rewrite_rules}
use Rattle.wh_terms.proofs.Results.{IfOk-map}
use Rattle.wh_step.proofs.EnumerationLaws.{childless_leaf}
use Rattle.wh_step_outermost.specs.Redexes.{IsFirstBy, HasNone}
use Rattle.wh_step_outermost.proofs.FirstRedexes.{NoneAtRoot, Told, OneUp, first_found, first_function, first_argument, first_body, first_up, none_app, none_lam, none_leaf, told_up}
use Rattle.wh_step_outermost.proofs.searching.+first_below.Goals as goal

abbrev AtRoot : List RewriteRule → Tm → Option (Option ℕ) → Type 0
AtRoot rules t o = MatchOption o (NoneAtRoot rules t) (IsFirstBy rules t)

pub returns-in-Some : goal.returns-in-Some
returns-in-Some n c =
    let rules = rewrite_rules c.args.rules.now in
    let t = tm c.args.term.now in
    first_found rules t (record { rule = c.in-Some.rule; back = c.new.result }) c.new.ensures.items (subst (AtRoot rules t) c.in-Some.is c.in_ok-rule.ensures)

pub returns-in-Some-2 : goal.returns-in-Some-2
returns-in-Some-2 n c =
    let rules = rewrite_rules c.args.rules.now in
    let w = tm c.args.term.now in
    let t = tm c.deref.result.now in
    let u = tm c.in-App.argument.value in
    let is : w ≡ app t u = ap tm c.in-App.is ∙ cc (ap tm c.deref.ensures) in
    let none : NoneAtRoot rules (app t u) = subst (NoneAtRoot rules) is (subst (AtRoot rules w) c.in_default.is c.in_ok-rule.ensures) in
    let told : Told rules t (Some c.in-Some-2.found) = subst (Told rules t) c.in-Some-2.is c.in_ok-found-in-App.ensures in
    IfOk-map (OneUp rules 0 (Some c.in-Some-2.found)) (Told rules w) c.one_up.result
    (λ o up. subst (λ s. Told rules s o) (sym is) (first_up rules t (app t u) 0 c.in-Some-2.found o (first_function rules t u none) told up)) c.one_up.ensures

pub returns-in_ok-first_below-in-None : goal.returns-in_ok-first_below-in-None
returns-in_ok-first_below-in-None n c =
    let rules = rewrite_rules c.args.rules.now in
    let w = tm c.args.term.now in
    let t = tm c.deref.result.now in
    let u = tm c.deref-in-None.result.now in
    let is : w ≡ app t u = ap tm c.in-App.is ∙ cc (ap tm c.deref.ensures, ap tm c.deref-in-None.ensures) in
    let none : NoneAtRoot rules (app t u) = subst (NoneAtRoot rules) is (subst (AtRoot rules w) c.in_default.is c.in_ok-rule.ensures) in
    let empty : HasNone rules t = subst (Told rules t) c.in-None.is c.in_ok-found-in-App.ensures in
    IfOk-map (OneUp rules 1 c.in_ok-first_below-in-None.field-0) (Told rules w) c.one_up-in-None.result
    (λ o up. subst (λ s. Told rules s o) (sym is) (told_up rules u (app t u) 1 c.in_ok-first_below-in-None.field-0 o (none_app rules t u none empty) (first_argument rules t u none empty) c.in_ok-first_below-in-None.ensures up)) c.one_up-in-None.ensures

pub returns-in_ok-first_below-in-Lam : goal.returns-in_ok-first_below-in-Lam
returns-in_ok-first_below-in-Lam n c =
    let rules = rewrite_rules c.args.rules.now in
    let w = tm c.args.term.now in
    let s = ty c.in-Lam.field-0 in
    let t = tm c.deref-in-Lam.result.now in
    let is : w ≡ lam s t = ap tm c.in-Lam.is ∙ cc (ap tm c.deref-in-Lam.ensures) in
    let none : NoneAtRoot rules (lam s t) = subst (NoneAtRoot rules) is (subst (AtRoot rules w) c.in_default.is c.in_ok-rule.ensures) in
    IfOk-map (OneUp rules 0 c.in_ok-first_below-in-Lam.field-0) (Told rules w) c.one_up-in-Lam.result
    (λ o up. subst (λ r. Told rules r o) (sym is) (told_up rules t (lam s t) 0 c.in_ok-first_below-in-Lam.field-0 o (none_lam rules s t none) (first_body rules s t none) c.in_ok-first_below-in-Lam.ensures up)) c.one_up-in-Lam.ensures

pub returns-in-Bound : goal.returns-in-Bound
returns-in-Bound n c =
    let rules = rewrite_rules c.args.rules.now in
    let w = tm c.args.term.now in
    none_leaf rules w (subst (AtRoot rules w) c.in_default.is c.in_ok-rule.ensures) (childless_leaf c.args.term.now c.in-Bound.is)
