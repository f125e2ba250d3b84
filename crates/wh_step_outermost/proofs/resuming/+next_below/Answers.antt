use Rattle.std.proofs.Common.{rules, ◌≡◌, ◌∷◌, ap, sym, ◌∙◌, subst, ℕ, List, Option, Some, length, arith}
use Rattle.std.specs.Prelude.{MatchOption}
use Rattle.wh_types.specs.Erase.{ty}
use Rattle.wh_terms.specs.Tree.{Tm, lam, app}
use Rattle.wh_terms.specs.Rules.{RewriteRule}
use Rattle.wh_terms.specs.Erase.{tm, rewrite_rules}
use Rattle.wh_terms.proofs.Results.{IfOk-map}
use Rattle.wh_step.specs.Contracta.{IsPlain}
use Rattle.wh_step.proofs.EnumerationLaws.{childless_leaf}
use Rattle.wh_step.proofs.RedexLemmas.{plain_function, plain_argument, plain_body}
use Rattle.wh_step_outermost.specs.Redexes.{IsFirstBy, HasNone, NoneLeft}
use Rattle.wh_step_outermost.proofs.FirstRedexes.{NoneAtRoot, Told, OneUp, first_found, first_function, first_argument, first_body, first_up, none_app, none_lam, none_leaf, told_up}
use Rattle.wh_step_outermost.proofs.LeftLaws.{none_left_function, none_in_function, none_left_argument, none_left_body}
use Rattle.wh_step_outermost.proofs.resuming.+next_below.Goals as goal

abbrev AtRoot : List RewriteRule → Tm → Option (Option ℕ) → Type 0
AtRoot system t o = MatchOption o (NoneAtRoot system t) (IsFirstBy system t)

pub returns-in-Some-2 : goal.returns-in-Some-2
returns-in-Some-2 n c =
    let system = rewrite_rules c.args.rules.now in
    let t = tm c.args.term.now in
    first_found system t (record { rule = c.in-Some-2.rule; back = c.new-back.result }) c.new-back.ensures.items (subst (AtRoot system t) c.in-Some-2.is c.in_ok-rule.ensures)

pub next_below-requires : goal.next_below-requires
next_below-requires n c =
    let system = rewrite_rules c.args.rules.now in
    let path = c.args.place.now in
    let rest = c.in-Some.rest.now in
    let split : path ≡ c.in-Some.step.now ∷ rest = search rules in
    let t = tm c.in-App.function.value in
    let u = tm c.deref.result.now in
    let is : tm c.args.term.now ≡ app t u = ap tm c.in-App.is ∙ cc (ap tm c.deref.ensures) in
    let none : NoneLeft system path (app t u) = subst (NoneLeft system path) is c.requires.none_left in (
      omega (arith, ap length split, c.decreases),
      (c.requires.well_made, (plain_argument t u (subst IsPlain is c.requires.plain), none_left_argument system path c.in-Some.step.now rest split t u none (omega (arith, c.if-step-gt0.true)))),
    )

pub returns-then-step-gt0 : goal.returns-then-step-gt0
returns-then-step-gt0 n c =
    let system = rewrite_rules c.args.rules.now in
    let path = c.args.place.now in
    let rest = c.in-Some.rest.now in
    let split : path ≡ c.in-Some.step.now ∷ rest = search rules in
    let w = tm c.args.term.now in
    let t = tm c.in-App.function.value in
    let u = tm c.deref.result.now in
    let is : w ≡ app t u = ap tm c.in-App.is ∙ cc (ap tm c.deref.ensures) in
    let left : NoneLeft system path (app t u) = subst (NoneLeft system path) is c.requires.none_left in
    let none : NoneAtRoot system (app t u) = subst (NoneAtRoot system) is (subst (AtRoot system w) c.in_default-2.is c.in_ok-rule.ensures) in
    let empty : HasNone system t = none_in_function system path c.in-Some.step.now rest split t u left (omega (arith, c.if-step-gt0.true)) in
    IfOk-map (OneUp system 1 c.in_ok-next_below-in-App.field-0) (Told system w) c.one_up.result
    (λ o up. subst (λ s. Told system s o) (sym is) (told_up system u (app t u) 1 c.in_ok-next_below-in-App.field-0 o (none_app system t u none empty) (first_argument system t u none empty) c.in_ok-next_below-in-App.ensures up)) c.one_up.ensures

pub next_below-requires-in-App : goal.next_below-requires-in-App
next_below-requires-in-App n c =
    let system = rewrite_rules c.args.rules.now in
    let path = c.args.place.now in
    let rest = c.in-Some.rest.now in
    let split : path ≡ c.in-Some.step.now ∷ rest = search rules in
    let t = tm c.deref-in-App.result.now in
    let u = tm c.in-App.argument.value in
    let is : tm c.args.term.now ≡ app t u = ap tm c.in-App.is ∙ cc (ap tm c.deref-in-App.ensures) in
    let none : NoneLeft system path (app t u) = subst (NoneLeft system path) is c.requires.none_left in (
      omega (arith, ap length split, c.decreases),
      (c.requires.well_made, (plain_function t u (subst IsPlain is c.requires.plain), none_left_function system path c.in-Some.step.now rest split t u none (omega (arith, c.if-step-gt0.false)))),
    )

pub next_below-requires-in-Lam : goal.next_below-requires-in-Lam
next_below-requires-in-Lam n c =
    let system = rewrite_rules c.args.rules.now in
    let path = c.args.place.now in
    let rest = c.in-Some.rest.now in
    let split : path ≡ c.in-Some.step.now ∷ rest = search rules in
    let s = ty c.in-Lam.field-0 in
    let t = tm c.deref-in-Lam.result.now in
    let is : tm c.args.term.now ≡ lam s t = ap tm c.in-Lam.is ∙ cc (ap tm c.deref-in-Lam.ensures) in (
      omega (arith, ap length split, c.decreases),
      (c.requires.well_made, (plain_body s t (subst IsPlain is c.requires.plain), none_left_body system path c.in-Some.step.now rest split s t (subst (NoneLeft system path) is c.requires.none_left))),
    )

pub returns-in-Some-3 : goal.returns-in-Some-3
returns-in-Some-3 n c =
    let system = rewrite_rules c.args.rules.now in
    let w = tm c.args.term.now in
    let t = tm c.deref-in-App.result.now in
    let u = tm c.in-App.argument.value in
    let is : w ≡ app t u = ap tm c.in-App.is ∙ cc (ap tm c.deref-in-App.ensures) in
    let none : NoneAtRoot system (app t u) = subst (NoneAtRoot system) is (subst (AtRoot system w) c.in_default-2.is c.in_ok-rule.ensures) in
    let told : Told system t (Some c.in-Some-3.found) = subst (Told system t) c.in-Some-3.is c.in_ok-found-in-App.ensures in
    IfOk-map (OneUp system 0 (Some c.in-Some-3.found)) (Told system w) c.one_up-in-Some-3.result
    (λ o up. subst (λ s. Told system s o) (sym is) (first_up system t (app t u) 0 c.in-Some-3.found o (first_function system t u none) told up)) c.one_up-in-Some-3.ensures

pub returns-in_ok-first_below-in-None : goal.returns-in_ok-first_below-in-None
returns-in_ok-first_below-in-None n c =
    let system = rewrite_rules c.args.rules.now in
    let w = tm c.args.term.now in
    let t = tm c.deref-in-App.result.now in
    let u = tm c.deref-in-None.result.now in
    let is : w ≡ app t u = ap tm c.in-App.is ∙ cc (ap tm c.deref-in-App.ensures, ap tm c.deref-in-None.ensures) in
    let none : NoneAtRoot system (app t u) = subst (NoneAtRoot system) is (subst (AtRoot system w) c.in_default-2.is c.in_ok-rule.ensures) in
    let empty : HasNone system t = subst (Told system t) c.in-None.is c.in_ok-found-in-App.ensures in
    IfOk-map (OneUp system 1 c.in_ok-first_below-in-None.field-0) (Told system w) c.one_up-in-None.result
    (λ o up. subst (λ s. Told system s o) (sym is) (told_up system u (app t u) 1 c.in_ok-first_below-in-None.field-0 o (none_app system t u none empty) (first_argument system t u none empty) c.in_ok-first_below-in-None.ensures up)) c.one_up-in-None.ensures

pub returns-in_ok-next_below-in-Lam : goal.returns-in_ok-next_below-in-Lam
returns-in_ok-next_below-in-Lam n c =
    let system = rewrite_rules c.args.rules.now in
    let w = tm c.args.term.now in
    let s = ty c.in-Lam.field-0 in
    let t = tm c.deref-in-Lam.result.now in
    let is : w ≡ lam s t = ap tm c.in-Lam.is ∙ cc (ap tm c.deref-in-Lam.ensures) in
    let none : NoneAtRoot system (lam s t) = subst (NoneAtRoot system) is (subst (AtRoot system w) c.in_default-2.is c.in_ok-rule.ensures) in
    IfOk-map (OneUp system 0 c.in_ok-next_below-in-Lam.field-0) (Told system w) c.one_up-in-Lam.result
    (λ o up. subst (λ r. Told system r o) (sym is) (told_up system t (lam s t) 0 c.in_ok-next_below-in-Lam.field-0 o (none_lam system s t none) (first_body system s t none) c.in_ok-next_below-in-Lam.ensures up)) c.one_up-in-Lam.ensures

pub returns-in-Bound : goal.returns-in-Bound
returns-in-Bound n c =
    let system = rewrite_rules c.args.rules.now in
    let w = tm c.args.term.now in
    none_leaf system w (subst (AtRoot system w) c.in_default-2.is c.in_ok-rule.ensures) (childless_leaf c.args.term.now c.in-Bound.is)
