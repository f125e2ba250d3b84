use Rattle.std.proofs.Common.{◌≡◌, ◌++◌, ◌∙◌, ap, sym, map}
use Rattle.wh_types.specs.Erase.{ty}
use Rattle.wh_terms.specs.Tree.{lam, app}
use Rattle.wh_terms.specs.Erase.{tm, rewrite_rules}
use Rattle.wh_terms.proofs.Results.{IfOk-map}
use Rattle.wh_step.specs.Enumerations.{Enumerates, IsStep}
use Rattle.wh_step.proofs.EnumerationLaws.{app_reducts, lam_reducts, leaf_reducts, childless_leaf}
use Rattle.wh_step.proofs.reducing.+reducts_below.Goals as goal

pub returns-in_ok-lasts-in-App : goal.returns-in_ok-lasts-in-App
returns-in_ok-lasts-in-App n c =
    let rules = rewrite_rules c.args.rules.now in
    let w = tm c.args.term.now in
    let t = tm c.deref.result.now in
    let t' = tm c.deref-in-App-3.result.now in
    let u = tm c.deref-in-App-2.result.now in
    let u' = tm c.deref-in-App.result.now in
    let mid = map tm c.in_ok-found-in-App.found.items in
    let lasts = map tm c.in_ok-lasts-in-App.lasts.items in
    let is : w ≡ app t u = ap tm c.in-App.is ∙ cc (ap tm c.deref.ensures, ap tm c.deref-in-App-2.ensures) in
    let same_function : t' ≡ t = ap tm c.deref-in-App-3.ensures ∙ sym (ap tm c.deref.ensures) in
    let same_argument : u' ≡ u = ap tm c.deref-in-App.ensures ∙ sym (ap tm c.deref-in-App-2.ensures) in
    IfOk-map (λ r. map tm r.items ≡ mid ++ map (λ s. app t' s) lasts) (λ r. Enumerates (IsStep rules w) (map tm r.items)) c.with_parts-in-App.result
    (λ r found. app_reducts rules w t t' u u' (map tm c.in_ok-found.found.items) mid (map tm r.items) (map tm c.in_ok-fronts-in-App.fronts.items) lasts is same_function same_argument
    c.in_ok-found.ensures c.in_ok-fronts-in-App.ensures c.in_ok-lasts-in-App.ensures c.in_ok-found-in-App.ensures found) c.with_parts-in-App.ensures

pub returns-in_ok-bodies-in-Lam : goal.returns-in_ok-bodies-in-Lam
returns-in_ok-bodies-in-Lam n c =
    let rules = rewrite_rules c.args.rules.now in
    let w = tm c.args.term.now in
    let t = tm c.deref-in-Lam.result.now in
    let here = map tm c.in_ok-found.found.items in
    let bodies = map tm c.in_ok-bodies-in-Lam.bodies.items in
    let is : w ≡ lam (ty c.in-Lam.kind) t = ap tm c.in-Lam.is ∙ ap (λ b. lam (ty c.in-Lam.kind) (tm b)) (sym c.deref-in-Lam.ensures) in
    IfOk-map (λ r. map tm r.items ≡ here ++ map (lam (ty c.in-Lam.kind)) bodies) (λ r. Enumerates (IsStep rules w) (map tm r.items)) c.with_parts-in-Lam.result
    (λ r found. lam_reducts rules w (ty c.in-Lam.kind) t here (map tm r.items) bodies is c.in_ok-found.ensures c.in_ok-bodies-in-Lam.ensures found) c.with_parts-in-Lam.ensures

pub returns-in-Bound : goal.returns-in-Bound
returns-in-Bound n c =
    leaf_reducts (rewrite_rules c.args.rules.now) (tm c.args.term.now) (map tm c.in_ok-found.found.items) (childless_leaf c.args.term.now c.in-Bound.is) c.in_ok-found.ensures
