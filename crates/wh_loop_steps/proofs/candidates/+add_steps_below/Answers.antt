use Rattle.std.proofs.Common.{◌≡◌, ◌++◌, ◌∷◌, [], ◌∙◌, ap, subst, arith}
use Rattle.wh_types.specs.Erase.{ty}
use Rattle.wh_terms.specs.Tree.{lam, app}
use Rattle.wh_terms.specs.Erase.{tm, rewrite_rules}
use Rattle.wh_loop_steps.specs.StepLists.{ListsRootSteps}
use Rattle.wh_loop_steps.proofs.CandidateLemmas.{steps_of_app, steps_of_lam, steps_of_leaf, leaf_of, taken_off}
use Rattle.wh_loop_steps.proofs.candidates.+add_steps_below.Goals as goal

pub returns-in_ok-add_steps_below-in-App-2-clause-listed :
    goal.returns-in_ok-add_steps_below-in-App-2-clause-listed
returns-in_ok-add_steps_below-in-App-2-clause-listed n c =
    let rules = rewrite_rules c.args.rules.now in
    let w = tm c.args.term.now in
    let t = tm c.deref-in-App.result.now in
    let u = tm c.deref-in-App-2.result.now in
    let way = c.args.way.now.items in
    let is : w ≡ app t u = ap tm c.in-App.is ∙ cc (ap tm c.deref-in-App.ensures, ap tm c.deref-in-App-2.ensures) in
    let first : c.push.new.self.items ≡ way ++ 0 ∷ [] = c.in_ok-push-in-App.ensures.items in
    let back : c.add_steps_below.new.way.items ≡ c.push.new.self.items = c.in_ok-add_steps_below-in-App.ensures.back in
    let off : c.pop.new.self.items ≡ way = taken_off way c.add_steps_below.new.way.items c.pop.new.self.items 0 _ (back ∙ first) c.pop.ensures.rest (omega (arith, c.add_steps_below.new.way.ok.0)) in
    let second : c.push-in-App.new.self.items ≡ way ++ 1 ∷ [] = c.in_ok-push-in-App-2.ensures.items ∙ ap (λ p. p ++ 1 ∷ []) off in
    steps_of_app rules way w t u c.push.new.self.items c.push-in-App.new.self.items c.add_steps_here.new.found.items c.add_steps_below.new.found.items c.add_steps_below-in-App.new.found.items is first second
    (subst (λ p. ListsRootSteps rules w p c.add_steps_here.new.found.items) c.deref.ensures.value c.in_ok-add_steps_here.ensures.listed) c.in_ok-add_steps_below-in-App.ensures.kept c.in_ok-add_steps_below-in-App.ensures.listed c.in_ok-add_steps_below-in-App-2.ensures.kept
    c.in_ok-add_steps_below-in-App-2.ensures.listed

pub returns-in_ok-add_steps_below-in-Lam-clause-listed :
    goal.returns-in_ok-add_steps_below-in-Lam-clause-listed
returns-in_ok-add_steps_below-in-Lam-clause-listed n c =
    let rules = rewrite_rules c.args.rules.now in
    let w = tm c.args.term.now in
    let t = tm c.deref-in-Lam.result.now in
    let way = c.args.way.now.items in
    let is : w ≡ lam (ty c.in-Lam.field-0) t = ap tm c.in-Lam.is ∙ cc (ap tm c.deref-in-Lam.ensures) in
    steps_of_lam rules way w (ty c.in-Lam.field-0) t c.push-in-Lam.new.self.items c.add_steps_here.new.found.items c.add_steps_below-in-Lam.new.found.items is c.in_ok-push-in-Lam.ensures.items
    (subst (λ p. ListsRootSteps rules w p c.add_steps_here.new.found.items) c.deref.ensures.value c.in_ok-add_steps_here.ensures.listed) c.in_ok-add_steps_below-in-Lam.ensures.kept c.in_ok-add_steps_below-in-Lam.ensures.listed

pub returns-in-Bound-clause-listed : goal.returns-in-Bound-clause-listed
returns-in-Bound-clause-listed n c =
    let rules = rewrite_rules c.args.rules.now in
    let w = tm c.args.term.now in
    steps_of_leaf rules c.args.way.now.items w c.add_steps_here.new.found.items (leaf_of c.args.term.now c.in-Bound.is) (subst (λ p. ListsRootSteps rules w p c.add_steps_here.new.found.items) c.deref.ensures.value c.in_ok-add_steps_here.ensures.listed)

pub returns-in-Bound-2-clause-listed : goal.returns-in-Bound-2-clause-listed
returns-in-Bound-2-clause-listed n c =
    let rules = rewrite_rules c.args.rules.now in
    let w = tm c.args.term.now in
    steps_of_leaf rules c.args.way.now.items w c.add_steps_here.new.found.items (leaf_of c.args.term.now c.in-Bound.is) (subst (λ p. ListsRootSteps rules w p c.add_steps_here.new.found.items) c.deref.ensures.value c.in_ok-add_steps_here.ensures.listed)

pub returns-in-Bound-3-clause-listed : goal.returns-in-Bound-3-clause-listed
returns-in-Bound-3-clause-listed n c =
    let rules = rewrite_rules c.args.rules.now in
    let w = tm c.args.term.now in
    steps_of_leaf rules c.args.way.now.items w c.add_steps_here.new.found.items (leaf_of c.args.term.now c.in-Bound.is) (subst (λ p. ListsRootSteps rules w p c.add_steps_here.new.found.items) c.deref.ensures.value c.in_ok-add_steps_here.ensures.listed)
