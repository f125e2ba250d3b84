use Rattle.std.proofs.Common.{◌≡◌, ◌++◌, ◌∷◌, [], None, true, sym, subst}
use Rattle.std.proofs.lemmas.List.Elements.{Contains-push}
use Rattle.wh_terms.specs.Tree.{Tm}
use Rattle.wh_terms.specs.Erase.{tm, rewrite_rules}
use Rattle.wh_terms.specs.declared.path.Step as taken
use Rattle.wh_step.specs.Roots.{BetaStep}
use Rattle.wh_loop_steps.specs.StepLists.{Lists, KeepsSteps, ListsRuleSteps, ListsRootSteps}
use Rattle.wh_loop_steps.proofs.CandidateLemmas.{root_steps, on_both}
use Rattle.wh_loop_steps.proofs.candidates.add_steps_here.Goals as goal
use Rattle.wh_loop_steps.proofs.candidates.add_steps_here.Goals.{then-is_beta_redex+in_ok-path+in_ok-push, else-is_beta_redex}

pub returns-clause-listed : goal.returns-clause-listed
returns-clause-listed c =
    let (S, made) = c.requires.well_made in
    let rules = rewrite_rules c.args.rules.now in
    let t = tm c.args.term.now in
    let way = c.args.way.now in
    let mid = c.if-is_beta_redex.found.items in
    let last = c.add_rule_steps.new.found.items in
    let here : taken.Step = record { rule = None; path = way } in
    let beta : (v : Tm) → BetaStep t v → Lists mid None way =
    λ v step. let yes : c.is_beta_redex.result ≡ true = c.is_beta_redex.ensures v step in
    elim c.if-is_beta_redex.branch [
      | then-is_beta_redex+in_ok-path+in_ok-push w ↦
          let joined : mid ≡ c.args.found.now.items ++ here ∷ [] = cc (w.found-is, w.in_ok-path.ensures, w.in_ok-push.ensures.items) in
          subst (λ l. Lists l None way) (sym joined) (Contains-push c.args.found.now.items here)
      | else-is_beta_redex w ↦ absurd (cc (yes, w.if-is_beta_redex.false))
    ] in
    on_both c.add_rule_steps.result (KeepsSteps mid last) (ListsRuleSteps rules c.numbers_for.result.now t way last) (ListsRootSteps rules t way last)
    (λ kept listed. root_steps S rules c.args.table.now c.numbers_for.result.now t way last made c.requires.table c.numbers_for.ensures (λ v step. kept here (beta v step)) listed) c.add_rule_steps.ensures.kept
    c.add_rule_steps.ensures.listed
