use Rattle.std.proofs.Common.{ap, sym, ◌∙◌, refl, subst, Option, ℕ}
use Rattle.wh_terms.specs.Tree.{argument_count}
use Rattle.wh_terms.specs.Erase.{tm}
use Rattle.wh_system.specs.SystemView.{system_data}
use Rattle.wh_graph.specs.Rigid.{TooFew}
use Rattle.wh_graph.proofs.RootLemmas.{rigid_variable, rigid_symbol, symbol_lacks}
use Rattle.wh_graph.proofs.root.is_rigid.Goals as goal

pub returns-in-Bound : goal.returns-in-Bound
returns-in-Bound c = (
  λ _. rigid_variable (system_data c.args.system.now).rules (tm c.args.term.now) c.in-Bound.field-0 (sym c.head.ensures ∙ ap tm c.in-Bound.is),
  λ _. refl,
)

pub returns-in-Some : goal.returns-in-Some
returns-in-Some c =
    let rules = (system_data c.args.system.now).rules in
    let t = tm c.args.term.now in
    let headed = sym c.head.ensures ∙ ap tm c.in-Fun.is in
    let known = sym c.need.ensures ∙ c.in-Some.is in (
      λ is. rigid_symbol rules t c.in-Fun.symbol headed (subst (λ (n : Option ℕ). TooFew n (argument_count t)) (sym known) (c.has_fewer.ensures.0 is)),
      λ rigid. c.has_fewer.ensures.1 (subst (λ (n : Option ℕ). TooFew n (argument_count t)) known (symbol_lacks rules t c.in-Fun.symbol headed rigid)),
    )

pub returns-in-None : goal.returns-in-None
returns-in-None c =
    let rules = (system_data c.args.system.now).rules in
    let t = tm c.args.term.now in
    let headed = sym c.head.ensures ∙ ap tm c.in-Fun.is in
    let known = sym c.need.ensures ∙ c.in-None.is in (
      λ _. rigid_symbol rules t c.in-Fun.symbol headed (subst (λ (n : Option ℕ). TooFew n (argument_count t)) (sym known) tt),
      λ _. refl,
    )
