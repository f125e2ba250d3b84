use Rattle.std.proofs.Common.{◌≡◌, ◌<◌, ℕ, sym, subst, ◌∙◌}
use Rattle.wh_terms.specs.Tree.{fun, head}
use Rattle.wh_terms.specs.Erase.{tm}
use Rattle.wh_terms.proofs.Results.{IfOk-map}
use Rattle.wh_loop_steps.specs.Tables.{HasNumber}
use Rattle.wh_loop_steps.proofs.CandidateLemmas.{head_low, symbol_is}
use Rattle.wh_loop_steps.proofs.rule_table.add_rule.Goals as goal

pub add-requires : goal.add-requires
add-requires c =
    let (S, made, count) = c.requires in
    let (a, left, right) = made.typed in
    subst (λ n. c.in-Some.symbol < n) count (head_low left c.in-Some.symbol c.in-Some.ensures)

pub returns-in-None-clause-added : goal.returns-in-None-clause-added
returns-in-None-clause-added c f e = absurd (c.in-None.ensures f e)

pub returns-in-Some-clause-added : goal.returns-in-Some-clause-added
returns-in-Some-clause-added c =
    let t = tm c.args.rule.now.left in
    let g = c.in-Some.symbol in
    IfOk-map (λ _. HasNumber c.add.new.self g c.args.number) (λ _. (f : ℕ) → head t ≡ fun f → HasNumber c.add.new.self f c.args.number) c.add.result
    (λ _ has f e. subst (λ n. HasNumber c.add.new.self n c.args.number) (sym (symbol_is f g (sym c.in-Some.ensures ∙ e))) has) c.add.ensures.added
