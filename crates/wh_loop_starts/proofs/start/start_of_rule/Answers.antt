-- The rule with the number is there, and its start is typed.
use Rattle.std.proofs.Common.{◌≡◌, IfOk, Result, Ok, Err, ap, ◌∙◌}
use Rattle.wh_terms.specs.Erase.{tm, rewrite_rule, declared_metas}
use Rattle.wh_terms.specs.declared.term.Term.{Term}
use Rattle.wh_system.specs.SystemView.{system_data}
use Rattle.wh_loop_starts.specs.Starts.{freed, IsStart}
use Rattle.wh_loop_starts.proofs.StartLemmas.{rule_there, start_typed}
use Rattle.wh_loop_starts.proofs.start.start_of_rule.Goals as goal

then_more : {E : Type 0} (r : Result Term E) (P Q : Term → Type 0) → IfOk r P → ((t : Term) → P t → Q t) → IfOk r Q
then_more (Ok t) P Q h f = f t h
then_more (Err e) P Q h f = tt

pub returns-clause-start : goal.returns-clause-start
returns-clause-start c =
    let d = system_data c.args.system.now in
    let x = c.index-rules-number.result in
    let there = rule_there c.rules.result.now d.rules c.args.number x c.rules.ensures c.requires c.index-rules-number.is in
    then_more c.freed.result (λ r. tm r ≡ freed (declared_metas c.as_slice.result.now) (tm x.left)) (λ r. IsStart d.rules c.args.number (tm r)) c.freed.ensures
    (λ r e. (rewrite_rule x, there, e ∙ ap (λ ms. freed (declared_metas ms) (tm x.left)) c.as_slice.ensures))

pub returns-clause-typed : goal.returns-clause-typed
returns-clause-typed c =
    let d = system_data c.args.system.now in
    let x = c.index-rules-number.result in
    let there = rule_there c.rules.result.now d.rules c.args.number x c.rules.ensures c.requires c.index-rules-number.is in
    then_more c.freed.result (λ r. tm r ≡ freed (declared_metas c.as_slice.result.now) (tm x.left)) _ c.freed.ensures
    (λ r e. start_typed d c.args.number (tm r) c.is_well_made.ensures (rewrite_rule x, there, e ∙ ap (λ ms. freed (declared_metas ms) (tm x.left)) c.as_slice.ensures))
