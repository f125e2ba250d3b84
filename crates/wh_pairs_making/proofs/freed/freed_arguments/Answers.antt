use Rattle.std.proofs.Common.{◌∙◌, [], sym, arith}
use Rattle.wh_terms.specs.Tree.{free}
use Rattle.wh_terms.specs.Erase.{tm}
use Rattle.wh_terms.specs.Scope.{scope}
use Rattle.wh_terms.specs.Substitution.{act}
use Rattle.wh_terms.proofs.UnderLemmas.{act_top}
use Rattle.wh_pairs.specs.Candidates.{freed}
use Rattle.wh_pairs.proofs.ListLemmas.{map_next, map_done, map-map}
use Rattle.wh_pairs_making.proofs.freed.freed_arguments.Goals as goal

pub loop-argument-preserved : goal.loop-argument-preserved
loop-argument-preserved c =
    let σ = freed c.args.by.now.first (scope c.args.by.now.binders.now) in
    map_next tm (λ t. act σ free (tm t.now)) [] c.args.arguments.now c.loop-argument.argument-index c.loop-argument.results c.push.new.self
    c.in_ok-freed_under.field-0 c.argument-item.result c.loop-argument.invariant c.in_ok-push.ensures.ok
    (c.in_ok-freed_under.ensures ∙ act_top σ free (tm c.argument-item.result.now)) c.loop-argument-test.true c.argument-item.is

pub returns : goal.returns
returns c =
    let σ = freed c.args.by.now.first (scope c.args.by.now.binders.now) in
    map_done tm (λ t. act σ free (tm t.now)) [] c.args.arguments.now c.loop-argument.argument-index c.loop-argument.results c.loop-argument.invariant (omega (arith, c.loop-argument-test.false))
    ∙ sym (map-map (act σ free) (λ t. tm t.now) c.args.arguments.now)
