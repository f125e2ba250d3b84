use Rattle.std.proofs.Common.{length, sym, subst, ◌∙◌}
use Rattle.std.proofs.lemmas.Option.{MatchOption-at_some}
use Rattle.wh_system.specs.SystemView.{system_data}
use Rattle.wh_pairs.specs.PairData.{IsIncreasing}
use Rattle.wh_pairs.specs.Views.{pairs_data}
use Rattle.wh_proof.specs.Looked.{covered_rules}
use Rattle.wh_checker.proofs.GoLemmas.{typed_task}
use Rattle.wh_tell_nodes.proofs.values.put_values.Goals as goal

pub put_under-requires-clause-task : goal.put_under-requires-clause-task
put_under-requires-clause-task c =
    let d = system_data c.args.problem.now.system in
    let pairs = c.args.problem.now.pairs in
    let told = MatchOption-at_some _ _ c.in-Some.rules c.in-Some.is c.in_ok-rules.ensures in
    typed_task d pairs c.as_slice-3.result.now c.args.set.now c.as_slice-4.result.now c.deref.result.now
    (covered_rules c.args.node.now.usable (length d.rules)) c.as_slice-3.ensures c.as_slice-4.ensures.numbers
    (c.deref.ensures.value ∙ told.0) told.1.1 c.requires.set c.as_slice-4.ensures.increasing
    (λ marks p found. c.pairs_have_marked_sides.ensures d (pairs_data pairs) marks p c.is_well_made.ensures c.requires.pairs.are found)

pub put_under-requires-clause-increasing : goal.put_under-requires-clause-increasing
put_under-requires-clause-increasing c =
    let told = MatchOption-at_some _ _ c.in-Some.rules c.in-Some.is c.in_ok-rules.ensures in
    subst IsIncreasing (sym (c.deref.ensures.value ∙ told.0)) told.1.0
