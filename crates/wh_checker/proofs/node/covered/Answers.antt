use Rattle.std.proofs.Common.{length, ◌∙◌}
use Rattle.std.proofs.lemmas.Option.{MatchOption-at_some}
use Rattle.wh_system.specs.SystemView.{system_data}
use Rattle.wh_proof.specs.Looked.{covered_rules}
use Rattle.wh_checker.proofs.GoLemmas.{typed_task}
use Rattle.wh_checker.proofs.node.covered.Goals as goal

pub covered_by-requires-clause-typed : goal.covered_by-requires-clause-typed
covered_by-requires-clause-typed c =
    let d = system_data c.args.system.now in
    let told = MatchOption-at_some _ _ c.in-Some.rules c.in-Some.is c.in_ok-rules.ensures in
    typed_task d c.args.pairs.now c.as_slice-3.result.now c.args.set.now c.as_slice-4.result.now c.deref.result.now
    (covered_rules c.args.node.now.usable (length d.rules)) c.as_slice-3.ensures c.as_slice-4.ensures.numbers
    (c.deref.ensures.value ∙ told.0) told.1.1 c.requires.set c.as_slice-4.ensures.increasing c.requires.typed

pub covered_by-requires-clause-covered : goal.covered_by-requires-clause-covered
covered_by-requires-clause-covered c =
    let told = MatchOption-at_some _ _ c.in-Some.rules c.in-Some.is c.in_ok-rules.ensures in c.deref.ensures.value ∙ told.0

pub covered_by-requires-clause-rules : goal.covered_by-requires-clause-rules
covered_by-requires-clause-rules c =
    let told = MatchOption-at_some _ _ c.in-Some.rules c.in-Some.is c.in_ok-rules.ensures in told.1
