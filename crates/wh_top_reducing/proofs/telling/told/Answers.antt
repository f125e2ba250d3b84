use Rattle.std.proofs.Common.{subst}
use Rattle.wh_terms.specs.Erase.{tm}
use Rattle.wh_system.specs.SystemView.{system_data}
use Rattle.wh_step_outermost.specs.Reducing.{Reduces}
use Rattle.wh_top_reducing.proofs.GivenTerms.{reduces_typed, well_typed_shut, well_typed_term}
use Rattle.wh_top_reducing.proofs.telling.told.Goals as goal

pub reduce-requires-clause-shut : goal.reduce-requires-clause-shut
reduce-requires-clause-shut c = well_typed_shut (system_data c.args.system.now).symbols (tm c.args.term.now) c.requires.typed

pub reduce-requires-clause-plain : goal.reduce-requires-clause-plain
reduce-requires-clause-plain c = well_typed_term (system_data c.args.system.now).symbols (tm c.args.term.now) c.requires.typed

pub lines-requires : goal.lines-requires
lines-requires c =
    let d = system_data c.args.system.now in
    let r = c.in_ok-reduced.reduced in
    reduces_typed d (tm c.args.term.now) (tm r.last) c.args.steps r.steps r.end c.is_well_made.ensures.rules
    (subst (λ rules. Reduces rules (tm c.args.term.now) c.args.steps r.steps (tm r.last) r.end) c.rules.ensures c.in_ok-reduced.ensures)
    c.requires.typed
