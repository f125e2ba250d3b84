use Rattle.std.proofs.Common.{ℕ, sym, subst}
use Rattle.wh_sat_trail.specs.Assignment.{AllBelow}
use Rattle.wh_sat.specs.State.{clauses_of}
use Rattle.wh_find_order.proofs.SearchLemmas.{blocking_given}
use Rattle.wh_find_order.proofs.blocking.block.Goals as goal

pub give-requires-clause-below : goal.give-requires-clause-below
give-requires-clause-below c =
    subst (λ (n : ℕ). AllBelow n c.in_ok-clause.clause) (sym c.requires.blocking.variables) c.in_ok-clause.ensures.below

pub returns-clause-blocking : goal.returns-clause-blocking
returns-clause-blocking c =
    let before = c.args.learner.now in
    let g = c.in_ok-give.ensures in
    blocking_given c.args.encoding.now before c.give.new.self c.in_ok-clause.clause c.requires.blocking g.sound g.variables g.clauses g.given
    (c.in_ok-clause.ensures.blocked (clauses_of before) c.requires.solves)
