use Rattle.std.proofs.Common.{ap, ◌∙◌, arith}
use Rattle.wh_sat_trail.specs.declared.formula.Formula.{Formula}
use Rattle.wh_find_order.proofs.SearchLemmas.{blocking_extends, nothing_is, spent_is}
use Rattle.wh_find_order.proofs.blocking.search.Goals as goal

pub guesses-preserved : goal.guesses-preserved
guesses-preserved c =
    let next = c.in_ok-next.ensures in
    let given = c.in_ok-block.ensures in
    let model = rw c.in-Model.is at next.next in
    record {
      blocking = blocking_extends c.args.encoding.now c.block.new.learner c.next_guess.new.learner given.blocking next.sound next.extends;
      solves = model.1;
      room = model.0;
      count = omega (arith, next.extends.count, given.count, given.left, c.guesses.invariant.count);
    }

pub returns-in-Exhausted : goal.returns-in-Exhausted
returns-in-Exhausted c =
    let next = c.in_ok-next.ensures in
    let none = rw c.in-Exhausted.is at next.next in
    nothing_is c.args.encoding.now c.next_guess.new.learner c.requires.encoding
    (blocking_extends c.args.encoding.now c.block.new.learner c.next_guess.new.learner c.in_ok-block.ensures.blocking next.sound next.extends) none.1

pub returns-in-Spent : goal.returns-in-Spent
returns-in-Spent c =
    let next = c.in_ok-next.ensures in
    let given = c.in_ok-block.ensures in
    let left = rw c.in-Spent.is at next.next in
    spent_is c.args.encoding.now c.next_guess.new.learner c.in_ok-clauses-in-Spent.clauses c.args.budget c.requires.encoding
    (blocking_extends c.args.encoding.now c.block.new.learner c.next_guess.new.learner given.blocking next.sound next.extends)
    (omega (arith, left, next.extends.count, given.count, given.left, c.guesses.invariant.count))
    (c.in_ok-clauses-in-Spent.ensures ∙ ap (λ (f : Formula). f.clauses) c.formula.ensures)
