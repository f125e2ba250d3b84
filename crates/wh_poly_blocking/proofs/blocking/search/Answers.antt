use Rattle.std.proofs.Common.{◌+◌, Bool, List, length, ap, sym, subst, ◌∙◌, arith}
use Rattle.wh_sat_trail.specs.declared.formula.Formula.{Formula}
use Rattle.wh_sat.specs.Solving.{Solves}
use Rattle.wh_sat.specs.State.{clauses_of}
use Rattle.wh_poly_blocking.specs.Sizes.{value_of}
use Rattle.wh_poly_blocking.proofs.SearchLemmas.{blocking_extends, nothing_is, spent_is}
use Rattle.wh_poly_blocking.proofs.blocking.search.Goals as goal

pub guesses-preserved : goal.guesses-preserved
guesses-preserved c =
    let next = c.in_ok-values.ensures in
    let given = c.in_ok-block.ensures in
    let model = rw c.in-Model.is at next.answer in
    let changed = c.in_ok-rewrite-in-Model.ensures in
    record {
      written = changed.written;
      blocking = blocking_extends c.args.encoding.now c.block.new.learner c.next.new.self given.blocking next.sound next.extends;
      solves = subst (λ (l : List Bool). Solves (value_of l) (clauses_of c.next.new.self)) (sym changed.values) model.2;
      room = model.0;
      count = omega (arith, next.extends.count, given.count, given.left, c.guesses.invariant.count);
    }

pub returns-in-Exhausted : goal.returns-in-Exhausted
returns-in-Exhausted c =
    let next = c.in_ok-values.ensures in
    let none = rw c.in-Exhausted.is at next.answer in
    nothing_is c.args.encoding.now c.next.new.self c.requires.encoding
    (blocking_extends c.args.encoding.now c.block.new.learner c.next.new.self c.in_ok-block.ensures.blocking next.sound next.extends) none.1

pub returns-in-Spent : goal.returns-in-Spent
returns-in-Spent c =
    let next = c.in_ok-values.ensures in
    let given = c.in_ok-block.ensures in
    let left = rw c.in-Spent.is at next.answer in
    spent_is c.args.encoding.now c.next.new.self c.in_ok-clauses-in-Spent.clauses (length (clauses_of c.args.learner.now) + c.args.learner.now.left) c.requires.encoding
    (blocking_extends c.args.encoding.now c.block.new.learner c.next.new.self given.blocking next.sound next.extends)
    (omega (arith, left, next.extends.count, given.count, given.left, c.guesses.invariant.count))
    (c.in_ok-clauses-in-Spent.ensures ∙ ap (λ (f : Formula). f.clauses) c.formula.ensures)
