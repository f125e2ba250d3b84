-- One term more.
use Rattle.std.proofs.Common.{ap, map, slice_get, subst}
use Rattle.std.proofs.lemmas.List.{take_all}
use Rattle.wh_terms.specs.Erase.{tm}
use Rattle.wh_intern.specs.TableTrees.{trees}
use Rattle.wh_intern_pairs.specs.NumberedSides.{AreNumbersOf, IsPartOfOne}
use Rattle.wh_intern_pairs.proofs.JoinLaws.{joins_none, joins_next, numbers_next}
use Rattle.wh_intern_pairs.proofs.numbering.numbers_of.Goals as goal

pub loop-term-init : goal.loop-term-init
loop-term-init c = record {
  numbers = ap (map (slice_get (trees c.args.table.now))) c.new-numbers.ensures;
  joins = joins_none (trees c.args.table.now) (IsPartOfOne (map tm c.args.terms.now));
}

pub loop-term-preserved : goal.loop-term-preserved
loop-term-preserved c =
    let a = trees c.args.table.now in
    let b = trees c.loop-term.table in
    let d = trees c.add.new.self in
    let xs = c.args.terms.now in
    let i = c.loop-term.term-index in
    let x = c.term-item.result in record {
      numbers = numbers_next a b d xs i x c.loop-term-test.true c.term-item.is c.loop-term.numbers c.push.new.self c.in_ok-number.number
          c.loop-term.invariant.numbers c.add.ensures.grows c.in_ok-number.ensures.number c.in_ok-push.ensures.ok;
      joins = joins_next a b d xs i x c.loop-term-test.true c.term-item.is c.loop-term.invariant.joins c.add.ensures.grows;
    }

pub returns-in_err-number-clause-joins : goal.returns-in_err-number-clause-joins
returns-in_err-number-clause-joins c =
    joins_next (trees c.args.table.now) (trees c.loop-term.table) (trees c.add.new.self) c.args.terms.now c.loop-term.term-index c.term-item.result
    c.loop-term-test.true c.term-item.is c.loop-term.invariant.joins c.add.ensures.grows

pub returns-in_err-push-clause-joins : goal.returns-in_err-push-clause-joins
returns-in_err-push-clause-joins c =
    joins_next (trees c.args.table.now) (trees c.loop-term.table) (trees c.add.new.self) c.args.terms.now c.loop-term.term-index c.term-item.result
    c.loop-term-test.true c.term-item.is c.loop-term.invariant.joins c.add.ensures.grows

pub returns-clause-numbers : goal.returns-clause-numbers
returns-clause-numbers c =
    subst (λ us. AreNumbersOf (trees c.loop-term.table) c.loop-term.numbers (map tm us))
    (take_all c.loop-term.term-index c.args.terms.now c.loop-term-test.false) c.loop-term.invariant.numbers
