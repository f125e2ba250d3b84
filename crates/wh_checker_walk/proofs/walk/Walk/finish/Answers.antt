-- No item is left: the walk is at its end.
use Rattle.std.proofs.Common.{[], subst}
use Rattle.wh_checker_walk.specs.Standing.{Stand}
use Rattle.wh_checker_walk.proofs.Places.{at_end, no_other_end}
use Rattle.wh_checker_walk.proofs.walk.Walk.finish.Goals as goal

pub unreachable-requires : goal.unreachable-requires
unreachable-requires c =
    let (d, ps, cert, is, stands) = c.requires in
    no_other_end d ps c.args.self.at cert (at_end d ps c.args.self cert is stands) c.in_default.not-Blamed c.in_default.not-Whole

pub returns-in-Blamed : goal.returns-in-Blamed
returns-in-Blamed c = λ d ps cert is stands. subst (λ p. Stand d ps p cert []) c.in-Blamed.is (at_end d ps c.args.self cert is stands)

pub returns-in-Whole : goal.returns-in-Whole
returns-in-Whole c = λ d ps cert is stands. (subst (λ p. Stand d ps p cert []) c.in-Whole.is (at_end d ps c.args.self cert is stands)).1
