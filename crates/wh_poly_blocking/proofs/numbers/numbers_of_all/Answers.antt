use Rattle.std.proofs.Common.{ap, subst, ◌∙◌}
use Rattle.std.specs.List.{flat_map}
use Rattle.std.proofs.lemmas.List.{take_all}
use Rattle.wh_poly_blocking.specs.Numbers.{HaveSame, on_sides}
use Rattle.wh_poly_blocking.proofs.numbers.numbers_of_all.Goals as goal

pub returns : goal.returns
returns c =
    let is = c.loop-uses.invariant ∙ ap (flat_map on_sides) (take_all c.loop-uses.uses-index c.args.all.now c.loop-uses-test.false) in
    subst (HaveSame c.each_once.new.numbers.items) is c.each_once.ensures
