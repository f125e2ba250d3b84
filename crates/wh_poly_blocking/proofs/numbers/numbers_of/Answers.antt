use Rattle.std.proofs.Common.{◌++◌, ap, subst, ◌∙◌}
use Rattle.wh_poly_blocking.specs.Numbers.{HaveSame, on_sides}
use Rattle.wh_poly_blocking.proofs.numbers.numbers_of.Goals as goal

pub returns : goal.returns
returns c =
    let is = c.in_ok-add_numbers.ensures ∙ ap (λ l. l ++ on_sides c.args.uses.now) c.new-numbers.ensures.items in
    subst (HaveSame c.each_once.new.numbers.items) is c.each_once.ensures
