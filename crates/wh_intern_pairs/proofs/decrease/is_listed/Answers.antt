use Rattle.std.proofs.Common.{◌↔◌, Contains, IsTrue, sym, subst}
use Rattle.wh_intern_pairs.proofs.Listed.{searched_for}
use Rattle.wh_intern_pairs.proofs.decrease.is_listed.Goals as goal

pub returns-then-rising : goal.returns-then-rising
returns-then-rising c =
    subst (λ b. IsTrue b ↔ Contains c.args.list.now c.args.number) (sym c.is_ok.ensures.value)
    (searched_for c.args.list.now c.args.number c.binary_search.result (c.requires c.if-rising.true) c.binary_search.ensures.position)
