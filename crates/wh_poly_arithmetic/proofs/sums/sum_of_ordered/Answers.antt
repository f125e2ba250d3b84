-- Either of the two may come first.
use Rattle.std.proofs.Common.{sym, ◌∙◌}
use Rattle.wh_poly.specs.Erase.{poly}
use Rattle.wh_poly.proofs.OrderedLaws.{ordered_sorted}
use Rattle.wh_poly_arithmetic.proofs.MergeWalk.{sum_follows, sum_precedes}
use Rattle.wh_poly_arithmetic.proofs.sums.sum_of_ordered.Goals as goal

pub returns-then-ends_before-clause-ok : goal.returns-then-ends_before-clause-ok
returns-then-ends_before-clause-ok c =
    c.in_ok-appended.ensures ∙ sym (sum_precedes (poly c.args.a) (poly c.args.b) c.requires.left c.requires.right (c.ends_before.ensures c.if-ends_before.true))

pub returns-then-ends_before-2-clause-ok : goal.returns-then-ends_before-2-clause-ok
returns-then-ends_before-2-clause-ok c =
    c.in_ok-appended-2.ensures ∙ sym (sum_follows (poly c.args.a) (poly c.args.b) (ordered_sorted (poly c.args.a) c.requires.left) (c.ends_before-2.ensures c.if-ends_before-2.true))

pub merge-requires : goal.merge-requires
merge-requires c = record { left = ordered_sorted (poly c.args.a) c.requires.left }
