-- The next monomial is the first one of a list, or that of both.
use Rattle.std.proofs.Common.{rules, ◌≤◌, refl, sym, ◌∙◌, length}
use Rattle.wh_poly_arithmetic.proofs.MergeWalk.{goes_first_alone, goes_first, goes_second, next_is_first, next_is_second, next_is_both, both_overflow}
use Rattle.wh_poly_arithmetic.proofs.sums.next_of_sum.Goals as goal

pub returns-in_default-front-clause-ok : goal.returns-in_default-front-clause-ok
returns-in_default-front-clause-ok c = let ended : length c.args.ys.now.items ≤ 0 = search rules in
    next_is_first c.args.xs.now.items c.args.ys.now.items c.pop_front-in_default-front.new.self.items c.pop_front-in_default-front.result c.in-Some.x.now
    (goes_first_alone c.args.xs.now.items c.args.ys.now.items c.in-Some.ensures.item.3.0 ended) c.requires.left
    (c.pop_front-in_default-front.ensures.value c.in-Some.x.now (c.in-Some.ensures.variant.0 refl)) c.pop_front-in_default-front.ensures.rest

pub returns-in-Less-clause-ok : goal.returns-in-Less-clause-ok
returns-in-Less-clause-ok c =
    next_is_first c.args.xs.now.items c.args.ys.now.items c.pop_front-in-Less.new.self.items c.pop_front-in-Less.result c.in-Some.x.now
    (goes_first c.args.xs.now.items c.args.ys.now.items c.in-Some.x.now c.in-Some-front.y.now c.in-Some.ensures.item.3.0 c.in-Some-front.ensures.item.3.0 c.in-Some.ensures.lookup c.in-Some-front.ensures.lookup
    (sym c.order_factors.ensures ∙ c.in-Less.is)) c.requires.left
    (c.pop_front-in-Less.ensures.value c.in-Some.x.now (c.in-Some.ensures.variant.0 refl)) c.pop_front-in-Less.ensures.rest

pub returns-in-Some-add_first-clause-ok : goal.returns-in-Some-add_first-clause-ok
returns-in-Some-add_first-clause-ok c =
    next_is_both c.args.xs.now.items c.args.ys.now.items c.add_first.new.xs.items c.add_first.new.ys.items c.in-Some.x.now c.in-Some-front.y.now c.in-Some-add_first.item
    c.in-Some.ensures.lookup c.in-Some-front.ensures.lookup (sym c.order_factors.ensures ∙ c.in-Equal.is) c.requires.left c.in-Some-add_first.ensures

pub returns-in-None-clause-fault : goal.returns-in-None-clause-fault
returns-in-None-clause-fault c =
    both_overflow c.args.xs.now.items c.args.ys.now.items c.in-Some.x.now c.in-Some-front.y.now
    c.in-Some.ensures.lookup c.in-Some-front.ensures.lookup (sym c.order_factors.ensures ∙ c.in-Equal.is) c.requires.left c.in-None.ensures

pub returns-in-Greater-clause-ok : goal.returns-in-Greater-clause-ok
returns-in-Greater-clause-ok c =
    next_is_second c.args.xs.now.items c.args.ys.now.items c.pop_front-in-Greater.new.self.items c.pop_front-in-Greater.result c.in-Some-front.y.now
    (goes_second c.args.xs.now.items c.args.ys.now.items c.in-Some.x.now c.in-Some-front.y.now c.in-Some.ensures.item.3.0 c.in-Some-front.ensures.item.3.0 c.in-Some.ensures.lookup c.in-Some-front.ensures.lookup
    (sym c.order_factors.ensures ∙ c.in-Greater.is)) c.requires.left
    (c.pop_front-in-Greater.ensures.value c.in-Some-front.y.now (c.in-Some-front.ensures.variant.0 refl)) c.pop_front-in-Greater.ensures.rest
