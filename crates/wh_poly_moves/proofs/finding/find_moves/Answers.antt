-- The two lists are those of the polynomials.
use Rattle.std.proofs.Common.{◌≡◌, ◌<◌, ◌≤◌, length, get_or, arith, ap, sym, subst, ◌∙◌}
use Rattle.std.specs.Bool.{MatchBool}
use Rattle.wh_poly.specs.Erase.{sum_of}
use Rattle.wh_hopoly.specs.Erase.{transfers}
use Rattle.wh_poly_moves.specs.Found.{AreCovering, NoneCovers}
use Rattle.wh_poly_moves.specs.Flows.{positives}
use Rattle.wh_poly_moves.proofs.Covering.{normal_list, sorted_list, none_covers_poly, covering, covering_poly}
use Rattle.wh_poly_moves.proofs.finding.find_moves.Goals as goal

pub fill-requires-clause-left : goal.fill-requires-clause-left
fill-requires-clause-left c = normal_list c.args.left.now c.as_slice-givers.result.now c.as_slice-givers.ensures c.requires.left

pub fill-requires-clause-right : goal.fill-requires-clause-right
fill-requires-clause-right c = normal_list c.args.right.now c.as_slice-takers.result.now c.as_slice-takers.ensures c.requires.right

pub returns-then-not-branch : goal.returns-then-not-branch
returns-then-not-branch c =
    let xs = c.as_slice-givers.result.now in let ys = c.as_slice-takers.result.now in
    none_covers_poly c.args.left.now c.args.right.now xs ys c.as_slice-givers.ensures c.as_slice-takers.ensures
    (subst (λ b. MatchBool b (get_or c.fill.new.self.want.items c.loop-root.root 0 ≡ 0) (NoneCovers (sum_of xs) (sum_of ys) × (0 < get_or c.fill.new.self.want.items c.loop-root.root 0))) c.if-not-branch.true c.in_ok-fill.ensures.filled).0

pub returns : goal.returns
returns c =
    let xs = c.as_slice-givers.result.now in let ys = c.as_slice-takers.result.now in
    let few_left : length xs ≤ 65536 = let e = ap length c.as_slice-givers.ensures in omega (arith, e, c.requires.few_left) in
    let few_right : length ys ≤ 65536 = let e = ap length c.as_slice-takers.ensures in omega (arith, e, c.requires.few_right) in
    covering_poly c.args.left.now c.args.right.now xs ys (transfers c.in_ok-moves_of.field-0) c.as_slice-givers.ensures c.as_slice-takers.ensures
    (subst (AreCovering (sum_of xs) (sum_of ys)) (sym (c.in_ok-moves_of.ensures ∙ ap (λ ms. positives (transfers ms)) c.deref.ensures.value))
    (covering xs ys c.loop-root.flow few_left few_right (sorted_list xs (normal_list c.args.left.now xs c.as_slice-givers.ensures c.requires.left)) (sorted_list ys (normal_list c.args.right.now ys c.as_slice-takers.ensures c.requires.right))
    c.loop-root.invariant.flow (λ j h. c.loop-root.invariant.filled j (omega (arith, h, c.loop-root-test.false)))))
