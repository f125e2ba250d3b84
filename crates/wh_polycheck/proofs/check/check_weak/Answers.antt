-- Each test speaks of the lists of monomials; so does the result of the polynomials.
use Rattle.wh_hopoly.specs.Erase.{transfers}
use Rattle.wh_hopoly.specs.Moves.{IsCover}
use Rattle.wh_polycheck.specs.CoverFaults.{IsNormal, IsFirstCoverFault}
use Rattle.wh_polycheck.specs.declared.fault.CoverFault.TheVariants.{BadMove, OverSpent, NotCovered}
use Rattle.wh_polycheck.proofs.Checked.{to_list, by_lists}
use Rattle.wh_polycheck.proofs.check.check_weak.Goals as goal

pub first_bad-requires-clause-left : goal.first_bad-requires-clause-left
first_bad-requires-clause-left c = to_list IsNormal c.args.left.now c.as_slice-items.result.now c.as_slice-items.ensures c.requires.left

pub first_bad-requires-clause-right : goal.first_bad-requires-clause-right
first_bad-requires-clause-right c = to_list IsNormal c.args.right.now c.as_slice-others.result.now c.as_slice-others.ensures c.requires.right

pub returns-in-Some : goal.returns-in-Some
returns-in-Some c =
    by_lists (λ left right. IsFirstCoverFault left right (transfers c.args.moves.now) (BadMove c.in-Some.entry)) c.args.left.now c.args.right.now c.as_slice-items.result.now c.as_slice-others.result.now
    c.as_slice-items.ensures c.as_slice-others.ensures c.in-Some.ensures

pub returns-in-Some-first_over_spent : goal.returns-in-Some-first_over_spent
returns-in-Some-first_over_spent c =
    by_lists (λ left right. IsFirstCoverFault left right (transfers c.args.moves.now) (OverSpent c.in-Some-first_over_spent.monomial)) c.args.left.now c.args.right.now c.as_slice-items.result.now c.as_slice-others.result.now
    c.as_slice-items.ensures c.as_slice-others.ensures (c.in_default.ensures, c.in-Some-first_over_spent.ensures)

pub returns-in-Some-first_not_covered : goal.returns-in-Some-first_not_covered
returns-in-Some-first_not_covered c =
    by_lists (λ left right. IsFirstCoverFault left right (transfers c.args.moves.now) (NotCovered c.in-Some-first_not_covered.monomial)) c.args.left.now c.args.right.now c.as_slice-items.result.now c.as_slice-others.result.now
    c.as_slice-items.ensures c.as_slice-others.ensures (c.in_default.ensures, c.in_default-first_over_spent.ensures, c.in-Some-first_not_covered.ensures)

pub returns-in-None : goal.returns-in-None
returns-in-None c =
    by_lists (λ left right. IsCover left right (transfers c.args.moves.now)) c.args.left.now c.args.right.now c.as_slice-items.result.now c.as_slice-others.result.now
    c.as_slice-items.ensures c.as_slice-others.ensures (record { good = c.in_default.ensures; not_over_spent = c.in_default-first_over_spent.ensures; covered = c.in-None.ensures })
