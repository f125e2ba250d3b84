use Rattle.std.proofs.Common.{true, false, Bool, ap, sym, subst}
use Rattle.wh_poly.specs.Erase.{poly}
use Rattle.wh_hopoly.specs.Erase.{transfers}
use Rattle.wh_poly_covering.specs.CoveringFaults.{IsFirstFaultOfMoves}
use Rattle.wh_poly_covering.proofs.SideLemmas.{few_of_side}
use Rattle.wh_poly_covering.proofs.LineLemmas.{moves_fault, told_fault}
use Rattle.wh_poly_covering.proofs.lines.check_line.Goals as goal
use Rattle.wh_poly_covering.proofs.lines.check_line.Goals.{then-strict, else-strict}

pub check_strict-checked-requires-clause-few_left : goal.check_strict-checked-requires-clause-few_left
check_strict-checked-requires-clause-few_left c = few_of_side c.args.left.now c.requires.left

pub check_strict-checked-requires-clause-few_right : goal.check_strict-checked-requires-clause-few_right
check_strict-checked-requires-clause-few_right c = few_of_side c.args.right.now c.requires.right

pub check_weak-checked-requires-clause-few_left : goal.check_weak-checked-requires-clause-few_left
check_weak-checked-requires-clause-few_left c = few_of_side c.args.left.now c.requires.left

pub check_weak-checked-requires-clause-few_right : goal.check_weak-checked-requires-clause-few_right
check_weak-checked-requires-clause-few_right c = few_of_side c.args.right.now c.requires.right

pub returns-in-Err : goal.returns-in-Err
returns-in-Err c a b l r =
    let p = poly c.args.left.now in
    let q = poly c.args.right.now in
    let ms = transfers c.args.moves.now in
    let f = c.in-Err.fault in
    let at = λ (strict : Bool) (h : IsFirstFaultOfMoves strict p q (transfers c.as_slice-items.result.now) f). subst (λ ms. IsFirstFaultOfMoves strict p q ms f) (ap transfers c.as_slice-items.ensures) h in
    moves_fault a b p q c.args.strict ms f l r (elim c.if-strict.branch [
      | then-strict w ↦ subst (λ s. IsFirstFaultOfMoves s p q ms f) (sym w.if-strict.true) (at true (told_fault w.check_strict-checked.result c.if-strict.checked f _ _ w.checked-is c.in-Err.is w.check_strict-checked.ensures))
      | else-strict w ↦ subst (λ s. IsFirstFaultOfMoves s p q ms f) (sym w.if-strict.false) (at false (told_fault w.check_weak-checked.result c.if-strict.checked f _ _ w.checked-is c.in-Err.is w.check_weak-checked.ensures))
    ])
