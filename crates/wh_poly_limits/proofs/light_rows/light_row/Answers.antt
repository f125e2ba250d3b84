-- What ascends is the row.
use Rattle.wh_poly.specs.Erase.{poly, atoms}
use Rattle.wh_poly.specs.declared.polynomial.Monomial.{out-Monomial}
use Rattle.wh_poly.proofs.RowLaws.{ascending_is_row}
use Rattle.wh_poly_limits.proofs.light_rows.light_row.Goals as goal

pub returns-then-is_ascending-clause-ok : goal.returns-then-is_ascending-clause-ok
returns-then-is_ascending-clause-ok c =
    let m = out-Monomial c.args.item.now in
    ascending_is_row (poly c.in_ok-row.row) m.coefficient (atoms m.atoms) (poly c.args.b.now) c.requires.positive c.requires.right c.in_ok-row.ensures.ok (c.is_ascending.ensures c.if-is_ascending.true)
