-- Two monomials, one behind the other, are one.
use Rattle.std.proofs.Common.{◌++◌, ap, ◌∙◌}
use Rattle.wh_poly.specs.Erase.{factors, product_of}
use Rattle.wh_poly_arithmetic.specs.Growing.{first_value}
use Rattle.wh_poly.specs.declared.polynomial.Monomial.{out-Monomial}
use Rattle.wh_poly_arithmetic.proofs.RoomLaws.{taken_in}
use Rattle.wh_poly_arithmetic.proofs.growing.extend.Goals as goal

pub returns : goal.returns
returns c =
    let g = c.args.so_far.now in
    let m = out-Monomial c.args.item.now in
    let takes = c.requires.takes in
    taken_in (first_value g.first) g.greatest g.coefficient m.coefficient c.args.room.coefficient g.left c.args.room.left g.factors m.atoms c.push_copies.new.us
    c.requires.room c.requires.right.0 c.requires.right.1 (c.in_ok-push_copies.ensures ∙ ap (λ xs. product_of (factors g.factors ++ xs)) c.as_slice.ensures) takes.multiplied takes.fitting takes.weighed takes.shallow
