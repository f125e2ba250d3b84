-- The copy is equal to the factor; where there are no arguments, none are the same.
use Rattle.std.proofs.Common.{rules, ◌≤◌, ap, sym, ◌∙◌, length}
use Rattle.wh_poly.specs.Erase.{polys, factors, arguments_of}
use Rattle.wh_poly.specs.declared.polynomial.Atom.{out-Atom, out-roll-Atom}
use Rattle.wh_poly.proofs.Lists.{polys_is, no_arguments_left}
use Rattle.wh_poly.proofs.Pushes.{product_copy}
use Rattle.wh_poly.proofs.copying.push_copy.Goals as goal

pub returns-then-is_empty : goal.returns-then-is_empty
returns-then-is_empty c =
    let none : length c.as_slice.result.now ≤ 0 = search rules in
    product_copy (factors c.args.us.now) (factors c.push.new.self) _ c.args.item.now c.in_ok-push.ensures.ok (ap (λ r. r.head) (out-roll-Atom _))
    (ap (λ r. polys r.args) (out-roll-Atom _) ∙ polys_is c.new-args.result ∙ ap arguments_of c.new-args.ensures
    ∙ sym (no_arguments_left (out-Atom c.args.item.now).args c.as_slice.result.now c.as_slice.ensures none))

pub returns : goal.returns
returns c = product_copy (factors c.args.us.now) (factors c.push-2.new.self) _ c.args.item.now c.in_ok-push-2.ensures.ok (ap (λ r. r.head) (out-roll-Atom _)) (ap (λ r. polys r.args) (out-roll-Atom _) ∙ c.in_ok-args.ensures)
