-- Without arguments.
use Rattle.std.proofs.Common.{◌≡◌, ◌≤◌, ap, subst, ◌∙◌, arith}
use Rattle.wh_poly.specs.Polynomials.{no_arguments}
use Rattle.wh_poly.specs.Arithmetic.{multiply, atom}
use Rattle.wh_poly.specs.Excesses.{ExceedsAs}
use Rattle.wh_poly_arithmetic.specs.Growing.{grown, first_value, HasRoom}
use Rattle.wh_poly.specs.Erase.{poly, polys, factors, arguments_of}
use Rattle.wh_poly.specs.declared.polynomial.Atom.{out-roll-Atom}
use Rattle.wh_poly.proofs.Lists.{polys_is}
use Rattle.wh_poly.proofs.FaultLaws.{done_so, because_so}
use Rattle.wh_poly_arithmetic.proofs.RoomLaws.{variable_taken_in}
use Rattle.wh_poly_arithmetic.proofs.growing.multiply_by_variable.Goals as goal

pub returns-then-so_far-eq0-clause-ok : goal.returns-then-so_far-eq0-clause-ok
returns-then-so_far-eq0-clause-ok c =
    let same : poly c.in_ok-value.value ≡ atom c.args.head no_arguments = c.in_ok-value.ensures ∙ ap (atom c.args.head) (polys_is c.new-args.result ∙ ap arguments_of c.new-args.ensures) in
    let p = grown c.args.so_far.now in
    let g = c.multiply_out.new.so_far in
    done_so c.multiply_out.result ((grown g ≡ multiply p (poly c.in_ok-value.value)) × HasRoom g) ((grown g ≡ multiply p (atom c.args.head no_arguments)) × HasRoom g)
    (λ h. (h.0 ∙ ap (multiply p) same, h.1)) c.multiply_out.ensures.ok

pub returns-then-so_far-eq0-clause-fault : goal.returns-then-so_far-eq0-clause-fault
returns-then-so_far-eq0-clause-fault c =
    let same : poly c.in_ok-value.value ≡ atom c.args.head no_arguments = c.in_ok-value.ensures ∙ ap (atom c.args.head) (polys_is c.new-args.result ∙ ap arguments_of c.new-args.ensures) in
    let p = grown c.args.so_far.now in
    because_so c.multiply_out.result (λ e. ExceedsAs e (multiply p (poly c.in_ok-value.value))) (λ e. ExceedsAs e (multiply p (atom c.args.head no_arguments)))
    (λ e h. subst (λ q. ExceedsAs e (multiply p q)) same h) c.multiply_out.ensures.fault

pub returns-clause-ok : goal.returns-clause-ok
returns-clause-ok c =
    let g = c.args.so_far.now in
    let some : 1 ≤ g.left = (let z = c.if-so_far-eq0.false in omega (arith, z)) in
    variable_taken_in (first_value g.first) g.greatest g.coefficient g.left c.args.head (factors g.factors) (factors c.push.new.self) _ c.requires.room some c.in_ok-push.ensures.ok
    (ap (λ r. r.head) (out-roll-Atom _)) (ap (λ r. polys r.args) (out-roll-Atom _) ∙ polys_is c.new-args.result ∙ ap arguments_of c.new-args.ensures)
