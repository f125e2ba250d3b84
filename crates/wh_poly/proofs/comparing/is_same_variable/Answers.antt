-- No arguments are equal.
use Rattle.std.proofs.Common.{rules, ◌≤◌, ap₂, sym, ◌∙◌, length}
use Rattle.wh_poly.specs.Polynomials.{compare_arguments}
use Rattle.wh_poly.specs.declared.polynomial.Atom.{out-Atom}
use Rattle.wh_poly.proofs.Lists.{no_arguments_left}
use Rattle.wh_poly.proofs.Walks.{undecided}
use Rattle.wh_poly.proofs.comparing.is_same_variable.Goals as goal

pub returns : goal.returns
returns c holds =
    let first : length c.as_slice.result.now ≤ 0 = search rules in
    let second : length c.as_slice-2.result.now ≤ 0 = search rules in
    undecided c.cmp-heads.result _ _ c.cmp-heads.ensures (sym c.is_ne.ensures ∙ c.if-is_ne.false)
    ∙ ap₂ compare_arguments (no_arguments_left (out-Atom c.args.a.now).args c.as_slice.result.now c.as_slice.ensures first) (no_arguments_left (out-Atom c.args.b.now).args c.as_slice-2.result.now c.as_slice-2.ensures second)
