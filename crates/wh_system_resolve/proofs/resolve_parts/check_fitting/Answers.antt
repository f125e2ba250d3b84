use Rattle.std.proofs.Common.{ap, sym, ◌∙◌, arith, length}
use Rattle.wh_types.specs.Erase.{tys}
use Rattle.wh_text.specs.Erase.{rtms}
use Rattle.wh_system_parts.specs.Faults.{first_fault}
use Rattle.wh_system_resolve.specs.InScope.{types_of}
use Rattle.wh_system_resolve.specs.Resolving.{fitting_tests}
use Rattle.wh_system_resolve.proofs.FittingLemmas.{fitting_fails}
use Rattle.wh_system_resolve.proofs.resolve_parts.check_fitting.Goals as goal

pub returns-then-not-same_type : goal.returns-then-not-same_type
returns-then-not-same_type c =
    let xs = c.as_slice-items.result.now in
    let long = ap length c.as_slice-items.ensures in
    ap (λ ys. first_fault (fitting_tests (types_of c.args.given.now) (rtms ys) (tys c.args.wanted.now))) (sym c.as_slice-items.ensures)
    ∙ fitting_fails c.args.given.now c.args.wanted.now xs c.loop-i.i c.index-given-i.result c.index-wanted-i.result c.index-items-i.result c.offset.result
    (first_fault (fitting_tests (types_of c.args.given.now) (rtms xs) (tys c.args.wanted.now))) (omega (arith, long, c.requires.given)) (omega (arith, long, c.requires.wanted)) (omega arith)
    c.index-given-i.is c.index-wanted-i.is c.index-items-i.is c.offset.ensures (λ e. let yes = c.same_type.ensures.1 (c.as_type.ensures ∙ e) in cc yes) c.loop-i.invariant
