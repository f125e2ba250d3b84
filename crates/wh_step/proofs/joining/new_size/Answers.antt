use Rattle.std.proofs.Common.{None, subst, arith}
use Rattle.wh_terms.specs.Erase.{tm}
use Rattle.wh_step.specs.Contracta.{result_of}
use Rattle.wh_step.specs.Extents.{IsExtent, Knows}
use Rattle.wh_step.proofs.ContextLemmas.{part_small, fits_put}
use Rattle.wh_step.proofs.joining.new_size.Goals as goal

pub returns-in_default : goal.returns-in_default
returns-in_default c whole =
    let v = result_of c.args.contractum.now in
    let past : Knows v None = subst (Knows v) c.in_default.is (c.in_ok-part.ensures v c.contractum_extent.ensures) in
    past (fits_put c.args.path.now v (tm c.args.term.now) (tm c.args.redex.now) c.requires.there whole)

pub size-requires : goal.size-requires
size-requires c =
    let small = part_small (tm c.args.redex.now) c.args.path.now (tm c.args.term.now) c.requires.there in
    omega (arith, c.requires.fits.small, small)

pub resized-requires-clause-inside : goal.resized-requires-clause-inside
resized-requires-clause-inside c =
    let small = part_small (tm c.args.redex.now) c.args.path.now (tm c.args.term.now) c.requires.there in
    omega (arith, c.size.ensures, c.requires.sized, small)

pub returns : goal.returns
returns c =
    let v = result_of c.args.contractum.now in
    let part : IsExtent v c.in-Some.part = subst (Knows v) c.in-Some.is (c.in_ok-part.ensures v c.contractum_extent.ensures) in
    c.resized.ensures c.args.path.now v (tm c.args.term.now) (tm c.args.redex.now) (record {
      here = c.requires.there;
      fits = c.requires.fits;
      whole = c.requires.sized;
      old = c.size.ensures;
      part = part;
      joins = c.join.ensures v part;
    })
