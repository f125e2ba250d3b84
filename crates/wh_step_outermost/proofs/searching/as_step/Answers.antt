use Rattle.std.proofs.Common.{◌≡◌, ◌∙◌, refl, sym, subst}
use Rattle.std.specs.Prelude.{reverse}
use Rattle.wh_terms.specs.Places.{IsPath}
use Rattle.wh_step_outermost.proofs.searching.as_step.Goals as goal

pub path_of-requires : goal.path_of-requires
path_of-requires c =
    let is : c.as_slice.result.now ≡ reverse c.args.found.back.items = cc (c.as_slice.ensures.value, c.reverse.ensures.items) in
    subst IsPath (sym is) c.requires

pub returns : goal.returns
returns c =
    let is : c.as_slice.result.now ≡ reverse c.args.found.back.items = cc (c.as_slice.ensures.value, c.reverse.ensures.items) in
    (refl, c.in_ok-path.ensures ∙ is)
