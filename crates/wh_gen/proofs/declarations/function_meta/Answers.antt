use Rattle.std.proofs.Common.{◌++◌, ◌∷◌, [], ap, ◌∙◌}
use Rattle.std.specs.Prelude.{codes}
use Rattle.wh_text.specs.RawTree.{no_types, more_types}
use Rattle.wh_text.specs.Erase.{rtys}
use Rattle.wh_gen.specs.RawFamily.{raw_nat}
use Rattle.wh_gen.proofs.RawTrees.{rmeta_of}
use Rattle.wh_gen.proofs.declarations.function_meta.Goals as goal

pub returns : goal.returns
returns c =
    let arg = c.in_ok-nat.field-0 in
    let args = ap rtys (c.in_ok-push.ensures.ok ∙ ap (λ ts. ts ++ arg ∷ []) c.new-args.ensures) ∙ ap (λ a. more_types a no_types) c.in_ok-nat.ensures in
    rmeta_of c.in_ok-name.name _ c.in_ok-nat-2.field-0 (codes "F") (more_types raw_nat no_types) raw_nat c.in_ok-name.ensures (ap rtys c.args-2.view_is ∙ args) c.in_ok-nat-2.ensures
