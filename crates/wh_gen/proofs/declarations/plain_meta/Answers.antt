use Rattle.std.proofs.Common.{refl, ap}
use Rattle.wh_text.specs.RawTree.{no_types}
use Rattle.wh_text.specs.Erase.{rty, rtys}
use Rattle.wh_gen.proofs.RawTrees.{rmeta_of}
use Rattle.wh_gen.proofs.declarations.plain_meta.Goals as goal

pub returns : goal.returns
returns c =
    rmeta_of c.in_ok-name.name c.new.result c.args.kind c.args.name.now no_types (rty c.args.kind) c.in_ok-name.ensures (ap rtys c.new.ensures) refl
