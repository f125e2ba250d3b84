use Rattle.std.proofs.Common.{◌↔◌, IsTrue, subst₂}
use Rattle.wh_subterm.specs.ProperParts.{Part}
use Rattle.wh_intern.specs.TableTrees.{trees}
use Rattle.wh_intern.specs.Trees.{tree_at}
use Rattle.wh_intern_pairs.proofs.parts.has_part_as_asked.Goals as goal

pub returns-then-is_about-clause-part : goal.returns-then-is_about-clause-part
returns-then-is_about-clause-part c =
    let ts = trees c.args.table.now in
    let about = c.is_about.ensures c.if-is_about.true in
    subst₂ (λ m n. IsTrue c.args.asked.now.has ↔ Part (tree_at ts n) (tree_at ts m)) about.0 about.1 c.requires.asked
