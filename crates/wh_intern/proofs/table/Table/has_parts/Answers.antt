use Rattle.std.proofs.Common.{arith, refl, map}
use Rattle.std.proofs.lemmas.List.{length-map}
use Rattle.wh_intern.specs.Parts.{part_tree}
use Rattle.wh_intern.specs.Trees.{tree_at}
use Rattle.wh_intern.specs.TableTrees.{trees}
use Rattle.wh_intern.proofs.OneNumber.{one_number, parts_apart}
use Rattle.wh_intern.proofs.PartsThere.{part_number}
use Rattle.wh_intern.proofs.TableLaws.{trees_length}
use Rattle.wh_intern.proofs.table.Table.has_parts.Goals as goal

pub returns-clause-there : goal.returns-clause-there
returns-clause-there c = λ m s h is.
    let ks = c.args.self.now.parts.keys in
    let x = part_number (map part_tree ks) c.args.self.now.founded (tree_at (trees c.args.self.now) m) m s
    (omega (arith, h, trees_length ks, length-map ks part_tree)) refl is in
    (x.0, omega (arith, x.1, h), x.2)

-- the number that the part has is the only one
pub returns-clause-low : goal.returns-clause-low
returns-clause-low c = λ m k h below is.
    let ks = c.args.self.now.parts.keys in
    let founded = c.args.self.now.founded in
    let s = tree_at (trees c.args.self.now) k in
    let x = part_number (map part_tree ks) founded (tree_at (trees c.args.self.now) m) m s
    (omega (arith, h, trees_length ks, length-map ks part_tree)) refl is in
    let same = one_number (map part_tree ks) founded (parts_apart ks c.len.ensures.unique) s k x.0
    (omega (arith, below, trees_length ks, length-map ks part_tree)) (omega (arith, x.1, h, trees_length ks, length-map ks part_tree)) refl x.2 in
    omega (arith, same, x.1)
