use Rattle.std.proofs.Common.{arith, refl, map}
use Rattle.std.proofs.lemmas.List.{length-map}
use Rattle.wh_intern.specs.Parts.{part_tree}
use Rattle.wh_intern.specs.Trees.{tree_at}
use Rattle.wh_intern.specs.TableTrees.{trees}
use Rattle.wh_intern.proofs.OneNumber.{one_number, parts_apart}
use Rattle.wh_intern.proofs.TableLaws.{trees_length}
use Rattle.wh_intern.proofs.table.Table.has_each_tree_once.Goals as goal

pub returns : goal.returns
returns c = λ m n h k e.
    let ks = c.args.self.now.parts.keys in
    one_number (map part_tree ks) c.args.self.now.founded (parts_apart ks c.len.ensures.unique) (tree_at (trees c.args.self.now) n) m n
    (omega (arith, h, trees_length ks, length-map ks part_tree)) (omega (arith, k, trees_length ks, length-map ks part_tree)) e refl
