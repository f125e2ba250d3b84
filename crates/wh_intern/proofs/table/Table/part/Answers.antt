use Rattle.wh_intern.proofs.TreeLaws.{node_tree}
use Rattle.wh_intern.proofs.TableLaws.{trees_length, part_there}
use Rattle.std.proofs.Common.{arith, map}
use Rattle.wh_intern.specs.Parts.{part_tree}
use Rattle.wh_intern.proofs.table.Table.part.Goals as goal

pub bounds-as_slice-number : goal.bounds-as_slice-number
bounds-as_slice-number c = grind (arith, c.requires, c.as_slice.ensures.keys, trees_length c.args.self.now.parts.keys)

pub returns-clause-tree : goal.returns-clause-tree
returns-clause-tree c =
    let ks = c.args.self.now.parts.keys in
    let p = c.index-as_slice-number.result in
    node_tree (map part_tree ks) c.args.self.now.founded c.args.number (part_tree p)
    (part_there ks c.as_slice.result.now c.args.number p c.as_slice.ensures.keys c.requires c.index-as_slice-number.is)

pub returns-clause-below : goal.returns-clause-below
returns-clause-below c =
    let ks = c.args.self.now.parts.keys in
    let p = c.index-as_slice-number.result in
    c.args.self.now.founded c.args.number (part_tree p)
    (part_there ks c.as_slice.result.now c.args.number p c.as_slice.ensures.keys c.requires c.index-as_slice-number.is)
