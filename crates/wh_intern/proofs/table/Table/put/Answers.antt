use Rattle.std.proofs.Common.{arith}
use Rattle.wh_intern.proofs.TableLaws.{put_founded_new, put_adds_new, put_few, put_number}
use Rattle.wh_intern.proofs.table.Table.put.Goals as goal

pub invariant_of-self : goal.invariant_of-self
invariant_of-self c = record {
  founded = put_founded_new c.args.self.now.parts.keys c.insert_full.new.self.keys c.args.part c.insert_full.result c.insert_full.ensures.keys
      c.insert_full.ensures.err c.args.self.now.founded c.requires;
  few = put_few c.args.self.now.parts.keys c.insert_full.new.self.keys _
      (put_adds_new c.args.self.now.parts.keys c.insert_full.new.self.keys c.args.part c.insert_full.result c.insert_full.ensures.keys
      c.insert_full.ensures.err) (omega (arith, c.len.ensures.len));
}

pub overflow_cast-result : goal.overflow_cast-result
overflow_cast-result c =
    let adds = put_adds_new c.args.self.now.parts.keys c.insert_full.new.self.keys c.args.part c.insert_full.result c.insert_full.ensures.keys
    c.insert_full.ensures.err in
    let few = put_few c.args.self.now.parts.keys c.insert_full.new.self.keys _ adds (omega (arith, c.len.ensures.len)) in
    grind (arith, few, c.in_ok-index.ensures.within)

pub returns-clause-number : goal.returns-clause-number
returns-clause-number c =
    let adds = put_adds_new c.args.self.now.parts.keys c.insert_full.new.self.keys c.args.part c.insert_full.result c.insert_full.ensures.keys
    c.insert_full.ensures.err in
    let founded = put_founded_new c.args.self.now.parts.keys c.insert_full.new.self.keys c.args.part c.insert_full.result
    c.insert_full.ensures.keys c.insert_full.ensures.err c.args.self.now.founded c.requires in
    let stored = c.in_ok-index.ensures.stored in
    put_number c.args.self.now.parts.keys c.insert_full.new.self.keys c.in_ok-index.index c.args.part stored.0 founded adds c.requires
    stored.1 stored.2

pub returns-clause-adds : goal.returns-clause-adds
returns-clause-adds c =
    put_adds_new c.args.self.now.parts.keys c.insert_full.new.self.keys c.args.part c.insert_full.result c.insert_full.ensures.keys
    c.insert_full.ensures.err
