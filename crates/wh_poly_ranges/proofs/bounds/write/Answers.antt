use Rattle.std.proofs.Common.{refl, arith}
use Rattle.wh_poly_ranges.proofs.Lists.{vectors_set}
use Rattle.wh_poly_ranges.proofs.bounds.write.Goals as goal

pub returns-in-Some : goal.returns-in-Some
returns-in-Some c =
    vectors_set c.args.lists.now.items c.args.at.number c.args.at.place c.args.value c.in-Some.list.now c.write_at.new.list
    (omega (arith, c.in-Some.ensures.variant.0 refl, c.args.lists.now.ok.0)) c.in-Some.ensures.value c.write_at.ensures
