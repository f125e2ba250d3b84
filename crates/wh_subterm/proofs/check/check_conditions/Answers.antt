use Rattle.std.proofs.Common.{map}
use Rattle.wh_pairs.specs.PairData.{pair_data}
use Rattle.wh_system.specs.SystemView.{system_data}
use Rattle.wh_subterm.specs.SubtermRows.{chosen}
use Rattle.wh_subterm.proofs.CheckedRows.{projection_passed}
use Rattle.wh_subterm.proofs.check.check_conditions.Goals as goal

pub returns-in-None : goal.returns-in-None
returns-in-None c =
    projection_passed (system_data c.args.system.now).rules (map pair_data c.args.pairs.now) c.args.set.now (map chosen c.args.args.now) c.args.drop.now
    (c.are_for_marked.ensures.0 c.if-not-are_for_marked.false) c.in_default-first_out_of_place.ensures (λ bad. cc (c.is_bad_drop.ensures.1 bad, c.if-is_bad_drop.false)) c.in-None.ensures
