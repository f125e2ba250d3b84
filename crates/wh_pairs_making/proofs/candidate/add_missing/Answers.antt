use Rattle.std.proofs.Common.{map, arith}
use Rattle.wh_terms.specs.Erase.{tm}
use Rattle.wh_pairs_making.proofs.CandidateLemmas.{numbered_next}
use Rattle.wh_pairs_making.proofs.candidate.add_missing.Goals as goal

pub loop-number-preserved : goal.loop-number-preserved
loop-number-preserved c =
    numbered_next c.args.first c.loop-number.number (map tm c.args.arguments) c.loop-number.arguments c.push.new.self c.in_ok-nullary.field-0
    (omega arith) c.loop-number.invariant c.in_ok-push.ensures.ok c.in_ok-nullary.ensures
