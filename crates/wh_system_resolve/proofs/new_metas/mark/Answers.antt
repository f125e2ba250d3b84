use Rattle.std.proofs.Common.{refl}
use Rattle.std.specs.Prelude.{slice_set, true}
use Rattle.wh_system_resolve.proofs.MarkLemmas.{set_mark, past_marks}
use Rattle.wh_system_resolve.proofs.new_metas.mark.Goals as goal

pub returns-then-index-marks : goal.returns-then-index-marks
returns-then-index-marks c =
    set_mark c.args.marks.now (slice_set c.args.marks.now c.args.number true) c.args.number c.if-index-marks.true refl

pub returns-else-index-marks : goal.returns-else-index-marks
returns-else-index-marks c = past_marks c.args.marks.now c.args.number c.if-index-marks.false
