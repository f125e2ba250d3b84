use Rattle.wh_hunt.specs.Hunting.{exhausted, spent}
use Rattle.wh_hunt.proofs.Lines.{end_if}
use Rattle.wh_hunt.proofs.telling.append_end.Goals as goal

pub returns-then-given-eq0 : goal.returns-then-given-eq0
returns-then-given-eq0 c =
    end_if c.append_line.result c.args.given c.args.text.now c.append_line.new.text _ spent c.append_line.ensures

pub returns-else-given-eq0 : goal.returns-else-given-eq0
returns-else-given-eq0 c =
    end_if c.append_line-else-given-eq0.result c.args.given c.args.text.now c.append_line-else-given-eq0.new.text _
    (exhausted c.done.result c.done.ensures) c.append_line-else-given-eq0.ensures
