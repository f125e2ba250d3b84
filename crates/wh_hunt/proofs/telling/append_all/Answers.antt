use Rattle.wh_hunt.proofs.Lines.{told_with_count}
use Rattle.wh_hunt.proofs.telling.append_all.Goals as goal

pub returns-in_ok-append_count : goal.returns-in_ok-append_count
returns-in_ok-append_count c =
    let (line, is, joined) = c.in_ok-append_end.ensures in
    told_with_count c.args.end.given c.args.end.refused c.args.end.counts c.args.text.now line c.append_end.new.text c.append_count.new.text
    c.if-end.true is joined c.in_ok-append_count.ensures
