use Rattle.std.proofs.Common.{refl, sym, subst}
use Rattle.wh_top_judging.specs.Outcomes.{Shelves, outside}
use Rattle.wh_hunt.specs.Hunting.{Hunts, served, misspoken, starved}
use Rattle.wh_hunt.proofs.Meaning.{termination, non_termination}
use Rattle.wh_hunt.proofs.program.run.Goals as goal

pub returns-in-Ok-clause-answer : goal.returns-in-Ok-clause-answer
returns-in-Ok-clause-answer g c =
    let s : Shelves = outside (g.S.Shelf.held c.args.shelf.now) (g.S.Shelf.faults c.args.shelf.now) (g.S.Shelf.faults c.reply_to.new.shelf) in
    let hunts = subst (Hunts s c.in-Some.hunt.file.now c.in-Some.hunt.work c.in-Some.hunt.counts c.in-Ok.reply.status) (sym c.as_slice.ensures) c.in-Ok.ensures.served in
    (_, _, served _ _ _ c.in-Some.ensures hunts, c.tell-in-Ok.ensures)

pub returns-in-Err-clause-answer : goal.returns-in-Err-clause-answer
returns-in-Err-clause-answer g c = (_, _, starved _ _ _ c.in-Some.ensures refl refl, c.report_no_memory.ensures)

pub returns-in_default-clause-termination : goal.returns-in_default-clause-termination
returns-in_default-clause-termination g c =
    let s : Shelves = outside (g.S.Shelf.held c.args.shelf.now) (g.S.Shelf.faults c.args.shelf.now) (g.S.Shelf.faults c.args.shelf.now) in
    termination s _ _ _ _ _ _ _ _ (misspoken c.in_default.ensures refl c.bad_words_line.ensures) c.tell.ensures

pub returns-in-Ok-clause-termination : goal.returns-in-Ok-clause-termination
returns-in-Ok-clause-termination g c =
    let s : Shelves = outside (g.S.Shelf.held c.args.shelf.now) (g.S.Shelf.faults c.args.shelf.now) (g.S.Shelf.faults c.reply_to.new.shelf) in
    let hunts = subst (Hunts s c.in-Some.hunt.file.now c.in-Some.hunt.work c.in-Some.hunt.counts c.in-Ok.reply.status) (sym c.as_slice.ensures) c.in-Ok.ensures.served in
    termination s _ _ _ _ _ _ _ _ (served _ _ _ c.in-Some.ensures hunts) c.tell-in-Ok.ensures

pub returns-in-Err-clause-termination : goal.returns-in-Err-clause-termination
returns-in-Err-clause-termination g c =
    let s : Shelves = outside (g.S.Shelf.held c.args.shelf.now) (g.S.Shelf.faults c.args.shelf.now) (g.S.Shelf.faults c.reply_to.new.shelf) in
    termination s _ _ _ _ _ _ _ _ (starved _ _ _ c.in-Some.ensures refl refl) c.report_no_memory.ensures

pub returns-in_default-clause-non_termination : goal.returns-in_default-clause-non_termination
returns-in_default-clause-non_termination g c =
    let s : Shelves = outside (g.S.Shelf.held c.args.shelf.now) (g.S.Shelf.faults c.args.shelf.now) (g.S.Shelf.faults c.args.shelf.now) in
    non_termination s _ _ _ _ _ _ _ _ (misspoken c.in_default.ensures refl c.bad_words_line.ensures) c.tell.ensures

pub returns-in-Ok-clause-non_termination : goal.returns-in-Ok-clause-non_termination
returns-in-Ok-clause-non_termination g c =
    let s : Shelves = outside (g.S.Shelf.held c.args.shelf.now) (g.S.Shelf.faults c.args.shelf.now) (g.S.Shelf.faults c.reply_to.new.shelf) in
    let hunts = subst (Hunts s c.in-Some.hunt.file.now c.in-Some.hunt.work c.in-Some.hunt.counts c.in-Ok.reply.status) (sym c.as_slice.ensures) c.in-Ok.ensures.served in
    non_termination s _ _ _ _ _ _ _ _ (served _ _ _ c.in-Some.ensures hunts) c.tell-in-Ok.ensures

pub returns-in-Err-clause-non_termination : goal.returns-in-Err-clause-non_termination
returns-in-Err-clause-non_termination g c =
    let s : Shelves = outside (g.S.Shelf.held c.args.shelf.now) (g.S.Shelf.faults c.args.shelf.now) (g.S.Shelf.faults c.reply_to.new.shelf) in
    non_termination s _ _ _ _ _ _ _ _ (starved _ _ _ c.in-Some.ensures refl refl) c.report_no_memory.ensures
