-- What an output means follows from what is answered and what is written.
use Rattle.std.proofs.Common.{inl, inr, refl, sym, subst}
use Rattle.wh_top_words.specs.Asked.{request}
use Rattle.wh_top_judging.specs.Outcomes.{Shelves, outside}
use Rattle.wh_top_replies.specs.Run.{Replies}
use Rattle.wh_top_replies.proofs.Complete.{served}
use Rattle.wh_top_replies.proofs.Meaning.{termination, non_termination, text_says_no}
use Rattle.wh_top.proofs.program.run.Goals as goal

pub returns-in-Ok-clause-answer : goal.returns-in-Ok-clause-answer
returns-in-Ok-clause-answer g c =
    let s : Shelves = outside (g.S.Shelf.held c.args.shelf.now) (g.S.Shelf.faults c.args.shelf.now) (g.S.Shelf.faults c.reply_to.new.shelf) in
    let replies = subst (Replies s (request c.in-Some.command) c.in-Ok.reply.status) (sym c.as_slice.ensures) c.in-Ok.ensures.served in
    (_, _, inl (served s _ (request c.in-Some.command) _ _ c.in-Some.ensures replies), c.tell-in-Ok.ensures)

pub returns-in_default-clause-termination : goal.returns-in_default-clause-termination
returns-in_default-clause-termination g c =
    let s : Shelves = outside (g.S.Shelf.held c.args.shelf.now) (λ _. 0) (λ _. 0) in
    termination s _ _ _ _ _ _ _ _ (inr (inl (record { none = c.in_default.ensures; status_is = refl; text_is = c.bad_words_line.ensures }))) c.tell.ensures

pub returns-in-Ok-clause-termination : goal.returns-in-Ok-clause-termination
returns-in-Ok-clause-termination g c =
    let s : Shelves = outside (g.S.Shelf.held c.args.shelf.now) (g.S.Shelf.faults c.args.shelf.now) (g.S.Shelf.faults c.reply_to.new.shelf) in
    let replies = subst (Replies s (request c.in-Some.command) c.in-Ok.reply.status) (sym c.as_slice.ensures) c.in-Ok.ensures.served in
    termination s _ _ _ _ _ _ _ _ (inl (served s _ (request c.in-Some.command) _ _ c.in-Some.ensures replies)) c.tell-in-Ok.ensures

pub returns-in-Err-clause-termination : goal.returns-in-Err-clause-termination
returns-in-Err-clause-termination g c =
    let s : Shelves = outside (g.S.Shelf.held c.args.shelf.now) (λ _. 0) (λ _. 0) in
    termination s _ _ _ _ _ _ _ _ (inr (inr (record { asks = (request c.in-Some.command, c.in-Some.ensures); status_is = refl; text_is = refl }))) c.report_no_memory.ensures

pub returns-in_default-clause-non_termination : goal.returns-in_default-clause-non_termination
returns-in_default-clause-non_termination g c =
    let s : Shelves = outside (g.S.Shelf.held c.args.shelf.now) (g.S.Shelf.faults c.args.shelf.now) (g.S.Shelf.faults c.args.shelf.now) in
    non_termination s _ _ _ _ _ _ _ _ (inr (inl (record { none = c.in_default.ensures; status_is = refl; text_is = c.bad_words_line.ensures }))) c.tell.ensures

pub returns-in-Ok-clause-non_termination : goal.returns-in-Ok-clause-non_termination
returns-in-Ok-clause-non_termination g c =
    let s : Shelves = outside (g.S.Shelf.held c.args.shelf.now) (g.S.Shelf.faults c.args.shelf.now) (g.S.Shelf.faults c.reply_to.new.shelf) in
    let replies = subst (Replies s (request c.in-Some.command) c.in-Ok.reply.status) (sym c.as_slice.ensures) c.in-Ok.ensures.served in
    non_termination s _ _ _ _ _ _ _ _ (inl (served s _ (request c.in-Some.command) _ _ c.in-Some.ensures replies)) c.tell-in-Ok.ensures

pub returns-in-Err-clause-non_termination : goal.returns-in-Err-clause-non_termination
returns-in-Err-clause-non_termination g c =
    let s : Shelves = outside (g.S.Shelf.held c.args.shelf.now) (g.S.Shelf.faults c.args.shelf.now) (g.S.Shelf.faults c.reply_to.new.shelf) in
    non_termination s _ _ _ _ _ _ _ _ (inr (inr (record { asks = (request c.in-Some.command, c.in-Some.ensures); status_is = refl; text_is = refl }))) c.report_no_memory.ensures

pub returns-in_default-clause-certificate : goal.returns-in_default-clause-certificate
returns-in_default-clause-certificate g c = text_says_no _ _

pub returns-in-Ok-clause-certificate : goal.returns-in-Ok-clause-certificate
returns-in-Ok-clause-certificate g c = text_says_no _ _

pub returns-in-Err-clause-certificate : goal.returns-in-Err-clause-certificate
returns-in-Err-clause-certificate g c = text_says_no _ _
