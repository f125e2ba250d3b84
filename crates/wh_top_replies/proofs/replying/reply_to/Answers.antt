use Rattle.std.proofs.Common.{subst, sym}
use Rattle.wh_terms.proofs.Results.{IfOk-map}
use Rattle.wh_top_words.specs.Asked.{bounds_of, request}
use Rattle.wh_top_judging.specs.Outcomes.{Shelves, outside}
use Rattle.wh_top_replies.specs.Run.{Replies}
use Rattle.wh_top_judging.specs.Texts.{TellsMade}
use Rattle.wh_top_replies.proofs.OwnTexts.{search_replies, show_replies, generated_replies, reduced_replies, upgraded_replies, refuted_replies}
use Rattle.wh_top_replies.proofs.replying.reply_to.Goals as goal

pub returns-in-Prove-clause-served : goal.returns-in-Prove-clause-served
returns-in-Prove-clause-served g c =
    let s : Shelves = outside (g.S.Shelf.held c.args.shelf.now) (g.S.Shelf.faults c.args.shelf.now) (g.S.Shelf.faults c.prove_file.new.shelf) in
    let found = c.prove_file.ensures in
    let made = c.prove_file.result in
    IfOk-map (λ reply. TellsMade made reply.status reply.text) (λ reply. Replies s (request c.args.command.now) reply.status reply.text)
    c.reply_with.result
    (λ reply tells. subst (λ command. Replies s (request command) reply.status reply.text) (sym c.in-Prove.is)
    (search_replies s c.in-Prove.file.now (bounds_of c.in-Prove.limits) c.options_of-options.result made reply.status reply.text c.options_of-options.ensures
    found.found found.begins found.within tells)) c.reply_with.ensures

pub returns-in-Show-clause-served : goal.returns-in-Show-clause-served
returns-in-Show-clause-served g c =
    let s : Shelves = outside (g.S.Shelf.held c.args.shelf.now) (g.S.Shelf.faults c.args.shelf.now) (g.S.Shelf.faults c.show_file.new.shelf) in
    let made = c.show_file.result in
    IfOk-map (λ reply. TellsMade made reply.status reply.text) (λ reply. Replies s (request c.args.command.now) reply.status reply.text)
    c.reply_with-in-Show.result
    (λ reply tells. subst (λ command. Replies s (request command) reply.status reply.text) (sym c.in-Show.is)
    (show_replies s c.in-Show.file.now made reply.status reply.text c.show_file.ensures.shows c.show_file.ensures.begins tells)) c.reply_with-in-Show.ensures

pub returns-in-Gen-clause-served : goal.returns-in-Gen-clause-served
returns-in-Gen-clause-served g c =
    let s : Shelves = outside (g.S.Shelf.held c.args.shelf.now) (g.S.Shelf.faults c.args.shelf.now) (g.S.Shelf.faults c.args.shelf.now) in
    let made = c.generated.result in
    IfOk-map (λ reply. TellsMade made reply.status reply.text) (λ reply. Replies s (request c.args.command.now) reply.status reply.text)
    c.reply_with-in-Gen.result
    (λ reply tells. subst (λ command. Replies s (request command) reply.status reply.text) (sym c.in-Gen.is)
    (generated_replies s c.in-Gen.n made reply.status reply.text c.generated.ensures tells)) c.reply_with-in-Gen.ensures

pub returns-in-Reduce-clause-served : goal.returns-in-Reduce-clause-served
returns-in-Reduce-clause-served g c =
    let s : Shelves = outside (g.S.Shelf.held c.args.shelf.now) (g.S.Shelf.faults c.args.shelf.now) (g.S.Shelf.faults c.reduce_file.new.shelf) in
    let made = c.reduce_file.result in
    IfOk-map (λ reply. TellsMade made reply.status reply.text) (λ reply. Replies s (request c.args.command.now) reply.status reply.text)
    c.reply_with-in-Reduce.result
    (λ reply tells. subst (λ command. Replies s (request command) reply.status reply.text) (sym c.in-Reduce.is)
    (reduced_replies s c.in-Reduce.file.now c.in-Reduce.term.now c.in-Reduce.steps made reply.status reply.text c.reduce_file.ensures.reduced
    c.reduce_file.ensures.begins tells)) c.reply_with-in-Reduce.ensures

pub returns-in-Upgrade-clause-served : goal.returns-in-Upgrade-clause-served
returns-in-Upgrade-clause-served g c =
    let s : Shelves = outside (g.S.Shelf.held c.args.shelf.now) (g.S.Shelf.faults c.args.shelf.now) (g.S.Shelf.faults c.upgrade_files.new.shelf) in
    let made = c.upgrade_files.result in
    IfOk-map (λ reply. TellsMade made reply.status reply.text) (λ reply. Replies s (request c.args.command.now) reply.status reply.text)
    c.reply_with-in-Upgrade.result
    (λ reply tells. subst (λ command. Replies s (request command) reply.status reply.text) (sym c.in-Upgrade.is)
    (upgraded_replies s c.in-Upgrade.file.now c.in-Upgrade.cert.now made reply.status reply.text c.upgrade_files.ensures.upgraded
    c.upgrade_files.ensures.within tells)) c.reply_with-in-Upgrade.ensures

pub returns-in-Refute-clause-served : goal.returns-in-Refute-clause-served
returns-in-Refute-clause-served g c =
    let s : Shelves = outside (g.S.Shelf.held c.args.shelf.now) (g.S.Shelf.faults c.args.shelf.now) (g.S.Shelf.faults c.refute_file.new.shelf) in
    let made = c.refute_file.result in
    IfOk-map (λ reply. TellsMade made reply.status reply.text) (λ reply. Replies s (request c.args.command.now) reply.status reply.text)
    c.reply_with-in-Refute.result
    (λ reply tells. subst (λ command. Replies s (request command) reply.status reply.text) (sym c.in-Refute.is)
    (refuted_replies s c.in-Refute.file.now c.in-Refute.tries c.options_with-options.result made reply.status reply.text c.options_with-options.ensures
    c.refute_file.ensures.refuted c.refute_file.ensures.begins tells)) c.reply_with-in-Refute.ensures
