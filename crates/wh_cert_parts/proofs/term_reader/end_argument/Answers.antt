use Rattle.std.proofs.Common.{sym, ◌∙◌}
use Rattle.wh_text.specs.Erase.{rtm, rtms}
use Rattle.wh_cert_parts.specs.TermViews.{term_stack}
use Rattle.wh_cert_parts.proofs.RawLaws.{rtms_grow}
use Rattle.wh_cert_parts.proofs.TermCode.{argument_joins}
use Rattle.wh_cert_parts.proofs.term_reader.end_argument.Goals as goal

pub returns-then-begins_argument : goal.returns-then-begins_argument
returns-then-begins_argument c =
    let old = c.args.args in
    let new = c.push-then-begins_argument.new.self in
    argument_joins (term_stack c.open_term.new.stack.items) (term_stack c.args.stack.now.items) (rtm c.args.head.value) (rtms old) (rtms new) (rtm c.args.term) c.args.byte c.in_ok-open_term.ensures (rtms_grow old new c.args.term c.in_ok-push-2.ensures.ok) c.if-byte-eq41.false (sym c.begins_argument.ensures ∙ c.if-begins_argument.true)
