use Rattle.std.proofs.Common.{◌≡◌, ◌+◌, ◌≤◌, inl, inr, length, drop, arith}
use Rattle.wh_cert_parts.specs.TermViews.{term_stack, term_place, term_went}
use Rattle.wh_cert_parts.proofs.TermComplete.{scan}
use Rattle.wh_cert_term.proofs.ReadLaws.{line, began, next_step, stops_there, all_read, told_end}
use Rattle.wh_cert_term.proofs.reader.read_term.Goals as goal

pub returns-in-Whole : goal.returns-in-Whole
returns-in-Whole c =
    let bytes = c.args.bytes.now in
    let i = c.loop-byte.byte-index in
    let stack = c.term_step.new.stack.items in
    let next : began bytes ≡ scan (term_went stack c.in_ok-next.field-0) (line (drop (i + 1) bytes)) =
    next_step bytes i _ _ (term_stack c.loop-byte.stack.items) (term_place c.loop-byte.place) c.loop-byte-test.true c.in_ok-next.ensures c.loop-byte.invariant in
    stops_there bytes (drop (i + 1) bytes) stack c.in_ok-next.field-0 (λ place on. elim c.in-Whole.is [ inl w ↦ absurd (cc (w.1, on)) | inr wrong ↦ absurd (cc (wrong, on)) ]) next

pub returns : goal.returns
returns c =
    let bytes = c.args.bytes.now in
    let all : length bytes ≤ c.loop-byte.byte-index = omega arith in
    let fs = term_stack c.loop-byte.stack.items in
    let k = term_place c.loop-byte.place in
    told_end bytes fs k c.ended.result (all_read bytes c.loop-byte.byte-index fs k all c.loop-byte.invariant) c.ended.ensures
