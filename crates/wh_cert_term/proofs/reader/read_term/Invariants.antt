use Rattle.std.proofs.Common.{◌≡◌, drop}
use Rattle.wh_cert_parts.specs.TermMachine.{at}
use Rattle.wh_cert_parts.specs.TermViews.{term_stack, term_place}
use Rattle.wh_cert_parts.proofs.TermComplete.{scan}
use Rattle.wh_cert_term.proofs.ReadLaws.{line, began}
use Rattle.wh_cert_term.proofs.reader.read_term.Given as goal

-- the bytes so far lead to where the reader stands
abbrev pub invariant-loop-byte : goal.invariant-loop-byte
invariant-loop-byte l = began l.bytes ≡ scan (at (term_stack l.stack.items) (term_place l.place)) (line (drop l.byte-index l.bytes))
