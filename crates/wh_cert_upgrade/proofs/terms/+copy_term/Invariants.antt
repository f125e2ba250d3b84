use Rattle.std.proofs.Common.{◌≡◌, take, map}
use Rattle.wh_text.specs.Erase.{rtm}
use Rattle.wh_cert_upgrade.proofs.terms.+copy_term.Given as goal

abbrev pub invariant-copy_terms-loop-term : goal.invariant-copy_terms-loop-term
invariant-copy_terms-loop-term l = map rtm l.copies ≡ map rtm (take l.term-index l.term-items)
