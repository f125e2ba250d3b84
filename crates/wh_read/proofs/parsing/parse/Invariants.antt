use Rattle.std.proofs.Common.{◌≡◌, take}
use Rattle.wh_system_parts.specs.Erase.{rparts}
use Rattle.wh_read.specs.SyntaxFaults.{letters}
use Rattle.wh_read.specs.Held as held
use Rattle.wh_read.specs.Reader as r
use Rattle.wh_read.proofs.parsing.parse.Given as goal

abbrev pub invariant-loop-token : goal.invariant-loop-token
invariant-loop-token l = r.run r.start (take l.token-index (letters l.text l.tokens)) ≡ r.inside (rparts l.parts) (held.place l.place)
