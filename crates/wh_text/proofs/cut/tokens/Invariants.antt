use Rattle.std.proofs.Common.{◌≤◌, ◌-◌, List, ◌++◌, length, drop}
use Rattle.wh_text.specs.Tokens.{Token, Ending, Cuts}
use Rattle.wh_text.specs.Erase as erase
use Rattle.wh_text.proofs.cut.tokens.Given as goal

-- what is cut from here on is, behind the tokens so far, what is cut from the text
abbrev pub invariant-loop-at : goal.invariant-loop-at
invariant-loop-at l = record {
  within : l.at ≤ length l.bytes;
  joins : (us : List Token) (e : Ending) → Cuts l.at (drop l.at l.bytes) us e → Cuts 0 l.bytes (erase.tokens l.bytes l.found ++ us) e;
}

abbrev pub decreases-loop-at : goal.decreases-loop-at
decreases-loop-at l = length l.bytes - l.at
