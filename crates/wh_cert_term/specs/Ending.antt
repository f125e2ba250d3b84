-- The end of a term's text. This is a working form, which callers do not see.
use Rattle.std.specs.Prelude.{◌≡◌}
use Rattle.wh_text.specs.Chars.{line_feed}
use Rattle.wh_text.specs.RawTree.{RTm}
use Rattle.wh_cert_parts.specs.TermMachine.{Stack, Place, whole, step}

-- where a line feed comes at this place, the term t has ended
abbrev pub EndsHere : Stack → Place → RTm → Type 0
EndsHere fs k t = step fs k line_feed ≡ whole t
