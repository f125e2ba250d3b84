-- `IsTermText`: bytes are the text of a term by itself, as `reduce` gets it.
use Rattle.std.specs.Prelude.{ℕ, ◌≡◌, List}
use Rattle.wh_text.specs.RawTree.{RTm}
use Rattle.wh_text.specs.Spelling.{spelled}
use Rattle.wh_cert.specs.TermLimits.{TermFits}

-- the bytes are the canonical spelling of the term, which is within the limits of certificates (ours)
pub record IsTermText (t : RTm) (bytes : List ℕ) : Type 0 where
  pub fits : TermFits 0 t
  pub text : bytes ≡ spelled t
