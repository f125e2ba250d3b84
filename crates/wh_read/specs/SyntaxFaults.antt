-- The faults of the grammar, with their places in the text (ours).
use Rattle.std.specs.Prelude.{ℕ, ◌≡◌, List, get_or, map}
use Rattle.wh_text.specs.Erase.{tokens}
use Rattle.wh_text.specs.declared.token.Token as code
use Rattle.wh_read.specs.Spelled.{Placed, placed}
use Rattle.wh_read.specs.Parsing.{SyntaxAt, TooDeepAt}
use Rattle.wh_read.specs.declared.fault.SyntaxFault.{SyntaxFault}
use Rattle.wh_read.specs.declared.fault.SyntaxFault.TheVariants.{Syntax, TooMany}

-- the tokens that were cut from the text, as the grammar sees them
abbrev pub letters : List ℕ → List code.Token → List Placed
letters text ts = map placed (tokens text ts)

-- the place of the token number n; where there is none, the length of the text
abbrev pub place_in : List Placed → ℕ → ℕ → ℕ
place_in ts n size = get_or (map (λ k. k.at) ts) n size

-- the tokens of a text of this length have the fault
abbrev pub HasSyntaxFault : List Placed → ℕ → SyntaxFault → Type 0
HasSyntaxFault ts size (Syntax at) = (n : ℕ) × SyntaxAt ts n × (at ≡ place_in ts n size)
HasSyntaxFault ts size (TooMany at) = (n : ℕ) × TooDeepAt ts n × (at ≡ place_in ts n size)
