-- What the cutting of a text finds: in all, and at one offset (ours).
use Rattle.std.specs.Prelude.{ℕ, ◌≡◌, ◌<◌, ◌≤◌, List, [], ◌∷◌, length, drop}
use Rattle.wh_text.specs.Tokens.{Token, Ending, whole, Cuts}
use Rattle.wh_text.specs.Erase.{token, tokens, ending}
use Rattle.wh_text.specs.declared.token.Token as code
use Rattle.wh_text.specs.declared.token.TextFault.{TextFault}
use Rattle.wh_text.specs.declared.cut.Piece.{Piece}
use Rattle.wh_text.specs.declared.cut.Piece.TheVariants.{Gap, Cut}

-- all of the text is cut, into these tokens
abbrev pub IsCutInto : List ℕ → List code.Token → Type 0
IsCutInto text ts = Cuts 0 text (tokens text ts) whole

-- behind the tokens before it the text has this fault
abbrev pub HasFault : List ℕ → TextFault → Type 0
HasFault text fault = (before : List Token) × Cuts 0 text before (ending fault)

-- nothing is cut from `at` up to `to`: what is cut from there on is what is cut from `at` on
pub record IsGap (text : List ℕ) (at to : ℕ) : Type 0 where
  pub forward : at < to
  pub within : to ≤ length text
  pub joins : (us : List Token) (e : Ending) → Cuts to (drop to text) us e → Cuts at (drop at text) us e

-- the token stands at `at`: it and what is cut behind it are what is cut from `at` on
pub record StandsAt (text : List ℕ) (at : ℕ) (t : code.Token) : Type 0 where
  pub from : t.from ≡ at
  pub forward : at < t.to
  pub within : t.to ≤ length text
  pub joins : (us : List Token) (e : Ending) → Cuts t.to (drop t.to text) us e → Cuts at (drop at text) (token text t ∷ us) e

-- the text from `at` on has a fault before its first token
abbrev pub FaultAt : List ℕ → ℕ → TextFault → Type 0
FaultAt text at fault = Cuts at (drop at text) [] (ending fault)

abbrev pub IsPiece : List ℕ → ℕ → Piece → Type 0
IsPiece text at (Gap to) = IsGap text at to
IsPiece text at (Cut t) = StandsAt text at t
