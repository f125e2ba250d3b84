-- What a value of the program stands for: tokens with the bytes that they name, and trees without pointers.
use Rattle.std.specs.Prelude.{ℕ, ◌-◌, List, [], ◌∷◌, take, drop, map}
use Rattle.wh_text.specs.Tokens.{Kind, name, keyword, dollar, percent, sign, Token, Ending, bad_byte, bad_number, name_too_long}
use Rattle.wh_text.specs.RawTree.{RTy, raw_type, RTys, no_types, more_types, Binder, named_binder, numbered_binder, RTm, named, numbered, free_variable, meta, lam, spine, RTms, none, more}
use Rattle.wh_text.specs.declared.token.Token as code
use Rattle.wh_text.specs.declared.token.TokenKind.{TokenKind}
use Rattle.wh_text.specs.declared.token.TokenKind.TheVariants.{Name, Keyword, Dollar, Percent, Sign}
use Rattle.wh_text.specs.declared.token.TextFault.{TextFault}
use Rattle.wh_text.specs.declared.token.TextFault.TheVariants.{BadByte, BadNumber, NameTooLong}
use Rattle.wh_text.specs.declared.raw.RawType.{RawType, RawType', Row_of-RawType, end_of-RawType, more_of-RawType}
use Rattle.wh_text.specs.declared.raw.RawBinder.{RawBinder}
use Rattle.wh_text.specs.declared.raw.RawBinder.TheVariants as binder
use Rattle.wh_text.specs.declared.raw.RawTerm.{RawTerm, Row_of-RawTerm, end_of-RawTerm, more_of-RawTerm}
use Rattle.wh_text.specs.declared.raw.RawTerm.TheVariants.{Named, Numbered, Free, Meta', Lam', Spine'}

-- the kind of a token that is cut from these bytes
abbrev pub kind_of : List ℕ → TokenKind → Kind
kind_of bytes Name = name bytes
kind_of bytes Keyword = keyword bytes
kind_of bytes (Dollar n) = dollar n
kind_of bytes (Percent n) = percent n
kind_of bytes Sign = sign bytes

-- the bytes of a text from one offset up to, not including, another
abbrev pub part : List ℕ → ℕ → ℕ → List ℕ
part text from to = take (to - from) (drop from text)

-- what a token stands for that was cut from the text
abbrev pub token : List ℕ → code.Token → Token
token text t = record { kind = kind_of (part text t.from t.to) t.kind; from = t.from; to = t.to }

abbrev pub tokens : List ℕ → List code.Token → List Token
tokens text = map (token text)

-- how a text with the fault ends
abbrev pub ending : TextFault → Ending
ending (BadByte at) = bad_byte at
ending (BadNumber at) = bad_number at
ending (NameTooLong at) = name_too_long at

-- the tree that a `RawType` stands for, and the trees of its arguments
abbrev mutual
  pub rty : RawType → RTy
  rty (RawType' shape all sort at) = raw_type (type_row all) sort at

  pub type_row : {m : _} → Row_of-RawType m → RTys
  type_row end_of-RawType = no_types
  type_row (more_of-RawType a rest) = more_types (rty a) (type_row rest)

-- the trees that a list of `RawType`s stands for
abbrev pub rtys : List RawType → RTys
rtys [] = no_types
rtys (a ∷ rest) = more_types (rty a) (rtys rest)

abbrev pub rbinder : RawBinder → Binder
rbinder (binder.Named x) = named_binder x
rbinder (binder.Numbered n) = numbered_binder n

-- the tree that a `RawTerm` stands for, and the trees of its arguments
abbrev mutual
  pub rtm : RawTerm → RTm
  rtm (Named x at) = named x at
  rtm (Numbered n at) = numbered n at
  rtm (Free n a at) = free_variable n (rty a.value) at
  rtm (Meta' z shape all at) = meta z (term_row all) at
  rtm (Lam' x a p t at) = lam (rbinder x) (rty a.value) (rtm t) at
  rtm (Spine' p h shape all at) = spine (rtm h) (term_row all) at

  pub term_row : {m : _} → Row_of-RawTerm m → RTms
  term_row end_of-RawTerm = none
  term_row (more_of-RawTerm t rest) = more (rtm t) (term_row rest)

-- the trees that a list of `RawTerm`s stands for
abbrev pub rtms : List RawTerm → RTms
rtms [] = none
rtms (t ∷ ts) = more (rtm t) (rtms ts)
