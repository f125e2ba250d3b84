-- What reading a text gives: a system, or why the text is refused.
use Rattle.std.specs.Prelude.{ℕ, ◌≡◌, ◌⊎◌, List, None, Some, length, map}
use Rattle.wh_text.specs.Tokens.{Token, whole, Cuts}
use Rattle.wh_text.specs.Pieces.{HasFault}
use Rattle.wh_text.specs.declared.token.TextFault.{TextFault}
use Rattle.wh_text.specs.declared.token.TextFault.TheVariants as text_fault
use Rattle.wh_system_parts.specs.Parts.{RParts}
use Rattle.wh_system_parts.specs.RuleTests.{refusal}
use Rattle.wh_system_parts.specs.declared.fault.SystemFault.{SystemFault}
use Rattle.wh_system_parts.specs.declared.fault.SystemFault.TheVariants as system_fault
use Rattle.wh_system.specs.Systems.{SystemData}
use Rattle.wh_system_making.specs.Says.{Says}
use Rattle.wh_read.specs.Spelled.{placed}
use Rattle.wh_read.specs.Parsing.{Parses}
use Rattle.wh_read.specs.SyntaxFaults.{HasSyntaxFault}
use Rattle.wh_read.specs.declared.fault.SyntaxFault.{SyntaxFault}
use Rattle.wh_read.specs.declared.fault.SyntaxFault.TheVariants as syntax_fault
use Rattle.wh_read.specs.declared.reasons.Reason.TheVariants.{BadByte, BadNumber, NameTooLong, Syntax, UnknownName, Twice, IllTyped, NotPattern, OpenSide, NewMeta, HeadNotFun, UnevenRules, TooMany}
use Rattle.wh_read.specs.declared.reasons.Refused.{Refused}

-- the bytes are cut into tokens that spell a system text, and what that says passes the tests of systems and is the
-- system
pub record Reads (bytes : List ℕ) (d : SystemData) : Type 0 where
  pub tokens : List Token
  pub cut : Cuts 0 bytes tokens whole
  pub parts : RParts
  pub parses : Parses (map placed tokens) parts
  pub passes : refusal parts ≡ None
  pub says : Says parts d

-- the reason that each fault is
abbrev pub text_refused : TextFault → Refused
text_refused (text_fault.BadByte at) = record { reason = BadByte; at = at }
text_refused (text_fault.BadNumber at) = record { reason = BadNumber; at = at }
text_refused (text_fault.NameTooLong at) = record { reason = NameTooLong; at = at }

abbrev pub syntax_refused : SyntaxFault → Refused
syntax_refused (syntax_fault.Syntax at) = record { reason = Syntax; at = at }
syntax_refused (syntax_fault.TooMany at) = record { reason = TooMany; at = at }

abbrev pub system_refused : SystemFault → Refused
system_refused (system_fault.UnknownName at) = record { reason = UnknownName; at = at }
system_refused (system_fault.Twice at) = record { reason = Twice; at = at }
system_refused (system_fault.IllTyped at) = record { reason = IllTyped; at = at }
system_refused (system_fault.NotPattern at) = record { reason = NotPattern; at = at }
system_refused (system_fault.OpenSide at) = record { reason = OpenSide; at = at }
system_refused (system_fault.NewMeta at) = record { reason = NewMeta; at = at }
system_refused (system_fault.HeadNotFun at) = record { reason = HeadNotFun; at = at }
system_refused (system_fault.UnevenRules at) = record { reason = UnevenRules; at = at }
system_refused (system_fault.TooMany at) = record { reason = TooMany; at = at }

-- the first fault in the bytes is one of tokens
pub record BadText (bytes : List ℕ) (refused : Refused) : Type 0 where
  pub fault : TextFault
  pub has : HasFault bytes fault
  pub is : refused ≡ text_refused fault

-- the bytes are cut into tokens, and those are no system text, or nest too deep
pub record BadSyntax (bytes : List ℕ) (refused : Refused) : Type 0 where
  pub tokens : List Token
  pub cut : Cuts 0 bytes tokens whole
  pub fault : SyntaxFault
  pub has : HasSyntaxFault (map placed tokens) (length bytes) fault
  pub is : refused ≡ syntax_refused fault

-- the bytes spell a system text, and what it says fails a test of systems, this one first
pub record BadParts (bytes : List ℕ) (refused : Refused) : Type 0 where
  pub tokens : List Token
  pub cut : Cuts 0 bytes tokens whole
  pub parts : RParts
  pub parses : Parses (map placed tokens) parts
  pub fault : SystemFault
  pub has : refusal parts ≡ Some fault
  pub is : refused ≡ system_refused fault

-- the text is refused for its first reason: one of tokens before one of the grammar before one of systems
abbrev pub Refuses : List ℕ → Refused → Type 0
Refuses bytes refused = BadText bytes refused ⊎ BadSyntax bytes refused ⊎ BadParts bytes refused
