-- When each answer of a run comes, told by the bytes of the two files.
use Rattle.std.specs.Prelude.{ℕ, ◌≡◌, ◌<◌, ◌≤◌, List, ◌++◌, length, Option, Some}
use Rattle.wh_types.specs.Limits.{system_limit, certificate_limit}
use Rattle.wh_io.specs.Outside.{Rose}
use Rattle.wh_types.specs.declared.want.Or.{Or}
use Rattle.wh_types.specs.declared.want.Or.TheVariants.{NoMemory, Because}
use Rattle.wh_io.specs.declared.read.ReadFault as read
use Rattle.wh_io.specs.declared.read.ReadFault.TheVariants as faults
use Rattle.wh_system.specs.Systems.{SystemData}
use Rattle.wh_pairs.specs.PairData.{PairData}
use Rattle.wh_pairs.specs.SystemPairs.{HasPairs, HasTooManyPairs}
use Rattle.wh_read.specs.Reading.{Reads, Refuses}
use Rattle.wh_cert.specs.Written.{Cert, yes, no}
use Rattle.wh_cert.specs.CertText.{CertText, FaultAt}
use Rattle.wh_proof.specs.Valid.{IsValidCert, IsSmallCert}
use Rattle.wh_checker.specs.Faults.{IsFirstFault}
use Rattle.wh_checker.specs.declared.rejected.Rejected as conditions
use Rattle.wh_checker.specs.declared.rejected.CheckFault.TheVariants as check
use Rattle.wh_polycheck.specs.Small.{with_limits}
use Rattle.wh_read.specs.declared.reasons.Refused as refusal
use Rattle.wh_answer.specs.declared.report.Role.{Role}
use Rattle.wh_answer.specs.declared.report.Role.TheVariants.{System, Certificate}
use Rattle.wh_answer.specs.declared.report.ReasonWord.{ReasonWord}
use Rattle.wh_answer.specs.declared.report.ReasonWord.TheVariants as reason
use Rattle.wh_answer.specs.declared.report.NamedRejection.{NamedRejection}
use Rattle.wh_answer.specs.declared.report.NamedRejection.TheVariants.{Syntax}
use Rattle.wh_answer.specs.declared.report.Report.{Report}
use Rattle.wh_answer.specs.declared.report.Report.TheVariants.{Yes, No, Rejected, Refused, ReadFault, TooLong, Overflow, TooLarge}
use Rattle.wh_top_naming.specs.Rows.{named_row, reason_of}

-- the outside of a run: what the shelf tells of each file's bytes, and each file's faults before and after the run
pub record Shelves : Type 0 where
  pub held : List ℕ → Option (List ℕ)
  pub before : List ℕ → ℕ
  pub after : List ℕ → ℕ

-- P of the bytes of the file, where they are told
abbrev pub Told : Option (List ℕ) → (List ℕ → Type 0) → Type 0
Told held P = (bytes : List ℕ) → held ≡ Some bytes → P bytes

-- the bytes are those of the file, within the limit
abbrev pub AreWithin : ℕ → List ℕ → List ℕ → Type 0
AreWithin limit bytes held = (bytes ≡ held) × (length held ≤ limit)

-- d is the system of which the file is a text, within its limit
abbrev pub IsSystemIn : Option (List ℕ) → SystemData → Type 0
IsSystemIn held d = Told held (λ bytes. (length bytes ≤ system_limit) × Reads bytes d)

-- d is the system of which the file is a text, within its limit, and these are its pairs
abbrev pub IsProblemIn : Option (List ℕ) → SystemData → List PairData → Type 0
IsProblemIn held d ps = IsSystemIn held d × HasPairs d ps

-- the file is a text of a system of which P holds
abbrev pub ToldText : Option (List ℕ) → (SystemData → Type 0) → Type 0
ToldText held P = Told held (λ bytes. (length bytes ≤ system_limit) × (d : SystemData) × Reads bytes d × P d)

-- the file is a text of a system with few enough pairs, and P holds of the system and its pairs
abbrev pub ToldSystem : Option (List ℕ) → (SystemData → List PairData → Type 0) → Type 0
ToldSystem held P =
    Told held (λ bytes. (length bytes ≤ system_limit) × (d : SystemData) × (ps : List PairData) × Reads bytes d × HasPairs d ps × P d ps)

-- the text begins with these bytes
abbrev pub BeginsWith : List ℕ → List ℕ → Type 0
BeginsWith front text = (rest : List ℕ) × (text ≡ front ++ rest)

-- the certificate is one of termination
abbrev pub IsYes : Cert → Type 0
IsYes (yes version ranks pairs nodes) = Unit {0}
IsYes (no term steps at puts) = ⊥

-- the certificate is one of non-termination
abbrev pub IsNo : Cert → Type 0
IsNo (yes version ranks pairs nodes) = ⊥
IsNo (no term steps at puts) = Unit {0}

-- the named rejection is the first condition that is false of the certificate, and no value exceeds a limit before
abbrev pub IsRejectedFor : SystemData → List PairData → Cert → NamedRejection → Type 0
IsRejectedFor d ps c named = (r : conditions.Rejected) × IsFirstFault with_limits d ps c (check.Rejected r) × (named ≡ named_row d r)

-- what a certificate that was read comes to, for a system with its pairs: it is valid, and no value exceeds a limit; or
-- what is wrong first with it, or exceeds a limit first
abbrev pub Weighed : SystemData → List PairData → Cert → Report → Type 0
Weighed d ps c Yes = IsYes c × IsValidCert d ps c × IsSmallCert d ps c
Weighed d ps c No = IsNo c × IsValidCert d ps c
Weighed d ps c (Rejected named) = IsRejectedFor d ps c named
Weighed d ps c (Overflow k) = IsFirstFault with_limits d ps c (check.Overflow k)
Weighed d ps c (TooLarge k) = IsFirstFault with_limits d ps c (check.TooLarge k)
Weighed d ps c _ = ⊥

-- what the bytes of the certificate come to, for a system with its pairs: they are no certificate text, or they are the
-- text of a certificate that comes to this
abbrev pub Judged : SystemData → List PairData → List ℕ → Report → Type 0
Judged d ps bytes (Rejected (Syntax at)) = FaultAt bytes at
Judged d ps bytes o = (c : Cert) × CertText bytes c × Weighed d ps c o

-- why there is no system in the file: its bytes are no text of one; of pairs nothing is said
abbrev pub IsRefusedText : Option (List ℕ) → ReasonWord → ℕ → Type 0
IsRefusedText held reason.TooManyPairs at = ⊥
IsRefusedText held word at =
    Told held (λ bytes. (length bytes ≤ system_limit) × (r : refusal.Refused) × (word ≡ reason_of r.reason) × (at ≡ r.at) × Refuses bytes r)

-- why there is no system with few enough pairs in it: its bytes are no text of one, or the system has too many pairs
abbrev pub IsRefusedFor : Option (List ℕ) → ReasonWord → ℕ → Type 0
IsRefusedFor held reason.TooManyPairs at =
    (at ≡ 0) × Told held (λ bytes. (length bytes ≤ system_limit) × (d : SystemData) × Reads bytes d × HasTooManyPairs d)
IsRefusedFor held word at = IsRefusedText held word at

-- when the answers come that the system file alone decides before its pairs are asked for: its fault, then its length,
-- then why it is no system
abbrev pub StandsByText : Shelves → List ℕ → Report → Type 0
StandsByText s file (ReadFault System) = Rose (s.before file) (s.after file)
StandsByText s file (TooLong System) = Told (s.held file) (λ bytes. system_limit < length bytes)
StandsByText s file (Refused word at) = IsRefusedText (s.held file) word at
StandsByText s file _ = ⊥

-- when the answers come that it alone decides: these, then that the system has too many pairs
abbrev pub StandsBySystem : Shelves → List ℕ → Report → Type 0
StandsBySystem s file (Refused word at) = IsRefusedFor (s.held file) word at
StandsBySystem s file o = StandsByText s file o

-- P holds of a certificate, whose text the file is where its bytes are told
abbrev pub Certified : Option (List ℕ) → (Cert → Type 0) → Type 0
Certified held P = (c : Cert) × P c × Told held (λ bytes. (length bytes ≤ certificate_limit) × CertText bytes c)

-- what is said of the bytes of the certificate's file, where they are told
abbrev pub ToldCert : Option (List ℕ) → (List ℕ → Type 0) → Type 0
ToldCert held P = Told held (λ bytes. (length bytes ≤ certificate_limit) × P bytes)

-- what the check of the certificate in that file comes to, for a system with its pairs. That there is a certificate,
-- and what is said of it, does not ask that the file's bytes are told.
abbrev pub Checked : Option (List ℕ) → SystemData → List PairData → Report → Type 0
Checked held d ps (Rejected (Syntax at)) = ToldCert held (λ bytes. FaultAt bytes at)
Checked held d ps o = Certified held (λ c. Weighed d ps c o)

-- when the answer to a check of these two files comes. All that the system file decides comes before the certificate's
-- read fault, that before its length, and this before what its bytes come to.
abbrev pub Stands : Shelves → List ℕ → List ℕ → Report → Type 0
Stands s file cert (ReadFault Certificate) = Rose (s.before cert) (s.after cert) × ToldSystem (s.held file) (λ d ps. Unit {0})
Stands s file cert (TooLong Certificate) =
    Told (s.held cert) (λ bytes. certificate_limit < length bytes) × ToldSystem (s.held file) (λ d ps. Unit {0})
Stands s file cert Yes = ToldSystem (s.held file) (λ d ps. Checked (s.held cert) d ps Yes)
Stands s file cert No = ToldSystem (s.held file) (λ d ps. Checked (s.held cert) d ps No)
Stands s file cert (Rejected named) = ToldSystem (s.held file) (λ d ps. Checked (s.held cert) d ps (Rejected named))
Stands s file cert (Overflow k) = ToldSystem (s.held file) (λ d ps. Checked (s.held cert) d ps (Overflow k))
Stands s file cert (TooLarge k) = ToldSystem (s.held file) (λ d ps. Checked (s.held cert) d ps (TooLarge k))
Stands s file cert o = StandsBySystem s file o

-- the answer that a file's read fault gives
abbrev pub UnreadBy : Or read.ReadFault → Role → Or Report → Type 0
UnreadBy NoMemory role o = o ≡ NoMemory
UnreadBy (Because faults.Failed) role o = o ≡ Because (ReadFault role)
UnreadBy (Because faults.TooLong) role o = o ≡ Because (TooLong role)

-- the outside of a run, by what the shelf tells and the faults before and after
abbrev pub outside : (List ℕ → Option (List ℕ)) → (List ℕ → ℕ) → (List ℕ → ℕ) → Shelves
outside held before after = record { held = held; before = before; after = after }
