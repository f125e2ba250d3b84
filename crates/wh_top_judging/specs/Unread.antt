-- The answers where a file was not read, or is not the text of a system or a certificate.
use Rattle.std.specs.Prelude.{ℕ, ◌≡◌, ◌<◌, List, length, Option}
use Rattle.wh_types.specs.Limits.{certificate_limit}
use Rattle.wh_types.specs.declared.want.Or.{Or}
use Rattle.wh_types.specs.declared.want.Or.TheVariants.{NoMemory, Because}
use Rattle.wh_io.specs.Outside.{Rose}
use Rattle.wh_read.specs.declared.reasons.Refused as refusal
use Rattle.wh_answer.specs.declared.report.Role.TheVariants.{Certificate}
use Rattle.wh_answer.specs.declared.report.Report.{Report}
use Rattle.wh_answer.specs.declared.report.Report.TheVariants.{Refused, ReadFault, TooLong}
use Rattle.wh_top_naming.specs.Rows.{reason_of}
use Rattle.wh_top_judging.specs.Outcomes.{Told}

-- the outcome that a refusal of a system gives
abbrev pub RefusedBy : Or refusal.Refused → Or Report → Type 0
RefusedBy NoMemory o = o ≡ NoMemory
RefusedBy (Because r) o = o ≡ Because (Refused (reason_of r.reason) r.at)

-- when the outcomes come that reading the certificate file decides
abbrev pub CertificateFault : Option (List ℕ) → ℕ → ℕ → Report → Type 0
CertificateFault held before after (ReadFault Certificate) = Rose before after
CertificateFault held before after (TooLong Certificate) = Told held (λ bytes. certificate_limit < length bytes)
CertificateFault held before after _ = ⊥
