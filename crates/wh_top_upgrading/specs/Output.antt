-- The text of a certificate as an output, within the limit of outputs.
use Rattle.std.specs.Prelude.{ℕ, ◌≤◌, ◌<◌, List, length, Result, Ok, Err}
use Rattle.wh_types.specs.Limits.{certificate_limit}
use Rattle.wh_types.specs.declared.want.Or.{Or}
use Rattle.wh_types.specs.declared.want.Or.TheVariants.{NoMemory, Because}
use Rattle.wh_cert.specs.Written.{Cert}
use Rattle.wh_cert.specs.CertText.{CertText}
use Rattle.wh_answer.specs.declared.report.Role.TheVariants.{Output}
use Rattle.wh_answer.specs.declared.report.Report.{Report}
use Rattle.wh_answer.specs.declared.report.Report.TheVariants.{TooLong}

-- the text of the certificate, within the limit; or that it is too long
abbrev pub IsTextOf : Cert → Result (List ℕ) (Or Report) → Type 0
IsTextOf c (Ok bytes) = CertText bytes c × (length bytes ≤ certificate_limit)
IsTextOf c (Err NoMemory) = Unit {0}
IsTextOf c (Err (Because (TooLong Output))) = (bytes : List ℕ) × CertText bytes c × (certificate_limit < length bytes)
IsTextOf c (Err (Because _)) = ⊥
