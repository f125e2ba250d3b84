-- What is answered where the certificate in a file is to be written in the second version of the format.
use Rattle.std.specs.Prelude.{ℕ, ◌<◌, ◌⊎◌, List, length}
use Rattle.wh_types.specs.Limits.{certificate_limit}
use Rattle.wh_system.specs.Systems.{SystemData}
use Rattle.wh_pairs.specs.PairData.{PairData}
use Rattle.wh_cert.specs.Written.{Cert}
use Rattle.wh_cert.specs.CertText.{CertText, FaultAt}
use Rattle.wh_cert_upgrade.specs.Upgraded.{upgraded}
use Rattle.wh_answer.specs.declared.report.Role.TheVariants.{Output}
use Rattle.wh_answer.specs.declared.report.NamedRejection.TheVariants.{Syntax}
use Rattle.wh_answer.specs.declared.report.Report.{Report}
use Rattle.wh_answer.specs.declared.report.Report.TheVariants.{Yes, No, Rejected, TooLong}
use Rattle.wh_top_judging.specs.Outcomes.{Shelves, ToldSystem, Certified, Weighed, Stands}

-- a check accepts the certificate
abbrev pub IsAccepted : SystemData → List PairData → Cert → Type 0
IsAccepted d ps c = Weighed d ps c Yes ⊎ Weighed d ps c No

-- a check accepts the certificate, and the text is that of the upgraded one
abbrev pub IsUpgradedText : SystemData → List PairData → Cert → List ℕ → Type 0
IsUpgradedText d ps c text = IsAccepted d ps c × CertText text (upgraded (length d.rules) c)

-- why there is no such text for a certificate: its text is too long; or what is wrong first with it, or exceeds a limit
-- first
abbrev pub IsNotUpgradedFor : SystemData → List PairData → Cert → Report → Type 0
IsNotUpgradedFor d ps c Yes = ⊥
IsNotUpgradedFor d ps c No = ⊥
IsNotUpgradedFor d ps c (TooLong Output) = (text : List ℕ) × IsUpgradedText d ps c text × (certificate_limit < length text)
IsNotUpgradedFor d ps c o = Weighed d ps c o

-- the report says why the certificate with these bytes is not upgraded
abbrev pub IsNotUpgraded : SystemData → List PairData → List ℕ → Report → Type 0
IsNotUpgraded d ps bytes (Rejected (Syntax at)) = FaultAt bytes at
IsNotUpgraded d ps bytes o = (c : Cert) × CertText bytes c × IsNotUpgradedFor d ps c o

-- the system in the first file and the certificate in the second one have this text as that of the upgraded certificate
abbrev pub IsUpgradedIn : Shelves → List ℕ → List ℕ → List ℕ → Type 0
IsUpgradedIn s file cert text = ToldSystem (s.held file) (λ d ps. Certified (s.held cert) (λ c. IsUpgradedText d ps c text))

-- when the answers of one line come: the text is too long; or as in a check of the two files, which does not accept
abbrev pub StandsForUpgrade : Shelves → List ℕ → List ℕ → Report → Type 0
StandsForUpgrade s file cert Yes = ⊥
StandsForUpgrade s file cert No = ⊥
StandsForUpgrade s file cert (TooLong Output) =
    ToldSystem (s.held file) (λ d ps. Certified (s.held cert) (λ c. IsNotUpgradedFor d ps c (TooLong Output)))
StandsForUpgrade s file cert o = Stands s file cert o
