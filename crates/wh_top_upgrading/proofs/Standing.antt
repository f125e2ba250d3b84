-- What comes of two files of which the certificate is to be upgraded, for all that is told of them.
use Rattle.std.proofs.Common.{◌≡◌, ℕ, ◌≤◌, List, Option, Result, Ok, Err, subst}
use Rattle.wh_types.specs.Limits.{certificate_limit}
use Rattle.wh_types.specs.Outcome.{MatchOr}
use Rattle.wh_types.specs.declared.want.Or.{Or}
use Rattle.wh_types.specs.declared.want.Or.TheVariants.{NoMemory, Because}
use Rattle.wh_system.specs.Systems.{SystemData}
use Rattle.wh_pairs.specs.PairData.{PairData}
use Rattle.wh_cert.specs.Written.{Cert}
use Rattle.wh_cert.specs.CertText.{CertText}
use Rattle.wh_answer.specs.declared.report.Role.TheVariants.{Certificate, Output}
use Rattle.wh_answer.specs.declared.report.NamedRejection.TheVariants.{Syntax}
use Rattle.wh_answer.specs.declared.report.Report.{Report}
use Rattle.wh_answer.specs.declared.report.Report.TheVariants.{Yes, No, Rejected, ReadFault, TooLong}
use Rattle.wh_top_judging.specs.Outcomes.{Shelves, Told, AreWithin, IsProblemIn, Certified}
use Rattle.wh_top_judging.specs.Unread.{CertificateFault}
use Rattle.wh_top_judging.proofs.Standing.{told_with, judged_stands, certificate_stands}
use Rattle.wh_top_upgrading.specs.Upgrading.{IsUpgradedText, IsNotUpgradedFor, IsNotUpgraded, IsUpgradedIn, StandsForUpgrade}

-- P holds of the certificate of which the bytes of the file are the text
certified : (held : Option (List ℕ)) (bytes : List ℕ) (P : Cert → Type 0) → Told held (AreWithin certificate_limit bytes)
    → (c : Cert) × CertText bytes c × P c → Certified held P
certified held bytes P is (c, text, p) = (c, p, λ b h. ((is b h).1, subst (λ x. CertText x c) (is b h).0 text))

-- the text of the upgraded certificate, or why there is none
pub upgrade_stands : (s : Shelves) (file cert : List ℕ) (d : SystemData) (ps : List PairData) (bytes : List ℕ) (r : Result (List ℕ) (Or Report))
    → IsProblemIn (s.held file) d ps → Told (s.held cert) (AreWithin certificate_limit bytes)
    → MatchOr r (λ text. (c : Cert) × CertText bytes c × IsUpgradedText d ps c text) (IsNotUpgraded d ps bytes)
    → MatchOr r (IsUpgradedIn s file cert) (StandsForUpgrade s file cert)
upgrade_stands s file cert d ps bytes (Ok text) is of_cert made =
    told_with (s.held file) d ps (λ e es. Certified (s.held cert) (λ c. IsUpgradedText e es c text)) is
    (certified (s.held cert) bytes (λ c. IsUpgradedText d ps c text) of_cert made)
upgrade_stands s file cert d ps bytes (Err NoMemory) is of_cert made = tt
upgrade_stands s file cert d ps bytes (Err (Because o)) is of_cert none = by o none
  where
    by : (o : Report) → IsNotUpgraded d ps bytes o → StandsForUpgrade s file cert o
    by (Rejected (Syntax at)) fault = judged_stands s file cert d ps bytes (Rejected (Syntax at)) is of_cert fault
    by Yes none = absurd none.2
    by No none = absurd none.2
    by (TooLong Output) none =
        told_with (s.held file) d ps (λ e es. Certified (s.held cert) (λ c. IsNotUpgradedFor e es c (TooLong Output))) is
        (certified (s.held cert) bytes (λ c. IsNotUpgradedFor d ps c (TooLong Output)) of_cert none)
    by o weighed = judged_stands s file cert d ps bytes o is of_cert weighed

-- so does a fault of the certificate's file
pub fault_upgrade : (s : Shelves) (file cert : List ℕ) (d : SystemData) (ps : List PairData) (held : Option (List ℕ)) (mid : ℕ) (o : Report)
    → IsProblemIn (s.held file) d ps → held ≡ s.held cert → s.before cert ≤ mid → CertificateFault held mid (s.after cert) o
    → StandsForUpgrade s file cert o
fault_upgrade s file cert d ps held mid (ReadFault Certificate) is same low fault =
    certificate_stands s file cert d ps held mid (ReadFault Certificate) is same low fault
fault_upgrade s file cert d ps held mid (TooLong Certificate) is same low fault =
    certificate_stands s file cert d ps held mid (TooLong Certificate) is same low fault
fault_upgrade s file cert d ps held mid o is same low fault = absurd fault
