-- What a search for a proof of termination or for a loop answers.
use Rattle.std.specs.Prelude.{ℕ, ◌≡◌, ◌≤◌, ◌<◌, ◌⊎◌, List, All, length, codes}
use Rattle.wh_types.specs.Limits.{certificate_limit}
use Rattle.wh_system.specs.Systems.{SystemData}
use Rattle.wh_pairs.specs.PairData.{PairData}
use Rattle.wh_access.specs.declared.find.NoRanks.TheVariants as ranks
use Rattle.wh_cert.specs.Written.{Cert}
use Rattle.wh_cert.specs.CertText.{CertText}
use Rattle.wh_prover.specs.Answers.{IsProof, IsLoopProof, IsReason}
use Rattle.wh_prover.specs.declared.answer.Options.{Options}
use Rattle.wh_prover.specs.declared.answer.Cause.{Cause}
use Rattle.wh_prover.specs.declared.answer.Cause.TheVariants as cause
use Rattle.wh_checker.specs.Named.{HasMeta}
use Rattle.wh_answer.specs.declared.report.Role.TheVariants.{Output}
use Rattle.wh_answer.specs.declared.report.Report.{Report}
use Rattle.wh_answer.specs.declared.report.Report.TheVariants.{Maybe, TooLong}
use Rattle.wh_top_naming.specs.declared.status.Status.{Status}
use Rattle.wh_top_naming.specs.declared.status.Status.TheVariants.{Answered}
use Rattle.wh_top_replies.specs.Causes.{named_cause}
use Rattle.wh_top_judging.specs.Outcomes.{Shelves, BeginsWith, ToldSystem, StandsBySystem}

-- the text is that of a certificate that proves termination
abbrev pub IsProofText : SystemData → List PairData → List ℕ → Type 0
IsProofText d ps text = (c : Cert) × IsProof d ps c × CertText text c

-- the text is that of the certificate of a loop of at most `depth` steps
abbrev pub IsLoopText : SystemData → ℕ → List ℕ → Type 0
IsLoopText d depth text = (c : Cert) × IsLoopProof d depth c × CertText text c

-- the text is that of one or the other
abbrev pub IsFoundText : SystemData → List PairData → Options → List ℕ → Type 0
IsFoundText d ps o text = (IsProofText d ps text × BeginsWith (codes "YES ") text)
    ⊎ (IsLoopText d o.depth text × BeginsWith (codes "NO 1") text)

-- why there is none: nothing was found, for a reason; or the text of what was found is too long
abbrev pub IsNotFound : SystemData → List PairData → Options → Report → Type 0
IsNotFound d ps o (Maybe named) = (c : Cause) × IsReason d ps o c × (named ≡ named_cause d c)
IsNotFound d ps o (TooLong Output) = (text : List ℕ) × IsFoundText d ps o text × (certificate_limit < length text)
IsNotFound d ps o _ = ⊥

-- the text is that of a proof or of a loop for the system in the file, within the limit
pub record ShowsFound (s : Shelves) (file : List ℕ) (o : Options) (status : Status) (text : List ℕ) : Type 0 where
  pub found : ToldSystem (s.held file) (λ d ps. IsFoundText d ps o text)
  pub begins : BeginsWith (codes "YES ") text ⊎ BeginsWith (codes "NO 1") text
  pub within : length text ≤ certificate_limit
  pub status_is : status ≡ Answered

-- when the answers of one line come: why there is no such text; or what the system file alone decides
abbrev pub StandsForSearch : Shelves → List ℕ → Options → Report → Type 0
StandsForSearch s file o (Maybe named) = ToldSystem (s.held file) (λ d ps. IsNotFound d ps o (Maybe named))
StandsForSearch s file o (TooLong Output) = ToldSystem (s.held file) (λ d ps. IsNotFound d ps o (TooLong Output))
StandsForSearch s file o report = StandsBySystem s file report

-- the sorts and the meta-variable that a cause names are there
abbrev pub CauseIsThere : SystemData → Cause → Type 0
CauseIsThere d (cause.NoRanks (ranks.Unread r z)) = HasMeta d r z
CauseIsThere d (cause.NoRanks (ranks.Cycle sorts)) = All (λ s. s < length d.sort_names) sorts
CauseIsThere d _ = Unit {0}
