-- What a run answers, what it writes, and what an output means that begins with YES or NO.
use Rattle.std.specs.Prelude.{ℕ, ◌≡◌, ◌≤◌, ◌⊎◌, List, length, codes, Option}
use Rattle.wh_types.specs.Limits.{certificate_limit}
use Rattle.wh_io.specs.Outside.{Rose, Wrote}
use Rattle.wh_io.specs.Writing.{WroteFront}
use Rattle.wh_terms.specs.Tree.{Tm}
use Rattle.wh_terms.specs.Typing.{WellTyped}
use Rattle.wh_step.specs.Reduction.{Bounded, Unbounded}
use Rattle.wh_system.specs.Systems.{SystemData}
use Rattle.wh_read.specs.Reading.{Reads}
use Rattle.wh_cert.specs.Written.{Cert}
use Rattle.wh_cert.specs.CertText.{CertText}
use Rattle.wh_no.specs.Claim.{Claim}
use Rattle.wh_no.specs.Meaning.{Says}
use Rattle.wh_top_naming.specs.declared.status.Status.{Status}
use Rattle.wh_top_naming.specs.declared.status.Status.TheVariants.{Answered, BadWords, NoMemory, WriteFault}
use Rattle.wh_answer.specs.declared.report.Report.{Report}
use Rattle.wh_answer.specs.declared.report.Report.TheVariants as answer
use Rattle.wh_answer.specs.Texts.{line, report_text}
use Rattle.wh_top_words.specs.Words.{Bounds, Request, check, prove, show, gen, reduce, upgrade, refute, Asks}
use Rattle.wh_top_replies.specs.Words.{options_of, AsksForCertificate}
use Rattle.wh_top_judging.specs.Texts.{IsShown, Tells}
use Rattle.wh_top_judging.specs.Outcomes.{Shelves, BeginsWith, Told, ToldSystem, StandsBySystem, Stands}
use Rattle.wh_top_replies.specs.Proving.{ShowsFound, StandsForSearch}
use Rattle.wh_top_replies.specs.Generating.{ShowsGenerated, StandsForGenerated}
use Rattle.wh_top_replies.specs.Reducing.{ShowsReduced, StandsForReduction}
use Rattle.wh_top_upgrading.specs.Upgrading.{IsUpgradedIn, StandsForUpgrade}
use Rattle.wh_top_replies.specs.Refuting.{ShowsRefuted, options_with}
use Rattle.wh_top_replies.specs.Complete.{IsComplete}

-- the text shows the system in the file and its pairs
pub record Shows (s : Shelves) (file : List ℕ) (status : Status) (text : List ℕ) : Type 0 where
  pub system : ToldSystem (s.held file) (IsShown text)
  pub begins : BeginsWith (line (codes "SYSTEM")) text
  pub status_is : status ≡ Answered

-- the text is that of the certificate in the second file as one of the second version, within the limit; a check
-- accepts it for the system in the first file
pub record ShowsUpgraded (s : Shelves) (file cert : List ℕ) (status : Status) (text : List ℕ) : Type 0 where
  pub found : IsUpgradedIn s file cert text
  pub within : length text ≤ certificate_limit
  pub status_is : status ≡ Answered

-- the reply to a request: of a check its answer; of a search a proof or a loop, or why there is neither; for a system
-- to be shown its text, or why there is none; what the search comes to for a generated system; how a term reduces, or
-- why that is not told; the text of an upgraded certificate, or why there is none; and what the search for a refutation
-- comes to, or why there is no such system
abbrev pub Replies : Shelves → Request → Status → List ℕ → Type 0
Replies s (check file cert) status text = Tells (Stands s file cert) status text
Replies s (prove file b) status text = ShowsFound s file (options_of b) status text
    ⊎ Tells (StandsForSearch s file (options_of b)) status text
Replies s (show file) status text = Shows s file status text ⊎ Tells (StandsBySystem s file) status text
Replies s (gen n) status text = ShowsGenerated n status text ⊎ Tells (StandsForGenerated n) status text
Replies s (reduce file term n) status text = ShowsReduced s file term n status text ⊎ Tells (StandsForReduction s file term) status text
Replies s (upgrade file cert) status text = ShowsUpgraded s file cert status text ⊎ Tells (StandsForUpgrade s file cert) status text
Replies s (refute file n) status text = ShowsRefuted s file (options_with n) status text ⊎ Tells (StandsBySystem s file) status text

-- the words ask for something, and this is the reply; where nothing goes wrong outside, it is one that answers what is
-- asked
pub record Served (s : Shelves) (words : List (List ℕ)) (status : Status) (text : List ℕ) : Type 0 where
  pub request : Request
  pub asks : Asks words request
  pub reply : Replies s request status text
  pub complete : IsComplete s request status text

-- the words are none of the program's
pub record Misspoken (words : List (List ℕ)) (status : Status) (text : List ℕ) : Type 0 where
  pub none : (request : Request) → Asks words request → ⊥
  pub status_is : status ≡ BadWords
  pub text_is : text ≡ report_text answer.BadWords

-- there was no memory; of this alone nothing says when it comes, but that the words were good
pub record Starved (words : List (List ℕ)) (status : Status) (text : List ℕ) : Type 0 where
  pub asks : (request : Request) × Asks words request
  pub status_is : status ≡ NoMemory
  pub text_is : text ≡ report_text answer.OutOfMemory

-- a run with these words answers with this status and this text
abbrev pub Answers : Shelves → List (List ℕ) → Status → List ℕ → Type 0
Answers s words status text = Served s words status text ⊎ Misspoken words status text ⊎ Starved words status text

-- all of the text was written, and the run ends with the status; or the sink's faults rose, a front part of the text
-- was written, and the run ends with a write fault. Nothing else is written.
abbrev pub EndsWith : Option (List ℕ) → Option (List ℕ) → ℕ → ℕ → Status → List ℕ → Status → Type 0
EndsWith old new before now status text result =
    ((result ≡ status) × Wrote old new text × (now ≡ before)) ⊎ ((result ≡ WriteFault) × WroteFront old new text × Rose before now)

-- what YES means of the bytes of the system file: they are a text of one system, and each well-typed term of it has a
-- number that no reduction from it by its rules and beta exceeds in length
pub record MeansYes (system : List ℕ) : Type 0 where
  pub data_read : SystemData
  pub reads : Reads system data_read
  pub one : (other : SystemData) → Reads system other → other ≡ data_read
  pub bounded : (t : Tm) → WellTyped data_read.symbols t → Bounded data_read.rules t

-- what NO means of the bytes of a system file and of a certificate, which a file has or the output is: the first are a
-- text of one system, and the term of the certificate has reductions of every length by its rules and beta
pub record MeansNo (system cert : List ℕ) : Type 0 where
  pub data_read : SystemData
  pub reads : Reads system data_read
  pub one : (other : SystemData) → Reads system other → other ≡ data_read
  pub certificate : Cert
  pub certified : CertText cert certificate
  pub claim : Claim
  pub claims : Says data_read certificate claim
  pub unbounded : Unbounded data_read.rules claim.term

-- what a text that begins with NO says where these words ask: of a check, what NO means of the system file and the
-- certificate file; of a search or an upgrade, what it means of the system file and the text itself
abbrev pub TextSaysNo : Shelves → List (List ℕ) → List ℕ → Type 0
TextSaysNo s words text =
    ((file cert : List ℕ) × Asks words (check file cert)
    × Told (s.held file) (λ system. Told (s.held cert) (λ certificate. MeansNo system certificate)))
    ⊎ ((file : List ℕ) × AsksForCertificate words file × Told (s.held file) (λ system. MeansNo system text))

-- an output says so by the text that it is, or whose first bytes it is
abbrev pub SaysNo : Shelves → List (List ℕ) → List ℕ → Type 0
SaysNo s words output = (text : List ℕ) × BeginsWith output text × TextSaysNo s words text
