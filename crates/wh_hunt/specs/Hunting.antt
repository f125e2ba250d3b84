-- What a hunt answers, and what an output of it means that begins with YES or NO.
use Rattle.std.specs.Prelude.{ℕ, ◌≡◌, ◌<◌, ◌⊎◌, ◌++◌, Bool, true, false, List, ◌∷◌, [], codes}
use Rattle.std.specs.Fmt.{decimal}
use Rattle.wh_system.specs.Systems.{SystemData}
use Rattle.wh_pairs.specs.PairData.{PairData}
use Rattle.wh_cert.specs.Written.{Cert}
use Rattle.wh_cert.specs.CertText.{CertText}
use Rattle.wh_proof.specs.Valid.{IsValidCert}
use Rattle.wh_prover.specs.declared.answer.Options.{Options}
use Rattle.wh_answer.specs.Texts.{report_text}
use Rattle.wh_answer.specs.declared.report.Report.{Report}
use Rattle.wh_answer.specs.declared.report.Report.TheVariants as answer
use Rattle.wh_top_naming.specs.Status.{status_of}
use Rattle.wh_top_naming.specs.declared.status.Status.{Status}
use Rattle.wh_top_naming.specs.declared.status.Status.TheVariants.{Answered, BadWords, NoMemory}
use Rattle.wh_top_judging.specs.Outcomes.{Shelves, BeginsWith, IsNo, Told, ToldSystem}
use Rattle.wh_top_replies.specs.Proving.{IsFoundText, StandsForSearch}
use Rattle.wh_top_replies.specs.Run.{MeansNo}
use Rattle.wh_hunt_words.specs.Words.{AsksHunt}

-- the bounds of the search that follows the hunt for loops: the usual ones of `prove`
abbrev pub usual_options : Options
usual_options = record { tries = 10000; depth = 6; visited = 500 }

-- the text is that of a valid certificate of non-termination
abbrev pub IsLoopOf : SystemData → List PairData → List ℕ → Type 0
IsLoopOf d ps text = (c : Cert) × IsNo c × CertText text c × IsValidCert d ps c

-- the text is that of a loop, or what the search of `prove` finds
abbrev pub IsHunted : SystemData → List PairData → List ℕ → Type 0
IsHunted d ps text = (IsLoopOf d ps text × BeginsWith (codes "NO") text) ⊎ IsFoundText d ps usual_options text

-- the line behind a MAYBE: how much work the hunt for loops did, less than it might where it had nothing left to do, and
-- else all of it
abbrev pub hunted_line : ℕ → List ℕ → List ℕ
hunted_line done word = codes "hunted loops " ++ (decimal done ++ 32 ∷ (word ++ 10 ∷ []))

pub data IsEndOf (work : ℕ) : List ℕ → Type 0 where
  exhausted : (done : ℕ) → done < work → IsEndOf work (hunted_line done (codes "exhausted"))
  spent : IsEndOf work (hunted_line work (codes "spent"))

-- how many certificates that the hunt found were refused by the check
abbrev pub refused_line : ℕ → List ℕ
refused_line refused = codes "hunted refused " ++ (decimal refused ++ 10 ∷ [])

-- what stands behind a MAYBE: how the hunt ended, and how many certificates were refused, where this is told
abbrev pub IsEndTold : ℕ → Bool → List ℕ → Type 0
IsEndTold work false more = IsEndOf work more
IsEndTold work true more = (line : List ℕ) × (refused : ℕ) × IsEndOf work line × (more ≡ line ++ refused_line refused)

-- what stands behind the line of an answer: behind MAYBE how the hunt ended, and else nothing
abbrev pub IsBehind : ℕ → Bool → Report → List ℕ → Type 0
IsBehind work counts (answer.Maybe cause) more = IsEndTold work counts more
IsBehind work counts report more = more ≡ []

-- the text tells the answer and what stands behind it
abbrev pub IsTold : ℕ → Bool → Report → List ℕ → Type 0
IsTold work counts report text = (more : List ℕ) × IsBehind work counts report more × (text ≡ report_text report ++ more)

-- status and text tell an answer of the search, as `prove` would, and how the hunt ended
pub record TellsHunted (s : Shelves) (file : List ℕ) (work : ℕ) (counts : Bool) (status : Status) (text : List ℕ) : Type 0 where
  pub report : Report
  pub stands : StandsForSearch s file usual_options report
  pub status_is : status ≡ status_of report
  pub told : IsTold work counts report text

-- the reply to a hunt: what was found, or an answer
abbrev pub Hunts : Shelves → List ℕ → ℕ → Bool → Status → List ℕ → Type 0
Hunts s file work counts status text =
    (ToldSystem (s.held file) (λ d ps. IsHunted d ps text) × (status ≡ Answered)) ⊎ TellsHunted s file work counts status text

-- a run with these words answers with this status and this text: the reply to a hunt; that the words are none of the
-- program's; or want of memory
pub data Answers (s : Shelves) (words : List (List ℕ)) (status : Status) (text : List ℕ) : Type 0 where
  served : (file : List ℕ) (work : ℕ) (counts : Bool) → AsksHunt words file work counts → Hunts s file work counts status text
      → Answers s words status text
  misspoken : ((file : List ℕ) (work : ℕ) (counts : Bool) → AsksHunt words file work counts → ⊥) → status ≡ BadWords
      → text ≡ report_text answer.BadWords → Answers s words status text
  starved : (file : List ℕ) (work : ℕ) (counts : Bool) → AsksHunt words file work counts → status ≡ NoMemory
      → text ≡ report_text answer.OutOfMemory → Answers s words status text

-- the words ask for a hunt on a file, and P holds of its bytes, where they are told
abbrev pub Asked : Shelves → List (List ℕ) → (List ℕ → Type 0) → Type 0
Asked s words P = (file : List ℕ) × (work : ℕ) × (counts : Bool) × AsksHunt words file work counts × Told (s.held file) P

-- what a text that begins with NO says: what NO means of the system file and of the text itself
abbrev pub SaysNo : Shelves → List (List ℕ) → List ℕ → Type 0
SaysNo s words output = (text : List ℕ) × BeginsWith output text × Asked s words (λ system. MeansNo system text)
