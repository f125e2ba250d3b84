-- What is answered where a term of the system in a file is to be reduced.
use Rattle.std.specs.Prelude.{ℕ, ◌≡◌, List, codes}
use Rattle.wh_system.specs.Systems.{SystemData}
use Rattle.wh_top_reducing.specs.Telling.{GivesNone, TellsReduced}
use Rattle.wh_answer.specs.declared.report.NamedRejection.TheVariants.{NotATerm}
use Rattle.wh_answer.specs.declared.report.Report.{Report}
use Rattle.wh_answer.specs.declared.report.Report.TheVariants.{Rejected}
use Rattle.wh_top_naming.specs.declared.status.Status.{Status}
use Rattle.wh_top_naming.specs.declared.status.Status.TheVariants.{Answered}
use Rattle.wh_top_judging.specs.Outcomes.{Shelves, BeginsWith, ToldText, StandsByText}

-- why the term is not reduced: the word is the text of no well-typed term of the system that fits
abbrev pub IsNotReduced : SystemData → List ℕ → Report → Type 0
IsNotReduced d term (Rejected NotATerm) = GivesNone d term
IsNotReduced d term _ = ⊥

-- the text tells how the term reduces by the rules of the system in the file, by at most n leftmost-outermost steps
pub record ShowsReduced (s : Shelves) (file term : List ℕ) (n : ℕ) (status : Status) (text : List ℕ) : Type 0 where
  pub told : ToldText (s.held file) (λ d. TellsReduced d term n text)
  pub begins : BeginsWith (codes "REDUCED ") text
  pub status_is : status ≡ Answered

-- when the answers of one line come: the term is rejected; or what the text of the system file alone decides. How many
-- pairs the system has is not asked.
abbrev pub StandsForReduction : Shelves → List ℕ → List ℕ → Report → Type 0
StandsForReduction s file term (Rejected NotATerm) = ToldText (s.held file) (λ d. IsNotReduced d term (Rejected NotATerm))
StandsForReduction s file term o = StandsByText s file o
