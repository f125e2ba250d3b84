-- What comes of a term to be reduced is told of the system file.
use Rattle.std.proofs.Common.{ℕ, List, codes, Result, Ok, Err, IfOk}
use Rattle.wh_types.specs.Outcome.{MatchOr}
use Rattle.wh_types.specs.declared.want.Or.{Or}
use Rattle.wh_types.specs.declared.want.Or.TheVariants.{NoMemory, Because}
use Rattle.wh_system.specs.Systems.{SystemData}
use Rattle.wh_top_reducing.specs.Telling.{TellsReduced}
use Rattle.wh_answer.specs.declared.report.NamedRejection.TheVariants.{NotATerm}
use Rattle.wh_answer.specs.declared.report.Report.{Report}
use Rattle.wh_answer.specs.declared.report.Report.TheVariants.{Rejected}
use Rattle.wh_top_judging.specs.Outcomes.{Shelves, BeginsWith, IsSystemIn, ToldText, StandsByText}
use Rattle.wh_top_judging.proofs.Standing.{text_told}
use Rattle.wh_top_replies.specs.Reducing.{IsNotReduced, StandsForReduction}

-- why the term is not reduced
not_reduced_stands : (s : Shelves) (file term : List ℕ) (d : SystemData) (o : Report) → IsSystemIn (s.held file) d → IsNotReduced d term o
    → StandsForReduction s file term o
not_reduced_stands s file term d (Rejected NotATerm) is none =
    text_told (s.held file) d (λ e. IsNotReduced e term (Rejected NotATerm)) is none
not_reduced_stands s file term d o is none = absurd none

-- the text, or why there is none
pub reduction_stands : (s : Shelves) (file term : List ℕ) (n : ℕ) (d : SystemData) (r : Result (List ℕ) (Or Report)) → IsSystemIn (s.held file) d
    → MatchOr r (TellsReduced d term n) (IsNotReduced d term)
    → MatchOr r (λ text. ToldText (s.held file) (λ e. TellsReduced e term n text)) (StandsForReduction s file term)
reduction_stands s file term n d (Ok text) is tells = text_told (s.held file) d (λ e. TellsReduced e term n text) is tells
reduction_stands s file term n d (Err NoMemory) is tells = tt
reduction_stands s file term n d (Err (Because o)) is none = not_reduced_stands s file term d o is none

-- what the text of the file decides, it decides for a term to be reduced
pub text_reduction : (s : Shelves) (file term : List ℕ) (o : Report) → StandsByText s file o → StandsForReduction s file term o
text_reduction s file term (Rejected NotATerm) stands = absurd stands
text_reduction s file term o stands = stands

pub reduced_begins : (d : SystemData) (term : List ℕ) (n : ℕ) (r : Result (List ℕ) (Or Report))
    → MatchOr r (TellsReduced d term n) (IsNotReduced d term) → IfOk r (BeginsWith (codes "REDUCED "))
reduced_begins d term n (Ok text) (t, gives, tells) = (_, tells.text_is)
reduced_begins d term n (Err e) told = tt
