-- What is answered where projections are to be refuted for the set on which the search for a proof is stuck.
use Rattle.std.specs.Prelude.{ℕ, ◌≡◌, ◌⊎◌, ◌++◌, List, [], ◌∷◌, codes}
use Rattle.std.specs.Fmt.{decimal}
use Rattle.wh_text.specs.Chars.{line_feed, space}
use Rattle.wh_system.specs.Systems.{SystemData}
use Rattle.wh_pairs.specs.PairData.{PairData}
use Rattle.wh_prover.specs.declared.answer.Answer.{Answer}
use Rattle.wh_prover.specs.declared.answer.Answer.TheVariants as found
use Rattle.wh_prover.specs.declared.answer.Options.{Options}
use Rattle.wh_prover_refuting.specs.Verdicts.{IsVerdict}
use Rattle.wh_prover_refuting.specs.declared.refuting.Verdict.{Verdict}
use Rattle.wh_prover_refuting.specs.declared.refuting.Verdict.TheVariants.{Refuted, Unrefuted, Unstuck}
use Rattle.wh_top_words.specs.Words.{usual, depth, visited}
use Rattle.wh_answer.specs.Texts.{report_text}
use Rattle.wh_answer.specs.declared.report.Report.{Report}
use Rattle.wh_answer.specs.declared.report.Report.TheVariants.{Yes, No, Maybe}
use Rattle.wh_top_naming.specs.declared.status.Status.{Status}
use Rattle.wh_top_naming.specs.declared.status.Status.TheVariants.{Answered}
use Rattle.wh_top_judging.specs.Outcomes.{Shelves, BeginsWith, ToldSystem}
use Rattle.wh_top_replies.specs.Causes.{named_cause}
use Rattle.wh_top_replies.specs.Proving.{CauseIsThere}

-- the bounds of the search: n tries, and else the usual ones
abbrev pub options_with : ℕ → Options
options_with n = record { tries = n; depth = usual depth; visited = usual visited }

-- behind a space each number, and a line feed
abbrev pub numbers_text : List ℕ → List ℕ
numbers_text [] = line_feed ∷ []
numbers_text (n ∷ ns) = space ∷ (decimal n ++ numbers_text ns)

-- the answer of the search, as one that is told
abbrev pub told_answer : SystemData → Answer → Report
told_answer d (found.Yes certificate) = Yes
told_answer d (found.No certificate) = No
told_answer d (found.Maybe cause) = Maybe (named_cause d cause)

-- the line of a verdict: a word, and behind it the numbers of the set's pairs or the answer of the search (ours)
abbrev pub refuted_text : SystemData → Verdict → List ℕ
refuted_text d (Refuted set) = codes "REFUTED" ++ numbers_text set
refuted_text d (Unrefuted set) = codes "UNREFUTED" ++ numbers_text set
refuted_text d (Unstuck answer) = codes "UNSTUCK " ++ report_text (told_answer d answer)

-- what a verdict names is there
abbrev pub AnswerIsThere : SystemData → Answer → Type 0
AnswerIsThere d (found.Yes certificate) = Unit {0}
AnswerIsThere d (found.No certificate) = Unit {0}
AnswerIsThere d (found.Maybe cause) = CauseIsThere d cause

abbrev pub VerdictIsThere : SystemData → Verdict → Type 0
VerdictIsThere d (Refuted set) = Unit {0}
VerdictIsThere d (Unrefuted set) = Unit {0}
VerdictIsThere d (Unstuck answer) = AnswerIsThere d answer

-- the text tells what the search for a proof and for a refutation come to
abbrev pub TellsRefuted : SystemData → List PairData → Options → List ℕ → Type 0
TellsRefuted d ps o text = (v : Verdict) × IsVerdict d ps o v × (text ≡ refuted_text d v)

-- the text begins with the word of a verdict
abbrev pub BeginsRefuted : List ℕ → Type 0
BeginsRefuted text = BeginsWith (codes "REFUTED") text ⊎ BeginsWith (codes "UN") text

-- the text tells the verdict on the system in the file, and begins with its word
pub record ShowsRefuted (s : Shelves) (file : List ℕ) (o : Options) (status : Status) (text : List ℕ) : Type 0 where
  pub told : ToldSystem (s.held file) (λ d ps. TellsRefuted d ps o text)
  pub begins : BeginsRefuted text
  pub status_is : status ≡ Answered
