-- The status and the text of an answer, and the text of `show`.
use Rattle.std.specs.Prelude.{ℕ, ◌≡◌, List, ◌++◌, codes, Result, Ok, Err}
use Rattle.wh_types.specs.declared.want.Or.{Or}
use Rattle.wh_types.specs.declared.want.Or.TheVariants.{NoMemory, Because}
use Rattle.wh_system.specs.Systems.{SystemData}
use Rattle.wh_pairs.specs.PairData.{PairData}
use Rattle.wh_system_print.specs.SystemText.{system_text}
use Rattle.wh_system_print.specs.PairText.{pairs_text}
use Rattle.wh_read.specs.Reading.{Reads}
use Rattle.wh_answer.specs.Texts.{line, report_text}
use Rattle.wh_answer.specs.declared.report.Report.{Report}
use Rattle.wh_top_naming.specs.Status.{status_of}
use Rattle.wh_top_naming.specs.declared.status.Status as status
use Rattle.wh_top_naming.specs.declared.status.Status.TheVariants as statuses

-- the text that shows a system and its dependency pairs
abbrev pub shown_text : SystemData → List PairData → List ℕ
shown_text d ps = line (codes "SYSTEM") ++ (system_text d ++ pairs_text d ps)

-- the text shows the system and its pairs; what it says of the system is a text of that very system
abbrev pub IsShown : List ℕ → SystemData → List PairData → Type 0
IsShown text d ps = (text ≡ shown_text d ps) × Reads (system_text d) d

-- P holds of an answer, and status and text are its own
pub record Tells (P : Report → Type 0) (status : status.Status) (text : List ℕ) : Type 0 where
  pub report : Report
  pub stands : P report
  pub status_is : status ≡ status_of report
  pub text_is : text ≡ report_text report

-- status and text are of what was made: its own text, or the answer why there is none; nothing is told of a want of
-- memory
abbrev pub TellsMade : Result (List ℕ) (Or Report) → status.Status → List ℕ → Type 0
TellsMade (Ok made) status text = (status ≡ statuses.Answered) × (text ≡ made)
TellsMade (Err (Because report)) status text = (status ≡ status_of report) × (text ≡ report_text report)
TellsMade (Err NoMemory) status text = ⊥
