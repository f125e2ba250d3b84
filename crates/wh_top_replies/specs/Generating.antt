-- The text of `gen`: the outcome of the search for a proof of a generated system.
use Rattle.std.specs.Prelude.{ℕ, ◌≡◌, ◌++◌, List, [], length, codes}
use Rattle.std.specs.Fmt.{decimal}
use Rattle.wh_system.specs.Systems.{SystemData}
use Rattle.wh_pairs.specs.PairData.{PairData}
use Rattle.wh_pairs.specs.SystemPairs.{HasPairs, HasTooManyPairs}
use Rattle.wh_gen.specs.Family.{gen_data}
use Rattle.wh_cert.specs.Written as w
use Rattle.wh_cert.specs.Written.{Cert, yes, no}
use Rattle.wh_prover.specs.Answers.{IsProof, IsLoopProof, IsReason}
use Rattle.wh_prover.specs.declared.answer.Cause.{Cause}
use Rattle.wh_prover.specs.declared.answer.Options.{Options}
use Rattle.wh_top_words.specs.Words.{usual, tries, depth, visited}
use Rattle.wh_answer.specs.declared.report.ReasonWord.TheVariants.{TooManyPairs}
use Rattle.wh_answer.specs.declared.report.Report.{Report}
use Rattle.wh_answer.specs.declared.report.Report.TheVariants.{Maybe, Refused}
use Rattle.wh_answer.specs.Texts.{line, report_text}
use Rattle.wh_top_naming.specs.declared.status.Status.{Status}
use Rattle.wh_top_naming.specs.declared.status.Status.TheVariants.{Answered}
use Rattle.wh_top_replies.specs.Causes.{named_cause}

-- the bounds of a search where the words do not say
abbrev pub usual_options : Options
usual_options = record { tries = usual tries; depth = usual depth; visited = usual visited }

-- the nodes of a certificate of termination
abbrev pub nodes_of : Cert → List w.Node
nodes_of (yes version ranks pairs nodes) = nodes
nodes_of (no term steps at puts) = []

-- what the search answered: how many nodes the certificate has, and the last line
pub data Comes (d : SystemData) (ps : List PairData) : ℕ → List ℕ → Type 0 where
  comes_yes : (c : Cert) → IsProof d ps c → Comes d ps (length (nodes_of c)) (line (codes "answer YES"))
  comes_no : (c : Cert) → IsLoopProof d usual_options.depth c → Comes d ps 0 (line (codes "answer NO"))
  comes_maybe : (cause : Cause) → IsReason d ps usual_options cause → Comes d ps 0 (report_text (Maybe (named_cause d cause)))

-- a line of a word and a number
abbrev pub counted_line : List ℕ → ℕ → List ℕ
counted_line word n = line (word ++ decimal n)

abbrev pub generated_text : ℕ → ℕ → ℕ → ℕ → List ℕ → List ℕ
generated_text n rules pairs nodes answer =
    counted_line (codes "GEN ") n ++ (counted_line (codes "rules ")
    rules ++ (counted_line (codes "pairs ") pairs ++ (counted_line (codes "nodes ") nodes ++ answer)))

-- the text shows how many rules and pairs the generated system has, and what the search for a proof of it comes to
pub record ShowsGenerated (n : ℕ) (status : Status) (text : List ℕ) : Type 0 where
  pub pairs : List PairData
  pub has : HasPairs (gen_data n) pairs
  pub nodes : ℕ
  pub answer : List ℕ
  pub comes : Comes (gen_data n) pairs nodes answer
  pub text_is : text ≡ generated_text n (length (gen_data n).rules) (length pairs) nodes answer
  pub status_is : status ≡ Answered

-- the report says that the generated system has too many pairs
abbrev pub StandsForGenerated : ℕ → Report → Type 0
StandsForGenerated n (Refused TooManyPairs at) = (at ≡ 0) × HasTooManyPairs (gen_data n)
StandsForGenerated n _ = ⊥
