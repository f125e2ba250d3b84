-- What an explanation says of a certificate, and what it means that it calls one a proof or a loop (ours).
use Rattle.std.specs.Prelude.{ℕ, List, ◌⊎◌, Option, Some, None, codes}
use Rattle.wh_terms.specs.Tree.{Tm}
use Rattle.wh_step.specs.Reduction.{Unbounded}
use Rattle.wh_system.specs.Systems.{SystemData}
use Rattle.wh_pairs.specs.PairData.{PairData}
use Rattle.wh_read.specs.Reading.{Reads}
use Rattle.wh_cert.specs.Written.{Cert}
use Rattle.wh_cert.specs.Limits.{IsCert}
use Rattle.wh_checker.specs.Accepted.{AreBounded}
use Rattle.wh_answer.specs.declared.report.Report.{Report}
use Rattle.wh_answer.specs.declared.report.Report.TheVariants.{Yes, No, Rejected, Overflow, TooLarge}
use Rattle.wh_explain_verdict.specs.declared.verdict.Verdict.TheVariants.{Open}
use Rattle.wh_explain_verdict.specs.FirstWords.{first_words, verdict_of}
use Rattle.wh_top_judging.specs.Outcomes.{BeginsWith, Judged, Shelves, Stands, StandsBySystem, ToldSystem, Weighed}

-- the text begins with the words for this answer of the check
abbrev pub Says : Report → List ℕ → Type 0
Says o text = BeginsWith (first_words (verdict_of o)) text

-- the text begins with the words for what the check answers on the certificate
abbrev pub SaysOf : SystemData → List PairData → Cert → List ℕ → Type 0
SaysOf d ps c text = (o : Report) × Weighed d ps c o × Says o text

-- the text begins with the words for what the check answers on these bytes as a certificate
abbrev pub SaysOfBytes : SystemData → List PairData → List ℕ → List ℕ → Type 0
SaysOfBytes d ps bytes text = (o : Report) × Judged d ps bytes o × Says o text

-- the text begins with the words for what the check answers on the two files
abbrev pub SaysOfFiles : Shelves → List ℕ → List ℕ → List ℕ → Type 0
SaysOfFiles s file cert text = (o : Report) × Stands s file cert o × Says o text

-- the text says that no certificate was found, or what the check answers on some certificate
abbrev pub Finds : SystemData → List PairData → List ℕ → Type 0
Finds d ps text = BeginsWith (first_words Open) text ⊎ ((c : Cert) × IsCert c × SaysOf d ps c text)

-- what an explanation begins with: what the check answers on the two files, or on a certificate that was found for the
-- one
abbrev pub Explains : Shelves → List ℕ → Option (List ℕ) → List ℕ → Type 0
Explains s file (Some cert) text = SaysOfFiles s file cert text
Explains s file None text = ToldSystem (s.held file) (λ d ps. Finds d ps text)

-- when there is none: where the check gives this answer on the two files, though it weighs no certificate for it
-- (`IsUnweighed`), or where there is no system in the one
abbrev pub IsUnexplained : Shelves → List ℕ → Option (List ℕ) → Report → Type 0
IsUnexplained s file (Some cert) o = Stands s file cert o
IsUnexplained s file None o = StandsBySystem s file o

-- no certificate was weighed for this answer
abbrev pub IsUnweighed : Report → Type 0
IsUnweighed Yes = ⊥
IsUnweighed No = ⊥
IsUnweighed (Rejected r) = ⊥
IsUnweighed (Overflow k) = ⊥
IsUnweighed (TooLarge k) = ⊥
IsUnweighed _ = Unit {0}

-- some term has reductions of every length
abbrev pub SomeIsUnbounded : SystemData → Type 0
SomeIsUnbounded d = (t : Tm) × Unbounded d.rules t

-- what a text means of a system that begins with YES or with NO
pub record Means (d : SystemData) (text : List ℕ) : Type 0 where
  pub yes : BeginsWith (codes "YES") text → AreBounded d
  pub no : BeginsWith (codes "NO") text → SomeIsUnbounded d

-- what an explanation means that begins with YES: the bytes are a text of a system, and each well-typed term of it is
-- bounded
abbrev pub MeansProof : List ℕ → Type 0
MeansProof bytes = (d : SystemData) × Reads bytes d × AreBounded d

-- what one means that begins with NO: the bytes are a text of a system, and some term has reductions of every length
abbrev pub MeansLoop : List ℕ → Type 0
MeansLoop bytes = (d : SystemData) × Reads bytes d × SomeIsUnbounded d
