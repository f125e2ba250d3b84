-- The words of each answer: its line without the line feed is these words with a space between any two (ours).
use Rattle.std.specs.Prelude.{ℕ, ◌≢◌, ◌==◌, List, [], ◌∷◌, map, codes}
use Rattle.std.specs.Fmt.{decimal}
use Rattle.std.specs.List.{slice_split}
use Rattle.wh_text.specs.Chars.{space}
use Rattle.wh_answer.specs.Texts.{finder_word, reason_word, role_word, symbol_word}
use Rattle.wh_answer.specs.declared.report.Report.{Report}
use Rattle.wh_answer.specs.declared.report.Report.TheVariants as answer
use Rattle.wh_answer.specs.declared.report.NamedRejection.{NamedRejection}
use Rattle.wh_answer.specs.declared.report.NamedRejection.TheVariants as row
use Rattle.wh_answer.specs.declared.report.NamedCause.{NamedCause}
use Rattle.wh_answer.specs.declared.report.NamedCause.TheVariants as cause

-- the parts of a text between spaces (ours)
abbrev pub words_of : List ℕ → List (List ℕ)
words_of = slice_split (λ b. b == space)

-- what is said of a node, in words (ours)
abbrev pub at_node : ℕ → List (List ℕ) → List (List ℕ)
at_node k words = codes "node" ∷ decimal k ∷ words

-- what stands behind `REJECTED`, in words (ours)
abbrev pub row_words : NamedRejection → List (List ℕ)
row_words (row.Syntax at) = codes "syntax" ∷ decimal at ∷ []
row_words row.RankCount = codes "rank-count" ∷ []
row_words (row.Inaccessible r z) = codes "inaccessible" ∷ decimal r ∷ z ∷ []
row_words (row.PairCount n) = codes "pair-count" ∷ decimal n ∷ []
row_words (row.NotEmpty k) = at_node k (codes "not-empty" ∷ [])
row_words (row.NotOne k) = at_node k (codes "not-one" ∷ [])
row_words (row.Loops k a) = at_node k (codes "loops" ∷ decimal a ∷ [])
row_words (row.FewBlocks k) = at_node k (codes "few-blocks" ∷ [])
row_words (row.NotPartition k a) = at_node k (codes "not-partition" ∷ decimal a ∷ [])
row_words (row.BackEdge k a b) = at_node k (codes "back-edge" ∷ decimal a ∷ decimal b ∷ [])
row_words (row.BadArgs k) = at_node k (codes "bad-args" ∷ [])
row_words (row.NoProjection k f) = at_node k (codes "no-projection" ∷ f ∷ [])
row_words (row.BadArgument k f) = at_node k (codes "bad-argument" ∷ f ∷ [])
row_words (row.BadDrop k) = at_node k (codes "bad-drop" ∷ [])
row_words (row.NotDecreasing k a) = at_node k (codes "not-decreasing" ∷ decimal a ∷ [])
row_words (row.BadUsable k) = at_node k (codes "bad-usable" ∷ [])
row_words (row.BadSymbols k) = at_node k (codes "bad-symbols" ∷ [])
row_words (row.BadPolynomial k f marked) = at_node k (codes "bad-polynomial" ∷ symbol_word f marked ∷ [])
row_words (row.BadLines k) = at_node k (codes "bad-lines" ∷ [])
row_words (row.NotClosedRule k r) = at_node k (codes "not-closed" ∷ codes "rule" ∷ decimal r ∷ [])
row_words (row.NotClosedPair k a) = at_node k (codes "not-closed" ∷ codes "pair" ∷ decimal a ∷ [])
row_words (row.BadMoveRule k r e) = at_node k (codes "bad-move" ∷ codes "rule" ∷ decimal r ∷ decimal e ∷ [])
row_words (row.OverSpentRule k r i) = at_node k (codes "over-spent" ∷ codes "rule" ∷ decimal r ∷ decimal i ∷ [])
row_words (row.NotCoveredRule k r j) = at_node k (codes "not-covered" ∷ codes "rule" ∷ decimal r ∷ decimal j ∷ [])
row_words (row.BadMovePair k a e) = at_node k (codes "bad-move" ∷ codes "pair" ∷ decimal a ∷ decimal e ∷ [])
row_words (row.OverSpentPair k a i) = at_node k (codes "over-spent" ∷ codes "pair" ∷ decimal a ∷ decimal i ∷ [])
row_words (row.NotCoveredPair k a j) = at_node k (codes "not-covered" ∷ codes "pair" ∷ decimal a ∷ decimal j ∷ [])
row_words (row.BadFilter k f marked) = at_node k (codes "bad-filter" ∷ symbol_word f marked ∷ [])
row_words (row.TooWideRule k r) = at_node k (codes "too-wide" ∷ codes "rule" ∷ decimal r ∷ [])
row_words (row.TooWidePair k a) = at_node k (codes "too-wide" ∷ codes "pair" ∷ decimal a ∷ [])
row_words (row.BadInferenceRule k r e) = at_node k (codes "bad-inference" ∷ codes "rule" ∷ decimal r ∷ decimal e ∷ [])
row_words (row.BadInferencePair k a e) = at_node k (codes "bad-inference" ∷ codes "pair" ∷ decimal a ∷ decimal e ∷ [])
row_words (row.NotStrict k a) = at_node k (codes "not-strict" ∷ codes "pair" ∷ decimal a ∷ [])
row_words row.NotATerm = codes "term" ∷ []
row_words row.NoStep = codes "no-step" ∷ []
row_words (row.StepFails i) = codes "step" ∷ decimal i ∷ []
row_words (row.TooBig i) = codes "too-big" ∷ decimal i ∷ []
row_words (row.BadPut i) = codes "put" ∷ decimal i ∷ []
row_words row.NoInstance = codes "no-instance" ∷ []

-- what stands behind `MAYBE`, in words (ours)
abbrev pub cause_words : NamedCause → List (List ℕ)
cause_words (cause.Sorts names) = codes "no-ranks" ∷ codes "sorts" ∷ names
cause_words (cause.Meta r name) = codes "no-ranks" ∷ codes "rule" ∷ decimal r ∷ name ∷ []
cause_words (cause.Stuck pairs) = codes "stuck" ∷ map decimal pairs
cause_words (cause.Spent by count) = codes "spent" ∷ finder_word by ∷ decimal count ∷ []

-- the words of an answer (ours)
abbrev pub report_words : Report → List (List ℕ)
report_words answer.Yes = codes "YES" ∷ []
report_words answer.No = codes "NO" ∷ []
report_words (answer.Rejected r) = codes "REJECTED" ∷ row_words r
report_words (answer.Maybe c) = codes "MAYBE" ∷ cause_words c
report_words (answer.Refused r at) = codes "REFUSED" ∷ reason_word r ∷ decimal at ∷ []
report_words answer.BadWords = codes "BAD" ∷ codes "WORDS" ∷ []
report_words (answer.ReadFault r) = codes "READ" ∷ codes "FAULT" ∷ role_word r ∷ []
report_words answer.OutOfMemory = codes "OUT" ∷ codes "OF" ∷ codes "MEMORY" ∷ []
report_words (answer.TooLong r) = codes "TOO" ∷ codes "LONG" ∷ role_word r ∷ []
report_words (answer.Overflow k) = codes "OVERFLOW" ∷ decimal k ∷ []
report_words (answer.TooLarge k) = codes "TOO" ∷ codes "LARGE" ∷ decimal k ∷ []

-- a number is spelled with no `+` in front, and with 0 there only where it stands alone (ours)
abbrev pub BeginsNumber : List ℕ → Type 0
BeginsNumber [] = ⊥
BeginsNumber (b ∷ []) = b ≢ 43
BeginsNumber (b ∷ bs) = (b ≢ 43) × (b ≢ 48)
