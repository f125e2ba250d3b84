-- The line of each answer, as bytes (ours).
use Rattle.std.specs.Prelude.{ℕ, Bool, List, [], ◌∷◌, ◌++◌, codes, true, false}
use Rattle.std.specs.Fmt.{decimal}
use Rattle.wh_text.specs.Chars.{line_feed, space}
use Rattle.wh_answer.specs.declared.report.Report.{Report}
use Rattle.wh_answer.specs.declared.report.Report.TheVariants as answer
use Rattle.wh_answer.specs.declared.report.NamedRejection.{NamedRejection}
use Rattle.wh_answer.specs.declared.report.NamedRejection.TheVariants as row
use Rattle.wh_answer.specs.declared.report.NamedCause.{NamedCause}
use Rattle.wh_answer.specs.declared.report.NamedCause.TheVariants as cause
use Rattle.wh_answer.specs.declared.report.NamedFinder.{NamedFinder}
use Rattle.wh_answer.specs.declared.report.NamedFinder.TheVariants as finder
use Rattle.wh_answer.specs.declared.report.ReasonWord.{ReasonWord}
use Rattle.wh_answer.specs.declared.report.ReasonWord.TheVariants as reason
use Rattle.wh_answer.specs.declared.report.Role.{Role}
use Rattle.wh_answer.specs.declared.report.Role.TheVariants as role

-- a line feed ends it
abbrev pub line : List ℕ → List ℕ
line text = text ++ (line_feed ∷ [])

-- a text, and behind a space a name, or a number
abbrev pub named : List ℕ → List ℕ → List ℕ
named text name = text ++ (space ∷ name)

abbrev pub numbered : List ℕ → ℕ → List ℕ
numbered text n = named text (decimal n)

-- behind a space each of the names, or of the numbers
abbrev pub all_named : List ℕ → List (List ℕ) → List ℕ
all_named text [] = text
all_named text (name ∷ names) = all_named (named text name) names

abbrev pub all_numbered : List ℕ → List ℕ → List ℕ
all_numbered text [] = text
all_numbered text (n ∷ ns) = all_numbered (numbered text n) ns

abbrev pub role_word : Role → List ℕ
role_word role.System = codes "system"
role_word role.Certificate = codes "certificate"
role_word role.Output = codes "output"

abbrev pub finder_word : NamedFinder → List ℕ
finder_word finder.Subterm = codes "subterm"
finder_word finder.Poly = codes "poly"
finder_word finder.Order = codes "order"
finder_word finder.Loop = codes "loop"

abbrev pub reason_word : ReasonWord → List ℕ
reason_word reason.BadByte = codes "bad-byte"
reason_word reason.BadNumber = codes "bad-number"
reason_word reason.NameTooLong = codes "name-too-long"
reason_word reason.Syntax = codes "syntax"
reason_word reason.UnknownName = codes "unknown-name"
reason_word reason.Twice = codes "twice"
reason_word reason.IllTyped = codes "ill-typed"
reason_word reason.NotPattern = codes "not-pattern"
reason_word reason.OpenSide = codes "open-side"
reason_word reason.NewMeta = codes "new-meta"
reason_word reason.HeadNotFun = codes "head-not-function"
reason_word reason.UnevenRules = codes "uneven-rules"
reason_word reason.TooMany = codes "too-many"
reason_word reason.TooManyPairs = codes "too-many-pairs"

-- what is said of a node, of a rule in it, or of a pair in it
abbrev pub of_node : ℕ → List ℕ → List ℕ
of_node k word = named (numbered (codes "node") k) word

abbrev pub of_rule : ℕ → List ℕ → ℕ → ℕ → List ℕ
of_rule k word r n = numbered (numbered (named (of_node k word) (codes "rule")) r) n

abbrev pub of_pair : ℕ → List ℕ → ℕ → ℕ → List ℕ
of_pair k word a n = numbered (numbered (named (of_node k word) (codes "pair")) a) n

-- the name of a symbol, or of a marked one
abbrev pub symbol_word : List ℕ → Bool → List ℕ
symbol_word f false = f
symbol_word f true = f ++ codes "#"

-- what stands behind `REJECTED`
abbrev pub rejection_text : NamedRejection → List ℕ
rejection_text (row.Syntax at) = numbered (codes "syntax") at
rejection_text row.RankCount = codes "rank-count"
rejection_text (row.Inaccessible r z) = named (numbered (codes "inaccessible") r) z
rejection_text (row.PairCount n) = numbered (codes "pair-count") n
rejection_text (row.NotEmpty k) = of_node k (codes "not-empty")
rejection_text (row.NotOne k) = of_node k (codes "not-one")
rejection_text (row.Loops k a) = numbered (of_node k (codes "loops")) a
rejection_text (row.FewBlocks k) = of_node k (codes "few-blocks")
rejection_text (row.NotPartition k a) = numbered (of_node k (codes "not-partition")) a
rejection_text (row.BackEdge k a b) = numbered (numbered (of_node k (codes "back-edge")) a) b
rejection_text (row.BadArgs k) = of_node k (codes "bad-args")
rejection_text (row.NoProjection k f) = named (of_node k (codes "no-projection")) f
rejection_text (row.BadArgument k f) = named (of_node k (codes "bad-argument")) f
rejection_text (row.BadDrop k) = of_node k (codes "bad-drop")
rejection_text (row.NotDecreasing k a) = numbered (of_node k (codes "not-decreasing")) a
rejection_text (row.BadUsable k) = of_node k (codes "bad-usable")
rejection_text (row.BadSymbols k) = of_node k (codes "bad-symbols")
rejection_text (row.BadPolynomial k f marked) = named (of_node k (codes "bad-polynomial")) (symbol_word f marked)
rejection_text (row.BadLines k) = of_node k (codes "bad-lines")
rejection_text (row.NotClosedRule k r) = numbered (named (of_node k (codes "not-closed")) (codes "rule")) r
rejection_text (row.NotClosedPair k a) = numbered (named (of_node k (codes "not-closed")) (codes "pair")) a
rejection_text (row.BadMoveRule k r e) = of_rule k (codes "bad-move") r e
rejection_text (row.OverSpentRule k r i) = of_rule k (codes "over-spent") r i
rejection_text (row.NotCoveredRule k r j) = of_rule k (codes "not-covered") r j
rejection_text (row.BadMovePair k a e) = of_pair k (codes "bad-move") a e
rejection_text (row.OverSpentPair k a i) = of_pair k (codes "over-spent") a i
rejection_text (row.NotCoveredPair k a j) = of_pair k (codes "not-covered") a j
rejection_text (row.BadFilter k f marked) = named (of_node k (codes "bad-filter")) (symbol_word f marked)
rejection_text (row.TooWideRule k r) = numbered (named (of_node k (codes "too-wide")) (codes "rule")) r
rejection_text (row.TooWidePair k a) = numbered (named (of_node k (codes "too-wide")) (codes "pair")) a
rejection_text (row.BadInferenceRule k r e) = of_rule k (codes "bad-inference") r e
rejection_text (row.BadInferencePair k a e) = of_pair k (codes "bad-inference") a e
rejection_text (row.NotStrict k a) = numbered (named (of_node k (codes "not-strict")) (codes "pair")) a
rejection_text row.NotATerm = codes "term"
rejection_text row.NoStep = codes "no-step"
rejection_text (row.StepFails i) = numbered (codes "step") i
rejection_text (row.TooBig i) = numbered (codes "too-big") i
rejection_text (row.BadPut i) = numbered (codes "put") i
rejection_text row.NoInstance = codes "no-instance"

-- what stands behind `MAYBE`
abbrev pub cause_text : NamedCause → List ℕ
cause_text (cause.Sorts names) = all_named (codes "no-ranks sorts") names
cause_text (cause.Meta r name) = named (numbered (codes "no-ranks rule") r) name
cause_text (cause.Stuck pairs) = all_numbered (codes "stuck") pairs
cause_text (cause.Spent by count) = numbered (named (codes "spent") (finder_word by)) count

-- the line of an answer
abbrev pub report_text : Report → List ℕ
report_text answer.Yes = line (codes "YES")
report_text answer.No = line (codes "NO")
report_text (answer.Rejected r) = line (named (codes "REJECTED") (rejection_text r))
report_text (answer.Maybe c) = line (named (codes "MAYBE") (cause_text c))
report_text (answer.Refused r at) = line (numbered (named (codes "REFUSED") (reason_word r)) at)
report_text answer.BadWords = line (codes "BAD WORDS")
report_text (answer.ReadFault r) = line (named (codes "READ FAULT") (role_word r))
report_text answer.OutOfMemory = line (codes "OUT OF MEMORY")
report_text (answer.TooLong r) = line (named (codes "TOO LONG") (role_word r))
report_text (answer.Overflow k) = line (numbered (codes "OVERFLOW") k)
report_text (answer.TooLarge k) = line (numbered (codes "TOO LARGE") k)
