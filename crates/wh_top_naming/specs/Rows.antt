-- Names in place of the numbers of symbols and of meta-variables.
use Rattle.std.specs.Prelude.{ℕ, List, [], get_or}
use Rattle.wh_system.specs.Systems.{SystemData}
use Rattle.wh_read.specs.declared.reasons.Reason.{Reason}
use Rattle.wh_read.specs.declared.reasons.Reason.TheVariants as read
use Rattle.wh_checker.specs.declared.rejected.Rejected.{Rejected}
use Rattle.wh_checker.specs.declared.rejected.Rejected.TheVariants as row
use Rattle.wh_answer.specs.declared.report.NamedRejection.{NamedRejection}
use Rattle.wh_answer.specs.declared.report.NamedRejection.TheVariants as named
use Rattle.wh_answer.specs.declared.report.ReasonWord.{ReasonWord}
use Rattle.wh_answer.specs.declared.report.ReasonWord.TheVariants as reason

-- the name of a sort, of a symbol, and of a meta-variable of a rule
abbrev pub sort_name : SystemData → ℕ → List ℕ
sort_name d s = get_or d.sort_names s []

abbrev pub symbol_name : SystemData → ℕ → List ℕ
symbol_name d f = get_or d.fun_names f []

abbrev pub meta_name : SystemData → ℕ → ℕ → List ℕ
meta_name d r z = get_or (get_or d.meta_names r []) z []

-- the condition that is false, with names
abbrev pub named_row : SystemData → Rejected → NamedRejection
named_row d row.RankCount = named.RankCount
named_row d (row.Inaccessible r z) = named.Inaccessible r (meta_name d r z)
named_row d (row.PairCount n) = named.PairCount n
named_row d (row.NotEmpty k) = named.NotEmpty k
named_row d (row.NotOne k) = named.NotOne k
named_row d (row.Loops k a) = named.Loops k a
named_row d (row.FewBlocks k) = named.FewBlocks k
named_row d (row.NotPartition k a) = named.NotPartition k a
named_row d (row.BackEdge k a b) = named.BackEdge k a b
named_row d (row.BadArgs k) = named.BadArgs k
named_row d (row.NoProjection k f) = named.NoProjection k (symbol_name d f)
named_row d (row.BadArgument k f) = named.BadArgument k (symbol_name d f)
named_row d (row.BadDrop k) = named.BadDrop k
named_row d (row.NotDecreasing k a) = named.NotDecreasing k a
named_row d (row.BadUsable k) = named.BadUsable k
named_row d (row.BadSymbols k) = named.BadSymbols k
named_row d (row.BadPolynomial k f marked) = named.BadPolynomial k (symbol_name d f) marked
named_row d (row.BadLines k) = named.BadLines k
named_row d (row.NotClosedRule k r) = named.NotClosedRule k r
named_row d (row.NotClosedPair k a) = named.NotClosedPair k a
named_row d (row.BadMoveRule k r e) = named.BadMoveRule k r e
named_row d (row.OverSpentRule k r i) = named.OverSpentRule k r i
named_row d (row.NotCoveredRule k r j) = named.NotCoveredRule k r j
named_row d (row.BadMovePair k a e) = named.BadMovePair k a e
named_row d (row.OverSpentPair k a i) = named.OverSpentPair k a i
named_row d (row.NotCoveredPair k a j) = named.NotCoveredPair k a j
named_row d (row.BadFilter k f marked) = named.BadFilter k (symbol_name d f) marked
named_row d (row.TooWideRule k r) = named.TooWideRule k r
named_row d (row.TooWidePair k a) = named.TooWidePair k a
named_row d (row.BadInferenceRule k r e) = named.BadInferenceRule k r e
named_row d (row.BadInferencePair k a e) = named.BadInferencePair k a e
named_row d (row.NotStrict k a) = named.NotStrict k a
named_row d row.NotATerm = named.NotATerm
named_row d row.NoStep = named.NoStep
named_row d (row.StepFails i) = named.StepFails i
named_row d (row.TooBig i) = named.TooBig i
named_row d (row.BadPut i) = named.BadPut i
named_row d row.NoInstance = named.NoInstance

-- the word for the reason why a text is refused
abbrev pub reason_of : Reason → ReasonWord
reason_of read.BadByte = reason.BadByte
reason_of read.BadNumber = reason.BadNumber
reason_of read.NameTooLong = reason.NameTooLong
reason_of read.Syntax = reason.Syntax
reason_of read.UnknownName = reason.UnknownName
reason_of read.Twice = reason.Twice
reason_of read.IllTyped = reason.IllTyped
reason_of read.NotPattern = reason.NotPattern
reason_of read.OpenSide = reason.OpenSide
reason_of read.NewMeta = reason.NewMeta
reason_of read.HeadNotFun = reason.HeadNotFun
reason_of read.UnevenRules = reason.UnevenRules
reason_of read.TooMany = reason.TooMany
