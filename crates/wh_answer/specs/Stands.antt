-- Which reports can be: their numbers fit, and their names are spelled as names.
use Rattle.std.specs.Prelude.{ℕ, ◌≡◌, ◌<◌, ◌^◌, List, [], ◌∷◌, Option, MatchOption}
use Rattle.wh_text.specs.Words.{IsWord}
use Rattle.wh_answer.specs.declared.report.Report.{Report}
use Rattle.wh_answer.specs.declared.report.Report.TheVariants as answer
use Rattle.wh_answer.specs.declared.report.NamedRejection.{NamedRejection}
use Rattle.wh_answer.specs.declared.report.NamedRejection.TheVariants as row
use Rattle.wh_answer.specs.declared.report.NamedCause.{NamedCause}
use Rattle.wh_answer.specs.declared.report.NamedCause.TheVariants as cause

-- the number has 32 bits (ours)
abbrev pub Short : ℕ → Type 0
Short n = n < 2 ^ 32

-- the number has 64 bits (ours)
abbrev pub Long : ℕ → Type 0
Long n = n < 2 ^ 64

-- each is a word (ours)
abbrev pub AllWords : List (List ℕ) → Type 0
AllWords [] = Unit {0}
AllWords (name ∷ names) = IsWord name × AllWords names

-- each number has 32 bits (ours)
abbrev pub AllShort : List ℕ → Type 0
AllShort [] = Unit {0}
AllShort (n ∷ ns) = Short n × AllShort ns

-- a reason for rejecting a certificate can be: its numbers and names are such (ours)
abbrev pub RowStands : NamedRejection → Type 0
RowStands (row.Syntax at) = Long at
RowStands row.RankCount = Unit {0}
RowStands (row.Inaccessible r z) = Short r × IsWord z
RowStands (row.PairCount n) = Short n
RowStands (row.NotEmpty k) = Short k
RowStands (row.NotOne k) = Short k
RowStands (row.Loops k a) = Short k × Short a
RowStands (row.FewBlocks k) = Short k
RowStands (row.NotPartition k a) = Short k × Short a
RowStands (row.BackEdge k a b) = Short k × Short a × Short b
RowStands (row.BadArgs k) = Short k
RowStands (row.NoProjection k f) = Short k × IsWord f
RowStands (row.BadArgument k f) = Short k × IsWord f
RowStands (row.BadDrop k) = Short k
RowStands (row.NotDecreasing k a) = Short k × Short a
RowStands (row.BadUsable k) = Short k
RowStands (row.BadSymbols k) = Short k
RowStands (row.BadPolynomial k f marked) = Short k × IsWord f
RowStands (row.BadLines k) = Short k
RowStands (row.NotClosedRule k r) = Short k × Short r
RowStands (row.NotClosedPair k a) = Short k × Short a
RowStands (row.BadMoveRule k r e) = Short k × Short r × Short e
RowStands (row.OverSpentRule k r i) = Short k × Short r × Short i
RowStands (row.NotCoveredRule k r j) = Short k × Short r × Short j
RowStands (row.BadMovePair k a e) = Short k × Short a × Short e
RowStands (row.OverSpentPair k a i) = Short k × Short a × Short i
RowStands (row.NotCoveredPair k a j) = Short k × Short a × Short j
RowStands (row.BadFilter k f marked) = Short k × IsWord f
RowStands (row.TooWideRule k r) = Short k × Short r
RowStands (row.TooWidePair k a) = Short k × Short a
RowStands (row.BadInferenceRule k r e) = Short k × Short r × Short e
RowStands (row.BadInferencePair k a e) = Short k × Short a × Short e
RowStands (row.NotStrict k a) = Short k × Short a
RowStands row.NotATerm = Unit {0}
RowStands row.NoStep = Unit {0}
RowStands (row.StepFails i) = Short i
RowStands (row.TooBig i) = Short i
RowStands (row.BadPut i) = Short i
RowStands row.NoInstance = Unit {0}

-- the cause, why no certificate was found, can be: its numbers fit, and its names are spelled as names (ours)
abbrev pub CauseStands : NamedCause → Type 0
CauseStands (cause.Sorts names) = AllWords names
CauseStands (cause.Meta r name) = Short r × IsWord name
CauseStands (cause.Stuck pairs) = AllShort pairs
CauseStands (cause.Spent by count) = Long count

-- the report can be: its numbers fit, and its names are spelled as names (ours)
abbrev pub Stands : Report → Type 0
Stands answer.Yes = Unit {0}
Stands answer.No = Unit {0}
Stands (answer.Rejected r) = RowStands r
Stands (answer.Maybe c) = CauseStands c
Stands (answer.Refused r at) = Short at
Stands answer.BadWords = Unit {0}
Stands (answer.ReadFault r) = Unit {0}
Stands answer.OutOfMemory = Unit {0}
Stands (answer.TooLong r) = Unit {0}
Stands (answer.Overflow k) = Short k
Stands (answer.TooLarge k) = Short k

-- a reading of what is shown: one that can be and is shown like this, or none where there is none (ours)
abbrev pub Reads : {A B : Type 0} → (A → Type 0) → (A → B) → B → Option A → Type 0
Reads {A} CanBe show shown found = MatchOption found ((x : A) → CanBe x → show x ≡ shown → ⊥) (λ x. CanBe x × (show x ≡ shown))
