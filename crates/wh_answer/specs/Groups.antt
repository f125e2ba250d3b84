-- Groups of the reasons for rejecting a certificate.
use Rattle.wh_answer.specs.declared.report.NamedRejection.{NamedRejection}
use Rattle.wh_answer.specs.declared.report.NamedRejection.TheVariants as row

-- the reason is of a line in a node, with a number in the line (ours)
abbrev pub OfLine : NamedRejection → Type 0
OfLine (row.BadMoveRule k r e) = Unit {0}
OfLine (row.OverSpentRule k r i) = Unit {0}
OfLine (row.NotCoveredRule k r j) = Unit {0}
OfLine (row.BadMovePair k a e) = Unit {0}
OfLine (row.OverSpentPair k a i) = Unit {0}
OfLine (row.NotCoveredPair k a j) = Unit {0}
OfLine (row.BadInferenceRule k r e) = Unit {0}
OfLine (row.BadInferencePair k a e) = Unit {0}
OfLine r = ⊥

-- the reason is of a node (ours)
abbrev pub OfNode : NamedRejection → Type 0
OfNode (row.Syntax at) = ⊥
OfNode row.RankCount = ⊥
OfNode (row.Inaccessible r z) = ⊥
OfNode (row.PairCount n) = ⊥
OfNode row.NotATerm = ⊥
OfNode row.NoStep = ⊥
OfNode (row.StepFails i) = ⊥
OfNode (row.TooBig i) = ⊥
OfNode (row.BadPut i) = ⊥
OfNode row.NoInstance = ⊥
OfNode r = Unit {0}
