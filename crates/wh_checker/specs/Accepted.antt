-- The meaning of an accepted certificate: all well-typed terms are bounded, or its term is unbounded.
use Rattle.std.specs.Prelude.{◌≡◌, List, length}
use Rattle.wh_terms.specs.Tree.{Tm}
use Rattle.wh_terms.specs.Typing.{WellTyped}
use Rattle.wh_step.specs.Reduction.{Bounded, Unbounded}
use Rattle.wh_system.specs.Systems.{SystemData}
use Rattle.wh_system_making.specs.Resolve.{Means}
use Rattle.wh_pairs.specs.PairData.{PairData}
use Rattle.wh_cert.specs.Written.{Cert, yes, no}
use Rattle.wh_no.specs.Faults as claims
use Rattle.wh_proof.specs.Valid.{IsValidYes}
use Rattle.wh_checker.specs.declared.checking.Accepted.{Accepted}
use Rattle.wh_checker.specs.declared.checking.Accepted.TheVariants as answer

-- the certificate is valid, and the answer has the number of its nodes or steps (ours)
abbrev pub IsAccepted : SystemData → List PairData → Cert → Accepted → Type 0
IsAccepted d ps (yes version ranks pairs lines) (answer.Yes a) = IsValidYes d ps ranks pairs lines × (a.nodes ≡ length lines)
IsAccepted d ps (no t steps at puts) (answer.No a) = claims.IsAccepted d (no t steps at puts) a
IsAccepted d ps _ _ = ⊥

-- each well-typed term has a number that no reduction from it exceeds in length
abbrev pub AreBounded : SystemData → Type 0
AreBounded d = (t : Tm) → WellTyped d.symbols t → Bounded d.rules t

-- the term that the certificate begins with has reductions of every length (ours)
abbrev pub IsUnbounded : SystemData → Cert → Type 0
IsUnbounded d (no raw steps at puts) = (t : Tm) × Means d raw t × Unbounded d.rules t
IsUnbounded d _ = ⊥

-- what the answer means: with YES each well-typed term is bounded, with NO the term of the certificate is not
abbrev pub IsMeant : SystemData → Cert → Accepted → Type 0
IsMeant d c (answer.Yes a) = AreBounded d
IsMeant d c (answer.No a) = IsUnbounded d c
