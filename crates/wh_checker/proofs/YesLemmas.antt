-- The parts of the check of a YES certificate, put together.
use Rattle.std.proofs.Common.{◌≡◌, ℕ, List, [], ◌∷◌, Result, Ok, Err, OnOk, IsErrAnd, sym, subst}
use Rattle.wh_types.specs.Outcome.{IfBecause, MatchOr}
use Rattle.wh_types.specs.declared.want.Or.{Or}
use Rattle.wh_types.specs.declared.want.Or.TheVariants.{NoMemory, Because}
use Rattle.wh_system.specs.Systems.{SystemData}
use Rattle.wh_pairs.specs.PairData.{PairData}
use Rattle.wh_cert.specs.Written as w
use Rattle.wh_polycheck.specs.Small.{with_limits}
use Rattle.wh_proof.specs.Valid.{IsValidYes}
use Rattle.wh_pairs.specs.Sets.{IsWhole}
use Rattle.wh_checker.specs.Faults.{IsFirstYesFault, rank_count, inaccessible, in_node}
use Rattle.wh_proof.specs.Small.{IsSmallYes}
use Rattle.wh_checker.specs.Walk.{IsRankFault, HasBegun, IsFaultInNodes}
use Rattle.wh_proof.specs.GoesOn.{AreProvedBy}
use Rattle.wh_checker.specs.declared.rejected.CheckFault.{CheckFault}
use Rattle.wh_checker.specs.declared.rejected.CheckFault.TheVariants as check
use Rattle.wh_checker.specs.declared.rejected.Rejected.{Rejected}
use Rattle.wh_checker.specs.declared.rejected.Rejected.TheVariants as row

because_one : {x y : CheckFault} → ◌≡◌ {A = Or CheckFault} (Because x) (Because y) → x ≡ y
because_one e = cc

-- the cause of one part, as the cause of the whole
pub passed_on : {T U : Type 0} (r : Result T (Or CheckFault)) (e : Or CheckFault) (P : U → Type 0) (Q R : CheckFault → Type 0)
    → IsErrAnd r (λ x. x ≡ e) → MatchOr (Err e) P Q → ((f : CheckFault) → Q f → R f) → IfBecause r R
passed_on (Ok x) e P Q R same h k = tt
passed_on (Err NoMemory) e P Q R same h k = tt
passed_on (Err (Because f)) NoMemory P Q R same h k = absurd (cc)
passed_on (Err (Because f)) (Because g) P Q R same h k = k f (subst Q (sym (because_one same)) h)

-- so, where the part's contract speaks of the cause alone
pub cause_passed : {T : Type 0} (r : Result T (Or CheckFault)) (e : Or CheckFault) (Q R : CheckFault → Type 0)
    → IsErrAnd r (λ x. x ≡ e) → IfBecause {T = Unit {0}} (Err e) Q → ((f : CheckFault) → Q f → R f) → IfBecause r R
cause_passed (Ok x) e Q R same h k = tt
cause_passed (Err NoMemory) e Q R same h k = tt
cause_passed (Err (Because f)) NoMemory Q R same h k = absurd (cc)
cause_passed (Err (Because f)) (Because g) Q R same h k = k f (subst Q (sym (because_one same)) h)

-- so, where the contract of the whole speaks of the value too
pub or_passed : {T U : Type 0} (r : Result T (Or CheckFault)) (e : Or CheckFault) (P : U → Type 0) (O : T → Type 0) (Q R : CheckFault → Type 0)
    → IsErrAnd r (λ x. x ≡ e) → MatchOr (Err e) P Q → ((f : CheckFault) → Q f → R f) → MatchOr r O R
or_passed (Ok x) e P O Q R same h k = absurd same
or_passed (Err NoMemory) e P O Q R same h k = tt
or_passed (Err (Because f)) NoMemory P O Q R same h k = absurd (cc)
or_passed (Err (Because f)) (Because g) P O Q R same h k = k f (subst Q (sym (because_one same)) h)

-- a row that is what is wrong first with ranks
abbrev pub HasRankFault : SystemData → List ℕ → CheckFault → Type 0
HasRankFault d ranks f = (r : Rejected) × (f ≡ check.Rejected r) × IsRankFault d ranks r

rank_row : (d : SystemData) (ps : List PairData) (ranks : List ℕ) (pairs : ℕ) (lines : List w.Node) (r : Rejected)
    → IsRankFault d ranks r → IsFirstYesFault with_limits d ps ranks pairs lines (check.Rejected r)
rank_row d ps ranks pairs lines row.RankCount not = rank_count not
rank_row d ps ranks pairs lines (row.Inaccessible r z) (count, first) = inaccessible count first
rank_row d ps ranks pairs lines (row.PairCount n) fault = absurd fault
rank_row d ps ranks pairs lines (row.NotEmpty k) fault = absurd fault
rank_row d ps ranks pairs lines (row.NotOne k) fault = absurd fault
rank_row d ps ranks pairs lines (row.Loops k a) fault = absurd fault
rank_row d ps ranks pairs lines (row.FewBlocks k) fault = absurd fault
rank_row d ps ranks pairs lines (row.NotPartition k a) fault = absurd fault
rank_row d ps ranks pairs lines (row.BackEdge k a b) fault = absurd fault
rank_row d ps ranks pairs lines (row.BadArgs k) fault = absurd fault
rank_row d ps ranks pairs lines (row.NoProjection k f) fault = absurd fault
rank_row d ps ranks pairs lines (row.BadArgument k f) fault = absurd fault
rank_row d ps ranks pairs lines (row.BadDrop k) fault = absurd fault
rank_row d ps ranks pairs lines (row.NotDecreasing k a) fault = absurd fault
rank_row d ps ranks pairs lines (row.BadUsable k) fault = absurd fault
rank_row d ps ranks pairs lines (row.BadSymbols k) fault = absurd fault
rank_row d ps ranks pairs lines (row.BadPolynomial k f marked) fault = absurd fault
rank_row d ps ranks pairs lines (row.BadLines k) fault = absurd fault
rank_row d ps ranks pairs lines (row.NotClosedRule k r) fault = absurd fault
rank_row d ps ranks pairs lines (row.NotClosedPair k a) fault = absurd fault
rank_row d ps ranks pairs lines (row.BadMoveRule k r e) fault = absurd fault
rank_row d ps ranks pairs lines (row.OverSpentRule k r i) fault = absurd fault
rank_row d ps ranks pairs lines (row.NotCoveredRule k r j) fault = absurd fault
rank_row d ps ranks pairs lines (row.BadMovePair k a e) fault = absurd fault
rank_row d ps ranks pairs lines (row.OverSpentPair k a i) fault = absurd fault
rank_row d ps ranks pairs lines (row.NotCoveredPair k a j) fault = absurd fault
rank_row d ps ranks pairs lines (row.BadFilter k f marked) fault = absurd fault
rank_row d ps ranks pairs lines (row.TooWideRule k r) fault = absurd fault
rank_row d ps ranks pairs lines (row.TooWidePair k a) fault = absurd fault
rank_row d ps ranks pairs lines (row.BadInferenceRule k r e) fault = absurd fault
rank_row d ps ranks pairs lines (row.BadInferencePair k a e) fault = absurd fault
rank_row d ps ranks pairs lines (row.NotStrict k a) fault = absurd fault
rank_row d ps ranks pairs lines row.NotATerm fault = absurd fault
rank_row d ps ranks pairs lines row.NoStep fault = absurd fault
rank_row d ps ranks pairs lines (row.StepFails i) fault = absurd fault
rank_row d ps ranks pairs lines (row.TooBig i) fault = absurd fault
rank_row d ps ranks pairs lines (row.BadPut i) fault = absurd fault
rank_row d ps ranks pairs lines row.NoInstance fault = absurd fault

pub rank_fault : (d : SystemData) (ps : List PairData) (ranks : List ℕ) (pairs : ℕ) (lines : List w.Node) (f : CheckFault)
    → HasRankFault d ranks f → IsFirstYesFault with_limits d ps ranks pairs lines f
rank_fault d ps ranks pairs lines f (r, is, fault) =
    subst (IsFirstYesFault with_limits d ps ranks pairs lines) (sym is) (rank_row d ps ranks pairs lines r fault)

pub valid_yes : (d : SystemData) (ps : List PairData) (ranks : List ℕ) (pairs : ℕ) (lines : List w.Node) (set : List ℕ)
    → HasBegun d ps ranks pairs set → AreProvedBy d ps (set ∷ []) lines → IsValidYes d ps ranks pairs lines
valid_yes d ps ranks pairs lines set begun (nodes, says, proves, small) =
    record {
      rank_count = begun.passing.0;
      passing = begun.passing.1;
      pair_count = begun.count;
      set = set;
      whole = begun.whole;
      nodes = nodes;
      says = says;
      proves =
          proves;
    }

pub small_yes : (d : SystemData) (ps : List PairData) (lines : List w.Node) (set : List ℕ) → IsWhole ps set
    → AreProvedBy d ps (set ∷ []) lines → IsSmallYes d ps lines
small_yes d ps lines set whole (nodes, says, proves, small) = record { set = set; whole = whole; nodes = nodes; says = says; small = small }

-- the fault of a node is that of the certificate
pub node_fault : (d : SystemData) (ps : List PairData) (ranks : List ℕ) (pairs : ℕ) (lines : List w.Node) (set : List ℕ)
    → HasBegun d ps ranks pairs set → (r : CheckFault) → IsFaultInNodes d ps set lines r → IsFirstYesFault with_limits d ps ranks pairs lines r
node_fault d ps ranks pairs lines set begun r (k, f, is, first) =
    let (count, passing) = begun.passing in
    subst (IsFirstYesFault with_limits d ps ranks pairs lines) (sym is) (in_node count passing begun.count begun.whole first)

pub ok_weaker : {T E : Type 0} (r : Result T E) (P Q : Type 0) → OnOk r P → (P → Q) → OnOk r Q
ok_weaker (Ok x) P Q p then = then p
ok_weaker (Err e) P Q p then = tt

pub cause_weaker : {T E : Type 0} (r : Result T (Or E)) (P Q : E → Type 0) → IfBecause r P → ((e : E) → P e → Q e) → IfBecause r Q
cause_weaker (Ok x) P Q p then = tt
cause_weaker (Err NoMemory) P Q p then = tt
cause_weaker (Err (Because e)) P Q p then = then e p
