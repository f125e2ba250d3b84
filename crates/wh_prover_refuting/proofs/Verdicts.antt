-- What a set that the search is stuck on comes to, as a verdict.
use Rattle.std.proofs.Common.{ℕ, ◌≡◌, ◌<◌, Bool, List, length, All, Result, Ok, Err, IfOk, subst, sym}
use Rattle.std.specs.declared.alloc.AllocError.{AllocError}
use Rattle.wh_types.specs.Outcome.{IfBecause}
use Rattle.wh_types.specs.declared.want.Or.{Or}
use Rattle.wh_types.specs.declared.want.Or.TheVariants.{NoMemory, Because}
use Rattle.wh_refute.specs.declared.fault.RefuteFault.{RefuteFault}
use Rattle.wh_refute.specs.declared.fault.Refuted as checked
use Rattle.wh_terms.specs.Rules.{RewriteRule}
use Rattle.wh_system.specs.Systems.{SystemData}
use Rattle.wh_pairs.specs.PairData.{PairData}
use Rattle.wh_sat_trail.specs.declared.literal.Literal.{Literal}
use Rattle.wh_sat.specs.Solving.{Solves}
use Rattle.wh_find_subterm.specs.Formula.{IsProjections}
use Rattle.wh_find_subterm.proofs.Models.{models_are_projections}
use Rattle.wh_prover.specs.Arriving.{HasNoProjection}
use Rattle.wh_prover.specs.Answers.{IsReason}
use Rattle.wh_prover.specs.declared.answer.Cause.TheVariants.{Stuck}
use Rattle.wh_prover.specs.declared.answer.Options.{Options}
use Rattle.wh_prover_refuting.specs.declared.refuting.Verdict.{Verdict}
use Rattle.wh_prover_refuting.specs.declared.refuting.Verdict.TheVariants.{Refuted, Unrefuted, Unstuck}
use Rattle.wh_prover_refuting.specs.Verdicts.{HasRefutation, IsOfSet, IsUndecided, IsVerdict}

pub because_of : (e : Or RefuteFault) (f : RefuteFault) (P : RefuteFault → Type 0) → e ≡ Because f → IfBecause {T = checked.Refuted} (Err e) P → P f
because_of (Because g) f P is p = let same : g ≡ f = cc is in subst P same p
because_of NoMemory f P is p = cc is

-- the formula of a set of which no projection lets a pair go has no model
pub no_model : (rules : List RewriteRule) (pairs : List PairData) (set : List ℕ) (n : ℕ) (clauses : List (List Literal)) (v : ℕ → Bool)
    → All (λ k. k < length pairs) set → HasNoProjection rules pairs set → IsProjections rules pairs set n clauses → Solves v clauses → ⊥
no_model rules pairs set n clauses v within none formula solves =
    let (args, drop, is, says) = models_are_projections rules pairs set n clauses v within formula solves in none args drop is

verdict_of : (d : SystemData) (ps : List PairData) (o : Options) (set : List ℕ) (v : Verdict) → IsReason d ps o (Stuck set)
    → IsOfSet d.rules ps o.tries set v → IsVerdict d ps o v
verdict_of d ps o set (Refuted one) stuck (same, has) =
    (subst (λ s. IsReason d ps o (Stuck s)) (sym same) stuck, subst (HasRefutation d.rules ps) (sym same) has)
verdict_of d ps o set (Unrefuted one) stuck (same, has) =
    (subst (λ s. IsReason d ps o (Stuck s)) (sym same) stuck, subst (IsUndecided d.rules ps o.tries) (sym same) has)
verdict_of d ps o set (Unstuck answer) stuck is = absurd is

pub verdicts_of : (d : SystemData) (ps : List PairData) (o : Options) (set : List ℕ) (r : Result Verdict AllocError)
    → IsReason d ps o (Stuck set) → IfOk r (IsOfSet d.rules ps o.tries set) → IfOk r (IsVerdict d ps o)
verdicts_of d ps o set (Ok v) stuck is = verdict_of d ps o set v stuck is
verdicts_of d ps o set (Err e) stuck is = tt
