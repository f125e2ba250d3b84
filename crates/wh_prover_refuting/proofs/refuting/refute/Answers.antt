use Rattle.std.proofs.Common.{ℕ, ◌≡◌, ◌<◌, List, All, subst}
use Rattle.std.proofs.lemmas.List.{length-map}
use Rattle.wh_pairs.specs.PairData.{pair_data}
use Rattle.wh_pairs.specs.Views.{pairs_data}
use Rattle.wh_system.specs.SystemView.{system_data}
use Rattle.wh_system.specs.Systems.{SystemData}
use Rattle.wh_pairs.specs.PairData.{PairData}
use Rattle.wh_prover.specs.Answers.{IsReason}
use Rattle.wh_prover.specs.declared.answer.Options.{Options}
use Rattle.wh_prover.specs.declared.answer.Cause.{Cause}
use Rattle.wh_prover.specs.declared.answer.Cause.TheVariants.{Stuck}
use Rattle.wh_prover.proofs.ArriveLemmas.{arrives_within}
use Rattle.wh_prover_refuting.proofs.Verdicts.{verdicts_of}
use Rattle.wh_prover_refuting.proofs.refuting.refute.Goals as goal

-- the reason is that the search is stuck on the set
stuck : (d : SystemData) (ps : List PairData) (o : Options) (cause : Cause) (set : List ℕ) → cause ≡ Stuck set → IsReason d ps o cause
    → IsReason d ps o (Stuck set)
stuck d ps o cause set same is = subst (IsReason d ps o) same is

pub of_set-requires-clause-set : goal.of_set-requires-clause-set
of_set-requires-clause-set c =
    let is = stuck (system_data c.args.system.now) (pairs_data c.args.pairs.now) c.args.options.now c.in-Maybe-Stuck.field-0 c.in-Maybe-Stuck.set
    c.in-Maybe-Stuck.field-0-is (rw c.in-Maybe-Stuck.is at c.in_ok-answer.ensures) in
    let within = arrives_within (system_data c.args.system.now) (pairs_data c.args.pairs.now) c.in-Maybe-Stuck.set is.0.ended.arrives in
    subst (λ (m : ℕ). All (λ (k : ℕ). k < m) c.in-Maybe-Stuck.set) (length-map c.args.pairs.now pair_data) within

pub of_set-requires-clause-none : goal.of_set-requires-clause-none
of_set-requires-clause-none c = let is = stuck (system_data c.args.system.now) (pairs_data c.args.pairs.now) c.args.options.now c.in-Maybe-Stuck.field-0 c.in-Maybe-Stuck.set
    c.in-Maybe-Stuck.field-0-is (rw c.in-Maybe-Stuck.is at c.in_ok-answer.ensures) in is.0.no_projection

pub returns-in-Maybe-Stuck : goal.returns-in-Maybe-Stuck
returns-in-Maybe-Stuck c =
    let is = stuck (system_data c.args.system.now) (pairs_data c.args.pairs.now) c.args.options.now c.in-Maybe-Stuck.field-0 c.in-Maybe-Stuck.set
    c.in-Maybe-Stuck.field-0-is (rw c.in-Maybe-Stuck.is at c.in_ok-answer.ensures) in
    verdicts_of (system_data c.args.system.now) (pairs_data c.args.pairs.now) c.args.options.now c.in-Maybe-Stuck.set c.of_set.result is c.of_set.ensures
