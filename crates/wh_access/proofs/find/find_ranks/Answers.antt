use Rattle.std.proofs.Common.{ap, subst}
use Rattle.wh_terms.specs.Typing.{Symbols}
use Rattle.wh_step_laws.specs.Ranks.{rank_of}
use Rattle.wh_system.specs.SystemView.{system_data}
use Rattle.wh_access.specs.Found.{IsCause, IsCycleIn, MeetTold}
use Rattle.wh_access.proofs.CauseLemmas.{carried}
use Rattle.wh_access.proofs.FindLemmas.{passing_from, told_met, cause_of}
use Rattle.wh_access.proofs.find.find_ranks.Goals as goal

pub returns-clause-passing : goal.returns-clause-passing
returns-clause-passing c =
    let d = system_data c.args.system.now in
    let made = c.is_well_made.ensures in
    let ranks = c.in_ok-ranks_for.field-0 in
    let demands = c.in_ok-demands.demands in
    let met = subst (λ n. MeetTold demands n ranks) (ap (λ (S : Symbols). S.sorts) c.signature.ensures) c.in_ok-ranks_for.ensures in
    passing_from d (rank_of ranks) made c.in_ok-demands.ensures.0 (told_met d demands ranks made.sorts_within c.in_ok-demands.ensures.1 met)

pub returns-in_err-ranks_for-clause-cause : goal.returns-in_err-ranks_for-clause-cause
returns-in_err-ranks_for-clause-cause c =
    let d = system_data c.args.system.now in
    let demands = c.in_ok-demands.demands in
    let sorts = ap (λ (S : Symbols). S.sorts) c.signature.ensures in
    carried c.from_residual-in_err-ranks_for.result c.in_err-ranks_for.field-0.0 (MeetTold demands c.signature.result.now.sorts) (IsCycleIn demands c.signature.result.now.sorts) (IsCause d)
    c.from_residual-in_err-ranks_for.ensures.1 c.in_err-ranks_for.ensures
    (λ e cycle. cause_of d demands e c.is_well_made.ensures.sorts_within c.in_ok-demands.ensures.1 c.in_ok-demands.ensures.0 (subst (λ n. IsCycleIn demands n e) sorts cycle))
