-- The step is replayed on the tree along its path, and read on the whole tree.
use Rattle.std.proofs.Common.{◌≡◌, ◌+◌, ◌-◌, [], ◌∷◌, Err, Some, ap, sym, ◌∙◌, subst, arith}
use Rattle.wh_terms.specs.Erase.{tm, rewrite_rules}
use Rattle.wh_terms.specs.Measures.{Fits, size}
use Rattle.wh_terms.specs.Places.{part_at}
use Rattle.wh_terms.specs.Sight.{LooseBelow, IsTerm}
use Rattle.wh_step.specs.Reducts.{FailsAt, TooBigAt}
use Rattle.wh_step.specs.Replay.{Replays}
use Rattle.wh_step.specs.Replaying.{Replayed}
use Rattle.wh_step.specs.declared.replaying.StepFault.{StepFault}
use Rattle.wh_step_outermost.specs.Strands.{strand}
use Rattle.wh_step_outermost.proofs.StrandLaws.{strand_size, strand_fits, strand_shut, strand_term}
use Rattle.wh_step_outermost.proofs.StrandSteps.{redex_there, result_part, takes_whole, past_size, past_along, never_fails}
use Rattle.wh_step_outermost.proofs.taking.replacement_for.Goals as goal

pub size-requires : goal.size-requires
size-requires c =
    let (S, made) = c.requires.well_made in
    let t = tm c.args.term.now in
    let s = c.args.step.now in
    let (r, here) = redex_there S made s t c.requires.shut c.requires.plain c.requires.applies in
    let is : tm c.in_ok-along.along ≡ strand s.path t = c.in_ok-along.ensures ∙ ap (λ p. strand p t) c.as_slice-path.ensures.steps in
    omega (arith, c.requires.fits.small, strand_size r s.path t here, ap size is)

pub overflow_sub-beside : goal.overflow_sub-beside
overflow_sub-beside c =
    let (S, made) = c.requires.well_made in
    let t = tm c.args.term.now in
    let s = c.args.step.now in
    let (r, here) = redex_there S made s t c.requires.shut c.requires.plain c.requires.applies in
    let is : tm c.in_ok-along.along ≡ strand s.path t = c.in_ok-along.ensures ∙ ap (λ p. strand p t) c.as_slice-path.ensures.steps in
    omega (arith, c.requires.sized, c.size.ensures, strand_size r s.path t here, ap size is)

pub replay-requires-clause-fits : goal.replay-requires-clause-fits
replay-requires-clause-fits c =
    let (S, made) = c.requires.well_made in
    let t = tm c.args.term.now in
    let s = c.args.step.now in
    let (r, here) = redex_there S made s t c.requires.shut c.requires.plain c.requires.applies in
    let is : tm c.in_ok-along.along ≡ strand s.path t = c.in_ok-along.ensures ∙ ap (λ p. strand p t) c.as_slice-path.ensures.steps in
    subst Fits (sym is) (strand_fits r s.path t here c.requires.fits)

pub replay-requires-clause-shut : goal.replay-requires-clause-shut
replay-requires-clause-shut c =
    let (S, made) = c.requires.well_made in
    let t = tm c.args.term.now in
    let s = c.args.step.now in
    let (r, here) = redex_there S made s t c.requires.shut c.requires.plain c.requires.applies in
    let is : tm c.in_ok-along.along ≡ strand s.path t = c.in_ok-along.ensures ∙ ap (λ p. strand p t) c.as_slice-path.ensures.steps in
    subst (LooseBelow 0) (sym is) (strand_shut r s.path t here 0 c.requires.shut)

pub replay-requires-clause-plain : goal.replay-requires-clause-plain
replay-requires-clause-plain c =
    let (S, made) = c.requires.well_made in
    let t = tm c.args.term.now in
    let s = c.args.step.now in
    let (r, here) = redex_there S made s t c.requires.shut c.requires.plain c.requires.applies in
    let is : tm c.in_ok-along.along ≡ strand s.path t = c.in_ok-along.ensures ∙ ap (λ p. strand p t) c.as_slice-path.ensures.steps in
    subst IsTerm (sym is) (strand_term r s.path t here c.requires.plain)

pub returns-then-total-from : goal.returns-then-total-from
returns-then-total-from c =
    let (S, made) = c.requires.well_made in
    let system = rewrite_rules c.args.rules.now in
    let t = tm c.args.term.now in
    let s = c.args.step.now in
    let list = c.from_ref.result.now in
    let (r, here) = redex_there S made s t c.requires.shut c.requires.plain c.requires.applies in
    let is : tm c.in_ok-along.along ≡ strand s.path t = c.in_ok-along.ensures ∙ ap (λ p. strand p t) c.as_slice-path.ensures.steps in
    let next = tm c.in-Ok.next in
    let replays : Replays system (s ∷ []) (strand s.path t) next =
    subst (λ x. Replays system (s ∷ []) x next) is (subst (λ l. Replays system l (tm c.in_ok-along.along) next) c.from_ref.ensures.value (subst (Replayed system list (tm c.in_ok-along.along)) c.in-Ok.is c.in_ok-next.ensures)) in
    let n = c.args.total - c.size.result + c.size-in-Ok.result in
    let sum : n ≡ size t - size (strand s.path t) + size next = omega (arith, c.requires.sized, c.size.ensures, c.size-in-Ok.ensures, ap size is) in
    past_size S made s t c.requires.shut c.requires.plain r here c.requires.fits next replays n sum (omega (arith, c.if-total-from.true, c.from.ensures))

pub part_of-requires : goal.part_of-requires
part_of-requires c =
    let (S, made) = c.requires.well_made in
    let system = rewrite_rules c.args.rules.now in
    let t = tm c.args.term.now in
    let s = c.args.step.now in
    let list = c.from_ref.result.now in
    let (r, here) = redex_there S made s t c.requires.shut c.requires.plain c.requires.applies in
    let is : tm c.in_ok-along.along ≡ strand s.path t = c.in_ok-along.ensures ∙ ap (λ p. strand p t) c.as_slice-path.ensures.steps in
    let next = tm c.in-Ok.next in
    let replays : Replays system (s ∷ []) (strand s.path t) next =
    subst (λ x. Replays system (s ∷ []) x next) is (subst (λ l. Replays system l (tm c.in_ok-along.along) next) c.from_ref.ensures.value (subst (Replayed system list (tm c.in_ok-along.along)) c.in-Ok.is c.in_ok-next.ensures)) in
    let (v, there) = result_part S made s t c.requires.shut c.requires.plain r here next replays in
    record { there = (v, ap (λ p. part_at p next) c.as_slice-path.ensures.steps ∙ there) }

pub returns-in-Ok : goal.returns-in-Ok
returns-in-Ok c =
    let (S, made) = c.requires.well_made in
    let system = rewrite_rules c.args.rules.now in
    let t = tm c.args.term.now in
    let s = c.args.step.now in
    let list = c.from_ref.result.now in
    let (r, here) = redex_there S made s t c.requires.shut c.requires.plain c.requires.applies in
    let is : tm c.in_ok-along.along ≡ strand s.path t = c.in_ok-along.ensures ∙ ap (λ p. strand p t) c.as_slice-path.ensures.steps in
    let next = tm c.in-Ok.next in
    let replays : Replays system (s ∷ []) (strand s.path t) next =
    subst (λ x. Replays system (s ∷ []) x next) is (subst (λ l. Replays system l (tm c.in_ok-along.along) next) c.from_ref.ensures.value (subst (Replayed system list (tm c.in_ok-along.along)) c.in-Ok.is c.in_ok-next.ensures)) in
    let n = c.args.total - c.size.result + c.size-in-Ok.result in
    let sum : n ≡ size t - size (strand s.path t) + size next = omega (arith, c.requires.sized, c.size.ensures, c.size-in-Ok.ensures, ap size is) in
    let v = tm c.part_of.result in
    let there : part_at s.path next ≡ Some v = ap (λ p. part_at p next) (sym c.as_slice-path.ensures.steps) ∙ c.part_of.ensures in
    takes_whole S made s t c.requires.shut c.requires.plain r here c.requires.fits next replays n sum v there (omega (arith, c.if-total-from.false, c.from.ensures))

pub returns-in-Err-TooBig : goal.returns-in-Err-TooBig
returns-in-Err-TooBig c =
    let (S, made) = c.requires.well_made in
    let system = rewrite_rules c.args.rules.now in
    let t = tm c.args.term.now in
    let s = c.args.step.now in
    let list = c.from_ref.result.now in
    let (r, here) = redex_there S made s t c.requires.shut c.requires.plain c.requires.applies in
    let is : tm c.in_ok-along.along ≡ strand s.path t = c.in_ok-along.ensures ∙ ap (λ p. strand p t) c.as_slice-path.ensures.steps in
    let i = c.in-Err-TooBig.field-0-0 in
    let told : TooBigAt system list (tm c.in_ok-along.along) i =
    subst (λ (f : StepFault). Replayed system list (tm c.in_ok-along.along) (Err f)) c.in-Err-TooBig.field-0-is (subst (Replayed system list (tm c.in_ok-along.along)) c.in-Err-TooBig.is c.in_ok-next.ensures) in
    let big : TooBigAt system (s ∷ []) (strand s.path t) i =
    subst (λ x. TooBigAt system (s ∷ []) x i) is (subst (λ l. TooBigAt system l (tm c.in_ok-along.along) i) c.from_ref.ensures.value told) in
    past_along S made s t c.requires.shut c.requires.plain r here c.requires.fits i big

pub unreachable-requires : goal.unreachable-requires
unreachable-requires c =
    let (S, made) = c.requires.well_made in
    let system = rewrite_rules c.args.rules.now in
    let t = tm c.args.term.now in
    let s = c.args.step.now in
    let list = c.from_ref.result.now in
    let (r, here) = redex_there S made s t c.requires.shut c.requires.plain c.requires.applies in
    let is : tm c.in_ok-along.along ≡ strand s.path t = c.in_ok-along.ensures ∙ ap (λ p. strand p t) c.as_slice-path.ensures.steps in
    let i = c.in-Err-Fails.field-0-0 in
    let told : FailsAt system list (tm c.in_ok-along.along) i =
    subst (λ (f : StepFault). Replayed system list (tm c.in_ok-along.along) (Err f)) c.in-Err-Fails.field-0-is (subst (Replayed system list (tm c.in_ok-along.along)) c.in-Err-Fails.is c.in_ok-next.ensures) in
    let fails : FailsAt system (s ∷ []) (strand s.path t) i =
    subst (λ x. FailsAt system (s ∷ []) x i) is (subst (λ l. FailsAt system l (tm c.in_ok-along.along) i) c.from_ref.ensures.value told) in
    never_fails S made s t c.requires.shut c.requires.plain r here i fails c.requires.applies
