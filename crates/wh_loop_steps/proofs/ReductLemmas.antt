-- What a replay of one step says of the step.
use Rattle.std.proofs.Common.{◌≡◌, ◌≤◌, ℕ, zero, suc, List, [], ◌∷◌, Option, Some, None, Err, sym, subst}
use Rattle.wh_terms.specs.Tree.{Tm}
use Rattle.wh_terms.specs.Typing.{Symbols}
use Rattle.wh_terms.specs.Measures.{Fits, size}
use Rattle.wh_terms.specs.Erase.{tm}
use Rattle.wh_terms.specs.Rules.{RewriteRule, AreWellMade}
use Rattle.wh_terms.specs.declared.term.Term.{Term}
use Rattle.wh_terms.specs.declared.path.Step as taken
use Rattle.wh_step.specs.Replay.{StepAt, Replays}
use Rattle.wh_step.specs.Reducts.{FailsAt, TooBigAt}
use Rattle.wh_step.specs.Replaying.{Replayed}
use Rattle.wh_step.specs.declared.replaying.StepFault.{StepFault}
use Rattle.wh_step.specs.declared.replaying.StepFault.TheVariants.{Fails, TooBig}
use Rattle.wh_step.proofs.RootLaws.{step_one}
use Rattle.wh_loop_steps.specs.Reducts.{IsReduct, HasNoReduct, Reduces, IsIfSmall}

pub replay_fits : (rules : List RewriteRule) (s : taken.Step) (t u : Tm) → Replays rules (s ∷ []) t u → Fits u
replay_fits rules s t u (v, step, fits, is) = subst Fits is fits

replay_step : (rules : List RewriteRule) (s : taken.Step) (t u : Tm) → Replays rules (s ∷ []) t u → StepAt rules s.rule s.path t u
replay_step rules s t u (v, step, fits, is) = subst (StepAt rules s.rule s.path t) is step

pub reduces_by : (S : Symbols) (rules : List RewriteRule) (s : taken.Step) (t : Tm) (u : Term) (o : Option Term) → AreWellMade S rules → Replays rules (s ∷ []) t (tm u) → IsIfSmall u o → Reduces rules s t o
reduces_by S rules s t u (Some w) made r (is, small) =
    subst (λ v. IsReduct rules s t (tm v)) (sym is) (replay_step rules s t (tm u) r, replay_fits rules s t (tm u) r, small)
reduces_by S rules s t u None made r big = λ v (step, fits, small). big (subst (λ w. size w ≤ 2048) (step_one S made step (replay_step rules s t (tm u) r)) small)

one_step : (s step : taken.Step) → Some s ≡ Some step → s ≡ step
one_step s step e = cc

no_step : (step : taken.Step) → None ≡ Some step → ⊥
no_step step e = absurd (cc)

fails : (rules : List RewriteRule) (s : taken.Step) (t : Tm) (i : ℕ) → FailsAt rules (s ∷ []) t i → HasNoReduct rules s t
fails rules s t zero f u (step, fits, small) =
    let same : s ≡ f.step = one_step s f.step f.here in
    let here : t ≡ f.term = f.before in
    f.none u (subst (λ r. StepAt rules r.rule r.path f.term u) same (subst (λ v. StepAt rules s.rule s.path v u) here step))
fails rules s t (suc i) f u h = absurd (no_step f.step f.here)

too_big : (S : Symbols) (rules : List RewriteRule) (s : taken.Step) (t : Tm) (i : ℕ) → AreWellMade S rules → TooBigAt rules (s ∷ []) t i → HasNoReduct rules s t
too_big S rules s t zero made f u (step, fits, small) =
    let same : s ≡ f.step = one_step s f.step f.here in
    let here : t ≡ f.term = f.before in
    f.big (subst Fits (step_one S made (subst (λ r. StepAt rules r.rule r.path f.term u) same (subst (λ v. StepAt rules s.rule s.path v u) here step)) f.applies) fits)
too_big S rules s t (suc i) made f u h = absurd (no_step f.step f.here)

pub no_reduct : (S : Symbols) (rules : List RewriteRule) (s : taken.Step) (t : Tm) (fault : StepFault) → AreWellMade S rules → Replayed rules (s ∷ []) t (Err fault) → HasNoReduct rules s t
no_reduct S rules s t (Fails i) made f = fails rules s t i f
no_reduct S rules s t (TooBig i) made f = too_big S rules s t i made f
