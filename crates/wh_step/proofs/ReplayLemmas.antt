-- Steps that follow each other, one more at the end.
use Rattle.std.proofs.Common.{◌≡◌, ℕ, ◌+◌, ◌<◌, List, [], ◌∷◌, ◌++◌, length, take, get_or, refl, ap, sym, ◌∙◌, subst, add-one}
use Rattle.std.proofs.Math.Seq.{take-suc}
use Rattle.wh_terms.specs.Tree.{Tm}
use Rattle.wh_terms.specs.Sight.{IsTerm, LooseBelow}
use Rattle.wh_terms.specs.Measures.{Fits}
use Rattle.wh_terms.specs.Typing.{Symbols}
use Rattle.wh_terms.specs.Rules.{RewriteRule, AreWellMade}
use Rattle.wh_terms.specs.declared.path.Step as taken
use Rattle.wh_terms.proofs.StepOver.{over-loose, over-term}
use Rattle.wh_step.specs.Replay.{StepAt, Replays}
use Rattle.wh_step.proofs.Instances.{instances_loose, instances_terms}
use Rattle.wh_step.proofs.RawStep.{step_raw}
use Rattle.wh_step.proofs.Places.{step_at-step}

replays-snoc : (rules : List RewriteRule) (steps : List taken.Step) (s : taken.Step) (t u v : Tm) → Replays rules steps t u → StepAt rules s.rule s.path u v → Fits v → Replays rules (steps ++ s ∷ []) t v
replays-snoc rules [] s t u v e step fits = (v, subst (λ w. StepAt rules s.rule s.path w v) (sym e) step, fits, refl)
replays-snoc rules (r ∷ steps) s t u v (w, first, small, rest) step fits = (w, first, small, replays-snoc rules steps s w u v rest step fits)

-- one more step of a list
pub replays_next : (rules : List RewriteRule) (steps : List taken.Step) (i : ℕ) (s : taken.Step) (t u v : Tm) → i < length steps → s ≡ get_or steps i s → Replays rules (take i steps) t u
    → StepAt rules s.rule s.path u v → Fits v → Replays rules (take (i + 1) steps) t v
replays_next rules steps i s t u v within is before step fits =
    subst (λ l. Replays rules l t v) (sym (ap (λ n. take n steps) (add-one i) ∙ take-suc steps i s within ∙ ap (λ r. take i steps ++ r ∷ []) (sym is))) (replays-snoc rules (take i steps) s t u v before step fits)

-- a step brings nothing loose and no meta-variable

pub step_shut : {rules : List RewriteRule} {t u : Tm} (S : Symbols) → AreWellMade S rules → (s : taken.Step) → StepAt rules s.rule s.path t u → LooseBelow 0 t → LooseBelow 0 u
step_shut {rules = rules} S w s step l = over-loose (instances_loose S rules w) 0 (step_raw S w (step_at-step step)) l

pub step_term : {rules : List RewriteRule} {t u : Tm} (S : Symbols) → AreWellMade S rules → (s : taken.Step) → StepAt rules s.rule s.path t u → IsTerm t → IsTerm u
step_term {rules = rules} S w s step p = over-term (instances_terms S rules w) (step_raw S w (step_at-step step)) p
