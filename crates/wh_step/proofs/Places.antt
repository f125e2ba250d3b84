-- Steps at places are steps, and each step has a place; a replay is a reduction.
use Rattle.std.proofs.Common.{◌≡◌, ℕ, suc, List, [], ◌∷◌, length, Option, Some, None, refl, ap, sym}
use Rattle.std.proofs.lemmas.Option.{slice_get_within, slice_get_read, get_or_from_slice_get}
use Rattle.wh_terms.specs.Tree.{Tm}
use Rattle.wh_terms.specs.Rules.{RewriteRule}
use Rattle.wh_terms.specs.declared.path.Step as taken
use Rattle.wh_step.specs.Step.{Step, beta, by_rule, in_function, in_argument, in_body}
use Rattle.wh_step.specs.Replay.{StepAt, beta_here, rule_here, at_function, at_argument, at_body, Replays}
use Rattle.wh_step.specs.Reduction.{Reduction, last_of}

pub step_at-step : {rules : List RewriteRule} {k : Option ℕ} {path : List ℕ} {t u : Tm} → StepAt rules k path t u → Step rules t u
step_at-step (beta_here e) = beta e
step_at-step {rules = rules} (rule_here {k = k} r g e w l m) = by_rule r g (k, slice_get_within rules k r e, get_or_from_slice_get rules k r r e) w l m
step_at-step (at_function s) = in_function (step_at-step s)
step_at-step (at_argument s) = in_argument (step_at-step s)
step_at-step (at_body x f g s) = in_body x f g (step_at-step s)

-- t steps to u at some place
abbrev pub StepsSomewhere : List RewriteRule → Tm → Tm → Type 0
StepsSomewhere rules t u = (k : Option ℕ) × (path : List ℕ) × StepAt rules k path t u

pub step-step_at : {rules : List RewriteRule} {t u : Tm} → Step rules t u → StepsSomewhere rules t u
step-step_at (beta e) = (None, [], beta_here e)
step-step_at {rules = rules} (by_rule r g (k, h, e) w l m) = (Some k, [], rule_here r g (slice_get_read rules (length rules) k r refl h (sym e)) w l m)
step-step_at (in_function s) = let (k, path, at) = step-step_at s in (k, 0 ∷ path, at_function at)
step-step_at (in_argument s) = let (k, path, at) = step-step_at s in (k, 1 ∷ path, at_argument at)
step-step_at (in_body x f g s) = let (k, path, at) = step-step_at s in (k, 0 ∷ path, at_body x f g at)

-- the steps from t to u, as a reduction
pub replay-reduction : {rules : List RewriteRule} (steps : List taken.Step) (t u : Tm) → Replays rules steps t u
    → (l : List Tm) × Reduction rules t l × (length l ≡ length steps) × (last_of t l ≡ u)
replay-reduction [] t u e = ([], tt, refl, e)
replay-reduction (s ∷ steps) t u (v, at, fits, rest) =
    let (l, w, n, e) = replay-reduction steps v u rest in
    (v ∷ l, (step_at-step at, w), ap suc n, e)
