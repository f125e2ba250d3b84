-- Starts, paths, and the types of the terms on them.
use Rattle.std.proofs.Common.{◌≡◌, ℕ, suc, ◌<◌, List, [], ap, sym, ◌∙◌, arith}
use Rattle.wh_terms.specs.Tree.{Tm}
use Rattle.wh_terms.specs.Typing.{Symbols, WellTyped}
use Rattle.wh_terms.specs.Sight.{LooseBelow, IsTerm}
use Rattle.wh_terms.specs.Rules.{RewriteRule, AreWellMade}
use Rattle.wh_terms.proofs.TypingLaws.{typed_loose, typed_term}
use Rattle.wh_terms.proofs.StepOver.{over-typed}
use Rattle.wh_step.specs.Step.{Step}
use Rattle.wh_step.proofs.Instances.{instances_typed}
use Rattle.wh_step.proofs.RawStep.{step_raw}
use Rattle.wh_step.proofs.RootLaws.{same_rule}
use Rattle.wh_loop_starts.specs.Starts.{IsStart, start_of}
use Rattle.wh_loop_starts.specs.Space.{InSpace, Path, at_start, further, Reached}

pub start_one : (rules : List RewriteRule) (n : ℕ) (s t : Tm) → IsStart rules n s → IsStart rules n t → s ≡ t
start_one rules n s t (r, e, is) (q, d, js) = is ∙ ap start_of (sym (same_rule rules n r q e d)) ∙ sym js

pub path_space : {rules : List RewriteRule} {n k : ℕ} {t : Tm} → Path rules n k t → InSpace t
path_space (at_start start space) = space
path_space (further path step space) = space

pub path_start : {rules : List RewriteRule} {n k : ℕ} {t : Tm} → Path rules n k t → (s : Tm) × IsStart rules n s × InSpace s
path_start (at_start {t = t} start space) = (t, start, space)
path_start (further path step space) = path_start path

pub typed_next : (S : Symbols) (rules : List RewriteRule) (t u : Tm) → AreWellMade S rules → Step rules t u → WellTyped S t → WellTyped S u
typed_next S rules t u made step (a, p) = (a, over-typed S (instances_typed S rules made) [] a (step_raw S made step) p)

pub shut_typed : (S : Symbols) (t : Tm) → WellTyped S t → LooseBelow 0 t
shut_typed S t (a, p) = typed_loose p

pub plain_typed : (S : Symbols) (t : Tm) → WellTyped S t → IsTerm t
plain_typed S t (a, p) = typed_term t p

pub reached_next : (rules : List RewriteRule) (n low level : ℕ) (t u : Tm) → Reached rules low n t → low < level → Step rules t u → InSpace u → Reached rules level n u
reached_next rules n low level t u (k, few, path) less step space = (suc k, omega arith, further path step space)
