-- Computability is the same for two relations that step typed terms alike; so that by the steps of a system is that by
-- its steps on raw bodies.
use Rattle.std.proofs.Common.{ℕ, zero, suc, Bool, true, false, ltb, List, []}
use Rattle.wh_types.specs.Ty.{Ty, sort, ◌⇒◌}
use Rattle.wh_terms.specs.Tree.{Tm, app}
use Rattle.wh_terms.specs.Typing.{Symbols, Typed}
use Rattle.wh_terms.specs.Rules.{RewriteRule, AreWellMade}
use Rattle.wh_terms.proofs.TypingLaws.{typed_loose, typed_term}
use Rattle.wh_step.specs.Step.{Step}
use Rattle.wh_step.proofs.RawStep.{RawStep, step_raw, raw_step}
use Rattle.wh_step_laws.specs.Ranks.{above_ranks}
use Rattle.wh_step_laws.specs.Computable.{ComputableAt, computable_at, by_test, ComputableUpTo, ComputableBelow, Computable}

-- each step of a typed term by R is one by Q
abbrev pub IsStepBy : Symbols → (Tm → Tm → Type 0) → (Tm → Tm → Type 0) → Type 0
IsStepBy S R Q = (t u : Tm) (a : Ty) → Typed S [] [] t a → R t u → Q t u

at-same : {S : Symbols} {rank : ℕ → ℕ} {R Q : Tm → Tm → Type 0} {Low Low' : Ty → Tm → Type 0} {s : ℕ} {t : Tm} → IsStepBy S Q R → ((a : Ty) (u : Tm) → Low a u → Low' a u) → ComputableAt S rank R Low s t → ComputableAt S rank Q Low' s t
at-same h l (computable_at {s = s} {t = t} p k e m) =
    computable_at p (λ u q. at-same h l (k u (h t u (sort s) p q))) (λ f i r ts u c place same at. at-same h l (e f i r ts u c place same at))
    (λ f i a ts u c place low at. l a u (m f i a ts u c place low at))

by_test-same : {P P' Q Q' : Type 0} (b : Bool) → (P → P') → (Q → Q') → by_test b P Q → by_test b P' Q'
by_test-same true p q h = p h
by_test-same false p q h = q h

-- from one kind to another, and back
abbrev pub Both : (Ty → Tm → Type 0) → (Ty → Tm → Type 0) → Ty → Tm → Type 0
Both P Q a t = (P a t → Q a t) × (Q a t → P a t)

up_to-same : (S : Symbols) (rank : ℕ → ℕ) (R Q : Tm → Tm → Type 0) (Low Low' : Ty → Tm → Type 0) (k : ℕ) → IsStepBy S R Q → IsStepBy S Q R → ((a : Ty) (t : Tm) → Both Low Low' a t)
    → (a : Ty) (t : Tm) → Both (ComputableUpTo S rank R Low k) (ComputableUpTo S rank Q Low' k) a t
up_to-same S rank R Q Low Low' k h g l (sort s) t =
    (by_test-same (ltb (rank s) k) (l (sort s) t).0 (at-same g (λ a u. (l a u).0)), by_test-same (ltb (rank s) k) (l (sort s) t).1 (at-same h (λ a u. (l a u).1)))
up_to-same S rank R Q Low Low' k h g l (a ⇒ b) t = (
  λ (p, f). (p, λ u c. (up_to-same S rank R Q Low Low' k h g l b (app t u)).0 (f u ((up_to-same S rank R Q Low Low' k h g l a u).1 c))),
  λ (p, f). (p, λ u c. (up_to-same S rank R Q Low Low' k h g l b (app t u)).1 (f u ((up_to-same S rank R Q Low Low' k h g l a u).0 c))),
)

below-same : (S : Symbols) (rank : ℕ → ℕ) (R Q : Tm → Tm → Type 0) → IsStepBy S R Q → IsStepBy S Q R → (k : ℕ) (a : Ty) (t : Tm) → Both (ComputableBelow S rank R k) (ComputableBelow S rank Q k) a t
below-same S rank R Q h g zero a t = (λ c. c, λ c. c)
below-same S rank R Q h g (suc k) a t = up_to-same S rank R Q (ComputableBelow S rank R k) (ComputableBelow S rank Q k) k h g (below-same S rank R Q h g k) a t

raw_is_step : (S : Symbols) (rules : List RewriteRule) → AreWellMade S rules → IsStepBy S (RawStep rules) (Step rules)
raw_is_step S rules w t u a p s = raw_step S w s (typed_loose p) (typed_term t p)

step_is_raw : (S : Symbols) (rules : List RewriteRule) → AreWellMade S rules → IsStepBy S (Step rules) (RawStep rules)
step_is_raw S rules w t u a p s = step_raw S w s

pub computable-raw : {S : Symbols} {rules : List RewriteRule} → AreWellMade S rules → (rank : ℕ → ℕ) (a : Ty) (t : Tm) → Computable S rank (Step rules) a t → Computable S rank (RawStep rules) a t
computable-raw {S = S} {rules = rules} w rank a t = (below-same S rank (Step rules) (RawStep rules) (step_is_raw S rules w) (raw_is_step S rules w) (above_ranks rank a) a t).0

pub raw-computable : {S : Symbols} {rules : List RewriteRule} → AreWellMade S rules → (rank : ℕ → ℕ) (a : Ty) (t : Tm) → Computable S rank (RawStep rules) a t → Computable S rank (Step rules) a t
raw-computable {S = S} {rules = rules} w rank a t = (below-same S rank (Step rules) (RawStep rules) (step_is_raw S rules w) (raw_is_step S rules w) (above_ranks rank a) a t).1
