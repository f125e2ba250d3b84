-- The term around a place.
use Rattle.std.proofs.Common.{◌≡◌, ℕ, zero, suc, ◌<◌, List, [], ◌∷◌, length, Option, Some, None, refl, ap, sym, ◌∙◌, subst, arith}
use Rattle.wh_types.specs.Ty.{Ty}
use Rattle.wh_terms.specs.Tree.{Tm, bound, free, fun, meta, lam, app}
use Rattle.wh_terms.specs.Sight.{IsTerm, LooseBelow}
use Rattle.wh_terms.specs.Measures.{Fits}
use Rattle.wh_terms.specs.Places.{part_at}
use Rattle.wh_terms.specs.Typing.{Symbols}
use Rattle.wh_terms.specs.Rules.{RewriteRule, AreWellMade}
use Rattle.wh_step.specs.Replay.{StepAt}
use Rattle.wh_step.specs.Roots.{RootStep, put_at}
use Rattle.wh_step.specs.Contracta.{IsPlain}
use Rattle.wh_step.proofs.RedexLemmas.{manageable_fit, plain_function, plain_argument, plain_body}
use Rattle.wh_step.proofs.RootLaws.{at_of_step, step_of_at, some_one}

pub put_here : (path : List ℕ) (v t : Tm) → length path ≡ 0 → put_at path v t ≡ v
put_here [] v t e = refl
put_here (d ∷ path) v t e = absurd (omega arith)

pub put_in_function : (path : List ℕ) (d : ℕ) (rest : List ℕ) (v t u : Tm) → path ≡ d ∷ rest → d ≡ 0 → put_at path v (app t u) ≡ app (put_at rest v t) u
put_in_function path zero rest v t u e z = ap (λ p. put_at p v (app t u)) e
put_in_function path (suc d) rest v t u e z = absurd (omega arith)

pub put_in_argument : (path : List ℕ) (d : ℕ) (rest : List ℕ) (v t u : Tm) → path ≡ d ∷ rest → 0 < d → put_at path v (app t u) ≡ app t (put_at rest v u)
put_in_argument path zero rest v t u e z = absurd (omega arith)
put_in_argument path (suc d) rest v t u e z = ap (λ p. put_at p v (app t u)) e

pub put_in_body : (path : List ℕ) (d : ℕ) (rest : List ℕ) (v : Tm) (a : Ty) (t : Tm) → path ≡ d ∷ rest → put_at path v (lam a t) ≡ lam a (put_at rest v t)
put_in_body path zero rest v a t e = ap (λ p. put_at p v (lam a t)) e
put_in_body path (suc d) rest v a t e = ap (λ p. put_at p v (lam a t)) e

-- what leads to a part

no_part : (r : Tm) → None ≡ Some r → ⊥
no_part r e = absurd (cc)

-- induction along a path that leads to a part
module _ (r : Tm) (P : List ℕ → Tm → Type 0) (here : (t : Tm) → t ≡ r → P [] t) (front : (path : List ℕ) (t u : Tm) → part_at path t ≡ Some r → P path t → P (0 ∷ path) (app t u))
    (last : (path : List ℕ) (t u : Tm) → part_at path u ≡ Some r → P path u → P (1 ∷ path) (app t u)) (body : (path : List ℕ) (a : Ty) (t : Tm) → part_at path t ≡ Some r → P path t → P (0 ∷ path) (lam a t)) where
  pub along : (path : List ℕ) (t : Tm) → part_at path t ≡ Some r → P path t
  along [] t e = here t (some_one t r e)
  along (zero ∷ path) (app t u) e = front path t u e (along path t e)
  along (suc zero ∷ path) (app t u) e = last path t u e (along path u e)
  along (suc (suc d) ∷ path) (app t u) e = absurd (no_part r e)
  along (zero ∷ path) (lam a t) e = body path a t e (along path t e)
  along (suc zero ∷ path) (lam a t) e = absurd (no_part r e)
  along (suc (suc d) ∷ path) (lam a t) e = absurd (no_part r e)
  along (zero ∷ path) (bound i) e = absurd (no_part r e)
  along (suc zero ∷ path) (bound i) e = absurd (no_part r e)
  along (suc (suc d) ∷ path) (bound i) e = absurd (no_part r e)
  along (zero ∷ path) (free x a) e = absurd (no_part r e)
  along (suc zero ∷ path) (free x a) e = absurd (no_part r e)
  along (suc (suc d) ∷ path) (free x a) e = absurd (no_part r e)
  along (zero ∷ path) (fun f) e = absurd (no_part r e)
  along (suc zero ∷ path) (fun f) e = absurd (no_part r e)
  along (suc (suc d) ∷ path) (fun f) e = absurd (no_part r e)
  along (zero ∷ path) (meta z ts) e = absurd (no_part r e)
  along (suc zero ∷ path) (meta z ts) e = absurd (no_part r e)
  along (suc (suc d) ∷ path) (meta z ts) e = absurd (no_part r e)

-- a part of a plain term is plain
pub plain_part : (path : List ℕ) (t r : Tm) → part_at path t ≡ Some r → IsPlain t → IsPlain r
plain_part path t r =
    along r (λ path t. IsPlain t → IsPlain r)
    (λ t e p. subst IsPlain e p)
    (λ path t u e h p. h (plain_function t u p))
    (λ path t u e h p. h (plain_argument t u p))
    (λ path a t e h p. h (plain_body a t p))
    path t

pub plain_whole : (t : Tm) → Fits t → LooseBelow 0 t → IsTerm t → IsPlain t
plain_whole t f l p = record { in_range = manageable_fit t f l; term = p }

-- a step at the root of the part there, and none

pub step_there : {rules : List RewriteRule} (S : Symbols) → AreWellMade S rules → (k : Option ℕ) (path : List ℕ) (t r v u : Tm) → LooseBelow 0 t → IsTerm t
    → part_at path t ≡ Some r → RootStep rules k r v → u ≡ put_at path v t → StepAt rules k path t u
step_there S w k path t r v u l p here step whole = step_of_at S w k path t u (record { redex = r; contractum = v; here = here; steps = step; whole = whole }) l p

pub no_step_nowhere : {rules : List RewriteRule} (S : Symbols) → AreWellMade S rules → (k : Option ℕ) (path : List ℕ) (t : Tm) → part_at path t ≡ None → (u : Tm) → StepAt rules k path t u → ⊥
no_step_nowhere S w k path t none u s = let at = at_of_step S w s in no_part at.redex (sym none ∙ at.here)

pub no_step_there : {rules : List RewriteRule} (S : Symbols) → AreWellMade S rules → (k : Option ℕ) (path : List ℕ) (t r : Tm) → part_at path t ≡ Some r → ((v : Tm) → RootStep rules k r v → ⊥)
    → (u : Tm) → StepAt rules k path t u → ⊥
no_step_there {rules = rules} S w k path t r here none u s =
    let at = at_of_step S w s in
    none at.contractum (subst (λ q. RootStep rules k q at.contractum) (some_one at.redex r (sym at.here ∙ here)) at.steps)
