-- What all types in a tree have, of binders and of free variables, is kept by steps.
use Rattle.std.proofs.Common.{inl, inr, ℕ, zero, suc, ◌+◌, List, [], ◌∷◌, Contains, refl, sym, subst}
use Rattle.wh_types.specs.Ty.{Ty}
use Rattle.wh_terms.specs.Tree.{Tm, bound, free, fun, meta, lam, app, Tms, none, more}
use Rattle.wh_terms.specs.Substitution.{up_renaming, rename, renames, up, up_free, act, acts, cons, opened}
use Rattle.wh_terms.specs.Sight.{Occurs, OccursIn}
use Rattle.wh_terms.specs.Pattern.{IsPatternUnder, IsPatternSpine}
use Rattle.wh_terms.specs.Typing.{Symbols}
use Rattle.wh_terms.specs.Rules.{RewriteRule, AreWellMade}
use Rattle.wh_terms.specs.Value.{Body, parameters}
use Rattle.wh_terms.proofs.ValueForm.{up_times, shifted, value, values}
use Rattle.wh_terms.proofs.ValueSight.{bound_occurs}
use Rattle.wh_terms.proofs.StepOver.{over_root, over_beta, over_function, over_argument, over_body}
use Rattle.wh_step.specs.Reduction.{Walk, last_of}
use Rattle.wh_step.proofs.Instances.{Instance, instance_of}
use Rattle.wh_step.proofs.RawStep.{RawStep}

-- each type in the tree has P
abbrev mutual
  pub TypesHave : (Ty → Type 0) → Tm → Type 0
  TypesHave P (free x a) = P a
  TypesHave P (meta z ts) = AllTypesHave P ts
  TypesHave P (lam a t) = P a × TypesHave P t
  TypesHave P (app t u) = TypesHave P t × TypesHave P u
  TypesHave P _ = Unit {0}

  pub AllTypesHave : (Ty → Type 0) → Tms → Type 0
  AllTypesHave P none = Unit {0}
  AllTypesHave P (more t ts) = TypesHave P t × AllTypesHave P ts

-- substitutions for loose variables

mutual
  unfolding rename renames

  types-rename : (P : Ty → Type 0) (ρ : ℕ → ℕ) (t : Tm) → TypesHave P t → TypesHave P (rename ρ t)
  types-rename P ρ (bound i) h = tt
  types-rename P ρ (free x a) h = h
  types-rename P ρ (fun f) h = tt
  types-rename P ρ (meta z ts) h = all_types-renames P ρ ts h
  types-rename P ρ (lam a t) h = (h.0, types-rename P (up_renaming ρ) t h.1)
  types-rename P ρ (app t u) h = (types-rename P ρ t h.0, types-rename P ρ u h.1)

  all_types-renames : (P : Ty → Type 0) (ρ : ℕ → ℕ) (ts : Tms) → AllTypesHave P ts → AllTypesHave P (renames ρ ts)
  all_types-renames P ρ none h = tt
  all_types-renames P ρ (more t ts) h = (types-rename P ρ t h.0, all_types-renames P ρ ts h.1)

mutual
  unfolding rename renames

  types-rename-back : (P : Ty → Type 0) (ρ : ℕ → ℕ) (t : Tm) → TypesHave P (rename ρ t) → TypesHave P t
  types-rename-back P ρ (bound i) h = tt
  types-rename-back P ρ (free x a) h = h
  types-rename-back P ρ (fun f) h = tt
  types-rename-back P ρ (meta z ts) h = all_types-renames-back P ρ ts h
  types-rename-back P ρ (lam a t) h = (h.0, types-rename-back P (up_renaming ρ) t h.1)
  types-rename-back P ρ (app t u) h = (types-rename-back P ρ t h.0, types-rename-back P ρ u h.1)

  all_types-renames-back : (P : Ty → Type 0) (ρ : ℕ → ℕ) (ts : Tms) → AllTypesHave P (renames ρ ts) → AllTypesHave P ts
  all_types-renames-back P ρ none h = tt
  all_types-renames-back P ρ (more t ts) h = (types-rename-back P ρ t h.0, all_types-renames-back P ρ ts h.1)

abbrev AreTyped : (Ty → Type 0) → (ℕ → Tm) → Type 0
AreTyped P σ = (i : ℕ) → TypesHave P (σ i)

types-up : (P : Ty → Type 0) (σ : ℕ → Tm) → AreTyped P σ → AreTyped P (up σ)
unfolding up
types-up P σ h zero = tt
types-up P σ h (suc i) = types-rename P suc (σ i) (h i)

types-cons : (P : Ty → Type 0) (t : Tm) (σ : ℕ → Tm) → TypesHave P t → AreTyped P σ → AreTyped P (cons t σ)
unfolding cons
types-cons P t σ h k zero = h
types-cons P t σ h k (suc i) = k i

types-parameters : (P : Ty → Type 0) (ts : Tms) (σ : ℕ → Tm) → AllTypesHave P ts → AreTyped P σ → AreTyped P (parameters ts σ)
unfolding parameters
types-parameters P none σ h k = k
types-parameters P (more t ts) σ h k = types-parameters P ts (cons t σ) h.1 (types-cons P t σ h.0 k)

mutual
  unfolding act acts up_free rename

  types-act : (P : Ty → Type 0) (σ : ℕ → Tm) (t : Tm) → AreTyped P σ → TypesHave P t → TypesHave P (act σ free t)
  types-act P σ (bound i) k h = k i
  types-act P σ (free x a) k h = h
  types-act P σ (fun f) k h = tt
  types-act P σ (meta z ts) k h = all_types-acts P σ ts k h
  types-act P σ (lam a t) k h = (h.0, types-act P (up σ) t (types-up P σ k) h.1)
  types-act P σ (app t u) k h = (types-act P σ t k h.0, types-act P σ u k h.1)

  all_types-acts : (P : Ty → Type 0) (σ : ℕ → Tm) (ts : Tms) → AreTyped P σ → AllTypesHave P ts → AllTypesHave P (acts σ free ts)
  all_types-acts P σ none k h = tt
  all_types-acts P σ (more t ts) k h = (types-act P σ t k h.0, all_types-acts P σ ts k h.1)

mutual
  unfolding act acts up_free rename

  types-act-back : (P : Ty → Type 0) (σ : ℕ → Tm) (t : Tm) → TypesHave P (act σ free t) → TypesHave P t
  types-act-back P σ (bound i) h = tt
  types-act-back P σ (free x a) h = h
  types-act-back P σ (fun f) h = tt
  types-act-back P σ (meta z ts) h = all_types-acts-back P σ ts h
  types-act-back P σ (lam a t) h = (h.0, types-act-back P (up σ) t h.1)
  types-act-back P σ (app t u) h = (types-act-back P σ t h.0, types-act-back P σ u h.1)

  all_types-acts-back : (P : Ty → Type 0) (σ : ℕ → Tm) (ts : Tms) → AllTypesHave P (acts σ free ts) → AllTypesHave P ts
  all_types-acts-back P σ none h = tt
  all_types-acts-back P σ (more t ts) h = (types-act-back P σ t h.0, all_types-acts-back P σ ts h.1)

pub types-opened : (P : Ty → Type 0) (u t : Tm) → TypesHave P u → TypesHave P t → TypesHave P (opened u t)
unfolding opened
types-opened P u t h k = types-act P (cons u bound) t (types-cons P u bound h (λ i. tt)) k

-- values

mutual
  unfolding value values

  types-value : (P : Ty → Type 0) (g : ℕ → Body) (t : Tm) → ((z : ℕ) → Occurs z t → TypesHave P (g z).tree) → TypesHave P t → TypesHave P (value g t)
  types-value P g (bound i) k h = tt
  types-value P g (free x a) k h = h
  types-value P g (fun f) k h = tt
  types-value P g (meta z ts) k h =
      types-act P (parameters (values g ts) bound) (g z).tree (types-parameters P (values g ts) bound (all_types-values P g ts (λ y o. k y (inr o)) h) (λ i. tt)) (k z (inl refl))
  types-value P g (lam a t) k h = (h.0, types-value P (shifted g) t (λ z o. types-rename P (up_times (g z).arity suc) (g z).tree (k z o)) h.1)
  types-value P g (app t u) k h = (types-value P g t (λ z o. k z (inl o)) h.0, types-value P g u (λ z o. k z (inr o)) h.1)

  all_types-values : (P : Ty → Type 0) (g : ℕ → Body) (ts : Tms) → ((z : ℕ) → OccursIn z ts → TypesHave P (g z).tree) → AllTypesHave P ts → AllTypesHave P (values g ts)
  all_types-values P g none k h = tt
  all_types-values P g (more t ts) k h = (types-value P g t (λ z o. k z (inl o)) h.0, all_types-values P g ts (λ z o. k z (inr o)) h.1)

mutual
  unfolding value

  -- the value of a pattern has all types of the bodies
  pattern_types : (P : Ty → Type 0) (m : ℕ) (g : ℕ → Body) (p : Tm) → IsPatternUnder m p → TypesHave P (value g p) → (z : ℕ) → Occurs z p → TypesHave P (g z).tree
  pattern_types P m g (meta z ts) p h y (inl e) = subst (λ n. TypesHave P (g n).tree) e (types-act-back P (parameters (values g ts) bound) (g z).tree h)
  pattern_types P m g (meta z ts) p h y (inr o) = absurd (bound_occurs m y ts p.0 o)
  pattern_types P m g (lam a t) p h z o = types-rename-back P (up_times (g z).arity suc) (g z).tree (pattern_types P (m + 1) (shifted g) t p h.1 z o)
  pattern_types P m g (bound i) p h z o = absurd o
  pattern_types P m g (fun c) p h z o = absurd o
  pattern_types P m g (free x a) p h z o = absurd o
  pattern_types P m g (app t u) p h z (inl o) = spine_types P m g t p.0 h.0 z o
  pattern_types P m g (app t u) p h z (inr o) = pattern_types P m g u p.1 h.1 z o

  spine_types : (P : Ty → Type 0) (m : ℕ) (g : ℕ → Body) (p : Tm) → IsPatternSpine m p → TypesHave P (value g p) → (z : ℕ) → Occurs z p → TypesHave P (g z).tree
  spine_types P m g (bound i) p h z o = absurd o
  spine_types P m g (fun c) p h z o = absurd o
  spine_types P m g (free x a) p h z o = absurd o
  spine_types P m g (meta y ts) p h z o = absurd p
  spine_types P m g (lam a t) p h z o = absurd p
  spine_types P m g (app t u) p h z (inl o) = spine_types P m g t p.0 h.0 z o
  spine_types P m g (app t u) p h z (inr o) = pattern_types P m g u p.1 h.1 z o

-- steps

abbrev pub RightTypesHave : (Ty → Type 0) → List RewriteRule → Type 0
RightTypesHave P rules = (r : RewriteRule) → Contains rules r → TypesHave P r.right

instance_types : {P : Ty → Type 0} {rules : List RewriteRule} {t u : Tm} (S : Symbols) → AreWellMade S rules → RightTypesHave P rules → Instance rules t u → TypesHave P t → TypesHave P u
instance_types {P = P} S w k (instance_of r g c f q e d) h =
    let m = w.each r c in
    let bodies = pattern_types P 0 g r.left m.pattern_left (subst (TypesHave P) e h) in
    subst (TypesHave P) (sym d) (types-value P g r.right (λ z o. bodies z (m.known z o)) (k r c))

step_types : {P : Ty → Type 0} {rules : List RewriteRule} {t u : Tm} (S : Symbols) → AreWellMade S rules → RightTypesHave P rules → RawStep rules t u → TypesHave P t → TypesHave P u
step_types S w k (over_root i) h = instance_types S w k i h
step_types {P = P} S w k (over_beta {t = t} {u = u} e) h = subst (TypesHave P) (sym e) (types-opened P u t h.1 h.0.1)
step_types S w k (over_function s) h = (step_types S w k s h.0, h.1)
step_types S w k (over_argument s) h = (h.0, step_types S w k s h.1)
step_types S w k (over_body s) h = (h.0, step_types S w k s h.1)

pub walk_types : {P : Ty → Type 0} {rules : List RewriteRule} (S : Symbols) → AreWellMade S rules → RightTypesHave P rules → (t : Tm) (l : List Tm) → Walk (RawStep rules) t l → TypesHave P t → TypesHave P (last_of t l)
walk_types S w k t [] s h = h
walk_types S w k t (u ∷ l) s h = walk_types S w k u l s.1 (step_types S w k s.0 h)
