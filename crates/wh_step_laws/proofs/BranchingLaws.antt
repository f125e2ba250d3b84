-- Each tree steps to finitely many, and so a bound on all walks is what accessibility gives.
use Rattle.std.proofs.Common.{◌≡◌, ℕ, Bool, true, false, List, [], ◌∷◌, ◌⊎◌, inl, inr, refl, ap, sym, ◌∙◌, subst}
use Rattle.wh_types.specs.Ty.{Ty}
use Rattle.wh_terms.specs.Tree.{Tm, bound, free, fun, meta, lam, app}
use Rattle.wh_terms.specs.Substitution.{opened}
use Rattle.wh_terms.specs.Sight.{Occurs}
use Rattle.wh_terms.specs.Typing.{Symbols}
use Rattle.wh_terms.specs.Value.{Body, Value}
use Rattle.wh_terms.specs.Rules.{RewriteRule, IsWellMade, AreWellMade}
use Rattle.wh_terms.specs.StepOver.{StepOver, over_root, over_beta, over_function, over_argument, over_body}
use Rattle.wh_terms.proofs.ValueForm.{value, FitsBodies, value_agree}
use Rattle.wh_terms.proofs.ValueLaws.{value_is, has_value}
use Rattle.wh_step.proofs.Instances.{Instance, instance_of}
use Rattle.wh_step_laws.proofs.Listed.{In, Listed, listed_none, listed_one, listed_same, listed_or, listed_map, in_contains, contains_in}
use Rattle.wh_step_laws.proofs.SameTree.{same_tm, same_tm-equal, same_tm-self}
use Rattle.wh_step_laws.proofs.Reading.{candidate_for, candidate_is, typed-fits}

-- t and u are the values of the sides of this rule
abbrev pub InstanceOf : RewriteRule → Tm → Tm → Type 0
InstanceOf r t u = (g : ℕ → Body) × FitsBodies g r.left × FitsBodies g r.right × (t ≡ value g r.left) × (u ≡ value g r.right)

-- by the rule r the tree steps to nothing or to one tree: does the candidate give the tree?
rule_listed : (S : Symbols) (r : RewriteRule) → IsWellMade S r → (t : Tm) → Listed (InstanceOf r t)
rule_listed S r w t = by_test (same_tm (value c r.left) t) refl
  where
    c : ℕ → Body
    c = candidate_for r.metas r.left t

    agrees : (u : Tm) (g : ℕ → Body) → FitsBodies g r.left → t ≡ value g r.left → (z : ℕ) → Occurs z r.left → c z ≡ g z
    agrees u g f e z o = candidate_is r.metas g r.left t w.pattern_left (typed-fits w.typed.1) f e z o

    by_test : (b : Bool) → same_tm (value c r.left) t ≡ b → Listed (InstanceOf r t)
    by_test true e =
        listed_one (InstanceOf r t) (value c r.right) (c, typed-fits w.typed.1, typed-fits w.typed.2, sym (same_tm-equal (value c r.left) t e), refl)
        (λ u (g, f, h, d, k). k ∙ sym (value_agree c g r.right (λ z o. agrees u g f d z (w.known z o))))
    by_test false e =
        listed_none (InstanceOf r t) (λ u (g, f, h, d, k).
        let same : value c r.left ≡ t = value_agree c g r.left (agrees u g f d) ∙ sym d in
        let yes : same_tm (value c r.left) t ≡ true = subst (λ v. same_tm (value c r.left) v ≡ true) same (same_tm-self (value c r.left)) in
        absurd (cc))

-- whether a rule's left side has the tree as its value
pub match_decided : (S : Symbols) (r : RewriteRule) → IsWellMade S r → (t : Tm) → ((g : ℕ → Body) × Value g r.left t) ⊎ ((g : ℕ → Body) → Value g r.left t → ⊥)
match_decided S r w t = by_test (same_tm (value c r.left) t) refl
  where
    c : ℕ → Body
    c = candidate_for r.metas r.left t

    by_test : (b : Bool) → same_tm (value c r.left) t ≡ b → ((g : ℕ → Body) × Value g r.left t) ⊎ ((g : ℕ → Body) → Value g r.left t → ⊥)
    by_test true e = inl (c, subst (Value c r.left) (same_tm-equal (value c r.left) t e) (has_value c r.left (typed-fits w.typed.1)))
    by_test false e = inr (λ g v.
        let (f, d) = value_is v in
        let same : value c r.left ≡ t = value_agree c g r.left (candidate_is r.metas g r.left t w.pattern_left (typed-fits w.typed.1) f d) ∙ sym d in
        let yes : same_tm (value c r.left) t ≡ true = subst (λ v. same_tm (value c r.left) v ≡ true) same (same_tm-self (value c r.left)) in
        absurd (cc))

abbrev pub InstanceIn : List RewriteRule → Tm → Tm → Type 0
InstanceIn rules t u = (r : RewriteRule) × In r rules × InstanceOf r t u

rules_listed : (S : Symbols) (rules : List RewriteRule) → ((r : RewriteRule) → In r rules → IsWellMade S r) → (t : Tm) → Listed (InstanceIn rules t)
rules_listed S [] w t = listed_none (InstanceIn [] t) (λ u (r, i, h). i)
rules_listed S (r ∷ rules) w t =
    listed_same (λ u. InstanceOf r t u ⊎ InstanceIn rules t u) (InstanceIn (r ∷ rules) t) split join
    (listed_or (InstanceOf r t) (InstanceIn rules t) (rule_listed S r (w r (inl refl)) t) (rules_listed S rules (λ s i. w s (inr i)) t))
  where
    split : (u : Tm) → InstanceIn (r ∷ rules) t u → InstanceOf r t u ⊎ InstanceIn rules t u
    split u (s, inl e, h) = inl (subst (λ s. InstanceOf s t u) e h)
    split u (s, inr i, h) = inr (s, i, h)

    join : (u : Tm) → InstanceOf r t u ⊎ InstanceIn rules t u → InstanceIn (r ∷ rules) t u
    join u (inl h) = (r, inl refl, h)
    join u (inr (s, i, h)) = (s, inr i, h)

pub instances_listed : (S : Symbols) (rules : List RewriteRule) → AreWellMade S rules → (t : Tm) → Listed (Instance rules t)
instances_listed S rules w t =
    listed_same (InstanceIn rules t) (Instance rules t) there back (rules_listed S rules (λ r i. w.each r (in_contains r rules i)) t)
  where
    there : (u : Tm) → Instance rules t u → InstanceIn rules t u
    there u (instance_of r g c f h e d) = (r, contains_in r rules c, (g, f, h, e, d))

    back : (u : Tm) → InstanceIn rules t u → Instance rules t u
    back u (r, i, (g, f, h, e, d)) = instance_of r g (in_contains r rules i) f h e d

-- t is an abstraction, and v its body opened by u
abbrev pub BetaStep : Tm → Tm → Tm → Type 0
BetaStep t u v = (a : Ty) × (s : Tm) × (t ≡ lam a s) × (v ≡ opened u s)

lam_body : {a b : Ty} {t u : Tm} → lam a t ≡ lam b u → t ≡ u
lam_body e = cc

beta_listed : (t u : Tm) → Listed (BetaStep t u)
beta_listed (lam a s) u = listed_one (BetaStep (lam a s) u) (opened u s) (a, s, refl, refl) (λ v (b, s', e, d). d ∙ ap (opened u) (sym (lam_body e)))
beta_listed (bound i) u = listed_none (BetaStep (bound i) u) (λ v (b, s, e, d). absurd (cc))
beta_listed (free x a) u = listed_none (BetaStep (free x a) u) (λ v (b, s, e, d). absurd (cc))
beta_listed (fun f) u = listed_none (BetaStep (fun f) u) (λ v (b, s, e, d). absurd (cc))
beta_listed (meta z ts) u = listed_none (BetaStep (meta z ts) u) (λ v (b, s, e, d). absurd (cc))
beta_listed (app t s) u = listed_none (BetaStep (app t s) u) (λ v (b, s, e, d). absurd (cc))

-- v is the image of a reduct of t
abbrev pub ImageStep : (Tm → Tm → Type 0) → (Tm → Tm) → Tm → Tm → Type 0
ImageStep R f t v = (t' : Tm) × StepOver R t t' × (v ≡ f t')

abbrev pub PartStep : (Tm → Tm → Type 0) → Tm → Tm → Tm → Type 0
PartStep R t u v = ImageStep R (λ w. app w u) t v ⊎ ImageStep R (app t) u v

lam_listed : {R : Tm → Tm → Type 0} (a : Ty) (t : Tm) → Listed (R (lam a t)) → Listed (StepOver R t) → Listed (StepOver R (lam a t))
lam_listed {R = R} a t l m =
    listed_same (λ v. R (lam a t) v ⊎ ImageStep R (lam a) t v) (StepOver R (lam a t)) (λ v s. there v s) back
    (listed_or (R (lam a t)) (ImageStep R (lam a) t) l (listed_map (lam a) (StepOver R t) m))
  where
    there : (v : Tm) → StepOver R (lam a t) v → R (lam a t) v ⊎ ImageStep R (lam a) t v
    there v (over_root r) = inl r
    there v (over_body {t' = t'} s) = inr (t', s, refl)

    back : (v : Tm) → R (lam a t) v ⊎ ImageStep R (lam a) t v → StepOver R (lam a t) v
    back v (inl r) = over_root r
    back v (inr (t', s, e)) = subst (StepOver R (lam a t)) (sym e) (over_body s)

-- how an application steps
app_step : {R : Tm → Tm → Type 0} (t u v : Tm) → StepOver R (app t u) v → (R (app t u) v ⊎ BetaStep t u v) ⊎ PartStep R t u v
app_step t u v (over_root r) = inl (inl r)
app_step t u v (over_beta {a = a} {t = s} e) = inl (inr (a, s, refl, e))
app_step t u v (over_function {t' = t'} s) = inr (inl (t', s, refl))
app_step t u v (over_argument {u' = u'} s) = inr (inr (u', s, refl))

app_step-back : {R : Tm → Tm → Type 0} (t u v : Tm) → (R (app t u) v ⊎ BetaStep t u v) ⊎ PartStep R t u v → StepOver R (app t u) v
app_step-back t u v (inl (inl r)) = over_root r
app_step-back {R = R} t u v (inl (inr (a, s, e, d))) = subst (λ w. StepOver R (app w u) v) (sym e) (over_beta d)
app_step-back {R = R} t u v (inr (inl (t', s, e))) = subst (StepOver R (app t u)) (sym e) (over_function s)
app_step-back {R = R} t u v (inr (inr (u', s, e))) = subst (StepOver R (app t u)) (sym e) (over_argument s)

app_listed : {R : Tm → Tm → Type 0} (t u : Tm) → Listed (R (app t u)) → Listed (StepOver R t) → Listed (StepOver R u) → Listed (StepOver R (app t u))
app_listed {R = R} t u l m n =
    listed_same (λ v. (R (app t u) v ⊎ BetaStep t u v) ⊎ PartStep R t u v) (StepOver R (app t u)) (app_step t u) (app_step-back t u)
    (listed_or (λ v. R (app t u) v ⊎ BetaStep t u v) (PartStep R t u) (listed_or (R (app t u)) (BetaStep t u) l (beta_listed t u))
    (listed_or (ImageStep R (λ w. app w u) t) (ImageStep R (app t) u) (listed_map (λ w. app w u) (StepOver R t) m) (listed_map (app t) (StepOver R u) n)))

leaf_listed : {R : Tm → Tm → Type 0} (t : Tm) → ((v : Tm) → StepOver R t v → R t v) → Listed (R t) → Listed (StepOver R t)
leaf_listed {R = R} t h l = listed_same (R t) (StepOver R t) h (λ v r. over_root r) l

-- where each tree is related to finitely many, each tree steps to finitely many
pub over_listed : {R : Tm → Tm → Type 0} → ((t : Tm) → Listed (R t)) → (t : Tm) → Listed (StepOver R t)
over_listed {R = R} l (bound i) = leaf_listed (bound i) root (l (bound i))
  where
    root : (v : Tm) → StepOver R (bound i) v → R (bound i) v
    root v (over_root r) = r
over_listed {R = R} l (free x a) = leaf_listed (free x a) root (l (free x a))
  where
    root : (v : Tm) → StepOver R (free x a) v → R (free x a) v
    root v (over_root r) = r
over_listed {R = R} l (fun f) = leaf_listed (fun f) root (l (fun f))
  where
    root : (v : Tm) → StepOver R (fun f) v → R (fun f) v
    root v (over_root r) = r
over_listed {R = R} l (meta z ts) = leaf_listed (meta z ts) root (l (meta z ts))
  where
    root : (v : Tm) → StepOver R (meta z ts) v → R (meta z ts) v
    root v (over_root r) = r
over_listed l (lam a t) = lam_listed a t (l (lam a t)) (over_listed l t)
over_listed l (app t u) = app_listed t u (l (app t u)) (over_listed l t) (over_listed l u)
