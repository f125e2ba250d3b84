-- Steps at places of trees with loose variables, equal to `StepAt` on terms without them.
use Rattle.std.proofs.Common.{◌≡◌, ℕ, zero, suc, List, [], ◌∷◌, Option, Some, None, slice_get, Bool, true, false, refl, ap, sym, ◌∙◌, subst, subst₂}
use Rattle.std.specs.Prelude.{if◌then◌else◌, ◌==◌, Contains}
use Rattle.std.proofs.lemmas.Option.{slice_get_within, get_or_from_slice_get}
use Rattle.wh_types.specs.Ty.{Ty}
use Rattle.wh_terms.specs.Tree.{Tm, bound, free, fun, meta, lam, app}
use Rattle.wh_terms.specs.Substitution.{up, up_free, act, cons, opened}
use Rattle.wh_terms.specs.Sight.{IsTerm, LooseBelow, Fresh}
use Rattle.wh_terms.specs.Typing.{Symbols}
use Rattle.wh_terms.specs.Rules.{RewriteRule, IsWellMade, AreWellMade}
use Rattle.wh_terms.specs.Value.{Value}
use Rattle.wh_terms.proofs.ActLaws.{act-opened, opened-act, act-id}
use Rattle.wh_terms.proofs.LooseLaws.{loose-opened}
use Rattle.wh_terms.proofs.TermLaws.{term-opened, term-up, term-rename}
use Rattle.wh_terms.proofs.FreshLaws.{fresh_for_two, put, closed, closed-opened}
use Rattle.wh_terms.proofs.ValueForm.{acted, value, act-value, value_agree}
use Rattle.wh_terms.proofs.ValueLaws.{value_is, has_value}
use Rattle.wh_match.proofs.MatchLaws.{pattern_one}
use Rattle.wh_step.specs.Replay.{StepAt, beta_here, rule_here, at_function, at_argument, at_body}
use Rattle.wh_step.specs.Roots.{BetaStep, RuleStep, RootStep, put_at, StepsAt}
use Rattle.wh_step.proofs.Instances.{act_left, act_right, whole_bodies}

-- the rules that a list has

pub rule_contained : (rules : List RewriteRule) (k : ℕ) (r : RewriteRule) → slice_get rules k ≡ Some r → Contains rules r
rule_contained rules k r e = (k, slice_get_within rules k r e, get_or_from_slice_get rules k r r e)

pub rule_made : {rules : List RewriteRule} (S : Symbols) → AreWellMade S rules → (k : ℕ) (r : RewriteRule) → slice_get rules k ≡ Some r → IsWellMade S r
rule_made {rules = rules} S w k r e = w.each r (rule_contained rules k r e)

-- steps at the root are kept by substitution

pub rule_kept : (S : Symbols) (r : RewriteRule) → IsWellMade S r → (σ : ℕ → Tm) (φ : ℕ → Ty → Tm) → ((i : ℕ) → IsTerm (σ i)) → ((x : ℕ) (a : Ty) → IsTerm (φ x a))
    → (t v : Tm) → RuleStep r t v → RuleStep r (act σ φ t) (act σ φ v)
rule_kept S r w σ φ p q t v (g, left, right) =
    let (f, e) = value_is left in
    let (h, d) = value_is right in
    let here : act σ φ t ≡ value (acted σ φ g) r.left = ap (act σ φ) e ∙ act-value σ φ g r.left p q f ∙ ap (value (acted σ φ g)) (act_left S r w σ φ) in
    let there : act σ φ v ≡ value (acted σ φ g) r.right = ap (act σ φ) d ∙ act-value σ φ g r.right p q h ∙ ap (value (acted σ φ g)) (act_right S r w σ φ) in
    (acted σ φ g, subst (Value (acted σ φ g) r.left) (sym here) (has_value (acted σ φ g) r.left f), subst (Value (acted σ φ g) r.right) (sym there) (has_value (acted σ φ g) r.right h))

beta_kept : (σ : ℕ → Tm) (φ : ℕ → Ty → Tm) (t v : Tm) → BetaStep t v → BetaStep (act σ φ t) (act σ φ v)
unfolding act
beta_kept σ φ (app (lam a t) u) v e = ap (act σ φ) e ∙ act-opened σ φ u t
beta_kept σ φ (app (bound i) u) v e = absurd e
beta_kept σ φ (app (free x a) u) v e = absurd e
beta_kept σ φ (app (fun f) u) v e = absurd e
beta_kept σ φ (app (meta z ts) u) v e = absurd e
beta_kept σ φ (app (app s t) u) v e = absurd e
beta_kept σ φ (bound i) v e = absurd e
beta_kept σ φ (free x a) v e = absurd e
beta_kept σ φ (fun f) v e = absurd e
beta_kept σ φ (meta z ts) v e = absurd e
beta_kept σ φ (lam a t) v e = absurd e

pub root_kept : {rules : List RewriteRule} (S : Symbols) → AreWellMade S rules → (σ : ℕ → Tm) (φ : ℕ → Ty → Tm) → ((i : ℕ) → IsTerm (σ i)) → ((x : ℕ) (a : Ty) → IsTerm (φ x a))
    → (k : Option ℕ) (t v : Tm) → RootStep rules k t v → RootStep rules k (act σ φ t) (act σ φ v)
root_kept S w σ φ p q None t v b = beta_kept σ φ t v b
root_kept S w σ φ p q (Some k) t v (r, e, s) = (r, e, rule_kept S r (rule_made S w k r e) σ φ p q t v s)

-- a step at the root has one result

rule_one : (S : Symbols) (r : RewriteRule) → IsWellMade S r → (t v w : Tm) → RuleStep r t v → RuleStep r t w → v ≡ w
rule_one S r m t v w (g, left, right) (h, left', right') =
    (value_is right).1 ∙ value_agree g h r.right (λ z o. pattern_one m.pattern_left left left' z (m.known z o)) ∙ sym (value_is right').1

beta_one : (t v w : Tm) → BetaStep t v → BetaStep t w → v ≡ w
beta_one (app (lam a t) u) v w e d = e ∙ sym d
beta_one (app (bound i) u) v w e d = absurd e
beta_one (app (free x a) u) v w e d = absurd e
beta_one (app (fun f) u) v w e d = absurd e
beta_one (app (meta z ts) u) v w e d = absurd e
beta_one (app (app s t) u) v w e d = absurd e
beta_one (bound i) v w e d = absurd e
beta_one (free x a) v w e d = absurd e
beta_one (fun f) v w e d = absurd e
beta_one (meta z ts) v w e d = absurd e
beta_one (lam a t) v w e d = absurd e

pub same_rule : (rules : List RewriteRule) (k : ℕ) (r s : RewriteRule) → slice_get rules k ≡ Some r → slice_get rules k ≡ Some s → s ≡ r
same_rule rules k r s e d = let same : Some s ≡ Some r = sym d ∙ e in cc

pub root_one : {rules : List RewriteRule} (S : Symbols) → AreWellMade S rules → (k : Option ℕ) (t v w : Tm) → RootStep rules k t v → RootStep rules k t w → v ≡ w
root_one S m None t v w b c = beta_one t v w b c
root_one {rules = rules} S m (Some k) t v w (r, e, b) (s, d, c) = rule_one S r (rule_made S m k r e) t v w b (subst (λ q. RuleStep q t w) (same_rule rules k r s e d) c)

pub some_one : (t u : Tm) → Some t ≡ Some u → t ≡ u
some_one t u e = cc

pub steps_at_one : {rules : List RewriteRule} (S : Symbols) → AreWellMade S rules → (k : Option ℕ) (path : List ℕ) (t v w : Tm) → StepsAt rules k path t v → StepsAt rules k path t w → v ≡ w
steps_at_one {rules = rules} S m k path t v w a b =
    let same : b.redex ≡ a.redex = some_one b.redex a.redex (sym b.here ∙ a.here) in
    let one : a.contractum ≡ b.contractum = root_one S m k a.redex a.contractum b.contractum a.steps (subst (λ r. RootStep rules k r b.contractum) same b.steps) in
    a.whole ∙ ap (λ c. put_at path c t) one ∙ sym b.whole

-- a step at a place, by the way to it

pub data StepsDown (rules : List RewriteRule) : Option ℕ → List ℕ → Tm → Tm → Type 0 where
  down_root : {k : Option ℕ} {t u : Tm} → RootStep rules k t u → StepsDown rules k [] t u
  down_function : {k : Option ℕ} {path : List ℕ} {t t' u : Tm} → StepsDown rules k path t t' → StepsDown rules k (0 ∷ path) (app t u) (app t' u)
  down_argument : {k : Option ℕ} {path : List ℕ} {t u u' : Tm} → StepsDown rules k path u u' → StepsDown rules k (1 ∷ path) (app t u) (app t u')
  down_body : {k : Option ℕ} {path : List ℕ} {a : Ty} {t t' : Tm} → StepsDown rules k path t t' → StepsDown rules k (0 ∷ path) (lam a t) (lam a t')

pub at_of_down : {rules : List RewriteRule} {k : Option ℕ} {path : List ℕ} {t u : Tm} → StepsDown rules k path t u → StepsAt rules k path t u
at_of_down (down_root {t = t} {u = u} s) = record { redex = t; contractum = u; here = refl; steps = s; whole = refl }
at_of_down (down_function {u = u} s) = let r = at_of_down s in record { redex = r.redex; contractum = r.contractum; here = r.here; steps = r.steps; whole = ap (λ v. app v u) r.whole }
at_of_down (down_argument {t = t} s) = let r = at_of_down s in record { redex = r.redex; contractum = r.contractum; here = r.here; steps = r.steps; whole = ap (app t) r.whole }
at_of_down (down_body {a = a} s) = let r = at_of_down s in record { redex = r.redex; contractum = r.contractum; here = r.here; steps = r.steps; whole = ap (lam a) r.whole }

-- a path that leads out of a tree
no_part : (r : Tm) → None ≡ Some r → ⊥
no_part r e = absurd (cc)

pub down_of_at : {rules : List RewriteRule} (k : Option ℕ) (path : List ℕ) (t u : Tm) → StepsAt rules k path t u → StepsDown rules k path t u
down_of_at {rules = rules} k [] t u s =
    let same : t ≡ s.redex = some_one t s.redex s.here in
    down_root (subst₂ (RootStep rules k) (sym same) (sym s.whole) s.steps)
down_of_at {rules = rules} k (zero ∷ path) (app t v) u s =
    subst (StepsDown rules k (0 ∷ path) (app t v)) (sym s.whole) (down_function (down_of_at k path t (put_at path s.contractum t)
    (record { redex = s.redex; contractum = s.contractum; here = s.here; steps = s.steps; whole = refl })))
down_of_at {rules = rules} k (suc zero ∷ path) (app t v) u s =
    subst (StepsDown rules k (1 ∷ path) (app t v)) (sym s.whole) (down_argument (down_of_at k path v (put_at path s.contractum v)
    (record { redex = s.redex; contractum = s.contractum; here = s.here; steps = s.steps; whole = refl })))
down_of_at {rules = rules} k (zero ∷ path) (lam a t) u s =
    subst (StepsDown rules k (0 ∷ path) (lam a t)) (sym s.whole) (down_body (down_of_at k path t (put_at path s.contractum t)
    (record { redex = s.redex; contractum = s.contractum; here = s.here; steps = s.steps; whole = refl })))
down_of_at k (suc (suc d) ∷ path) (app t v) u s = absurd (no_part s.redex s.here)
down_of_at k (suc zero ∷ path) (lam a t) u s = absurd (no_part s.redex s.here)
down_of_at k (suc (suc d) ∷ path) (lam a t) u s = absurd (no_part s.redex s.here)
down_of_at k (zero ∷ path) (bound i) u s = absurd (no_part s.redex s.here)
down_of_at k (zero ∷ path) (free x a) u s = absurd (no_part s.redex s.here)
down_of_at k (zero ∷ path) (fun f) u s = absurd (no_part s.redex s.here)
down_of_at k (zero ∷ path) (meta z ts) u s = absurd (no_part s.redex s.here)
down_of_at k (suc zero ∷ path) (bound i) u s = absurd (no_part s.redex s.here)
down_of_at k (suc zero ∷ path) (free x a) u s = absurd (no_part s.redex s.here)
down_of_at k (suc zero ∷ path) (fun f) u s = absurd (no_part s.redex s.here)
down_of_at k (suc zero ∷ path) (meta z ts) u s = absurd (no_part s.redex s.here)
down_of_at k (suc (suc d) ∷ path) (bound i) u s = absurd (no_part s.redex s.here)
down_of_at k (suc (suc d) ∷ path) (free x a) u s = absurd (no_part s.redex s.here)
down_of_at k (suc (suc d) ∷ path) (fun f) u s = absurd (no_part s.redex s.here)
down_of_at k (suc (suc d) ∷ path) (meta z ts) u s = absurd (no_part s.redex s.here)

-- substitution keeps steps at places
pub down-act : {rules : List RewriteRule} {k : Option ℕ} {path : List ℕ} {t u : Tm} (S : Symbols) → AreWellMade S rules → (σ : ℕ → Tm) (φ : ℕ → Ty → Tm) → ((i : ℕ) → IsTerm (σ i)) → ((x : ℕ) (a : Ty) → IsTerm (φ x a))
    → StepsDown rules k path t u → StepsDown rules k path (act σ φ t) (act σ φ u)
unfolding act up_free
down-act S w σ φ p q (down_root {k = k} {t = t} {u = u} s) = down_root (root_kept S w σ φ p q k t u s)
down-act S w σ φ p q (down_function s) = down_function (down-act S w σ φ p q s)
down-act S w σ φ p q (down_argument s) = down_argument (down-act S w σ φ p q s)
down-act S w σ φ p q (down_body s) = down_body (down-act S w (up σ) (up_free φ) (term-up σ p) (λ x a. term-rename suc (φ x a) (q x a)) s)

term_if : (c : Bool) (y : ℕ) (b : Ty) → IsTerm (if c then bound 0 else free y b)
term_if true y b = tt
term_if false y b = tt

-- a step of opened bodies is one of the bodies
down-opened-back : {rules : List RewriteRule} {k : Option ℕ} {path : List ℕ} (S : Symbols) → AreWellMade S rules → (x : ℕ) (a : Ty) (t t' : Tm) → Fresh x t → Fresh x t'
    → StepsDown rules k path (opened (free x a) t) (opened (free x a) t') → StepsDown rules k path t t'
unfolding closed
down-opened-back {rules = rules} {k = k} {path = path} S w x a t t' f f' s =
    subst₂ (StepsDown rules k path) (closed-opened x a t f) (closed-opened x a t' f') (down-act S w (λ i. bound (suc i)) (put x (bound 0)) (λ i. tt) (λ y b. term_if (y == x) y b) s)

down_of_step : {rules : List RewriteRule} {k : Option ℕ} {path : List ℕ} {t u : Tm} (S : Symbols) → AreWellMade S rules → StepAt rules k path t u → StepsDown rules k path t u
down_of_step S w (beta_here e) = down_root e
down_of_step S w (rule_here r g e whole left right) = down_root (r, e, (g, left, right))
down_of_step S w (at_function s) = down_function (down_of_step S w s)
down_of_step S w (at_argument s) = down_argument (down_of_step S w s)
down_of_step S w (at_body {a = a} {t = t} {t' = t'} x f f' s) = down_body (down-opened-back S w x a t t' f f' (down_of_step S w s))

beta_step : {rules : List RewriteRule} (t v : Tm) → BetaStep t v → StepAt rules None [] t v
beta_step (app (lam a t) u) v e = beta_here e
beta_step (app (bound i) u) v e = absurd e
beta_step (app (free x a) u) v e = absurd e
beta_step (app (fun f) u) v e = absurd e
beta_step (app (meta z ts) u) v e = absurd e
beta_step (app (app s t) u) v e = absurd e
beta_step (bound i) v e = absurd e
beta_step (free x a) v e = absurd e
beta_step (fun f) v e = absurd e
beta_step (meta z ts) v e = absurd e
beta_step (lam a t) v e = absurd e

root_step : {rules : List RewriteRule} (S : Symbols) → AreWellMade S rules → (k : Option ℕ) (t v : Tm) → RootStep rules k t v → LooseBelow 0 t → IsTerm t → StepAt rules k [] t v
root_step S w None t v b l p = beta_step t v b
root_step S w (Some k) t v (r, e, (g, left, right)) l p =
    let (f, d) = value_is left in
    rule_here r g e (whole_bodies S r g (rule_made S w k r e) f (subst (LooseBelow 0) d l) (subst IsTerm d p)) left right

body_step : {rules : List RewriteRule} {k : Option ℕ} {path : List ℕ} (a : Ty) (t t' : Tm) → ((x : ℕ) → StepAt rules k path (opened (free x a) t) (opened (free x a) t')) → StepAt rules k (0 ∷ path) (lam a t) (lam a t')
body_step a t t' h = let (x, f, f') = fresh_for_two t t' in at_body x f f' (h x)

term_cons : (x : ℕ) (a : Ty) (σ : ℕ → Tm) → ((i : ℕ) → IsTerm (σ i)) → (i : ℕ) → IsTerm (cons (free x a) σ i)
unfolding cons
term_cons x a σ p zero = tt
term_cons x a σ p (suc i) = p i

-- Stated for images by substitutions, so that the case of an abstraction can open its body.
step_of_down-act : {rules : List RewriteRule} {k : Option ℕ} {path : List ℕ} {t u : Tm} (S : Symbols) → AreWellMade S rules → (σ : ℕ → Tm) (φ : ℕ → Ty → Tm) → ((i : ℕ) → IsTerm (σ i)) → ((x : ℕ) (a : Ty) → IsTerm (φ x a))
    → StepsDown rules k path t u → LooseBelow 0 (act σ φ t) → IsTerm (act σ φ t) → StepAt rules k path (act σ φ t) (act σ φ u)
unfolding act
step_of_down-act S w σ φ p q (down_root {k = k} {t = t} {u = u} s) l h = root_step S w k (act σ φ t) (act σ φ u) (root_kept S w σ φ p q k t u s) l h
step_of_down-act S w σ φ p q (down_function s) l h = at_function (step_of_down-act S w σ φ p q s l.0 h.0)
step_of_down-act S w σ φ p q (down_argument s) l h = at_argument (step_of_down-act S w σ φ p q s l.1 h.1)
step_of_down-act {rules = rules} S w σ φ p q (down_body {k = k} {path = path} {a = a} {t = t} {t' = t'} s) l h =
    body_step a (act (up σ) (up_free φ) t) (act (up σ) (up_free φ) t') (λ x.
    subst₂ (StepAt rules k path) (sym (opened-act (free x a) σ φ t)) (sym (opened-act (free x a) σ φ t'))
    (step_of_down-act S w (cons (free x a) σ) φ (term_cons x a σ p) q s (subst (LooseBelow 0) (opened-act (free x a) σ φ t) (loose-opened 0 (free x a) (act (up σ) (up_free φ) t) tt l))
    (subst IsTerm (opened-act (free x a) σ φ t) (term-opened (free x a) (act (up σ) (up_free φ) t) tt h))))

-- on terms without loose variables both forms are one

pub at_of_step : {rules : List RewriteRule} {k : Option ℕ} {path : List ℕ} {t u : Tm} (S : Symbols) → AreWellMade S rules → StepAt rules k path t u → StepsAt rules k path t u
at_of_step S w s = at_of_down (down_of_step S w s)

pub step_of_at : {rules : List RewriteRule} (S : Symbols) → AreWellMade S rules → (k : Option ℕ) (path : List ℕ) (t u : Tm) → StepsAt rules k path t u → LooseBelow 0 t → IsTerm t → StepAt rules k path t u
step_of_at {rules = rules} S w k path t u s l p =
    subst₂ (StepAt rules k path) (act-id t) (act-id u)
    (step_of_down-act S w bound free (λ i. tt) (λ x a. tt) (down_of_at k path t u s) (subst (LooseBelow 0) (sym (act-id t)) l) (subst IsTerm (sym (act-id t)) p))

pub step_one : {rules : List RewriteRule} {k : Option ℕ} {path : List ℕ} {t v w : Tm} (S : Symbols) → AreWellMade S rules → StepAt rules k path t v → StepAt rules k path t w → v ≡ w
step_one {k = k} {path = path} {t = t} {v = v} {w = w} S m a b = steps_at_one S m k path t v w (at_of_step S m a) (at_of_step S m b)
