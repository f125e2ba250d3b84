-- The rules of a system as a relation at the root; its steps, and their bounds.
use Rattle.std.proofs.Common.{◌≡◌, ℕ, List, [], ◌∷◌, Contains, ◌⊎◌, inl, inr, length, refl, ap, sym, ◌∙◌, subst}
use Rattle.wh_types.specs.Ty.{Ty}
use Rattle.wh_terms.specs.Tree.{Tm, bound, free, fun, meta, lam, app, spine, head, argument_count}
use Rattle.wh_terms.specs.Sight.{LooseBelow, IsTerm}
use Rattle.wh_terms.specs.Typing.{Symbols}
use Rattle.wh_terms.specs.Value.{Value}
use Rattle.wh_terms.specs.Rules.{RewriteRule, AreWellMade}
use Rattle.wh_terms.specs.StepOver.{StepOver, over_root, over_beta, over_function, over_argument, over_body}
use Rattle.wh_terms.proofs.ValueLaws.{value_is, has_value}
use Rattle.wh_terms.proofs.ValueTyping.{head-value, argument_count-value}
use Rattle.wh_terms.proofs.StepOver.{over-loose, over-term}
use Rattle.wh_step.specs.Step.{Step, in_function, in_argument}
use Rattle.wh_step.specs.Reduction.{Bounded}
use Rattle.wh_step.proofs.Instances.{Instance, instance_of, instances_kept, instances_typed, instances_loose, instances_terms, spine_left}
use Rattle.wh_step.proofs.RawStep.{RawStep, step_raw, raw_step}
use Rattle.std.specs.List.{AllByRecursion}
use Rattle.wh_step_laws.specs.Spines.{HeadStep, ArgumentStep, FrontStep, OpeningStep}
use Rattle.wh_step_laws.proofs.Spines.{symbol_step, variable_step, abstraction_spine_step}
use Rattle.wh_step_laws.specs.Ends.{Ends, ends, Longest, StepsIn, step_here, step_there}
use Rattle.wh_step_laws.specs.DirectSubterms.{HasPart, function_part, argument_part, StepOrPart}
use Rattle.wh_step_laws.specs.RootRelations.{IsRoot, RuleRoot, rule_root}
use Rattle.wh_step_laws.proofs.EndsLaws.{ends-next, ends-simulated, ends-cons, ends-list}
use Rattle.wh_step_laws.proofs.Listed.{Listed, listed_none, listed_same, listed_or, ends-longest, within-ends}
use Rattle.wh_step_laws.proofs.PartLaws.{ends-parts}
use Rattle.wh_step_laws.proofs.BranchingLaws.{instances_listed, over_listed}

-- the tree has the head and the number of arguments of a rule's left side
pub record HeadedByRule (S : Symbols) (rules : List RewriteRule) (t : Tm) : Type 0 where
  pub rule : RewriteRule
  pub listed : Contains rules rule
  pub symbol : ℕ
  pub left : head rule.left ≡ fun symbol
  pub here : head t ≡ fun symbol
  pub count : argument_count t ≡ argument_count rule.left

pub instance_headed : (S : Symbols) (rules : List RewriteRule) → AreWellMade S rules → (t u : Tm) → Instance rules t u → HeadedByRule S rules t
instance_headed S rules w t u (instance_of r g c f h e d) =
    let m = w.each r c in
    record {
      rule = r;
      listed = c;
      symbol = m.headed.0;
      left = m.headed.1;
      here = ap head e ∙ head-value 0 g r.left (spine_left S r m) m.headed.0 m.headed.1;
      count = ap argument_count e ∙ argument_count-value 0 g r.left (spine_left S r m);
    }

-- the instances of well-made rules are a relation at the root
pub instances_root : (S : Symbols) (rules : List RewriteRule) → AreWellMade S rules → IsRoot S (Instance rules)
instances_root S rules w = record {
  kept = instances_kept S rules w;
  typed = instances_typed S rules w;
  headed = λ t u i. let h = instance_headed S rules w t u i in (h.symbol, h.here);
  even = λ t t' u u' i j e.
      let h = instance_headed S rules w t u i in
      let k = instance_headed S rules w t' u' j in
      h.count ∙ w.even h.rule k.rule h.listed k.listed (h.left ∙ sym h.here ∙ e ∙ k.here ∙ sym k.left) ∙ sym k.count;
}

pub rule_root-instance : {rules : List RewriteRule} (t u : Tm) → RuleRoot rules t u → Instance rules t u
rule_root-instance t u (rule_root r g c v w) = let (f, e) = value_is v in let (h, d) = value_is w in instance_of r g c f h e d

pub instance-rule_root : {rules : List RewriteRule} (t u : Tm) → Instance rules t u → RuleRoot rules t u
instance-rule_root t u (instance_of r g c f h e d) = rule_root r g c (subst (Value g r.left) (sym e) (has_value g r.left f)) (subst (Value g r.right) (sym d) (has_value g r.right h))

-- two relations that hold of the same are both relations at the root, or neither is
root-same : {S : Symbols} {R Q : Tm → Tm → Type 0} → ((t u : Tm) → R t u → Q t u) → ((t u : Tm) → Q t u → R t u) → IsRoot S R → IsRoot S Q
root-same h k root = record {
  kept = λ σ φ t u p q r. h _ _ (root.kept σ φ t u p q (k t u r));
  typed = λ Γ t u a r p. root.typed Γ t u a (k t u r) p;
  headed = λ t u r. root.headed t u (k t u r);
  even = λ t t' u u' r s e. root.even t t' u u' (k t u r) (k t' u' s) e;
}

pub rules_root : (S : Symbols) (rules : List RewriteRule) → AreWellMade S rules → IsRoot S (RuleRoot rules)
rules_root S rules w = root-same instance-rule_root rule_root-instance (instances_root S rules w)

-- steps over a relation are steps over each that holds of more
pub over-more : {R Q : Tm → Tm → Type 0} {t u : Tm} → ((t u : Tm) → R t u → Q t u) → StepOver R t u → StepOver Q t u
over-more h (over_root {t = t} {u = u} r) = over_root (h t u r)
over-more h (over_beta e) = over_beta e
over-more h (over_function s) = over_function (over-more h s)
over-more h (over_argument s) = over_argument (over-more h s)
over-more h (over_body s) = over_body (over-more h s)

-- a term without loose variables and meta-variables
abbrev pub IsShutTerm : Tm → Type 0
IsShutTerm t = LooseBelow 0 t × IsTerm t

pub shut-step : {S : Symbols} {rules : List RewriteRule} → AreWellMade S rules → (t u : Tm) → IsShutTerm t → Step rules t u → IsShutTerm u
shut-step {S = S} {rules = rules} w t u (l, p) s =
    (over-loose (instances_loose S rules w) 0 (step_raw S w s) l, over-term (instances_terms S rules w) (step_raw S w s) p)

-- each term has a finite list of exactly its reducts
pub steps_listed : {S : Symbols} {rules : List RewriteRule} → AreWellMade S rules → (t : Tm) → IsShutTerm t → Listed (Step rules t)
steps_listed {S = S} {rules = rules} w t (l, p) =
    listed_same (RawStep rules t) (Step rules t) (λ u s. step_raw S w s) (λ u s. raw_step S w s l p) (over_listed (instances_listed S rules w) t)

pub bounded-ends : {rules : List RewriteRule} (t : Tm) → Bounded rules t → Ends (Step rules) t
bounded-ends t (n, h) = within-ends n t h

pub ends-bounded : {S : Symbols} {rules : List RewriteRule} → AreWellMade S rules → (t : Tm) → IsShutTerm t → Ends (Step rules) t → Bounded rules t
ends-bounded {rules = rules} w t c e =
    let best : Longest (Step rules) t = ends-longest IsShutTerm (shut-step w) (steps_listed w) c e in
    (length best.walk, best.longest)

-- what has no endless descent by steps on raw bodies is bounded
pub raw_ends-bounded : {S : Symbols} {rules : List RewriteRule} → AreWellMade S rules → (t : Tm) → IsShutTerm t → Ends (RawStep rules) t → Bounded rules t
raw_ends-bounded {S = S} w t c e = ends-bounded w t c (ends-simulated (λ u. u) (λ u v s. step_raw S w s) t t refl e)

parts_listed : (t : Tm) → Listed (HasPart t)
parts_listed (bound i) = listed_none (HasPart (bound i)) (λ v p. elim p [ ])
parts_listed (free x a) = listed_none (HasPart (free x a)) (λ v p. elim p [ ])
parts_listed (fun f) = listed_none (HasPart (fun f)) (λ v p. elim p [ ])
parts_listed (meta z ts) = listed_none (HasPart (meta z ts)) (λ v p. elim p [ ])
parts_listed (lam a t) = listed_none (HasPart (lam a t)) (λ v p. elim p [ ])
parts_listed (app t u) = (t ∷ u ∷ [], λ v p. all v p, only)
  where
    all : (v : Tm) → HasPart (app t u) v → (v ≡ t) ⊎ ((v ≡ u) ⊎ ⊥)
    all v function_part = inl refl
    all v argument_part = inr (inl refl)

    only : (v : Tm) → (v ≡ t) ⊎ ((v ≡ u) ⊎ ⊥) → HasPart (app t u) v
    only v (inl e) = subst (HasPart (app t u)) (sym e) function_part
    only v (inr (inl e)) = subst (HasPart (app t u)) (sym e) argument_part
    only v (inr (inr i)) = absurd i

shut-part : (t u : Tm) → IsShutTerm t → HasPart t u → IsShutTerm u
shut-part t u c function_part = (c.0.0, c.1.0)
shut-part t u c argument_part = (c.0.1, c.1.1)

shut-step_or_part : {S : Symbols} {rules : List RewriteRule} → AreWellMade S rules → (t u : Tm) → IsShutTerm t → StepOrPart (Step rules) t u → IsShutTerm u
shut-step_or_part w t u c (inl s) = shut-step w t u c s
shut-step_or_part w t u c (inr p) = shut-part t u c p

parts_end : {rules : List RewriteRule} (t : Tm) → Bounded rules t → Ends (StepOrPart (Step rules)) t
parts_end t b = ends-parts t (record { function = λ v v' u s. in_function s; argument = λ v u u' s. in_argument s }) (bounded-ends t b)

-- a bounded term has a longest sequence of steps and direct subterms
pub bounded-parts : {S : Symbols} {rules : List RewriteRule} → AreWellMade S rules → (t : Tm) → IsShutTerm t → Bounded rules t → Longest (StepOrPart (Step rules)) t
bounded-parts {rules = rules} w t c b =
    ends-longest IsShutTerm (shut-step_or_part w) (λ u d. listed_or (Step rules u) (HasPart u) (steps_listed w u d) (parts_listed u)) c
    (parts_end t b)

pub reducts-bounded : {S : Symbols} {rules : List RewriteRule} → AreWellMade S rules → (t : Tm) → IsShutTerm t → ((u : Tm) → Step rules t u → Bounded rules u) → Bounded rules t
reducts-bounded w t c h = ends-bounded w t c (ends (λ u s. bounded-ends u (h u s)))

pub part-bounded : {S : Symbols} {rules : List RewriteRule} → AreWellMade S rules → (t u : Tm) → IsShutTerm t → Bounded rules t → HasPart t u → Bounded rules u
part-bounded w t u c b p = ends-bounded w u (shut-part t u c p) (ends-simulated (λ v. v) (λ v v' s. inl s) u u refl (ends-next u (parts_end t b) (inr p)))

-- a list of bounded terms is accessible
pub list-bounded : (rules : List RewriteRule) (ts : List Tm) → AllByRecursion (Bounded rules) ts → Ends (StepsIn (Step rules)) ts
list-bounded rules [] h = ends-list [] h
list-bounded rules (t ∷ ts) h = ends-cons (bounded-ends t h.0) (list-bounded rules ts h.1)

head_shut : (h : Tm) (ts : List Tm) → IsShutTerm (spine h ts) → IsShutTerm h
head_shut h [] c = c
head_shut h (t ∷ ts) c = let d = head_shut (app h t) ts c in (d.0.0, d.1.0)

-- a step on raw bodies of a member of closed arguments is a step of the system
member_steps : {S : Symbols} {rules : List RewriteRule} {ts us : List Tm} → AreWellMade S rules → (h : Tm) → IsShutTerm (spine h ts) → StepsIn (RawStep rules) ts us → StepsIn (Step rules) ts us
member_steps {S = S} w h c (step_here {a = t} {l = ts} s) = let d = head_shut (app h t) ts c in step_here (raw_step S w s d.0.1 d.1.1)
member_steps w h c (step_there {a = t} s) = step_there (member_steps w (app h t) c s)

argument_steps : {S : Symbols} {rules : List RewriteRule} → AreWellMade S rules → (h : Tm) (ts : List Tm) (v : Tm) → IsShutTerm (spine h ts) → ArgumentStep (RawStep rules) h ts v → ArgumentStep (Step rules) h ts v
argument_steps w h ts v c (us, m, e) = (us, member_steps w h c m, e)

pub symbol_steps : {S : Symbols} {rules : List RewriteRule} → AreWellMade S rules → (f : ℕ) (ts : List Tm) (v : Tm) → IsShutTerm (spine (fun f) ts) → Step rules (spine (fun f) ts) v
    → ArgumentStep (Step rules) (fun f) ts v ⊎ FrontStep (RuleRoot rules) (fun f) ts v
symbol_steps {S = S} {rules = rules} w f ts v c s = cases (symbol_step f ts (step_raw S w s))
  where
    cases : ArgumentStep (RawStep rules) (fun f) ts v ⊎ FrontStep (Instance rules) (fun f) ts v → ArgumentStep (Step rules) (fun f) ts v ⊎ FrontStep (RuleRoot rules) (fun f) ts v
    cases (inl m) = inl (argument_steps w (fun f) ts v c m)
    cases (inr (us, ws, x, e, i, d)) = inr (us, ws, x, e, instance-rule_root (spine (fun f) us) x i, d)

pub variable_steps : {S : Symbols} {rules : List RewriteRule} → AreWellMade S rules → (x : ℕ) (a : Ty) (ts : List Tm) (v : Tm) → IsShutTerm (spine (free x a) ts) → Step rules (spine (free x a) ts) v
    → ArgumentStep (Step rules) (free x a) ts v
variable_steps {S = S} {rules = rules} w x a ts v c s = argument_steps w (free x a) ts v c (variable_step (instances_root S rules w) x a ts (step_raw S w s))

pub abstraction_steps : {S : Symbols} {rules : List RewriteRule} → AreWellMade S rules → (a : Ty) (t : Tm) (ts : List Tm) (v : Tm) → IsShutTerm (spine (lam a t) ts) → Step rules (spine (lam a t) ts) v
    → HeadStep (Step rules) (lam a t) ts v ⊎ (ArgumentStep (Step rules) (lam a t) ts v ⊎ OpeningStep t ts v)
abstraction_steps {S = S} {rules = rules} w a t ts v c s = cases (abstraction_spine_step (instances_root S rules w) a t ts (step_raw S w s))
  where
    cases : HeadStep (RawStep rules) (lam a t) ts v ⊎ (ArgumentStep (RawStep rules) (lam a t) ts v ⊎ OpeningStep t ts v) → HeadStep (Step rules) (lam a t) ts v ⊎ (ArgumentStep (Step rules) (lam a t) ts v ⊎ OpeningStep t ts v)
    cases (inl (x, r, e)) = let d = head_shut (lam a t) ts c in inl (x, raw_step S w r d.0 d.1, e)
    cases (inr (inl m)) = inr (inl (argument_steps w (lam a t) ts v c m))
    cases (inr (inr o)) = inr (inr o)
