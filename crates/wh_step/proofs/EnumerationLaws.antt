-- Lists of steps in order: one after another, moved one level up, and read as reducts.
use Rattle.std.proofs.Common.{◌≡◌, ℕ, zero, suc, ◌+◌, ◌<◌, ◌≤◌, ◌⊎◌, inl, inr, List, [], ◌∷◌, ◌++◌, length, map, Option, Some, None, slice_get, refl, ap, sym, ◌∙◌, subst, ap₂, arith}
use Rattle.std.specs.Prelude.{Contains, option_and_then}
use Rattle.std.proofs.lemmas.Option.{slice_get_within}
use Rattle.std.proofs.lemmas.List.Elements.{Contains-append_left, Contains-append_right}
use Rattle.wh_types.specs.Ty.{Ty}
use Rattle.wh_terms.specs.Tree.{Tm, bound, free, fun, meta, lam, app, Tms}
use Rattle.wh_terms.specs.Sight.{IsTerm, LooseBelow}
use Rattle.wh_terms.specs.Places.{child, part_at}
use Rattle.wh_terms.specs.Typing.{Symbols}
use Rattle.wh_terms.specs.Rules.{RewriteRule, AreWellMade}
use Rattle.wh_types.specs.Erase.{ty}
use Rattle.wh_types.specs.declared.simple_type.SimpleType.{SimpleType}
use Rattle.wh_terms.specs.Erase.{tm, tms}
use Rattle.wh_terms.specs.declared.term.Term.{Term, Bound, Free, Fun, Meta}
use Rattle.wh_terms.proofs.TermLemmas.{tm_of_meta}
use Rattle.wh_step.specs.Reducts.{IsBefore, IsEarlier, Redex, Precedes, InOrder, StepsTo, AreReducts}
use Rattle.wh_step.specs.Roots.{BetaStep, RuleStep, RootStep, StepsAt, put_at}
use Rattle.wh_step.specs.Enumerations.{Leads, Enumerates, IsStep, IsRootStep}
use Rattle.wh_step.specs.Contracta.{result_of, results_of}
use Rattle.wh_step.specs.declared.redex.Contractum.{Contractum}
use Rattle.wh_step.proofs.RedexLemmas.{Tells}
use Rattle.wh_step.proofs.RootLaws.{at_of_step, step_of_at, some_one, same_rule}

-- none, and one

pub enumerate_none : (P : Redex → Tm → Type 0) → ((a : Redex) (u : Tm) → P a u → ⊥) → Enumerates P []
enumerate_none P none = record { redexes = []; order = tt; all = λ a u p. absurd (none a u p); results = tt }

pub enumerate_one : (P : Redex → Tm → Type 0) (a : Redex) (u : Tm) → P a u → ((b : Redex) (v : Tm) → P b v → a ≡ b) → Enumerates P (u ∷ [])
enumerate_one P a u p one = record { redexes = a ∷ []; order = tt; all = λ b v q. (0, omega arith, one b v q); results = (p, tt) }

-- the same steps in other words

pub leads_same : (P Q : Redex → Tm → Type 0) → ((a : Redex) (u : Tm) → P a u → Q a u) → (rs : List Redex) (us : List Tm) → Leads P rs us → Leads Q rs us
leads_same P Q there [] [] l = tt
leads_same P Q there [] (u ∷ us) l = absurd l
leads_same P Q there (a ∷ rs) [] l = absurd l
leads_same P Q there (a ∷ rs) (u ∷ us) l = (there a u l.0, leads_same P Q there rs us l.1)

pub enumerate_same : (P Q : Redex → Tm → Type 0) (us : List Tm) → ((a : Redex) (u : Tm) → P a u → Q a u) → ((a : Redex) (u : Tm) → Q a u → P a u) → Enumerates P us → Enumerates Q us
enumerate_same P Q us there back e = record {
  redexes = e.redexes;
  order = e.order;
  all = λ a u q. e.all a u (back a u q);
  results = leads_same P Q there e.redexes us e.results;
}

-- one list after another

abbrev pub Either : (Redex → Tm → Type 0) → (Redex → Tm → Type 0) → Redex → Tm → Type 0
Either P Q a u = P a u ⊎ Q a u

abbrev pub AllBefore : (Redex → Tm → Type 0) → (Redex → Tm → Type 0) → Type 0
AllBefore P Q = (a b : Redex) (u v : Tm) → P a u → Q b v → Precedes a b

leads-append : (P Q : Redex → Tm → Type 0) (rs bs : List Redex) (us vs : List Tm) → Leads P rs us → Leads Q bs vs → Leads (Either P Q) (rs ++ bs) (us ++ vs)
leads-append P Q [] bs [] vs l m = leads_same Q (Either P Q) (λ a u q. inr q) bs vs m
leads-append P Q [] bs (u ∷ us) vs l m = absurd l
leads-append P Q (a ∷ rs) bs [] vs l m = absurd l
leads-append P Q (a ∷ rs) bs (u ∷ us) vs l m = (inl l.0, leads-append P Q rs bs us vs l.1 m)

order-append : (P Q : Redex → Tm → Type 0) → AllBefore P Q → (rs bs : List Redex) (us vs : List Tm) → Leads P rs us → Leads Q bs vs → InOrder rs → InOrder bs → InOrder (rs ++ bs)
order-append P Q before [] bs us vs l m h k = k
order-append P Q before (a ∷ rs) bs [] vs l m h k = absurd l
order-append P Q before (a ∷ []) [] (u ∷ us) vs l m h k = tt
order-append P Q before (a ∷ []) (b ∷ bs) (u ∷ us) [] l m h k = absurd m
order-append P Q before (a ∷ []) (b ∷ bs) (u ∷ us) (v ∷ vs) l m h k = (before a b u v l.0 m.0, k)
order-append P Q before (a ∷ c ∷ rs) bs (u ∷ us) vs l m h k = (h.0, order-append P Q before (c ∷ rs) bs us vs l.1 m h.1 k)

pub enumerate-append : (P Q : Redex → Tm → Type 0) (us vs : List Tm) → AllBefore P Q → Enumerates P us → Enumerates Q vs → Enumerates (Either P Q) (us ++ vs)
enumerate-append P Q us vs before d e = record {
  redexes = d.redexes ++ e.redexes;
  order = order-append P Q before d.redexes e.redexes us vs d.results e.results d.order e.order;
  all = λ a u pq. contained a u pq;
  results = leads-append P Q d.redexes e.redexes us vs d.results e.results;
}
  where
    contained : (a : Redex) (u : Tm) → Either P Q a u → Contains (d.redexes ++ e.redexes) a
    contained a u (inl p) = Contains-append_left d.redexes e.redexes a (d.all a u p)
    contained a u (inr q) = Contains-append_right d.redexes e.redexes a (e.all a u q)

-- one level up

abbrev pub below : ℕ → Redex → Redex
below d a = record { rule = a.rule; path = d ∷ a.path }

-- what P is, seen from one level up
abbrev pub Up : ℕ → (Tm → Tm) → (Redex → Tm → Type 0) → Redex → Tm → Type 0
Up d f P b v = (a : Redex) × (u : Tm) × P a u × (b ≡ below d a) × (v ≡ f u)

leads-up : (d : ℕ) (f : Tm → Tm) (P : Redex → Tm → Type 0) (rs : List Redex) (us : List Tm) → Leads P rs us → Leads (Up d f P) (map (below d) rs) (map f us)
leads-up d f P [] [] l = tt
leads-up d f P [] (u ∷ us) l = absurd l
leads-up d f P (a ∷ rs) [] l = absurd l
leads-up d f P (a ∷ rs) (u ∷ us) l = ((a, u, l.0, refl, refl), leads-up d f P rs us l.1)

precedes-below : (d : ℕ) (a b : Redex) → Precedes a b → Precedes (below d a) (below d b)
precedes-below d a b (inl h) = inl (inr (refl, h))
precedes-below d a b (inr h) = inr (ap (λ p. d ∷ p) h.0, h.1)

order-up : (d : ℕ) (rs : List Redex) → InOrder rs → InOrder (map (below d) rs)
order-up d [] h = tt
order-up d (a ∷ []) h = tt
order-up d (a ∷ b ∷ rs) h = (precedes-below d a b h.0, order-up d (b ∷ rs) h.1)

contains-up : (d : ℕ) (rs : List Redex) (a : Redex) → Contains rs a → Contains (map (below d) rs) (below d a)
contains-up d [] a (k, within, is) = absurd (omega arith)
contains-up d (b ∷ rs) a (zero, within, is) = (0, omega arith, ap (below d) is)
contains-up d (b ∷ rs) a (suc k, within, is) = let (j, inside, here) = contains-up d rs a (k, omega arith, is) in (suc j, omega arith, here)

pub enumerate-up : (d : ℕ) (f : Tm → Tm) (P : Redex → Tm → Type 0) (us : List Tm) → Enumerates P us → Enumerates (Up d f P) (map f us)
enumerate-up d f P us e = record {
  redexes = map (below d) e.redexes;
  order = order-up d e.redexes e.order;
  all = λ b v (a, u, p, is, at). subst (Contains (map (below d) e.redexes)) (sym is) (contains-up d e.redexes a (e.all a u p));
  results = leads-up d f P e.redexes us e.results;
}

-- steps in an application, and in an abstraction

module _ (rules : List RewriteRule) where
  root_of_step : (k : Option ℕ) (t u : Tm) → StepsAt rules k [] t u → RootStep rules k t u
  root_of_step k t u s = subst (λ r. RootStep rules k r u) (sym (some_one t s.redex s.here)) (subst (RootStep rules k s.redex) (sym s.whole) s.steps)

  step_of_root : (t : Tm) (a : Redex) (u : Tm) → IsRootStep rules t a u → IsStep rules t a u
  step_of_root t a u (here, step) = subst (λ path. StepsAt rules a.rule path t u) (sym here) (record { redex = t; contractum = u; here = refl; steps = step; whole = refl })

  abbrev AppStep : Tm → Tm → Redex → Tm → Type 0
  AppStep t u = Either (Either (IsRootStep rules (app t u)) (Up 0 (λ s. app s u) (IsStep rules t))) (Up 1 (λ s. app t s) (IsStep rules u))

  no_part : (r : Tm) → None ≡ Some r → ⊥
  no_part r e = absurd (cc)

  app_step : (t u : Tm) (k : Option ℕ) (path : List ℕ) (v : Tm) → StepsAt rules k path (app t u) v → AppStep t u (record { rule = k; path = path }) v
  app_step t u k [] v s = inl (inl (refl, root_of_step k (app t u) v s))
  app_step t u k (zero ∷ path) v s =
      inl (inr (record { rule = k; path = path }, put_at path s.contractum t, record { redex = s.redex; contractum = s.contractum; here = s.here; steps = s.steps; whole = refl }, refl, s.whole))
  app_step t u k (suc zero ∷ path) v s =
      inr (record { rule = k; path = path }, put_at path s.contractum u, record { redex = s.redex; contractum = s.contractum; here = s.here; steps = s.steps; whole = refl }, refl, s.whole)
  app_step t u k (suc (suc d) ∷ path) v s = absurd (no_part s.redex s.here)

  step_app : (t u : Tm) (a : Redex) (v : Tm) → AppStep t u a v → IsStep rules (app t u) a v
  step_app t u a v (inl (inl root)) = step_of_root (app t u) a v root
  step_app t u a v (inl (inr (b, s, step, is, whole))) =
      subst (λ c. IsStep rules (app t u) c v) (sym is)
      (record { redex = step.redex; contractum = step.contractum; here = step.here; steps = step.steps; whole = whole ∙ ap (λ q. app q u) step.whole })
  step_app t u a v (inr (b, s, step, is, whole)) =
      subst (λ c. IsStep rules (app t u) c v) (sym is)
      (record { redex = step.redex; contractum = step.contractum; here = step.here; steps = step.steps; whole = whole ∙ ap (λ q. app t q) step.whole })

  root_first : (t : Tm) (d : ℕ) (f : Tm → Tm) (P : Redex → Tm → Type 0) → AllBefore (IsRootStep rules t) (Up d f P)
  root_first t d f P a b u v (here, step) (c, s, p, is, whole) =
      let first : IsBefore [] (below d c).path = tt in
      inl (subst (λ p. IsBefore p b.path) (sym here) (subst (λ c. IsBefore [] c.path) (sym is) first))

  left_first : (f g : Tm → Tm) (P Q : Redex → Tm → Type 0) → AllBefore (Up 0 f P) (Up 1 g Q)
  left_first f g P Q a b u v (c, s, p, is, whole) (c', s', p', is', whole') =
      let first : IsBefore (0 ∷ c.path) (1 ∷ c'.path) = inl (omega arith) in
      inl (subst (λ x. IsBefore x.path b.path) (sym is) (subst (λ x. IsBefore (0 ∷ c.path) x.path) (sym is') first))

  both_first : (P Q R : Redex → Tm → Type 0) → AllBefore P R → AllBefore Q R → AllBefore (Either P Q) R
  both_first P Q R h k a b u v (inl p) r = h a b u v p r
  both_first P Q R h k a b u v (inr q) r = k a b u v q r

  pub enumerate_app : (t u : Tm) (here fronts lasts : List Tm) → Enumerates (IsRootStep rules (app t u)) here → Enumerates (IsStep rules t) fronts → Enumerates (IsStep rules u) lasts
      → Enumerates (IsStep rules (app t u)) ((here ++ map (λ s. app s u) fronts) ++ map (λ s. app t s) lasts)
  enumerate_app t u here fronts lasts d e f =
      let P = IsRootStep rules (app t u) in
      let Q = Up 0 (λ s. app s u) (IsStep rules t) in
      let R = Up 1 (λ s. app t s) (IsStep rules u) in
      enumerate_same (Either (Either P Q) R) (IsStep rules (app t u)) ((here ++ map (λ s. app s u) fronts) ++ map (λ s. app t s) lasts) (step_app t u) (λ a v s. app_step t u a.rule a.path v s)
      (enumerate-append (Either P Q) R (here ++ map (λ s. app s u) fronts) (map (λ s. app t s) lasts)
      (both_first P Q R (root_first (app t u) 1 (λ s. app t s) (IsStep rules u)) (left_first (λ s. app s u) (λ s. app t s) (IsStep rules t) (IsStep rules u)))
      (enumerate-append P Q here (map (λ s. app s u) fronts) (root_first (app t u) 0 (λ s. app s u) (IsStep rules t)) d (enumerate-up 0 (λ s. app s u) (IsStep rules t) fronts e))
      (enumerate-up 1 (λ s. app t s) (IsStep rules u) lasts f))

  abbrev LamStep : Ty → Tm → Redex → Tm → Type 0
  LamStep a t = Either (IsRootStep rules (lam a t)) (Up 0 (lam a) (IsStep rules t))

  lam_step : (a : Ty) (t : Tm) (k : Option ℕ) (path : List ℕ) (v : Tm) → StepsAt rules k path (lam a t) v → LamStep a t (record { rule = k; path = path }) v
  lam_step a t k [] v s = inl (refl, root_of_step k (lam a t) v s)
  lam_step a t k (zero ∷ path) v s =
      inr (record { rule = k; path = path }, put_at path s.contractum t, record { redex = s.redex; contractum = s.contractum; here = s.here; steps = s.steps; whole = refl }, refl, s.whole)
  lam_step a t k (suc zero ∷ path) v s = absurd (no_part s.redex s.here)
  lam_step a t k (suc (suc d) ∷ path) v s = absurd (no_part s.redex s.here)

  step_lam : (a : Ty) (t : Tm) (r : Redex) (v : Tm) → LamStep a t r v → IsStep rules (lam a t) r v
  step_lam a t r v (inl root) = step_of_root (lam a t) r v root
  step_lam a t r v (inr (b, s, step, is, whole)) =
      subst (λ c. IsStep rules (lam a t) c v) (sym is)
      (record { redex = step.redex; contractum = step.contractum; here = step.here; steps = step.steps; whole = whole ∙ ap (lam a) step.whole })

  pub enumerate_lam : (a : Ty) (t : Tm) (here inside : List Tm) → Enumerates (IsRootStep rules (lam a t)) here → Enumerates (IsStep rules t) inside
      → Enumerates (IsStep rules (lam a t)) (here ++ map (lam a) inside)
  enumerate_lam a t here inside d e =
      enumerate_same (LamStep a t) (IsStep rules (lam a t)) (here ++ map (lam a) inside) (step_lam a t) (λ r v s. lam_step a t r.rule r.path v s)
      (enumerate-append (IsRootStep rules (lam a t)) (Up 0 (lam a) (IsStep rules t)) here (map (lam a) inside) (root_first (lam a t) 0 (lam a) (IsStep rules t)) d (enumerate-up 0 (lam a) (IsStep rules t) inside e))

  -- a tree without parts
  abbrev HasNoPart : Tm → Type 0
  HasNoPart t = (d : ℕ) (path : List ℕ) (r : Tm) → part_at (d ∷ path) t ≡ Some r → ⊥

  root_alone : (t : Tm) → HasNoPart t → (k : Option ℕ) (path : List ℕ) (v : Tm) → StepsAt rules k path t v → IsRootStep rules t (record { rule = k; path = path }) v
  root_alone t none k [] v s = (refl, root_of_step k t v s)
  root_alone t none k (d ∷ path) v s = absurd (none d path s.redex s.here)

  pub enumerate_leaf : (t : Tm) (here : List Tm) → HasNoPart t → Enumerates (IsRootStep rules t) here → Enumerates (IsStep rules t) here
  enumerate_leaf t here none d = enumerate_same (IsRootStep rules t) (IsStep rules t) here (step_of_root t) (λ a v s. root_alone t none a.rule a.path v s) d

-- what a walk finds, in the words of its parts

pub app_reducts : (rules : List RewriteRule) (w t t' u u' : Tm) (here mid all fronts lasts : List Tm) → w ≡ app t u → t' ≡ t → u' ≡ u → Enumerates (IsRootStep rules w) here → Enumerates (IsStep rules t) fronts
    → Enumerates (IsStep rules u) lasts → mid ≡ here ++ map (λ s. app s u') fronts → all ≡ mid ++ map (λ s. app t' s) lasts → Enumerates (IsStep rules w) all
app_reducts rules w t t' u u' here mid all fronts lasts is f a roots d e first second =
    let joined : all ≡ (here ++ map (λ s. app s u) fronts) ++ map (λ s. app t s) lasts =
    second ∙ ap (λ vs. vs ++ map (λ s. app t' s) lasts) (first ∙ ap (λ v. here ++ map (λ s. app s v) fronts) a) ∙ ap (λ v. (here ++ map (λ s. app s u) fronts) ++ map (λ s. app v s) lasts) f in
    subst (λ vs. Enumerates (IsStep rules w) vs) (sym joined)
    (subst (λ v. Enumerates (IsStep rules v) ((here ++ map (λ s. app s u) fronts) ++ map (λ s. app t s) lasts)) (sym is)
    (enumerate_app rules t u here fronts lasts (subst (λ v. Enumerates (IsRootStep rules v) here) is roots) d e))

pub lam_reducts : (rules : List RewriteRule) (w : Tm) (a : Ty) (t : Tm) (here all inside : List Tm) → w ≡ lam a t → Enumerates (IsRootStep rules w) here → Enumerates (IsStep rules t) inside
    → all ≡ here ++ map (lam a) inside → Enumerates (IsStep rules w) all
lam_reducts rules w a t here all inside is roots d joined =
    subst (λ vs. Enumerates (IsStep rules w) vs) (sym joined)
    (subst (λ v. Enumerates (IsStep rules v) (here ++ map (lam a) inside)) (sym is) (enumerate_lam rules a t here inside (subst (λ v. Enumerates (IsRootStep rules v) here) is roots) d))

no_child : (r : Tm) → None ≡ Some r → ⊥
no_child r e = absurd (cc)

pub leaf_reducts : (rules : List RewriteRule) (w : Tm) (here : List Tm) → ((d : ℕ) → child d w ≡ None) → Enumerates (IsRootStep rules w) here → Enumerates (IsStep rules w) here
leaf_reducts rules w here none roots = enumerate_leaf rules w here (λ d path r e. no_child r (ap (option_and_then (part_at path)) (sym (none d)) ∙ e)) roots

childless_bound : (i d : ℕ) → child d (bound i) ≡ None
childless_bound i zero = refl
childless_bound i (suc zero) = refl
childless_bound i (suc (suc d)) = refl

childless_free : (x : ℕ) (a : Ty) (d : ℕ) → child d (free x a) ≡ None
childless_free x a zero = refl
childless_free x a (suc zero) = refl
childless_free x a (suc (suc d)) = refl

childless_fun : (f d : ℕ) → child d (fun f) ≡ None
childless_fun f zero = refl
childless_fun f (suc zero) = refl
childless_fun f (suc (suc d)) = refl

childless_meta : (z : ℕ) (ts : Tms) (d : ℕ) → child d (meta z ts) ≡ None
childless_meta z ts zero = refl
childless_meta z ts (suc zero) = refl
childless_meta z ts (suc (suc d)) = refl

-- variables, symbols and meta-applications
abbrev pub IsLeaf : Term → Type 0
IsLeaf t = ((x : ℕ) × (t ≡ Bound x)) ⊎ (((x : ℕ) × (a : SimpleType) × (t ≡ Free x a)) ⊎ (((f : ℕ) × (t ≡ Fun f)) ⊎ ((z : ℕ) × (ts : List Term) × (t ≡ Meta z ts))))

pub childless_leaf : (t : Term) → IsLeaf t → (d : ℕ) → child d (tm t) ≡ None
childless_leaf t (inl (i, is)) d = ap (λ s. child d (tm s)) is ∙ childless_bound i d
childless_leaf t (inr (inl (x, a, is))) d = ap (λ s. child d (tm s)) is ∙ childless_free x (ty a) d
childless_leaf t (inr (inr (inl (f, is)))) d = ap (λ s. child d (tm s)) is ∙ childless_fun f d
childless_leaf t (inr (inr (inr (z, ts, is)))) d = ap (child d) (tm_of_meta t z ts is) ∙ childless_meta z (tms ts) d

-- as reducts

leads-reducts : {rules : List RewriteRule} (S : Symbols) → AreWellMade S rules → (t : Tm) → LooseBelow 0 t → IsTerm t → (rs : List Redex) (us : List Tm) → Leads (IsStep rules t) rs us → StepsTo rules t rs us
leads-reducts S w t l p [] [] h = tt
leads-reducts S w t l p [] (u ∷ us) h = absurd h
leads-reducts S w t l p (a ∷ rs) [] h = absurd h
leads-reducts S w t l p (a ∷ rs) (u ∷ us) h = (step_of_at S w a.rule a.path t u h.0 l p, leads-reducts S w t l p rs us h.1)

pub reducts_of_steps : {rules : List RewriteRule} (S : Symbols) → AreWellMade S rules → (t : Tm) (us : List Tm) → LooseBelow 0 t → IsTerm t → Enumerates (IsStep rules t) us → AreReducts rules t us
reducts_of_steps S w t us l p e = record {
  redexes = e.redexes;
  order = e.order;
  all = λ k path u s. e.all (record { rule = k; path = path }) u (at_of_step S w s);
  results = leads-reducts S w t l p e.redexes us e.results;
}

-- the steps at the root, rule by rule

append-nil : (us : List Tm) → us ++ [] ≡ us
append-nil [] = refl
append-nil (u ∷ us) = ap (λ vs. u ∷ vs) (append-nil us)

abbrev IsRuleBelow : ℕ → Option ℕ → Type 0
IsRuleBelow i None = Unit {0}
IsRuleBelow i (Some k) = k < i

-- a step at the root by beta or by one of the first i rules
abbrev pub IsRootStepBelow : ℕ → List RewriteRule → Tm → Redex → Tm → Type 0
IsRootStepBelow i rules t a u = (a.path ≡ []) × RootStep rules a.rule t u × IsRuleBelow i a.rule

redex_is : (a b : Redex) → a.rule ≡ b.rule → a.path ≡ b.path → a ≡ b
redex_is a b e d = ap₂ (λ k path. record { rule = k; path = path }) e d

below_or_at : (k i : ℕ) → k < i + 1 → (k < i) ⊎ (k ≡ i)
below_or_at zero zero h = inr refl
below_or_at zero (suc i) h = inl (omega arith)
below_or_at (suc k) zero h = absurd (omega arith)
below_or_at (suc k) (suc i) h = one_more (below_or_at k i (omega arith))
  where
    one_more : (k < i) ⊎ (k ≡ i) → (suc k < suc i) ⊎ (suc k ≡ suc i)
    one_more (inl low) = inl (omega arith)
    one_more (inr is) = inr (ap suc is)

module _ (rules : List RewriteRule) (t : Tm) where
  by_beta : (k : Option ℕ) (u : Tm) → RootStep rules k t u → IsRuleBelow 0 k → (k ≡ None) × BetaStep t u
  by_beta None u step low = (refl, step)
  by_beta (Some k) u step low = absurd (omega arith)

  pub roots_begin : ((v : Tm) → BetaStep t v → ⊥) → Enumerates (IsRootStepBelow 0 rules t) []
  roots_begin none = enumerate_none (IsRootStepBelow 0 rules t) (λ a u p. none u (by_beta a.rule u p.1 p.2).1)

  pub roots_begin_beta : (v : Tm) → BetaStep t v → Enumerates (IsRootStepBelow 0 rules t) (v ∷ [])
  roots_begin_beta v step =
      enumerate_one (IsRootStepBelow 0 rules t) (record { rule = None; path = [] }) v (refl, step, tt)
      (λ b w q. redex_is (record { rule = None; path = [] }) b (sym (by_beta b.rule w q.1 q.2).0) (sym q.0))

  by_next : (i : ℕ) (r : RewriteRule) → slice_get rules i ≡ Some r → (k : Option ℕ) (u : Tm) → RootStep rules k t u → IsRuleBelow (i + 1) k → IsRuleBelow i k ⊎ ((k ≡ Some i) × RuleStep r t u)
  by_next i r e None u step low = inl tt
  by_next i r e (Some k) u (q, d, step) low = at_or_below (below_or_at k i low)
    where
      at_or_below : (k < i) ⊎ (k ≡ i) → IsRuleBelow i (Some k) ⊎ ((Some k ≡ Some i) × RuleStep r t u)
      at_or_below (inl h) = inl h
      at_or_below (inr h) = inr (ap Some h, subst (λ p. RuleStep p t u) (same_rule rules i r q e (ap (slice_get rules) (sym h) ∙ d)) step)

  later : (i : ℕ) (k : Option ℕ) → IsRuleBelow i k → IsRuleBelow (i + 1) k
  later i None low = tt
  later i (Some k) low = omega arith

  pub roots_next_none : (i : ℕ) (r : RewriteRule) (us : List Tm) → slice_get rules i ≡ Some r → ((v : Tm) → RuleStep r t v → ⊥) → Enumerates (IsRootStepBelow i rules t) us → Enumerates (IsRootStepBelow (i + 1) rules t) us
  roots_next_none i r us e none d =
      enumerate_same (IsRootStepBelow i rules t) (IsRootStepBelow (i + 1) rules t) us (λ a u p. (p.0, p.1, later i a.rule p.2)) (λ a u p. (p.0, p.1, still a.rule u (by_next i r e a.rule u p.1 p.2))) d
    where
      still : (k : Option ℕ) (u : Tm) → IsRuleBelow i k ⊎ ((k ≡ Some i) × RuleStep r t u) → IsRuleBelow i k
      still k u (inl low) = low
      still k u (inr (is, step)) = absurd (none u step)

  abbrev IsNext : ℕ → RewriteRule → Redex → Tm → Type 0
  IsNext i r a u = (a.path ≡ []) × (a.rule ≡ Some i) × RuleStep r t u

  earlier : (i : ℕ) (j k : Option ℕ) → IsRuleBelow i j → k ≡ Some i → IsEarlier j k
  earlier i j k low is = subst (IsEarlier j) (sym is) (before j low)
    where
      before : (j : Option ℕ) → IsRuleBelow i j → IsEarlier j (Some i)
      before None low = tt
      before (Some m) low = low

  pub roots_next : (i : ℕ) (r : RewriteRule) (us : List Tm) (v : Tm) → slice_get rules i ≡ Some r → RuleStep r t v → Enumerates (IsRootStepBelow i rules t) us → Enumerates (IsRootStepBelow (i + 1) rules t) (us ++ v ∷ [])
  roots_next i r us v e step d =
      enumerate_same (Either (IsRootStepBelow i rules t) (IsNext i r)) (IsRootStepBelow (i + 1) rules t) (us ++ v ∷ []) there back
      (enumerate-append (IsRootStepBelow i rules t) (IsNext i r) us (v ∷ []) (λ a b u s p q. inr (p.0 ∙ sym q.0, earlier i a.rule b.rule p.2 q.1)) d
      (enumerate_one (IsNext i r) (record { rule = Some i; path = [] }) v (refl, refl, step) (λ b s q. redex_is (record { rule = Some i; path = [] }) b (sym q.1) (sym q.0))))
    where
      there : (a : Redex) (u : Tm) → Either (IsRootStepBelow i rules t) (IsNext i r) a u → IsRootStepBelow (i + 1) rules t a u
      there a u (inl p) = (p.0, p.1, later i a.rule p.2)
      there a u (inr q) =
          let found : RootStep rules (Some i) t u = (r, e, q.2) in
          let low : IsRuleBelow (i + 1) (Some i) = omega arith in
          (q.0, subst (λ k. RootStep rules k t u) (sym q.1) found, subst (IsRuleBelow (i + 1)) (sym q.1) low)

      back : (a : Redex) (u : Tm) → IsRootStepBelow (i + 1) rules t a u → Either (IsRootStepBelow i rules t) (IsNext i r) a u
      back a u p = split (by_next i r e a.rule u p.1 p.2)
        where
          split : IsRuleBelow i a.rule ⊎ ((a.rule ≡ Some i) × RuleStep r t u) → Either (IsRootStepBelow i rules t) (IsNext i r) a u
          split (inl low) = inl (p.0, p.1, low)
          split (inr q) = inr (p.0, q.0, q.1)

  in_range : (n : ℕ) → length rules ≤ n → (k : Option ℕ) (u : Tm) → RootStep rules k t u → IsRuleBelow n k
  in_range n all None u step = tt
  in_range n all (Some k) u (r, e, step) = let within : k < length rules = slice_get_within rules k r e in omega arith

  pub roots_end : (n : ℕ) (us : List Tm) → length rules ≤ n → Enumerates (IsRootStepBelow n rules t) us → Enumerates (IsRootStep rules t) us
  roots_end n us all d = enumerate_same (IsRootStepBelow n rules t) (IsRootStep rules t) us (λ a u p. (p.0, p.1)) (λ a u p. (p.0, p.1, in_range n all a.rule u p.1)) d

  pub roots_begin_with : (o : Option Contractum) → Tells o (BetaStep t) → Enumerates (IsRootStepBelow 0 rules t) (results_of o)
  roots_begin_with None told = roots_begin told
  roots_begin_with (Some c) told = roots_begin_beta (result_of c) told.1

  pub roots_next_with : (i : ℕ) (r : RewriteRule) (us : List Tm) (o : Option Contractum) → slice_get rules i ≡ Some r → Tells o (RuleStep r t) → Enumerates (IsRootStepBelow i rules t) us
      → Enumerates (IsRootStepBelow (i + 1) rules t) (us ++ results_of o)
  roots_next_with i r us None e told d = subst (Enumerates (IsRootStepBelow (i + 1) rules t)) (sym (append-nil us)) (roots_next_none i r us e told d)
  roots_next_with i r us (Some c) e told d = roots_next i r us (result_of c) e told.1 d
