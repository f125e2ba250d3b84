-- A pattern has its value by one meta-substitution alone, on the meta-variables that occur in it.
use Rattle.std.proofs.Common.{◌≡◌, ◌≢◌, ℕ, zero, suc, ◌+◌, ◌-◌, refl, ap, ap₂, sym, ◌∙◌, subst, inl, inr, arith, one-add, eq-eqb, ne_eqb}
use Rattle.std.specs.Prelude.{if◌then◌else◌, ◌==◌}
use Rattle.wh_types.specs.Ty.{Ty}
use Rattle.wh_terms.specs.Tree.{Tm, bound, free, fun, meta, lam, app, Tms, none, more, count}
use Rattle.wh_terms.specs.Substitution.{up_renaming, rename, act, cons}
use Rattle.wh_terms.specs.Sight.{Occurs}
use Rattle.wh_terms.specs.Pattern.{AllBoundBelow, Misses, Distinct, IsPatternUnder, IsPatternSpine, IsPattern}
use Rattle.wh_terms.specs.Value.{Body, Value, parameters}
use Rattle.wh_terms.proofs.RenamingLaws.{rename_same, rename-rename, rename-id}
use Rattle.wh_terms.proofs.ActLaws.{act_same, act-act, act-rename, act-id}
use Rattle.wh_terms.proofs.ValueForm.{up_times, shifted, value, FitsBodies, value_same, parameters_same}
use Rattle.wh_terms.proofs.ValueLaws.{value_is}
use Rattle.wh_terms.proofs.ValueSight.{bound_occurs, bound_values}

-- the bodies, moved below k binders: their parameters stay
abbrev pub bodies_below : ℕ → (ℕ → Body) → ℕ → Body
bodies_below k g z = record { arity = (g z).arity; tree = rename (up_times (g z).arity (λ i. k + i)) (g z).tree }

up_renaming-suc : (ρ τ π : ℕ → ℕ) → ((i : ℕ) → τ (ρ i) ≡ π i) → (i : ℕ) → up_renaming τ (up_renaming ρ i) ≡ up_renaming π i
unfolding up_renaming
up_renaming-suc ρ τ π h zero = refl
up_renaming-suc ρ τ π h (suc i) = ap suc (h i)

up_times-twice : (n : ℕ) (ρ τ π : ℕ → ℕ) → ((i : ℕ) → τ (ρ i) ≡ π i) → (i : ℕ) → up_times n τ (up_times n ρ i) ≡ up_times n π i
unfolding up_times
up_times-twice zero ρ τ π h i = h i
up_times-twice (suc n) ρ τ π h i = up_times-twice n (up_renaming ρ) (up_renaming τ) (up_renaming π) (up_renaming-suc ρ τ π h) i

up_renaming-still : (ρ : ℕ → ℕ) → ((i : ℕ) → ρ i ≡ i) → (i : ℕ) → up_renaming ρ i ≡ i
unfolding up_renaming
up_renaming-still ρ h zero = refl
up_renaming-still ρ h (suc i) = ap suc (h i)

up_times-still : (n : ℕ) (ρ : ℕ → ℕ) → ((i : ℕ) → ρ i ≡ i) → (i : ℕ) → up_times n ρ i ≡ i
unfolding up_times
up_times-still zero ρ h i = h i
up_times-still (suc n) ρ h i = up_times-still n (up_renaming ρ) (up_renaming-still ρ h) i

with_tree : Body → Tm → Body
with_tree b t = record { arity = b.arity; tree = t }

shifted-bodies_below : (k : ℕ) (g : ℕ → Body) (z : ℕ) → shifted (bodies_below k g) z ≡ bodies_below (k + 1) g z
unfolding with_tree
shifted-bodies_below k g z =
    let n : ℕ = (g z).arity in
    ap (with_tree (g z)) (rename-rename (up_times n (λ i. k + i)) (up_times n suc) (g z).tree
    ∙ rename_same (up_times-twice n (λ i. k + i) suc (λ i. k + 1 + i) (λ i. omega arith)) (g z).tree)

pub bodies_below-none : (g : ℕ → Body) (z : ℕ) → bodies_below 0 g z ≡ g z
unfolding with_tree
bodies_below-none g z =
    let n : ℕ = (g z).arity in
    ap (with_tree (g z)) (rename_same (up_times-still n (λ i. 0 + i) (λ i. omega arith)) (g z).tree ∙ rename-id (g z).tree)

cons-up : (t : Tm) (σ : ℕ → Tm) (ρ : ℕ → ℕ) (i : ℕ) → cons t σ (up_renaming ρ i) ≡ cons t (λ j. σ (ρ j)) i
unfolding cons up_renaming
cons-up t σ ρ zero = refl
cons-up t σ ρ (suc i) = refl

-- parameters after a renaming that leaves them alone
parameters-up_times : (ts : Tms) (σ : ℕ → Tm) (ρ : ℕ → ℕ) (i : ℕ) → parameters ts σ (up_times (count ts) ρ i) ≡ parameters ts (λ j. σ (ρ j)) i
unfolding parameters up_times
parameters-up_times none σ ρ i = refl
parameters-up_times (more t ts) σ ρ i =
    ap (λ n. parameters ts (cons t σ) (up_times n ρ i)) (one-add (count ts)) ∙ parameters-up_times ts (cons t σ) (up_renaming ρ) i
    ∙ parameters_same ts (λ j. cons t σ (up_renaming ρ j)) (cons t (λ j. σ (ρ j))) (cons-up t σ ρ) i

-- the way back from bound variables to the parameters that they stand for; τ is the way back for all others
abbrev pub way : Tms → (ℕ → ℕ) → ℕ → ℕ
way none τ j = τ j
way (more (bound x) ts) τ j = way ts (λ i. if i == x then 0 else suc (τ i)) j
way (more t ts) τ j = way ts τ j

before : ℕ → (ℕ → ℕ) → ℕ → ℕ
before x ρ zero = x
before x ρ (suc i) = ρ i

before-bound : (x : ℕ) (ρ : ℕ → ℕ) (i : ℕ) → cons (bound x) (λ j. bound (ρ j)) i ≡ bound (before x ρ i)
unfolding cons before
before-bound x ρ zero = refl
before-bound x ρ (suc i) = refl

before-missed : (x : ℕ) (ρ : ℕ → ℕ) (ts : Tms) → Misses x ts → ((i : ℕ) → Misses (ρ i) ts) → (i : ℕ) → Misses (before x ρ i) ts
unfolding before
before-missed x ρ ts m h zero = m
before-missed x ρ ts m h (suc i) = h i

before-back : (x : ℕ) (ρ τ : ℕ → ℕ) → ((i : ℕ) → ρ i ≢ x) → ((i : ℕ) → τ (ρ i) ≡ i) → (i : ℕ) → (if before x ρ i == x then 0 else suc (τ (before x ρ i))) ≡ i
unfolding before
before-back x ρ τ n h zero = ap (λ c. if c then 0 else suc (τ x)) (eq-eqb x x refl)
before-back x ρ τ n h (suc i) = ap (λ c. if c then 0 else suc (τ (ρ i))) (ne_eqb (ρ i) x (n i)) ∙ ap suc (h i)

-- from distinct variables in place of the parameters, before variables that none of them is
way_back : (k : ℕ) (ts : Tms) (ρ τ : ℕ → ℕ) → AllBoundBelow k ts → Distinct ts → ((i : ℕ) → Misses (ρ i) ts) → ((i : ℕ) → τ (ρ i) ≡ i)
    → (i : ℕ) → act (λ j. bound (way ts τ j)) free (parameters ts (λ j. bound (ρ j)) i) ≡ bound i
unfolding parameters act
way_back k none ρ τ b d m h i = ap bound (h i)
way_back k (more (bound x) ts) ρ τ b d m h i =
    let σ : ℕ → Tm = λ j. bound (way ts (λ i. if i == x then 0 else suc (τ i)) j) in
    ap (act σ free) (parameters_same ts (cons (bound x) (λ j. bound (ρ j))) (λ j. bound (before x ρ j)) (before-bound x ρ) i)
    ∙ way_back k ts (before x ρ) (λ j. if j == x then 0 else suc (τ j)) b.1 d.1 (before-missed x ρ ts d.0 (λ i. (m i).1)) (before-back x ρ τ (λ i. (m i).0) h) i
way_back k (more (free x a) ts) ρ τ b d m h i = absurd b
way_back k (more (fun f) ts) ρ τ b d m h i = absurd b
way_back k (more (meta z us) ts) ρ τ b d m h i = absurd b
way_back k (more (lam a t) ts) ρ τ b d m h i = absurd b
way_back k (more (app t u) ts) ρ τ b d m h i = absurd b

far_missed : (k i : ℕ) (ts : Tms) → AllBoundBelow k ts → Misses (k + i) ts
far_missed k i none b = tt
far_missed k i (more (bound x) ts) b = (λ e. omega arith, far_missed k i ts b.1)
far_missed k i (more (free x a) ts) b = absurd b
far_missed k i (more (fun f) ts) b = absurd b
far_missed k i (more (meta z us) ts) b = absurd b
far_missed k i (more (lam a t) ts) b = absurd b
far_missed k i (more (app t u) ts) b = absurd b

-- a body with distinct variables of k binders for its parameters, seen from below these binders
moved_body : (k : ℕ) (g : ℕ → Body) (z : ℕ) (ts : Tms) → (g z).arity ≡ count ts
    → act (parameters ts bound) free (bodies_below k g z).tree ≡ act (parameters ts (λ j. bound (k + j))) free (g z).tree
moved_body k g z ts e =
    ap (λ n. act (parameters ts bound) free (rename (up_times n (λ i. k + i)) (g z).tree)) e
    ∙ act-rename (up_times (count ts) (λ i. k + i)) (parameters ts bound) free (g z).tree
    ∙ act_same (parameters-up_times ts bound (λ i. k + i)) (λ x a. refl) (g z).tree

-- what stands for the distinct variables ts below k binders, as a body
abbrev pub read_body : ℕ → Tms → Tm → Tm
read_body k ts t = act (λ j. bound (way ts (λ i. i - k) j)) free t

pub body_back : (k : ℕ) (g : ℕ → Body) (z : ℕ) (ts : Tms) → AllBoundBelow k ts → Distinct ts → (g z).arity ≡ count ts → read_body k ts (act (parameters ts bound) free (bodies_below k g z).tree) ≡ (g z).tree
unfolding act
body_back k g z ts b d e =
    let τ : ℕ → Tm = λ j. bound (way ts (λ i. i - k) j) in
    ap (act τ free) (moved_body k g z ts e) ∙ act-act (parameters ts (λ j. bound (k + j))) free τ free (g z).tree
    ∙ act_same (way_back k ts (λ j. k + j) (λ j. j - k) b d (λ i. far_missed k i ts b) (λ i. omega arith)) (λ x a. refl) (g z).tree ∙ act-id (g z).tree

pub body_one : (b c : Body) → b.arity ≡ c.arity → b.tree ≡ c.tree → b ≡ c
body_one b c e d = ap₂ (λ n t. let body : Body = record { arity = n; tree = t } in body) e d

meta_one : (k : ℕ) (g h : ℕ → Body) (z : ℕ) (ts : Tms) → AllBoundBelow k ts → Distinct ts → (g z).arity ≡ count ts → (h z).arity ≡ count ts
    → act (parameters ts bound) free (bodies_below k g z).tree ≡ act (parameters ts bound) free (bodies_below k h z).tree → g z ≡ h z
meta_one k g h z ts b d e f v = body_one (g z) (h z) (e ∙ sym f) (sym (body_back k g z ts b d e) ∙ ap (read_body k ts) v ∙ body_back k h z ts b d f)

lam_bodies : {a b : Ty} {t u : Tm} → lam a t ≡ lam b u → t ≡ u
lam_bodies e = cc

app_functions : {t u v w : Tm} → app t u ≡ app v w → t ≡ v
app_functions e = cc

app_arguments : {t u v w : Tm} → app t u ≡ app v w → u ≡ w
app_arguments e = cc

pub value-bodies_below : (k : ℕ) (g : ℕ → Body) (t : Tm) → value (shifted (bodies_below k g)) t ≡ value (bodies_below (k + 1) g) t
value-bodies_below k g t = value_same (shifted (bodies_below k g)) (bodies_below (k + 1) g) t (shifted-bodies_below k g)

mutual
  unfolding value

  pattern_one_under : (k : ℕ) (g h : ℕ → Body) (p : Tm) → IsPatternUnder k p → FitsBodies g p → FitsBodies h p → value (bodies_below k g) p ≡ value (bodies_below k h) p → (z : ℕ) → Occurs z p → g z ≡ h z
  pattern_one_under k g h (bound i) p f e v z o = absurd o
  pattern_one_under k g h (free x a) p f e v z o = absurd o
  pattern_one_under k g h (fun c) p f e v z o = absurd o
  pattern_one_under k g h (meta y ts) p f e v z (inl o) =
      let one : g y ≡ h y = meta_one k g h y ts p.0 p.1 f.0 e.0
      (ap (λ us. act (parameters us bound) free (bodies_below k g y).tree) (sym (bound_values k (bodies_below k g) ts p.0)) ∙ v
      ∙ ap (λ us. act (parameters us bound) free (bodies_below k h y).tree) (bound_values k (bodies_below k h) ts p.0)) in
      subst (λ y. g y ≡ h y) o one
  pattern_one_under k g h (meta y ts) p f e v z (inr o) = absurd (bound_occurs k z ts p.0 o)
  pattern_one_under k g h (lam a t) p f e v z o =
      pattern_one_under (k + 1) g h t p f e (sym (value-bodies_below k g t) ∙ lam_bodies v ∙ value-bodies_below k h t) z o
  pattern_one_under k g h (app t u) p f e v z (inl o) = spine_one k g h t p.0 f.0 e.0 (app_functions v) z o
  pattern_one_under k g h (app t u) p f e v z (inr o) = pattern_one_under k g h u p.1 f.1 e.1 (app_arguments v) z o

  spine_one : (k : ℕ) (g h : ℕ → Body) (p : Tm) → IsPatternSpine k p → FitsBodies g p → FitsBodies h p → value (bodies_below k g) p ≡ value (bodies_below k h) p → (z : ℕ) → Occurs z p → g z ≡ h z
  spine_one k g h (bound i) p f e v z o = absurd o
  spine_one k g h (free x a) p f e v z o = absurd o
  spine_one k g h (fun c) p f e v z o = absurd o
  spine_one k g h (meta y ts) p f e v z o = absurd p
  spine_one k g h (lam a t) p f e v z o = absurd p
  spine_one k g h (app t u) p f e v z (inl o) = spine_one k g h t p.0 f.0 e.0 (app_functions v) z o
  spine_one k g h (app t u) p f e v z (inr o) = pattern_one_under k g h u p.1 f.1 e.1 (app_arguments v) z o

-- two meta-substitutions that give a pattern one value agree on its meta-variables
pub value_pattern : (g h : ℕ → Body) (p : Tm) → IsPattern p → FitsBodies g p → FitsBodies h p → value g p ≡ value h p → (z : ℕ) → Occurs z p → g z ≡ h z
value_pattern g h p i f e v z o =
    pattern_one_under 0 g h p i f e (value_same (bodies_below 0 g) g p (bodies_below-none g) ∙ v ∙ sym (value_same (bodies_below 0 h) h p (bodies_below-none h))) z o

pub pattern_one : {g h : ℕ → Body} {p t : Tm} → IsPattern p → Value g p t → Value h p t → (z : ℕ) → Occurs z p → g z ≡ h z
pattern_one {g = g} {h = h} {p = p} i v w z o =
    let (f, e) = value_is v in
    let (q, d) = value_is w in
    value_pattern g h p i f q (sym e ∙ d) z o
