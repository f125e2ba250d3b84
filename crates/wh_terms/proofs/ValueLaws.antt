-- Values: openings, what is fresh or loose in them, and that the relation `Value` is the function `value`.
use Rattle.std.proofs.Common.{◌≡◌, ℕ, zero, suc, ◌+◌, ◌≤◌, refl, ap, ap₂, sym, ◌∙◌, subst, inl, inr, arith}
use Rattle.wh_types.specs.Ty.{Ty}
use Rattle.wh_terms.specs.Tree.{Tm, bound, free, fun, meta, lam, app, Tms, none, more}
use Rattle.wh_terms.specs.Substitution.{up_renaming, rename, up, up_free, act, acts, cons, opened}
use Rattle.wh_terms.specs.Sight.{IsTerm, Occurs, OccursIn, Fresh, AllFresh}
use Rattle.wh_terms.specs.Value.{Body, parameters, FreshForBodies, Value, of_bound, of_free, of_fun, of_meta, of_lam, of_app, Values, of_none, of_more}
use Rattle.wh_terms.proofs.ActLaws.{act_same, act-rename, act-id, opened-act, count-acts}
use Rattle.wh_terms.proofs.TermLaws.{term-rename, term-up}
use Rattle.wh_terms.proofs.FreshLaws.{Above, above, fresh-rename, fresh-act, opened_one}
use Rattle.wh_terms.proofs.ValueForm.{up_times, up_many, up_free_many, shifted, acted, value, values, FitsArities, AllFitArities, FitsBodies, AllFitBodies, value_same, act-value}

mutual
  unfolding act acts

  -- no meta-variable goes by a substitution
  pub occurs-act : (z : ℕ) (σ : ℕ → Tm) (φ : ℕ → Ty → Tm) (t : Tm) → Occurs z t → Occurs z (act σ φ t)
  occurs-act z σ φ (bound i) o = absurd o
  occurs-act z σ φ (free x a) o = absurd o
  occurs-act z σ φ (fun f) o = absurd o
  occurs-act z σ φ (meta y ts) (inl e) = inl e
  occurs-act z σ φ (meta y ts) (inr o) = inr (occurs_in-acts z σ φ ts o)
  occurs-act z σ φ (lam a t) o = occurs-act z (up σ) (up_free φ) t o
  occurs-act z σ φ (app t u) (inl o) = inl (occurs-act z σ φ t o)
  occurs-act z σ φ (app t u) (inr o) = inr (occurs-act z σ φ u o)

  pub occurs_in-acts : (z : ℕ) (σ : ℕ → Tm) (φ : ℕ → Ty → Tm) (ts : Tms) → OccursIn z ts → OccursIn z (acts σ φ ts)
  occurs_in-acts z σ φ none o = absurd o
  occurs_in-acts z σ φ (more t ts) (inl o) = inl (occurs-act z σ φ t o)
  occurs_in-acts z σ φ (more t ts) (inr o) = inr (occurs_in-acts z σ φ ts o)

mutual
  unfolding act acts

  pub fits-act-back : (n : ℕ → ℕ) (σ : ℕ → Tm) (φ : ℕ → Ty → Tm) (t : Tm) → FitsArities n (act σ φ t) → FitsArities n t
  fits-act-back n σ φ (bound i) f = tt
  fits-act-back n σ φ (free x a) f = tt
  fits-act-back n σ φ (fun c) f = tt
  fits-act-back n σ φ (meta z ts) f = (f.0 ∙ count-acts σ φ ts, all_fit-acts-back n σ φ ts f.1)
  fits-act-back n σ φ (lam a t) f = fits-act-back n (up σ) (up_free φ) t f
  fits-act-back n σ φ (app t u) f = (fits-act-back n σ φ t f.0, fits-act-back n σ φ u f.1)

  pub all_fit-acts-back : (n : ℕ → ℕ) (σ : ℕ → Tm) (φ : ℕ → Ty → Tm) (ts : Tms) → AllFitArities n (acts σ φ ts) → AllFitArities n ts
  all_fit-acts-back n σ φ none f = tt
  all_fit-acts-back n σ φ (more t ts) f = (fits-act-back n σ φ t f.0, all_fit-acts-back n σ φ ts f.1)

up-undoes : (ρ : ℕ → ℕ) (σ : ℕ → Tm) → ((i : ℕ) → σ (ρ i) ≡ bound i) → (i : ℕ) → up σ (up_renaming ρ i) ≡ bound i
unfolding up up_renaming rename
up-undoes ρ σ h zero = refl
up-undoes ρ σ h (suc i) = ap (rename suc) (h i)

up_many-undo : (n : ℕ) (ρ : ℕ → ℕ) (σ : ℕ → Tm) → ((i : ℕ) → σ (ρ i) ≡ bound i) → (i : ℕ) → up_many n σ (up_times n ρ i) ≡ bound i
unfolding up_many up_times
up_many-undo zero ρ σ h i = h i
up_many-undo (suc n) ρ σ h i = up_many-undo n (up_renaming ρ) (up σ) (up-undoes ρ σ h) i

pub up_free_many-free : (n : ℕ) (x : ℕ) (a : Ty) → up_free_many n free x a ≡ free x a
unfolding up_free_many up_free rename
up_free_many-free zero x a = refl
up_free_many-free (suc n) x a = up_free_many-free n x a

-- the bodies below a binder, opened: the bodies themselves
pub acted-opened : (u : Tm) (g : ℕ → Body) (z : ℕ) → acted (cons u bound) free (shifted g) z ≡ g z
unfolding cons
acted-opened u g z =
    let put : Tm → Body = λ b. record { arity = (g z).arity; tree = b } in
    let n = (g z).arity in
    ap put (act-rename (up_times n suc) (up_many n (cons u bound)) (up_free_many n free) (g z).tree
    ∙ act_same (up_many-undo n suc (cons u bound) (λ i. refl)) (up_free_many-free n) (g z).tree ∙ act-id (g z).tree)

term-cons : (u : Tm) → IsTerm u → (i : ℕ) → IsTerm (cons u bound i)
unfolding cons
term-cons u p zero = p
term-cons u p (suc i) = tt

-- an opened value is the value of the opened meta-term
pub opened-value : (u : Tm) (g : ℕ → Body) (t : Tm) → IsTerm u → FitsBodies g t → opened u (value (shifted g) t) ≡ value g (opened u t)
unfolding opened
opened-value u g t p f =
    act-value (cons u bound) free (shifted g) t (term-cons u p) (λ x a. tt) f
    ∙ value_same (acted (cons u bound) free (shifted g)) g (act (cons u bound) free t) (acted-opened u g)

pub fresh-parameters : (x : ℕ) (ts : Tms) (σ : ℕ → Tm) → AllFresh x ts → ((i : ℕ) → Fresh x (σ i)) → (i : ℕ) → Fresh x (parameters ts σ i)
unfolding parameters cons
fresh-parameters x none σ f h i = h i
fresh-parameters x (more t ts) σ f h i = fresh-parameters x ts (cons t σ) f.1 fresh_cons i
  where
    fresh_cons : (j : ℕ) → Fresh x (cons t σ j)
    fresh_cons zero = f.0
    fresh_cons (suc j) = h j

mutual
  unfolding value values

  pub fresh-value : (x : ℕ) (g : ℕ → Body) (t : Tm) → Fresh x t → FreshForBodies x g t → Fresh x (value g t)
  fresh-value x g (bound i) f h = tt
  fresh-value x g (free y a) f h = f
  fresh-value x g (fun c) f h = tt
  fresh-value x g (meta z ts) f h =
      fresh-act x (parameters (values g ts) bound) free (g z).tree (fresh-parameters x (values g ts) bound (all_fresh-values x g ts f (λ y o. h y (inr o))) (λ i. tt)) (λ y a n. n) (h z (inl refl))
  fresh-value x g (lam a t) f h = fresh-value x (shifted g) t f (λ z o. fresh-rename x (up_times (g z).arity suc) (g z).tree (h z o))
  fresh-value x g (app t u) f h = (fresh-value x g t f.0 (λ z o. h z (inl o)), fresh-value x g u f.1 (λ z o. h z (inr o)))

  pub all_fresh-values : (x : ℕ) (g : ℕ → Body) (ts : Tms) → AllFresh x ts → ((z : ℕ) → OccursIn z ts → Fresh x (g z).tree) → AllFresh x (values g ts)
  all_fresh-values x g none f h = tt
  all_fresh-values x g (more t ts) f h = (fresh-value x g t f.0 (λ z o. h z (inl o)), all_fresh-values x g ts f.1 (λ z o. h z (inr o)))

-- from x on each number is fresh for the bodies of the meta-variables of the tree
abbrev pub AboveBodies : ℕ → (ℕ → Body) → Tm → Type 0
AboveBodies x g t = (y : ℕ) → x ≤ y → FreshForBodies y g t

abbrev AboveBodiesIn : ℕ → (ℕ → Body) → Tms → Type 0
AboveBodiesIn x g ts = (y : ℕ) → x ≤ y → (z : ℕ) → OccursIn z ts → Fresh y (g z).tree

body_above : (g : ℕ → Body) (z : ℕ) (ts : Tms) → (x : ℕ) × Above x (g z).tree → (x : ℕ) × AboveBodiesIn x g ts → (x : ℕ) × AboveBodies x g (meta z ts)
body_above g z ts (x, h) (y, k) = (x + y, both)
  where
    both : AboveBodies (x + y) g (meta z ts)
    both n l w (inl e) = subst (λ v. Fresh n (g v).tree) e (h n (omega arith))
    both n l w (inr o) = k n (omega arith) w o

app_above : (g : ℕ → Body) (t u : Tm) → (x : ℕ) × AboveBodies x g t → (x : ℕ) × AboveBodies x g u → (x : ℕ) × AboveBodies x g (app t u)
app_above g t u (x, h) (y, k) = (x + y, both)
  where
    both : AboveBodies (x + y) g (app t u)
    both n l w (inl o) = h n (omega arith) w o
    both n l w (inr o) = k n (omega arith) w o

more_above : (g : ℕ → Body) (t : Tm) (ts : Tms) → (x : ℕ) × AboveBodies x g t → (x : ℕ) × AboveBodiesIn x g ts → (x : ℕ) × AboveBodiesIn x g (more t ts)
more_above g t ts (x, h) (y, k) = (x + y, both)
  where
    both : AboveBodiesIn (x + y) g (more t ts)
    both n l w (inl o) = h n (omega arith) w o
    both n l w (inr o) = k n (omega arith) w o

mutual
  pub above_bodies : (g : ℕ → Body) (t : Tm) → (x : ℕ) × AboveBodies x g t
  above_bodies g (bound i) = (0, λ y l z o. absurd o)
  above_bodies g (free x a) = (0, λ y l z o. absurd o)
  above_bodies g (fun f) = (0, λ y l z o. absurd o)
  above_bodies g (meta z ts) = body_above g z ts (above (g z).tree) (above_bodies_in g ts)
  above_bodies g (lam a t) = above_bodies g t
  above_bodies g (app t u) = app_above g t u (above_bodies g t) (above_bodies g u)

  above_bodies_in : (g : ℕ → Body) (ts : Tms) → (x : ℕ) × AboveBodiesIn x g ts
  above_bodies_in g none = (0, λ y l z o. absurd o)
  above_bodies_in g (more t ts) = more_above g t ts (above_bodies g t) (above_bodies_in g ts)

value_is-lam : (g : ℕ → Body) (a : Ty) (t w : Tm) (x : ℕ) → Fresh x t → Fresh x w → FreshForBodies x g t
    → FitsBodies g (opened (free x a) t) × (opened (free x a) w ≡ value g (opened (free x a) t)) → FitsBodies g t × (lam a w ≡ lam a (value (shifted g) t))
unfolding opened
value_is-lam g a t w x p q h (f, e) =
    let fits : FitsBodies g t = fits-act-back (λ z. (g z).arity) (cons (free x a) bound) free t f in
    let fresh : Fresh x (value (shifted g) t) = fresh-value x (shifted g) t p (λ z o. fresh-rename x (up_times (g z).arity suc) (g z).tree (h z o)) in
    (fits, ap (lam a) (opened_one x a w (value (shifted g) t) q fresh (e ∙ sym (opened-value (free x a) g t tt fits))))

-- the relation gives the function's value
mutual
  unfolding value values

  pub value_is : {g : ℕ → Body} {t v : Tm} → Value g t v → FitsBodies g t × (v ≡ value g t)
  value_is of_bound = (tt, refl)
  value_is of_free = (tt, refl)
  value_is of_fun = (tt, refl)
  value_is {g = g} (of_meta {z = z} {ts = ts} {vs = vs} n us e) =
      let (f, us_are) = values_are us in
      ((n, f), e ∙ ap (λ ws. act (parameters ws bound) free (g z).tree) us_are)
  value_is {g = g} (of_lam {a = a} {t = t} {w = w} x p q h v) = value_is-lam g a t w x p q h (value_is v)
  value_is (of_app v w) = let (f, e) = value_is v in let (k, d) = value_is w in ((f, k), ap₂ app e d)

  pub values_are : {g : ℕ → Body} {ts vs : Tms} → Values g ts vs → AllFitBodies g ts × (vs ≡ values g ts)
  values_are of_none = (tt, refl)
  values_are (of_more v vs) = let (f, e) = value_is v in let (k, d) = values_are vs in ((f, k), ap₂ more e d)

-- and the function's value is one by the relation, where the arities fit. Stated for trees under a substitution that
-- puts trees with values for the loose variables, so that the case of an abstraction can open its body.
HaveValues : (ℕ → Tm) → Type 0
HaveValues σ = (i : ℕ) (g : ℕ → Body) → Value g (σ i) (value g (σ i))

have_values-cons : (x : ℕ) (a : Ty) (σ : ℕ → Tm) → HaveValues σ → HaveValues (cons (free x a) σ)
unfolding HaveValues cons value
have_values-cons x a σ h zero g = of_free
have_values-cons x a σ h (suc i) g = h i g

term_cons : (x : ℕ) (a : Ty) (σ : ℕ → Tm) → ((i : ℕ) → IsTerm (σ i)) → (i : ℕ) → IsTerm (cons (free x a) σ i)
unfolding cons
term_cons x a σ p zero = tt
term_cons x a σ p (suc i) = p i

has_value-lam : (g : ℕ → Body) (a : Ty) (t : Tm) → FitsBodies g t → ((x : ℕ) → Value g (opened (free x a) t) (value g (opened (free x a) t)))
    → Value g (lam a t) (lam a (value (shifted g) t))
has_value-lam g a t f h =
    let (x, p) = above t in
    let (y, q) = above_bodies g t in
    let n = x + y in
    let fresh : Fresh n t = p n (omega arith) in
    let fresh_bodies : FreshForBodies n g t = q n (omega arith) in
    let fresh_value : Fresh n (value (shifted g) t) = fresh-value n (shifted g) t fresh (λ z o. fresh-rename n (up_times (g z).arity suc) (g z).tree (fresh_bodies z o)) in
    of_lam n fresh fresh_value fresh_bodies (subst (λ v. Value g (opened (free n a) t) v) (sym (opened-value (free n a) g t tt f)) (h n))

pub fits_term : (n : ℕ → ℕ) (t : Tm) → IsTerm t → FitsArities n t
fits_term n (bound i) p = tt
fits_term n (free x a) p = tt
fits_term n (fun f) p = tt
fits_term n (meta z ts) p = absurd p
fits_term n (lam a t) p = fits_term n t p
fits_term n (app t u) p = (fits_term n t p.0, fits_term n u p.1)

mutual
  unfolding act acts up_free

  pub fits-act : (n : ℕ → ℕ) (σ : ℕ → Tm) (φ : ℕ → Ty → Tm) (t : Tm) → ((i : ℕ) → IsTerm (σ i)) → ((x : ℕ) (a : Ty) → IsTerm (φ x a)) → FitsArities n t → FitsArities n (act σ φ t)
  fits-act n σ φ (bound i) p q f = fits_term n (σ i) (p i)
  fits-act n σ φ (free x a) p q f = fits_term n (φ x a) (q x a)
  fits-act n σ φ (fun c) p q f = tt
  fits-act n σ φ (meta z ts) p q f = (f.0 ∙ sym (count-acts σ φ ts), all_fit-acts n σ φ ts p q f.1)
  fits-act n σ φ (lam a t) p q f = fits-act n (up σ) (up_free φ) t (term-up σ p) (λ x b. term-rename suc (φ x b) (q x b)) f
  fits-act n σ φ (app t u) p q f = (fits-act n σ φ t p q f.0, fits-act n σ φ u p q f.1)

  pub all_fit-acts : (n : ℕ → ℕ) (σ : ℕ → Tm) (φ : ℕ → Ty → Tm) (ts : Tms) → ((i : ℕ) → IsTerm (σ i)) → ((x : ℕ) (a : Ty) → IsTerm (φ x a)) → AllFitArities n ts → AllFitArities n (acts σ φ ts)
  all_fit-acts n σ φ none p q f = tt
  all_fit-acts n σ φ (more t ts) p q f = (fits-act n σ φ t p q f.0, all_fit-acts n σ φ ts p q f.1)

mutual
  unfolding act acts value values HaveValues up_free rename

  has_value-act : (g : ℕ → Body) (σ : ℕ → Tm) (t : Tm) → HaveValues σ → ((i : ℕ) → IsTerm (σ i)) → FitsBodies g t → Value g (act σ free t) (value g (act σ free t))
  has_value-act g σ (bound i) h p f = h i g
  has_value-act g σ (free x a) h p f = of_free
  has_value-act g σ (fun c) h p f = of_fun
  has_value-act g σ (meta z ts) h p f = of_meta (f.0 ∙ sym (count-acts σ free ts)) (have_values-acts g σ ts h p f.1) refl
  has_value-act g σ (lam a t) h p f = has_value-lam g a (act (up σ) (up_free free) t) (fits-act (λ z. (g z).arity) (up σ) (up_free free) t (term-up σ p) (λ x b. tt) f)
      (λ x. subst (λ u. Value g u (value g u)) (sym (opened-act (free x a) σ free t)) (has_value-act g (cons (free x a) σ) t (have_values-cons x a σ h) (term_cons x a σ p) f))
  has_value-act g σ (app t u) h p f = of_app (has_value-act g σ t h p f.0) (has_value-act g σ u h p f.1)

  have_values-acts : (g : ℕ → Body) (σ : ℕ → Tm) (ts : Tms) → HaveValues σ → ((i : ℕ) → IsTerm (σ i)) → AllFitBodies g ts → Values g (acts σ free ts) (values g (acts σ free ts))
  have_values-acts g σ none h p f = of_none
  have_values-acts g σ (more t ts) h p f = of_more (has_value-act g σ t h p f.0) (have_values-acts g σ ts h p f.1)

bound_values : HaveValues bound
unfolding HaveValues value
bound_values i g = of_bound

pub has_value : (g : ℕ → Body) (t : Tm) → FitsBodies g t → Value g t (value g t)
has_value g t f = subst (λ u. Value g u (value g u)) (act-id t) (has_value-act g bound t bound_values (λ i. tt) f)

pub value_one : {g : ℕ → Body} {t v w : Tm} → Value g t v → Value g t w → v ≡ w
value_one p q = (value_is p).1 ∙ sym (value_is q).1
