-- The value of a meta-term below passed binders is its value under the bodies moved below them.
use Rattle.std.proofs.Common.{◌≡◌, ℕ, zero, suc, ◌+◌, ◌<◌, List, [], ◌∷◌, ◌++◌, length, get_or, take, subst, refl, ap, ap₂, sym, ◌∙◌, arith, one-add, add-one, add-zero, add-suc}
use Rattle.std.proofs.Math.Path.{fun_ext}
use Rattle.wh_terms.specs.Tree.{Tm, bound, free, fun, meta, lam, app, Tms, none, more, count}
use Rattle.wh_terms.specs.Substitution.{up_renaming, rename, act, cons}
use Rattle.wh_terms.specs.Entries.{bodies, Lists, Covers, CoversAll}
use Rattle.wh_terms.specs.Erase.{tm, tms}
use Rattle.wh_terms.specs.Under.{moved}
use Rattle.wh_terms.specs.Value.{Body, parameters, Value}
use Rattle.wh_terms.specs.Valued.{valued, all_valued, HasArities, AllHaveArities}
use Rattle.wh_terms.specs.declared.term.Term.{Term, Meta}
use Rattle.wh_terms.specs.declared.subst.MetaBody.{MetaBody}
use Rattle.wh_terms.proofs.TermLemmas.{join, tm_of_meta, tms_append, tms_take_next}
use Rattle.wh_terms.proofs.ActLaws.{act_same, act-rename}
use Rattle.wh_terms.proofs.ValueForm.{up_times, shifted, value, values, FitsBodies, AllFitBodies, count-values, parameters_same}
use Rattle.wh_terms.proofs.ValueLaws.{value_is, has_value}

cons-up : (t : Tm) (τ : ℕ → Tm) (ρ : ℕ → ℕ) (i : ℕ) → cons t τ (up_renaming ρ i) ≡ cons t (λ j. τ (ρ j)) i
unfolding cons up_renaming
cons-up t τ ρ zero = refl
cons-up t τ ρ (suc i) = refl

-- a renaming that leaves the parameters alone
parameters-up_times : (ts : Tms) (τ : ℕ → Tm) (ρ : ℕ → ℕ) (i : ℕ) → parameters ts τ (up_times (count ts) ρ i) ≡ parameters ts (λ j. τ (ρ j)) i
unfolding parameters up_times
parameters-up_times none τ ρ i = refl
parameters-up_times (more t ts) τ ρ i =
    ap (λ n. parameters ts (cons t τ) (up_times n ρ i)) (one-add (count ts)) ∙ parameters-up_times ts (cons t τ) (up_renaming ρ) i
    ∙ parameters_same ts (λ j. cons t τ (up_renaming ρ j)) (cons t (λ j. τ (ρ j))) (cons-up t τ ρ) i

-- the bodies moved below k binders
abbrev pub shifted_by : ℕ → (ℕ → Body) → ℕ → Body
shifted_by zero g = g
shifted_by (suc k) g = shifted (shifted_by k g)

shifted_by-arity : (k : ℕ) (g : ℕ → Body) (z : ℕ) → (shifted_by k g z).arity ≡ (g z).arity
shifted_by-arity zero g z = refl
shifted_by-arity (suc k) g z = shifted_by-arity k g z

-- a moved body takes its place as the body itself does, its further loose variables moved
moved-body : (k n : ℕ) (us : Tms) (τ : ℕ → Tm) (g : ℕ → Body) (z : ℕ) → n ≡ count us → (g z).arity ≡ n
    → act (parameters us τ) free (shifted_by k g z).tree ≡ act (parameters us (λ j. τ (j + k))) free (g z).tree
moved-body zero n us τ g z counted arity = ap (λ σ. act (parameters us σ) free (g z).tree) (fun_ext (λ j. ap τ (sym (add-zero j))))
moved-body (suc k) n us τ g z counted arity =
    ap (λ m. act (parameters us τ) free (rename (up_times m suc) (shifted_by k g z).tree)) (shifted_by-arity k g z ∙ arity ∙ counted)
    ∙ act-rename (up_times (count us) suc) (parameters us τ) free (shifted_by k g z).tree
    ∙ act_same (parameters-up_times us τ suc) (λ x a. refl) (shifted_by k g z).tree
    ∙ moved-body k n us (λ j. τ (suc j)) g z counted arity
    ∙ ap (λ σ. act (parameters us σ) free (g z).tree) (fun_ext (λ j. ap τ (sym (add-suc j k))))

mutual
  unfolding value values moved

  pub valued_is : (k : ℕ) (g : ℕ → Body) (t : Tm) → HasArities g t → valued k g t ≡ value (shifted_by k g) t
  valued_is k g (bound i) fits = refl
  valued_is k g (free x a) fits = refl
  valued_is k g (fun f) fits = refl
  valued_is k g (meta z ts) fits =
      ap (λ us. act (parameters us (moved k)) free (g z).tree) (all_valued_are k g ts fits.1)
      ∙ sym (moved-body k (count ts) (values (shifted_by k g) ts) bound g z (sym (count-values (shifted_by k g) ts)) fits.0)
  valued_is k g (lam a t) fits = ap (lam a) (rw add-one (valued_is (suc k) g t fits))
  valued_is k g (app t u) fits = ap₂ app (valued_is k g t fits.0) (valued_is k g u fits.1)

  pub all_valued_are : (k : ℕ) (g : ℕ → Body) (ts : Tms) → AllHaveArities g ts → all_valued k g ts ≡ values (shifted_by k g) ts
  all_valued_are k g none fits = refl
  all_valued_are k g (more t ts) fits = ap₂ more (valued_is k g t fits.0) (all_valued_are k g ts fits.1)

mutual
  pub fits-arities : (g : ℕ → Body) (t : Tm) → HasArities g t → FitsBodies g t
  fits-arities g (bound i) fits = tt
  fits-arities g (free x a) fits = tt
  fits-arities g (fun f) fits = tt
  fits-arities g (meta z ts) fits = (fits.0, all_fit-arities g ts fits.1)
  fits-arities g (lam a t) fits = fits-arities g t fits
  fits-arities g (app t u) fits = (fits-arities g t fits.0, fits-arities g u fits.1)

  all_fit-arities : (g : ℕ → Body) (ts : Tms) → AllHaveArities g ts → AllFitBodies g ts
  all_fit-arities g none fits = tt
  all_fit-arities g (more t ts) fits = (fits-arities g t fits.0, all_fit-arities g ts fits.1)

mutual
  pub arities-fit : (g : ℕ → Body) (t : Tm) → FitsBodies g t → HasArities g t
  arities-fit g (bound i) fits = tt
  arities-fit g (free x a) fits = tt
  arities-fit g (fun f) fits = tt
  arities-fit g (meta z ts) fits = (fits.0, all_arities-fit g ts fits.1)
  arities-fit g (lam a t) fits = arities-fit g t fits
  arities-fit g (app t u) fits = (arities-fit g t fits.0, arities-fit g u fits.1)

  all_arities-fit : (g : ℕ → Body) (ts : Tms) → AllFitBodies g ts → AllHaveArities g ts
  all_arities-fit g none fits = tt
  all_arities-fit g (more t ts) fits = (arities-fit g t fits.0, all_arities-fit g ts fits.1)

-- the relation, and the function at no binder
pub value_of_valued : (g : ℕ → Body) (t v : Tm) → HasArities g t → v ≡ valued 0 g t → Value g t v
value_of_valued g t v fits is = subst (Value g t) (sym (is ∙ valued_is 0 g t fits)) (has_value g t (fits-arities g t fits))

pub arities_of_value : (g : ℕ → Body) (t v : Tm) → Value g t v → HasArities g t
arities_of_value g t v value = arities-fit g t (value_is value).0

pub valued_of_value : (g : ℕ → Body) (t v : Tm) → Value g t v → v ≡ valued 0 g t
valued_of_value g t v value = (value_is value).1 ∙ sym (valued_is 0 g t (arities_of_value g t v value))

mutual
  pub covered_arities : (bs : List MetaBody) (t : Tm) → Covers bs t → HasArities (bodies bs) t
  covered_arities bs (bound i) covers = tt
  covered_arities bs (free x a) covers = tt
  covered_arities bs (fun f) covers = tt
  covered_arities bs (meta z ts) covers = (covers.1, all_covered_arities bs ts covers.2)
  covered_arities bs (lam a t) covers = covered_arities bs t covers
  covered_arities bs (app t u) covers = (covered_arities bs t covers.0, covered_arities bs u covers.1)

  pub all_covered_arities : (bs : List MetaBody) (ts : Tms) → CoversAll bs ts → AllHaveArities (bodies bs) ts
  all_covered_arities bs none covers = tt
  all_covered_arities bs (more t ts) covers = (covered_arities bs t covers.0, all_covered_arities bs ts covers.1)

pub value_of_covered : (bs : List MetaBody) (t v : Tm) → Covers bs t → v ≡ valued 0 (bodies bs) t → Value (bodies bs) t v
value_of_covered bs t v covers is = value_of_valued (bodies bs) t v (covered_arities bs t covers) is

-- the walk over the arguments

all_valued-join : (k : ℕ) (g : ℕ → Body) (ts us : Tms) → all_valued k g (join ts us) ≡ join (all_valued k g ts) (all_valued k g us)
all_valued-join k g none us = refl
all_valued-join k g (more t ts) us = ap (more (valued k g t)) (all_valued-join k g ts us)

pub values_push : (k : ℕ) (g : ℕ → Body) (xs ys : List Term) (i : ℕ) (out : List Term) (r t : Term)
    → tms out ≡ all_valued k g (tms (take i xs)) → ys ≡ out ++ r ∷ [] → tm r ≡ valued k g (tm t) → i < length xs → t ≡ get_or xs i t
    → tms ys ≡ all_valued k g (tms (take (i + 1) xs))
values_push k g xs ys i out r t same pushed equal within e =
    ap tms pushed ∙ tms_append out (r ∷ []) ∙ ap₂ (λ us u. join us (more u none)) same equal
    ∙ sym (all_valued-join k g (tms (take i xs)) (more (tm t) none))
    ∙ ap (all_valued k g) (sym (tms_take_next xs i t within e))

covers-get : (bs : List MetaBody) (xs : List Term) (i : ℕ) (t : Term) → i < length xs → t ≡ get_or xs i t → CoversAll bs (tms xs) → Covers bs (tm t)
covers-get bs [] i t within e covers = absurd (omega arith)
covers-get bs (x ∷ xs) zero t within e covers = subst (λ u. Covers bs (tm u)) (sym e) covers.0
covers-get bs (x ∷ xs) (suc i) t within e covers = covers-get bs xs i t (omega arith) e covers.1

pub covers_item : (bs : List MetaBody) (ts : List Term) (xs : List Term) (i : ℕ) (t : Term) → xs ≡ ts → i < length xs → t ≡ get_or xs i t
    → CoversAll bs (tms ts) → Covers bs (tm t)
covers_item bs ts xs i t from within e covers = covers-get bs xs i t within e (subst (λ us. CoversAll bs (tms us)) (sym from) covers)

-- what a value takes from the body and the values of the arguments
pub valued_meta : (k : ℕ) (bs : List MetaBody) (t : Term) (z : ℕ) (ts : List Term) (vs : Tms) (b : MetaBody) → t ≡ Meta z ts
    → vs ≡ all_valued k (bodies bs) (tms ts) → bodies bs z ≡ record { arity = b.arity; tree = tm b.body }
    → act (parameters vs (moved k)) free (tm b.body) ≡ valued k (bodies bs) (tm t)
valued_meta k bs t z ts vs b is values body =
    ap₂ (λ us u. act (parameters us (moved k)) free u) values (ap (λ c. c.tree) (sym body))
    ∙ sym (ap (valued k (bodies bs)) (tm_of_meta t z ts is))

pub covers_meta : (bs : List MetaBody) (t : Term) (z : ℕ) (ts : List Term) → t ≡ Meta z ts → Covers bs (tm t) → CoversAll bs (tms ts)
covers_meta bs t z ts is covers = (subst (Covers bs) (tm_of_meta t z ts is) covers).2

pub lists_meta : (bs : List MetaBody) (t : Term) (z : ℕ) (ts : List Term) → t ≡ Meta z ts → Covers bs (tm t) → Lists bs z
lists_meta bs t z ts is covers = (subst (Covers bs) (tm_of_meta t z ts is) covers).0
