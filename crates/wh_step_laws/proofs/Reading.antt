-- The one candidate that a pattern and a term give: at a meta-variable's place the body is read off the term.
use Rattle.std.proofs.Common.{◌≡◌, ℕ, ◌+◌, Bool, true, false, List, Option, Some, None, slice_get, length, refl, ap, sym, ◌∙◌, subst, inl, inr}
use Rattle.std.specs.Prelude.{if◌then◌else◌}
use Rattle.wh_types.specs.Ty.{Ty}
use Rattle.wh_terms.specs.Tree.{Tm, bound, free, fun, meta, lam, app, Tms, none, more}
use Rattle.wh_terms.specs.Substitution.{act}
use Rattle.wh_terms.specs.Sight.{Occurs, OccursIn}
use Rattle.wh_terms.specs.Typing.{Symbols, Declared, Typed, typed_bound, typed_free, typed_fun, typed_meta, typed_lam, typed_app, AllTyped, typed_none, typed_more}
use Rattle.wh_terms.specs.Pattern.{IsPatternUnder, IsPatternSpine, IsPattern}
use Rattle.wh_terms.specs.Value.{Body, parameters}
use Rattle.wh_terms.proofs.ValueForm.{value, FitsArities, AllFitArities, FitsBodies, value_same}
use Rattle.wh_terms.proofs.ValueSight.{bound_occurs, bound_values}
use Rattle.wh_terms.proofs.ValueTyping.{typed_count}
use Rattle.wh_match.proofs.MatchLaws.{bodies_below, bodies_below-none, value-bodies_below, read_body, body_back, body_one}
use Rattle.wh_step_laws.proofs.SameTree.{occurs, occurs-false, occurs-true}

-- the body of z, read off the tree t at the place where the pattern p, below k binders, has z; anything where it has none
abbrev pub reading : ℕ → Tm → Tm → ℕ → Tm
reading k (meta y ts) t z = read_body k ts t
reading k (lam a p) (lam b t) z = reading (k + 1) p t z
reading k (app p q) (app t u) z = if occurs z p then reading k p t z else reading k q u z
reading k p t z = t

-- a choice by the test of occurrence
occurs_here : (z : ℕ) (p t u v : Tm) → Occurs z p → t ≡ v → (if occurs z p then t else u) ≡ v
occurs_here z p t u v o h = go (occurs z p) refl
  where
    go : (b : Bool) → occurs z p ≡ b → (if b then t else u) ≡ v
    go true e = h
    go false e = absurd (occurs-false z p e o)

occurs_there : (z : ℕ) (p t u v : Tm) → (Occurs z p → t ≡ v) → u ≡ v → (if occurs z p then t else u) ≡ v
occurs_there z p t u v h k = go (occurs z p) refl
  where
    go : (b : Bool) → occurs z p ≡ b → (if b then t else u) ≡ v
    go true e = h (occurs-true z p e)
    go false e = k

mutual
  unfolding value

  -- off a value of the pattern the bodies themselves are read
  reading_under : (k : ℕ) (g : ℕ → Body) (p : Tm) → IsPatternUnder k p → FitsBodies g p → (z : ℕ) → Occurs z p → reading k p (value (bodies_below k g) p) z ≡ (g z).tree
  reading_under k g (bound i) p f z o = absurd o
  reading_under k g (free x a) p f z o = absurd o
  reading_under k g (fun c) p f z o = absurd o
  reading_under k g (meta y ts) p f z (inl o) =
      ap (λ us. read_body k ts (act (parameters us bound) free (bodies_below k g y).tree)) (bound_values k (bodies_below k g) ts p.0)
      ∙ body_back k g y ts p.0 p.1 f.0 ∙ ap (λ y. (g y).tree) o
  reading_under k g (meta y ts) p f z (inr o) = absurd (bound_occurs k z ts p.0 o)
  reading_under k g (lam a t) p f z o = ap (λ v. reading (k + 1) t v z) (value-bodies_below k g t) ∙ reading_under (k + 1) g t p f z o
  reading_under k g (app t u) p f z (inl o) =
      occurs_here z t (reading k t (value (bodies_below k g) t) z) (reading k u (value (bodies_below k g) u) z) (g z).tree o (reading_spine k g t p.0 f.0 z o)
  reading_under k g (app t u) p f z (inr o) =
      occurs_there z t (reading k t (value (bodies_below k g) t) z) (reading k u (value (bodies_below k g) u) z) (g z).tree (λ q. reading_spine k g t p.0 f.0 z q) (reading_under k g u p.1 f.1 z o)

  reading_spine : (k : ℕ) (g : ℕ → Body) (p : Tm) → IsPatternSpine k p → FitsBodies g p → (z : ℕ) → Occurs z p → reading k p (value (bodies_below k g) p) z ≡ (g z).tree
  reading_spine k g (bound i) p f z o = absurd o
  reading_spine k g (free x a) p f z o = absurd o
  reading_spine k g (fun c) p f z o = absurd o
  reading_spine k g (meta y ts) p f z o = absurd p
  reading_spine k g (lam a t) p f z o = absurd p
  reading_spine k g (app t u) p f z (inl o) =
      occurs_here z t (reading k t (value (bodies_below k g) t) z) (reading k u (value (bodies_below k g) u) z) (g z).tree o (reading_spine k g t p.0 f.0 z o)
  reading_spine k g (app t u) p f z (inr o) =
      occurs_there z t (reading k t (value (bodies_below k g) t) z) (reading k u (value (bodies_below k g) u) z) (g z).tree (λ q. reading_spine k g t p.0 f.0 z q) (reading_under k g u p.1 f.1 z o)

-- the number of arguments that a meta-variable is declared with
abbrev pub declared_arity : Option Declared → ℕ
declared_arity (Some d) = length d.args
declared_arity None = 0

-- the candidate: bodies of the declared arities, read off the term
abbrev pub candidate_for : List Declared → Tm → Tm → ℕ → Body
candidate_for M p t z = record { arity = declared_arity (slice_get M z); tree = reading 0 p t z }

mutual
  -- a typed tree has each meta-variable with the declared number of arguments
  pub typed-fits : {S : Symbols} {M : List Declared} {Γ : List Ty} {t : Tm} {a : Ty} → Typed S M Γ t a → FitsArities (λ z. declared_arity (slice_get M z)) t
  typed-fits (typed_bound e) = tt
  typed-fits (typed_free s) = tt
  typed-fits (typed_fun e) = tt
  typed-fits (typed_meta e ts o) = (ap declared_arity e ∙ sym (typed_count ts), all_typed-fit ts)
  typed-fits (typed_lam s p) = typed-fits p
  typed-fits (typed_app p q) = (typed-fits p, typed-fits q)

  pub all_typed-fit : {S : Symbols} {M : List Declared} {Γ : List Ty} {ts : Tms} {cs : List Ty} → AllTyped S M Γ ts cs → AllFitArities (λ z. declared_arity (slice_get M z)) ts
  all_typed-fit typed_none = tt
  all_typed-fit (typed_more p ps) = (typed-fits p, all_typed-fit ps)

mutual
  -- arities that fit agree on what occurs
  pub arities_agree : (m n : ℕ → ℕ) (t : Tm) → FitsArities m t → FitsArities n t → (z : ℕ) → Occurs z t → m z ≡ n z
  arities_agree m n (bound i) f e z o = absurd o
  arities_agree m n (free x a) f e z o = absurd o
  arities_agree m n (fun c) f e z o = absurd o
  arities_agree m n (meta y ts) f e z (inl o) = subst (λ y. m y ≡ n y) o (f.0 ∙ sym e.0)
  arities_agree m n (meta y ts) f e z (inr o) = arities_agree_in m n ts f.1 e.1 z o
  arities_agree m n (lam a t) f e z o = arities_agree m n t f e z o
  arities_agree m n (app t u) f e z (inl o) = arities_agree m n t f.0 e.0 z o
  arities_agree m n (app t u) f e z (inr o) = arities_agree m n u f.1 e.1 z o

  pub arities_agree_in : (m n : ℕ → ℕ) (ts : Tms) → AllFitArities m ts → AllFitArities n ts → (z : ℕ) → OccursIn z ts → m z ≡ n z
  arities_agree_in m n none f e z o = absurd o
  arities_agree_in m n (more t ts) f e z (inl o) = arities_agree m n t f.0 e.0 z o
  arities_agree_in m n (more t ts) f e z (inr o) = arities_agree_in m n ts f.1 e.1 z o

-- where the pattern has the term as its value by g, the candidate is g on what occurs
pub candidate_is : (M : List Declared) (g : ℕ → Body) (p t : Tm) → IsPattern p → FitsArities (λ z. declared_arity (slice_get M z)) p → FitsBodies g p → t ≡ value g p → (z : ℕ) → Occurs z p → candidate_for M p t z ≡ g z
candidate_is M g p t i f h e z o =
    body_one (candidate_for M p t z) (g z) (arities_agree (λ z. declared_arity (slice_get M z)) (λ z. (g z).arity) p f h z o)
    (ap (λ v. reading 0 p v z) (e ∙ sym (value_same (bodies_below 0 g) g p (bodies_below-none g))) ∙ reading_under 0 g p i h z o)
