-- What the walk that puts trees for variables needs: its cases, and the step of its loop over arguments.
use Rattle.std.proofs.Common.{◌≡◌, ℕ, ◌+◌, ◌<◌, List, [], ◌∷◌, ◌++◌, length, take, get_or, refl, ap, sym, ◌∙◌, add-one}
use Rattle.wh_types.specs.Ty.{Ty}
use Rattle.wh_terms.specs.Tree.{Tm, bound, free, fun, meta, lam, app, Tms, none, more}
use Rattle.wh_terms.specs.Erase.{tm, tms}
use Rattle.wh_terms.specs.Substitution.{act, acts}
use Rattle.wh_terms.specs.Under.{ups, ups_free}
use Rattle.wh_terms.specs.declared.term.Term.{Term, Meta}
use Rattle.wh_terms.proofs.TermLemmas.{join, tms_append, tms_take_next, tm_of_meta}

pub act_at_bound : (σ : ℕ → Tm) (φ : ℕ → Ty → Tm) (i : ℕ) → act σ φ (bound i) ≡ σ i
unfolding act
act_at_bound σ φ i = refl

pub act_at_free : (σ : ℕ → Tm) (φ : ℕ → Ty → Tm) (x : ℕ) (a : Ty) → act σ φ (free x a) ≡ φ x a
unfolding act
act_at_free σ φ x a = refl

pub act_at_fun : (σ : ℕ → Tm) (φ : ℕ → Ty → Tm) (f : ℕ) → act σ φ (fun f) ≡ fun f
unfolding act
act_at_fun σ φ f = refl

pub act_at_app : (σ : ℕ → Tm) (φ : ℕ → Ty → Tm) (t u : Tm) → act σ φ (app t u) ≡ app (act σ φ t) (act σ φ u)
unfolding act
act_at_app σ φ t u = refl

pub act_at_meta : (σ : ℕ → Tm) (φ : ℕ → Ty → Tm) (t : Term) (z : ℕ) (ts : List Term) → t ≡ Meta z ts
    → act σ φ (tm t) ≡ meta z (acts σ φ (tms ts))
unfolding act acts
act_at_meta σ φ t z ts e = ap (act σ φ) (tm_of_meta t z ts e)

pub act_at_lam : (σ : ℕ → Tm) (φ : ℕ → Ty → Tm) (k : ℕ) (a : Ty) (t : Tm)
    → act (ups k σ) (ups_free k φ) (lam a t) ≡ lam a (act (ups (k + 1) σ) (ups_free (k + 1) φ) t)
unfolding act ups ups_free
act_at_lam σ φ k a t = rw add-one

pub acts-join : (σ : ℕ → Tm) (φ : ℕ → Ty → Tm) (ts us : Tms) → acts σ φ (join ts us) ≡ join (acts σ φ ts) (acts σ φ us)
unfolding acts
acts-join σ φ none us = refl
acts-join σ φ (more t ts) us = ap (more (act σ φ t)) (acts-join σ φ ts us)

acts-one : (σ : ℕ → Tm) (φ : ℕ → Ty → Tm) (t : Tm) → acts σ φ (more t none) ≡ more (act σ φ t) none
unfolding acts
acts-one σ φ t = refl

pub acts_none : (σ : ℕ → Tm) (φ : ℕ → Ty → Tm) → acts σ φ none ≡ none
unfolding acts
acts_none σ φ = refl

-- a list of results keeps pace with the list that it follows
pub acts_push : (σ : ℕ → Tm) (φ : ℕ → Ty → Tm) (xs ys : List Term) (i : ℕ) (out : List Term) (r t : Term)
    → tms out ≡ acts σ φ (tms (take i xs)) → ys ≡ out ++ r ∷ [] → tm r ≡ act σ φ (tm t) → i < length xs → t ≡ get_or xs i t
    → tms ys ≡ acts σ φ (tms (take (i + 1) xs))
acts_push σ φ xs ys i out r t same pushed equal within e =
    ap tms pushed ∙ tms_append out (r ∷ []) ∙ ap (λ us. join us (more (tm r) none)) same
    ∙ ap (λ u. join (acts σ φ (tms (take i xs))) (more u none)) equal
    ∙ ap (join (acts σ φ (tms (take i xs)))) (sym (acts-one σ φ (tm t)))
    ∙ sym (acts-join σ φ (tms (take i xs)) (more (tm t) none))
    ∙ ap (acts σ φ) (sym (tms_take_next xs i t within e))
