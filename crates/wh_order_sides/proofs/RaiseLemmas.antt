-- Moving a term below one binder more: its cases, and the step of the loop over arguments.
use Rattle.std.proofs.Common.{◌≡◌, ℕ, zero, suc, ◌+◌, ◌<◌, ◌≤◌, List, [], ◌∷◌, ◌++◌, length, take, get_or, refl, ap, ap₂, sym, ◌∙◌, arith, add-one}
use Rattle.wh_types.specs.Ty.{Ty}
use Rattle.wh_terms.specs.Tree.{Tm, bound, free, fun, meta, lam, app, Tms, none, more}
use Rattle.wh_terms.specs.Erase.{tm, tms}
use Rattle.wh_terms.specs.Measures.{size, sizes}
use Rattle.wh_terms.specs.Substitution.{rename, renames, up_renaming}
use Rattle.wh_terms.specs.declared.term.Term.{Term, Meta}
use Rattle.wh_terms.proofs.TermLemmas.{join, tms_append, tms_take_next, tm_of_meta}
use Rattle.wh_order_sides.specs.Growth.{past}

pub past_none : (t : Tm) → rename (past 0) t ≡ rename suc t
unfolding past
past_none t = refl

pub past_low : (k i : ℕ) → i < k → past k i ≡ i
unfolding past up_renaming
past_low zero i low = absurd (omega arith)
past_low (suc k) zero low = refl
past_low (suc k) (suc i) low = ap suc (past_low k i (omega arith))

pub past_high : (k i : ℕ) → k ≤ i → past k i ≡ i + 1
unfolding past up_renaming
past_high zero i high = sym (add-one i)
past_high (suc k) zero high = absurd (omega arith)
past_high (suc k) (suc i) high = omega (arith, past_high k i (omega arith))

pub raised_bound : (k i j : ℕ) → j ≡ past k i → bound j ≡ rename (past k) (bound i)
unfolding rename
raised_bound k i j e = ap bound e

pub raised_free : (ρ : ℕ → ℕ) (x : ℕ) (a : Ty) → rename ρ (free x a) ≡ free x a
unfolding rename
raised_free ρ x a = refl

pub raised_fun : (ρ : ℕ → ℕ) (f : ℕ) → rename ρ (fun f) ≡ fun f
unfolding rename
raised_fun ρ f = refl

pub raised_app : (ρ : ℕ → ℕ) (t u : Tm) → rename ρ (app t u) ≡ app (rename ρ t) (rename ρ u)
unfolding rename
raised_app ρ t u = refl

pub raised_lam : (k : ℕ) (a : Ty) (t : Tm) → rename (past k) (lam a t) ≡ lam a (rename (past (k + 1)) t)
unfolding rename past
raised_lam k a t = rw add-one

pub raised_meta : (ρ : ℕ → ℕ) (t : Term) (z : ℕ) (ts : List Term) → t ≡ Meta z ts → rename ρ (tm t) ≡ meta z (renames ρ (tms ts))
unfolding rename renames
raised_meta ρ t z ts e = ap (rename ρ) (tm_of_meta t z ts e)

renames-join : (ρ : ℕ → ℕ) (ts us : Tms) → renames ρ (join ts us) ≡ join (renames ρ ts) (renames ρ us)
unfolding renames
renames-join ρ none us = refl
renames-join ρ (more t ts) us = ap (more (rename ρ t)) (renames-join ρ ts us)

renames-one : (ρ : ℕ → ℕ) (t : Tm) → renames ρ (more t none) ≡ more (rename ρ t) none
unfolding renames
renames-one ρ t = refl

pub renames_none : (ρ : ℕ → ℕ) → renames ρ none ≡ none
unfolding renames
renames_none ρ = refl

-- a list of results keeps pace with the list that it follows
pub renames_push : (ρ : ℕ → ℕ) (xs ys : List Term) (i : ℕ) (out : List Term) (r t : Term)
    → tms out ≡ renames ρ (tms (take i xs)) → ys ≡ out ++ r ∷ [] → tm r ≡ rename ρ (tm t) → i < length xs → t ≡ get_or xs i t
    → tms ys ≡ renames ρ (tms (take (i + 1) xs))
renames_push ρ xs ys i out r t same pushed equal within e =
    ap tms pushed ∙ tms_append out (r ∷ []) ∙ ap (λ us. join us (more (tm r) none)) same
    ∙ ap (λ u. join (renames ρ (tms (take i xs))) (more u none)) equal
    ∙ ap (join (renames ρ (tms (take i xs)))) (sym (renames-one ρ (tm t)))
    ∙ sym (renames-join ρ (tms (take i xs)) (more (tm t) none))
    ∙ ap (renames ρ) (sym (tms_take_next xs i t within e))

-- a moved tree is as large

mutual
  unfolding rename renames

  pub size-rename : (ρ : ℕ → ℕ) (t : Tm) → size (rename ρ t) ≡ size t
  size-rename ρ (bound i) = refl
  size-rename ρ (free x a) = refl
  size-rename ρ (fun f) = refl
  size-rename ρ (meta z ts) = ap (λ n. 1 + n) (sizes-rename ρ ts)
  size-rename ρ (lam a t) = ap (λ n. 1 + n) (size-rename (up_renaming ρ) t)
  size-rename ρ (app t u) = ap₂ (λ m n. 1 + m + n) (size-rename ρ t) (size-rename ρ u)

  sizes-rename : (ρ : ℕ → ℕ) (ts : Tms) → sizes (renames ρ ts) ≡ sizes ts
  sizes-rename ρ none = refl
  sizes-rename ρ (more t ts) = ap₂ (λ m n. m + n) (size-rename ρ t) (sizes-rename ρ ts)
