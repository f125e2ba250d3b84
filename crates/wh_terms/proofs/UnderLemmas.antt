-- What a substitution puts for a variable below k binders.
use Rattle.std.proofs.Common.{◌≡◌, ℕ, zero, suc, ◌+◌, ◌-◌, ◌<◌, ◌≤◌, refl, ap, sym, ◌∙◌, arith, add-zero, add-suc}
use Rattle.wh_types.specs.Ty.{Ty}
use Rattle.wh_terms.specs.Tree.{Tm, bound, free}
use Rattle.wh_terms.specs.Substitution.{rename, up, up_free, act, cons, opened}
use Rattle.wh_terms.specs.Sight.{LooseBelow}
use Rattle.wh_terms.specs.Under.{ups, ups_free, raised, moved}
use Rattle.wh_terms.proofs.RenamingLaws.{rename_same, rename-rename, rename-id}
use Rattle.wh_terms.proofs.ActLaws.{rename-is-act}
use Rattle.wh_terms.proofs.SightLaws.{rename_shut}

pub raised_zero : (t : Tm) → raised 0 t ≡ t
unfolding raised
raised_zero t = rename_same (λ i. add-zero i) t ∙ rename-id t

pub raised_shut : (k : ℕ) (t : Tm) → LooseBelow 0 t → raised k t ≡ t
unfolding raised
raised_shut k t shut = rename_shut (λ i. i + k) t shut

pub raised_bound : (k i : ℕ) → raised k (bound i) ≡ bound (i + k)
unfolding raised rename
raised_bound k i = refl

pub raised_free : (k x : ℕ) (a : Ty) → raised k (free x a) ≡ free x a
unfolding raised rename
raised_free k x a = refl

pub raised_is_act : (k : ℕ) (t : Tm) → raised k t ≡ act (moved k) free t
unfolding raised moved
raised_is_act k t = rename-is-act (λ i. i + k) t

raised-suc : (k : ℕ) (t : Tm) → rename suc (raised k t) ≡ raised (suc k) t
unfolding raised
raised-suc k t = rename-rename (λ i. i + k) suc t ∙ rename_same (λ i. sym (add-suc i k)) t

-- a variable of the k binders stays
pub ups_low : (k : ℕ) (σ : ℕ → Tm) (i : ℕ) → i < k → ups k σ i ≡ bound i
unfolding ups up rename
ups_low zero σ i low = absurd (omega arith)
ups_low (suc k) σ zero low = refl
ups_low (suc k) σ (suc i) low = ap (rename suc) (ups_low k σ i (omega arith))

-- beyond them stands what σ puts, moved below them
pub ups_high : (k : ℕ) (σ : ℕ → Tm) (i j : ℕ) → i ≡ j + k → ups k σ i ≡ raised k (σ j)
unfolding ups up
ups_high zero σ i j is = ap σ (omega arith) ∙ sym (raised_zero (σ j))
ups_high (suc k) σ zero j is = absurd (omega arith)
ups_high (suc k) σ (suc i) j is = ap (rename suc) (ups_high k σ i j (omega arith)) ∙ raised-suc k (σ j)

pub ups_free_at : (k : ℕ) (φ : ℕ → Ty → Tm) (x : ℕ) (a : Ty) → ups_free k φ x a ≡ raised k (φ x a)
unfolding ups_free up_free
ups_free_at zero φ x a = sym (raised_zero (φ x a))
ups_free_at (suc k) φ x a = ap (rename suc) (ups_free_at k φ x a) ∙ raised-suc k (φ x a)

pub ups_free_stays : (k : ℕ) (x : ℕ) (a : Ty) → ups_free k free x a ≡ free x a
ups_free_stays k x a = ups_free_at k free x a ∙ raised_free k x a

-- the nearest loose variable, below k binders, stands for the tree that opens, moved below them
pub opened_here : (k : ℕ) (u : Tm) → ups k (cons u bound) k ≡ raised k u
unfolding cons
opened_here k u = ups_high k (cons u bound) k 0 (omega arith)

pub opened_beyond : (k : ℕ) (u : Tm) (i : ℕ) → k < i → ups k (cons u bound) i ≡ bound (i - 1)
unfolding cons
opened_beyond k u i high =
    ups_high k (cons u bound) i (suc (i - k - 1)) (omega arith) ∙ raised_bound k (i - k - 1) ∙ ap bound (omega arith)

-- a move by m
pub moved_beyond : (k m i : ℕ) → k ≤ i → ups k (moved m) i ≡ bound (i + m)
unfolding moved
moved_beyond k m i high = ups_high k (moved m) i (i - k) (omega arith) ∙ raised_bound k (i - k + m) ∙ ap bound (omega arith)

-- no move
pub unmoved : (k i : ℕ) → ups k bound i ≡ bound i
unfolding ups up rename
unmoved zero i = refl
unmoved (suc k) zero = refl
unmoved (suc k) (suc i) = ap (rename suc) (unmoved k i)

pub act_top : (σ : ℕ → Tm) (φ : ℕ → Ty → Tm) (t : Tm) → act (ups 0 σ) (ups_free 0 φ) t ≡ act σ φ t
unfolding ups ups_free
act_top σ φ t = refl

pub opened_top : (u t : Tm) → act (ups 0 (cons u bound)) (ups_free 0 free) t ≡ opened u t
unfolding ups ups_free opened
opened_top u t = refl
