-- Substitution below binders: how the trees that are put for loose and free variables read below binders that were
-- passed.
use Rattle.std.specs.Prelude.{ℕ, zero, suc, ◌+◌, List, [], ◌∷◌, ◌==◌, ◌&&◌, if◌then◌else◌}
use Rattle.wh_types.specs.Ty.{Ty, same_ty}
use Rattle.wh_terms.specs.Tree.{Tm, bound, free}
use Rattle.wh_terms.specs.Substitution.{rename, up, up_free, cons}

-- new trees for the loose variables, taken under k binders (ours)
unfoldable pub ups : ℕ → (ℕ → Tm) → ℕ → Tm
ups zero σ = σ
ups (suc k) σ = up (ups k σ)

-- new trees for the free variables, taken under k binders (ours)
unfoldable pub ups_free : ℕ → (ℕ → Ty → Tm) → ℕ → Ty → Tm
ups_free zero φ = φ
ups_free (suc k) φ = up_free (ups_free k φ)

-- the tree moved below k binders: its loose variables count k more (ours)
unfoldable pub raised : ℕ → Tm → Tm
raised k t = rename (λ i. i + k) t

-- each loose variable counts m more
unfoldable pub moved : ℕ → ℕ → Tm
moved m i = bound (i + m)

-- the nearest loose variable for the free variable x of type a; the others stay
unfoldable pub closing : ℕ → Ty → ℕ → Ty → Tm
closing x a y b = if (y == x) && same_ty b a then bound 0 else free y b

-- free variables for the binders of the types `kinds`, the outermost first, numbered from x on; then σ (ours)
unfoldable pub passed : ℕ → List Ty → (ℕ → Tm) → ℕ → Tm
passed x [] σ = σ
passed x (a ∷ kinds) σ = passed (x + 1) kinds (cons (free x a) σ)
