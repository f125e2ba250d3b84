-- What stands for a bound variable that is freed.
use Rattle.std.proofs.Common.{◌≡◌, ℕ, zero, suc, ◌+◌, ◌-◌, ◌≤◌, List, [], ◌∷◌, length, refl, ap, ◌∙◌, arith}
use Rattle.std.specs.Borrow.{Bor}
use Rattle.std.proofs.lemmas.List.{length-reverse, length-map}
use Rattle.wh_types.specs.Erase.{ty}
use Rattle.wh_types.specs.Ty.{Ty}
use Rattle.wh_types.specs.declared.simple_type.SimpleType.{SimpleType}
use Rattle.wh_terms.specs.Tree.{bound, meta, none}
use Rattle.wh_terms.specs.Scope.{scope}
use Rattle.wh_terms.specs.Substitution.{cons, rename, renames}
use Rattle.wh_terms.specs.Under.{ups, raised}
use Rattle.wh_terms.proofs.UnderLemmas.{ups_high, raised_bound}
use Rattle.wh_pairs.specs.Candidates.{freed}

pub length-scope : (bs : List (Bor SimpleType)) → length (scope bs) ≡ length bs
length-scope bs = length-reverse _ ∙ length-map bs (λ kind. ty kind.now)

-- beyond the binders the others come nearer
pub freed-far : (x : ℕ) (Γ : List Ty) (i j : ℕ) → i ≡ j + length Γ → freed x Γ i ≡ bound j
unfolding freed cons
freed-far x [] i j is = ap bound (omega arith)
freed-far x (a ∷ Γ) zero j is = absurd (omega arith)
freed-far x (a ∷ Γ) (suc i) j is = freed-far x Γ i j (omega arith)

-- the variable of the i-th binder from the inside, which is the j-th from the outside
pub freed-near : (x : ℕ) (Γ : List Ty) (i j : ℕ) → i + j + 1 ≡ length Γ → freed x Γ i ≡ meta (x + j) none
unfolding freed cons
freed-near x [] i j sum = absurd (omega arith)
freed-near x (a ∷ Γ) zero j sum = ap (λ n. meta (x + n) none) (omega arith)
freed-near x (a ∷ Γ) (suc i) j sum = freed-near x Γ i j (omega arith)

raised_nullary : (k z : ℕ) → raised k (meta z none) ≡ meta z none
unfolding raised rename renames
raised_nullary k z = refl

pub freed_here : (x k i j : ℕ) (bs : List (Bor SimpleType)) → k ≤ i → (i - k) + j + 1 ≡ length bs → ups k (freed x (scope bs)) i ≡ meta (x + j) none
freed_here x k i j bs high sum =
    ups_high k (freed x (scope bs)) i (i - k) (omega arith)
    ∙ ap (raised k) (freed-near x (scope bs) (i - k) j (omega (arith, length-scope bs)))
    ∙ raised_nullary k (x + j)

pub freed_beyond : (x k i : ℕ) (bs : List (Bor SimpleType)) → k + length bs ≤ i → ups k (freed x (scope bs)) i ≡ bound (i - length bs)
freed_beyond x k i bs high =
    ups_high k (freed x (scope bs)) i (i - k) (omega arith)
    ∙ ap (raised k) (freed-far x (scope bs) (i - k) (i - k - length bs) (omega (arith, length-scope bs)))
    ∙ raised_bound k (i - k - length bs) ∙ ap bound (omega arith)
