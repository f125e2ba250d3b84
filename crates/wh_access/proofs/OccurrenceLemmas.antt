-- A meta-variable in a list of trees.
use Rattle.std.proofs.Common.{◌≡◌, ℕ, ◌+◌, ◌<◌, ◌⊎◌, inl, inr, zero, suc, List, [], ◌∷◌, length, take, get_or, subst, arith}
use Rattle.wh_terms.specs.Tree.{Tms, none, more}
use Rattle.wh_terms.specs.Erase.{tm, tms}
use Rattle.wh_terms.specs.Sight.{Occurs, OccursIn}
use Rattle.wh_terms.specs.declared.term.Term.{Term}
use Rattle.wh_terms.proofs.TermLemmas.{join, tms_take_next}

occurs-join : (z : ℕ) (ts us : Tms) → OccursIn z (join ts us) → OccursIn z ts ⊎ OccursIn z us
occurs-join z none us o = inr o
occurs-join z (more t ts) us (inl o) = inl (inl o)
occurs-join z (more t ts) us (inr o) = elim (occurs-join z ts us o) [ inl p ↦ inl (inr p) | inr p ↦ inr p ]

pub occurs_next : (z : ℕ) (xs : List Term) (i : ℕ) (t : Term) → i < length xs → t ≡ get_or xs i t → (OccursIn z (tms (take i xs)) → ⊥) → (Occurs z (tm t) → ⊥)
    → OccursIn z (tms (take (i + 1) xs)) → ⊥
occurs_next z xs i t within e before here o =
    elim (occurs-join z (tms (take i xs)) (more (tm t) none) (subst (OccursIn z) (tms_take_next xs i t within e) o)) [
      | inl p ↦ before p
      | inr (inl p) ↦ here p
      | inr (inr p) ↦ p
    ]

pub occurs_at : (z : ℕ) (xs : List Term) (i : ℕ) (t : Term) → i < length xs → t ≡ get_or xs i t → Occurs z (tm t) → OccursIn z (tms xs)
occurs_at z [] i t within e o = absurd (omega arith)
occurs_at z (x ∷ xs) zero t within e o = inl (subst (λ u. Occurs z (tm u)) e o)
occurs_at z (x ∷ xs) (suc i) t within e o = inr (occurs_at z xs i t (omega arith) e o)
