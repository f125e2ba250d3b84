-- The meta-variables that occur in a list of terms.
use Rattle.std.proofs.Common.{◌≡◌, ℕ, zero, suc, ◌+◌, ◌<◌, List, [], ◌∷◌, length, map, take, get_or, ◌⊎◌, inl, inr, refl, ap, subst, arith}
use Rattle.wh_terms.specs.Tree.{Tms, meta, none, more, tms_of}
use Rattle.wh_terms.specs.Erase.{tm, tms}
use Rattle.wh_terms.specs.Sight.{Occurs, OccursIn}
use Rattle.wh_terms.specs.declared.term.Term.{Term}
use Rattle.wh_terms.proofs.TermLemmas.{join, tms_take_next}

pub tms_of_map : (xs : List Term) → tms_of (map tm xs) ≡ tms xs
tms_of_map [] = refl
tms_of_map (x ∷ xs) = ap (more (tm x)) (tms_of_map xs)

pub occurs_in_item : (z : ℕ) (xs : List Term) (i : ℕ) (x : Term) → i < length xs → x ≡ get_or xs i x → Occurs z (tm x) → OccursIn z (tms xs)
occurs_in_item z [] i x inside is o = absurd (omega arith)
occurs_in_item z (y ∷ xs) zero x inside is o = inl (subst (λ u. Occurs z (tm u)) is o)
occurs_in_item z (y ∷ xs) (suc i) x inside is o = inr (occurs_in_item z xs i x (omega arith) is o)

occurs-join : (z : ℕ) (ts us : Tms) → OccursIn z (join ts us) → OccursIn z ts ⊎ OccursIn z us
occurs-join z none us o = inr o
occurs-join z (more t ts) us (inl o) = inl (inl o)
occurs-join z (more t ts) us (inr o) = go (occurs-join z ts us o)
  where
    go : OccursIn z ts ⊎ OccursIn z us → (Occurs z t ⊎ OccursIn z ts) ⊎ OccursIn z us
    go (inl o) = inl (inr o)
    go (inr o) = inr o

-- what holds of each meta-variable in the front part and in the next term
pub alike_next : (P : ℕ → Type 0) (xs : List Term) (i : ℕ) (x : Term) → i < length xs → x ≡ get_or xs i x → ((z : ℕ) → OccursIn z (tms (take i xs)) → P z)
    → ((z : ℕ) → Occurs z (tm x) → P z) → (z : ℕ) → OccursIn z (tms (take (i + 1) xs)) → P z
alike_next P xs i x inside is so_far here z o =
    go (occurs-join z (tms (take i xs)) (more (tm x) none) (subst (OccursIn z) (tms_take_next xs i x inside is) o))
  where
    go : OccursIn z (tms (take i xs)) ⊎ OccursIn z (more (tm x) none) → P z
    go (inl o) = so_far z o
    go (inr (inl o)) = here z o
    go (inr (inr o)) = absurd o

-- what holds of a meta-variable and of those in its arguments
pub both : (P : ℕ → Type 0) (ts : Tms) (y : ℕ) → P y → ((z : ℕ) → OccursIn z ts → P z) → (z : ℕ) → Occurs z (meta y ts) → P z
both P ts y here all z (inl e) = subst P e here
both P ts y here all z (inr o) = all z o
