-- Lists of flat trees, element by element.
use Rattle.std.proofs.Common.{zero, suc, List, [], ◌∷◌, map, Contains, refl, subst, arith}
use Rattle.wh_terms.specs.Erase.{tm}
use Rattle.wh_terms.specs.Typing.{Symbols, Declared}
use Rattle.wh_terms.specs.declared.term.Term.{Term}
use Rattle.wh_usable_first_order.specs.FirstOrder.{IsFlatTree, AreFlatTrees}

module _ (S : Symbols) (M : List Declared) where
  abbrev IsFlat : Term → Type 0
  IsFlat t = IsFlatTree S M (tm t)

  pub all_flat : (ts : List Term) → ((t : Term) → Contains ts t → IsFlatTree S M (tm t)) → AreFlatTrees S M (map tm ts)
  all_flat [] each = tt
  all_flat (t ∷ ts) each = (each t (0, omega arith, refl), all_flat ts (λ u (i, within, at). each u (suc i, omega (arith, within), at)))

  pub flat_each : (ts : List Term) → AreFlatTrees S M (map tm ts) → (t : Term) → Contains ts t → IsFlatTree S M (tm t)
  flat_each [] flat t (i, within, at) = absurd (omega (arith, within))
  flat_each (u ∷ ts) flat t (zero, within, at) = subst IsFlat at flat.0
  flat_each (u ∷ ts) flat t (suc i, within, at) = flat_each ts flat.1 t (i, omega (arith, within), at)
