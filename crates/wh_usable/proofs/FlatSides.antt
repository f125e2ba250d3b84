-- Meta-variables in flat trees.
use Rattle.std.proofs.Common.{◌≡◌, ℕ, List, [], ◌∷◌, length, refl, arith}
use Rattle.wh_terms.specs.Erase.{tms}
use Rattle.wh_terms.specs.Tree.{meta}
use Rattle.wh_terms.specs.Typing.{Symbols, Declared}
use Rattle.wh_terms.specs.declared.term.Term.{Term}
use Rattle.wh_usable_first_order.specs.FirstOrder.{IsFlatTree, IsNullary}

pub flat_if : (S : Symbols) (M : List Declared) (z : ℕ) (ts : List Term) → length ts ≡ 0 → IsNullary M z → IsFlatTree S M (meta z (tms ts))
flat_if S M z [] none h = h
flat_if S M z (t ∷ ts) none h = absurd (omega (arith, none))

pub flat_then : (S : Symbols) (M : List Declared) (z : ℕ) (ts : List Term) → IsFlatTree S M (meta z (tms ts)) → (length ts ≡ 0) × IsNullary M z
flat_then S M z [] h = (refl, h)
flat_then S M z (t ∷ ts) h = absurd h
