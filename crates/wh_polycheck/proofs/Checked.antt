-- What the tests together say of the polynomials themselves.
use Rattle.std.proofs.Common.{◌≡◌, List, IsTrue, false, ap, sym, subst, ◌∙◌}
use mathlib.Core.Path.{subst₂}
use Rattle.wh_poly.specs.Polynomials.{Polynomial}
use Rattle.wh_hopoly.specs.Moves.{Transfer, IsCover, IsStrictCover}
use Rattle.wh_poly.specs.declared.polynomial.Poly.{Poly}
use Rattle.wh_poly.specs.declared.polynomial.Monomial.{Monomial}
use Rattle.wh_poly.specs.Erase.{poly, monomials, sum_of}
use Rattle.wh_poly.proofs.Lists.{poly_is}
use Rattle.wh_polycheck.specs.CoverFaults.{LeavesConstant, IsFirstCoverFault, IsFirstStrictCoverFault}
use Rattle.wh_polycheck.specs.declared.fault.CoverFault.{CoverFault}
use Rattle.wh_polycheck.specs.declared.fault.CoverFault.TheVariants.{BadMove, OverSpent, NotCovered, NotStrict}

pub by_list : (P : Polynomial → Type 0) (p : Poly) (xs : List Monomial) → xs ≡ monomials p → P (sum_of xs) → P (poly p)
by_list P p xs e = subst P (sym (poly_is p ∙ ap sum_of (sym e)))

pub to_list : (P : Polynomial → Type 0) (p : Poly) (xs : List Monomial) → xs ≡ monomials p → P (poly p) → P (sum_of xs)
to_list P p xs e = subst P (poly_is p ∙ ap sum_of (sym e))

pub by_lists : (P : Polynomial → Polynomial → Type 0) (p q : Poly) (xs ys : List Monomial) → xs ≡ monomials p → ys ≡ monomials q
    → P (sum_of xs) (sum_of ys) → P (poly p) (poly q)
by_lists P p q xs ys e k = subst₂ P (sym (poly_is p ∙ ap sum_of (sym e))) (sym (poly_is q ∙ ap sum_of (sym k)))

-- a fault of a cover is one of a strict cover
pub fault_is_strict : (left right : Polynomial) (ms : List Transfer) (fault : CoverFault) → IsFirstCoverFault left right ms fault
    → IsFirstStrictCoverFault left right ms fault
fault_is_strict left right ms (BadMove e) f = f
fault_is_strict left right ms (OverSpent i) f = f
fault_is_strict left right ms (NotCovered j) f = f
fault_is_strict left right ms NotStrict f = absurd f

pub strict_cover : (left right : Polynomial) (ms : List Transfer) → IsCover left right ms → LeavesConstant left ms → IsStrictCover left right ms
strict_cover left right ms c (d, m, less) = record { cover = c; constant = d; first = m; left_over = less }

pub not_true : IsTrue false → ⊥
not_true wrong = cc
