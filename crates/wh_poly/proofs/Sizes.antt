-- The measure of a walk over polynomials: a part is smaller than the whole.
use Rattle.std.proofs.Common.{◌≡◌, ℕ, zero, suc, ◌+◌, ◌<◌, List, [], ◌∷◌, length, get_or, ap, sym, subst, ◌∙◌, arith}
use Rattle.wh_poly.specs.Polynomials.{Polynomial, zero_poly, plus, Factors, no_factors, times, Arguments, no_arguments, argument}
use Rattle.wh_poly.specs.declared.polynomial.Poly.{Poly}
use Rattle.wh_poly.specs.declared.polynomial.Monomial.{Monomial, out-Monomial}
use Rattle.wh_poly.specs.declared.polynomial.Atoms.{Atoms}
use Rattle.wh_poly.specs.declared.polynomial.Atom.{Atom, out-Atom}
use Rattle.wh_poly.specs.declared.polynomial.Polys.{Polys}
use Rattle.wh_poly.specs.Erase.{poly, atoms, polys, monomials, factors, list, sum_of, product_of, arguments_of}
use Rattle.wh_poly.proofs.Lists.{poly_is, atoms_is, polys_is}

abbrev mutual
  pub size : Polynomial → ℕ
  size zero_poly = 0
  size (plus c us p) = 1 + size_of_factors us + size p

  pub size_of_factors : Factors → ℕ
  size_of_factors no_factors = 0
  size_of_factors (times x ps us) = 1 + size_of_arguments ps + size_of_factors us

  pub size_of_arguments : Arguments → ℕ
  size_of_arguments no_arguments = 0
  size_of_arguments (argument p ps) = 1 + size p + size_of_arguments ps

size_in_sum : (xs : List Monomial) (i : ℕ) (m : Monomial) → i < length xs → m ≡ get_or xs i m → size_of_factors (atoms (out-Monomial m).atoms) < size (sum_of xs)
size_in_sum [] i m h e = absurd (omega (arith, h))
size_in_sum (x ∷ xs) zero m h e = let k = ap (λ m. size_of_factors (atoms (out-Monomial m).atoms)) e in omega (arith, k)
size_in_sum (x ∷ xs) (suc i) m h e = let k = size_in_sum xs i m (omega (arith, h)) e in omega (arith, k)

size_in_product : (xs : List Atom) (i : ℕ) (u : Atom) → i < length xs → u ≡ get_or xs i u → size_of_arguments (polys (out-Atom u).args) < size_of_factors (product_of xs)
size_in_product [] i u h e = absurd (omega (arith, h))
size_in_product (x ∷ xs) zero u h e = let k = ap (λ u. size_of_arguments (polys (out-Atom u).args)) e in omega (arith, k)
size_in_product (x ∷ xs) (suc i) u h e = let k = size_in_product xs i u (omega (arith, h)) e in omega (arith, k)

size_in_arguments : (xs : List Poly) (i : ℕ) (p : Poly) → i < length xs → p ≡ get_or xs i p → size (poly p) < size_of_arguments (arguments_of xs)
size_in_arguments [] i p h e = absurd (omega (arith, h))
size_in_arguments (x ∷ xs) zero p h e = let k = ap (λ p. size (poly p)) e in omega (arith, k)
size_in_arguments (x ∷ xs) (suc i) p h e = let k = size_in_arguments xs i p (omega (arith, h)) e in omega (arith, k)

-- the factors of a monomial are smaller than the polynomial, where the list is that of its monomials
pub smaller_factors : (p : Poly) (xs : List Monomial) (i : ℕ) (m : Monomial) → xs ≡ monomials p → i < length xs → m ≡ get_or xs i m
    → size_of_factors (atoms (out-Monomial m).atoms) < size (poly p)
smaller_factors p xs i m l h e = subst (λ q. size_of_factors (atoms (out-Monomial m).atoms) < size q) (ap sum_of l ∙ sym (poly_is p)) (size_in_sum xs i m h e)

pub smaller_arguments : (us : Atoms) (xs : List Atom) (i : ℕ) (u : Atom) → xs ≡ factors us → i < length xs → u ≡ get_or xs i u
    → size_of_arguments (polys (out-Atom u).args) < size_of_factors (atoms us)
smaller_arguments us xs i u l h e = subst (λ q. size_of_arguments (polys (out-Atom u).args) < size_of_factors q) (ap product_of l ∙ sym (atoms_is us)) (size_in_product xs i u h e)

pub smaller_poly : (ps : Polys) (xs : List Poly) (i : ℕ) (p : Poly) → xs ≡ list ps → i < length xs → p ≡ get_or xs i p → size (poly p) < size_of_arguments (polys ps)
smaller_poly ps xs i p l h e = subst (λ q. size (poly p) < size_of_arguments q) (ap arguments_of l ∙ sym (polys_is ps)) (size_in_arguments xs i p h e)
