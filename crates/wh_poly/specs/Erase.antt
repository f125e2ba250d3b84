-- What a value of the program stands for: the tree without its pointers.
use Rattle.std.specs.Prelude.{List, [], ◌∷◌}
use Rattle.wh_poly.specs.Polynomials.{Polynomial, zero_poly, plus, Factors, no_factors, times, Arguments, no_arguments, argument}
use Rattle.wh_poly.specs.declared.polynomial.Poly.{Poly, Poly', out-Poly, Row_of-Monomial, end_of-Monomial, more_of-Monomial}
use Rattle.wh_poly.specs.declared.polynomial.Monomial.{Monomial, Monomial', out-Monomial}
use Rattle.wh_poly.specs.declared.polynomial.Atoms.{Atoms, Atoms', out-Atoms, Row_of-Atom, end_of-Atom, more_of-Atom}
use Rattle.wh_poly.specs.declared.polynomial.Atom.{Atom, Atom', out-Atom}
use Rattle.wh_poly.specs.declared.polynomial.Polys.{Polys, Polys', out-Polys, Row_of-Poly, end_of-Poly, more_of-Poly}

abbrev mutual
  -- the polynomial that a `Poly` stands for, the factors of an `Atoms`, and the arguments of a `Polys`
  pub poly : Poly → Polynomial
  poly (Poly' shape ms) = sum_row ms

  pub sum_row : {n : _} → Row_of-Monomial n → Polynomial
  sum_row end_of-Monomial = zero_poly
  sum_row (more_of-Monomial (Monomial' c us) ms) = plus c (atoms us) (sum_row ms)

  pub atoms : Atoms → Factors
  atoms (Atoms' shape us) = product_row us

  pub product_row : {n : _} → Row_of-Atom n → Factors
  product_row end_of-Atom = no_factors
  product_row (more_of-Atom (Atom' x ps) us) = times x (polys ps) (product_row us)

  pub polys : Polys → Arguments
  polys (Polys' shape ps) = arguments_row ps

  pub arguments_row : {n : _} → Row_of-Poly n → Arguments
  arguments_row end_of-Poly = no_arguments
  arguments_row (more_of-Poly p ps) = argument (poly p) (arguments_row ps)

-- the lists that they hold
abbrev pub monomials : Poly → List Monomial
monomials p = (out-Poly p).items.items

abbrev pub factors : Atoms → List Atom
factors us = (out-Atoms us).items.items

abbrev pub list : Polys → List Poly
list ps = (out-Polys ps).items.items

-- what such lists stand for
abbrev pub sum_of : List Monomial → Polynomial
sum_of [] = zero_poly
sum_of (m ∷ ms) = plus (out-Monomial m).coefficient (atoms (out-Monomial m).atoms) (sum_of ms)

abbrev pub product_of : List Atom → Factors
product_of [] = no_factors
product_of (u ∷ us) = times (out-Atom u).head (polys (out-Atom u).args) (product_of us)

abbrev pub arguments_of : List Poly → Arguments
arguments_of [] = no_arguments
arguments_of (p ∷ ps) = argument (poly p) (arguments_of ps)
