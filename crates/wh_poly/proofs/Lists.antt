-- What a value stands for, by its list of items.
use Rattle.std.proofs.Common.{◌≡◌, ◌≤◌, List, [], ◌∷◌, length, arith, refl, ap, ap₂, sym, ◌∙◌}
use Rattle.wh_poly.specs.Polynomials.{plus, no_factors, times, no_arguments, argument, compare_polynomials, compare_factors, compare_arguments}
use Rattle.wh_poly.specs.declared.polynomial.Poly.{Poly, is-Poly', out-Poly, Row_of-Monomial, end_of-Monomial, more_of-Monomial, items-the_row-Monomial, items_hidden-the_row-Monomial-1}
use Rattle.wh_poly.specs.declared.polynomial.Monomial.{Monomial, Monomial', out-Monomial}
use Rattle.wh_poly.specs.declared.polynomial.Atoms.{Atoms, is-Atoms', out-Atoms, Row_of-Atom, end_of-Atom, more_of-Atom, items-the_row-Atom, items_hidden-the_row-Atom-0}
use Rattle.wh_poly.specs.declared.polynomial.Atom.{Atom, Atom', out-Atom}
use Rattle.wh_poly.specs.declared.polynomial.Polys.{Polys, is-Polys', out-Polys, Row_of-Poly, end_of-Poly, more_of-Poly, items-the_row-Poly, items_hidden-the_row-Poly-2}
use Rattle.wh_poly.specs.declared.polynomial.Atom.TheBlock.{hidden-the_row-Monomial-1, hidden-the_row-Atom-0, hidden-the_row-Poly-2}
use Rattle.wh_poly.specs.Erase.{poly, sum_row, atoms, product_row, polys, arguments_row, monomials, factors, list, sum_of, product_of, arguments_of}

sum_items : (n : _) (ms : Row_of-Monomial n) → sum_row ms ≡ sum_of (items-the_row-Monomial n ms)
unfolding out-Monomial denote.Hole.Carrier.out
sum_items n end_of-Monomial = refl
sum_items n (more_of-Monomial (Monomial' c us) ms) = ap (plus c (atoms us)) (sum_items _ ms)

product_items : (n : _) (us : Row_of-Atom n) → product_row us ≡ product_of (items-the_row-Atom n us)
unfolding out-Atom denote.Hole.Carrier.out
product_items n end_of-Atom = refl
product_items n (more_of-Atom (Atom' x ps) us) = ap (times x (polys ps)) (product_items _ us)

arguments_items : (n : _) (ps : Row_of-Poly n) → arguments_row ps ≡ arguments_of (items-the_row-Poly n ps)
arguments_items n end_of-Poly = refl
arguments_items n (more_of-Poly p ps) = ap (argument (poly p)) (arguments_items _ ps)

pub poly_is : (p : Poly) → poly p ≡ sum_of (monomials p)
poly_is p = ap poly (is-Poly' p) ∙ sum_items _ (hidden-the_row-Monomial-1 (out-Poly p).items) ∙ ap sum_of (items_hidden-the_row-Monomial-1 (out-Poly p).items)

pub atoms_is : (us : Atoms) → atoms us ≡ product_of (factors us)
atoms_is us = ap atoms (is-Atoms' us) ∙ product_items _ (hidden-the_row-Atom-0 (out-Atoms us).items) ∙ ap product_of (items_hidden-the_row-Atom-0 (out-Atoms us).items)

pub polys_is : (ps : Polys) → polys ps ≡ arguments_of (list ps)
polys_is ps = ap polys (is-Polys' ps) ∙ arguments_items _ (hidden-the_row-Poly-2 (out-Polys ps).items) ∙ ap arguments_of (items_hidden-the_row-Poly-2 (out-Polys ps).items)

-- two polynomials compare as the lists of their monomials do
pub polys_by_lists : (p q : Poly) (xs ys : List Monomial) → xs ≡ monomials p → ys ≡ monomials q → compare_polynomials (poly p) (poly q) ≡ compare_polynomials (sum_of xs) (sum_of ys)
polys_by_lists p q xs ys e k = ap₂ compare_polynomials (poly_is p ∙ ap sum_of (sym e)) (poly_is q ∙ ap sum_of (sym k))

pub atoms_by_lists : (us vs : Atoms) (xs ys : List Atom) → xs ≡ factors us → ys ≡ factors vs → compare_factors (atoms us) (atoms vs) ≡ compare_factors (product_of xs) (product_of ys)
atoms_by_lists us vs xs ys e k = ap₂ compare_factors (atoms_is us ∙ ap product_of (sym e)) (atoms_is vs ∙ ap product_of (sym k))

pub arguments_by_lists : (ps qs : Polys) (xs ys : List Poly) → xs ≡ list ps → ys ≡ list qs → compare_arguments (polys ps) (polys qs) ≡ compare_arguments (arguments_of xs) (arguments_of ys)
arguments_by_lists ps qs xs ys e k = ap₂ compare_arguments (polys_is ps ∙ ap arguments_of (sym e)) (polys_is qs ∙ ap arguments_of (sym k))

-- a list of arguments that is empty
pub no_arguments_left : (ps : Polys) (xs : List Poly) → xs ≡ list ps → length xs ≤ 0 → polys ps ≡ no_arguments
no_arguments_left ps [] e l = polys_is ps ∙ ap arguments_of (sym e)
no_arguments_left ps (x ∷ xs) e l = absurd (omega (arith, l))

-- and a list of factors
pub no_factors_left : (us : Atoms) (xs : List Atom) → xs ≡ factors us → length xs ≤ 0 → atoms us ≡ no_factors
no_factors_left us [] e l = atoms_is us ∙ ap product_of (sym e)
no_factors_left us (x ∷ xs) e l = absurd (omega (arith, l))
