-- How many entries the lists inside polynomials have (ours).
use Rattle.std.specs.Prelude.{ℕ, suc, ◌≤◌, All}
use Rattle.wh_poly.specs.Polynomials.{Polynomial, zero_poly, plus, Factors, no_factors, times, Arguments, no_arguments, argument}
use Rattle.wh_cert.specs.Interps.{Interp}
use Rattle.wh_cert.specs.Written.{Node, interpretations, Cert, yes, no}

-- how many monomials a polynomial has, how many atoms a monomial, how many arguments an atom
abbrev pub monomial_count : Polynomial → ℕ
monomial_count zero_poly = 0
monomial_count (plus c us p) = suc (monomial_count p)

abbrev pub atom_count : Factors → ℕ
atom_count no_factors = 0
atom_count (times x ps us) = suc (atom_count us)

abbrev pub argument_count : Arguments → ℕ
argument_count no_arguments = 0
argument_count (argument p ps) = suc (argument_count ps)

-- each monomial has at most n atoms, each atom at most n arguments, and each argument, and each in it, at most n
-- monomials
abbrev mutual
  pub MonomialsWithin : ℕ → Polynomial → Type 0
  MonomialsWithin n zero_poly = Unit {0}
  MonomialsWithin n (plus c us p) = (atom_count us ≤ n) × AtomsWithin n us × MonomialsWithin n p

  pub AtomsWithin : ℕ → Factors → Type 0
  AtomsWithin n no_factors = Unit {0}
  AtomsWithin n (times x ps us) = (argument_count ps ≤ n) × ArgumentsWithin n ps × AtomsWithin n us

  pub ArgumentsWithin : ℕ → Arguments → Type 0
  ArgumentsWithin n no_arguments = Unit {0}
  ArgumentsWithin n (argument p ps) = (monomial_count p ≤ n) × MonomialsWithin n p × ArgumentsWithin n ps

-- each list in the polynomial has at most n entries
abbrev pub PolyWithin : ℕ → Polynomial → Type 0
PolyWithin n p = (monomial_count p ≤ n) × MonomialsWithin n p

-- each list in each polynomial of a node has at most n entries
abbrev pub PolysWithin : ℕ → Node → Type 0
PolysWithin n (interpretations usable funs marks rules pairs drop) =
    All (λ (i : Interp). PolyWithin n i.poly) funs × All (λ (i : Interp). PolyWithin n i.poly) marks
PolysWithin n _ = Unit {0}

-- each list in each polynomial of a certificate has at most n entries
abbrev pub AllPolysWithin : ℕ → Cert → Type 0
AllPolysWithin n (yes version ranks pairs nodes) = All (PolysWithin n) nodes
AllPolysWithin n (no t steps at puts) = Unit {0}
