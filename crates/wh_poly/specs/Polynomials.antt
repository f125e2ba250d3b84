-- Higher-order polynomials as mathematics has them, with no pointers and no limit on numbers (Fuhs and Kop 2012).
use Rattle.std.specs.Prelude.{ℕ, zero, suc, ◌≤◌, List, [], ◌∷◌, ◌++◌, ◌≡◌}
use Rattle.std.specs.declared.cmp.Ordering.{Ordering}
use Rattle.std.specs.declared.cmp.Ordering.TheVariants.{Less, Equal, Greater}
use Rattle.std.specs.Ordering.{nat_cmp, ordering_then}
use Rattle.wh_types.specs.Ty.{Ty, sort, ◌⇒◌, arguments}

mutual
  -- a polynomial is a sum of monomials, each a coefficient times factors (Fuhs and Kop 2012)
  pub data Polynomial : Type 0 where
    zero_poly : Polynomial
    plus : (c : ℕ) (us : Factors) (rest : Polynomial) → Polynomial

  -- each factor is a variable, told by its number, with arguments (Fuhs and Kop 2012)
  pub data Factors : Type 0 where
    no_factors : Factors
    times : (x : ℕ) (ps : Arguments) (rest : Factors) → Factors

  -- the arguments of a variable: each is a polynomial, in a scope with variables of its own (Fuhs and Kop 2012)
  pub data Arguments : Type 0 where
    no_arguments : Arguments
    argument : (p : Polynomial) (rest : Arguments) → Arguments

-- a scope lists the types of its variables, variable 0 first; in it, x has type A (ours)
abbrev pub HasType : List Ty → ℕ → Ty → Type 0
HasType [] x A = ⊥
HasType (B ∷ Γ) zero A = B ≡ A
HasType (B ∷ Γ) (suc x) A = HasType Γ x A

abbrev mutual
  -- polynomials are ordered by their monomials, a monomial by its factors, then by its coefficient; a proper prefix is
  -- less (ours)
  pub compare_polynomials : Polynomial → Polynomial → Ordering
  compare_polynomials zero_poly zero_poly = Equal
  compare_polynomials zero_poly (plus d vs q) = Less
  compare_polynomials (plus c us p) zero_poly = Greater
  compare_polynomials (plus c us p) (plus d vs q) =
      ordering_then (compare_factors us vs) (ordering_then (nat_cmp c d) (compare_polynomials p q))

  -- lists of factors are ordered by their factors, one by its variable's number, then by its arguments (ours)
  pub compare_factors : Factors → Factors → Ordering
  compare_factors no_factors no_factors = Equal
  compare_factors no_factors (times y qs vs) = Less
  compare_factors (times x ps us) no_factors = Greater
  compare_factors (times x ps us) (times y qs vs) =
      ordering_then (ordering_then (nat_cmp x y) (compare_arguments ps qs)) (compare_factors us vs)

  -- the order of two lists of arguments, which are compared from left to right (ours)
  pub compare_arguments : Arguments → Arguments → Ordering
  compare_arguments no_arguments no_arguments = Equal
  compare_arguments no_arguments (argument q qs) = Less
  compare_arguments (argument p ps) no_arguments = Greater
  compare_arguments (argument p ps) (argument q qs) = ordering_then (compare_polynomials p q) (compare_arguments ps qs)

-- the order of two factors alone (ours)
abbrev pub compare_factor : ℕ → Arguments → ℕ → Arguments → Ordering
compare_factor x ps y qs = ordering_then (nat_cmp x y) (compare_arguments ps qs)

-- the factor does not stand after the first one of the list (ours)
abbrev pub FactorBefore : ℕ → Arguments → Factors → Type 0
FactorBefore x ps no_factors = Unit {0}
FactorBefore x ps (times y qs vs) = compare_factor x ps y qs ≡ Greater → ⊥

-- the list of factors stands strictly before that of the first monomial (ours)
abbrev pub MonomialBefore : Factors → Polynomial → Type 0
MonomialBefore us zero_poly = Unit {0}
MonomialBefore us (plus d vs q) = compare_factors us vs ≡ Less

-- the lists of factors strictly increase (ours)
abbrev pub Sorted : Polynomial → Type 0
Sorted zero_poly = Unit {0}
Sorted (plus c us p) = MonomialBefore us p × Sorted p

abbrev mutual
  -- a polynomial is normal in a scope if each coefficient is at least 1, the lists of factors strictly increase, and
  -- each is normal (ours)
  pub Normal : List Ty → Polynomial → Type 0
  Normal Γ zero_poly = Unit {0}
  Normal Γ (plus c us p) = 1 ≤ c × NormalFactors Γ us × MonomialBefore us p × Normal Γ p

  -- a list of factors is normal if it is in order, and each variable is in the scope and has normal arguments for its
  -- type (ours)
  pub NormalFactors : List Ty → Factors → Type 0
  NormalFactors Γ no_factors = Unit {0}
  NormalFactors Γ (times x ps us) = (A : Ty) × HasType Γ x A × NormalArguments Γ A ps × FactorBefore x ps us × NormalFactors Γ us

  -- the argument for a type is normal in the scope that goes on with the arguments of that type (Fuhs and Kop 2012)
  pub NormalArguments : List Ty → Ty → Arguments → Type 0
  NormalArguments Γ (sort s) no_arguments = Unit {0}
  NormalArguments Γ (sort s) (argument p ps) = ⊥
  NormalArguments Γ (A ⇒ B) no_arguments = ⊥
  NormalArguments Γ (A ⇒ B) (argument p ps) = Normal (Γ ++ arguments A) p × NormalArguments Γ B ps

-- the factors are in order (ours)
abbrev pub OrderedFactors : Factors → Type 0
OrderedFactors no_factors = Unit {0}
OrderedFactors (times x ps us) = FactorBefore x ps us × OrderedFactors us

-- a polynomial is in order: what `Normal` says of it, but for its scope and its arguments (ours)
abbrev pub Ordered : Polynomial → Type 0
Ordered zero_poly = Unit {0}
Ordered (plus c us p) = 1 ≤ c × OrderedFactors us × MonomialBefore us p × Ordered p

-- the variable is in the scope, and the arguments are normal for its type (ours)
abbrev pub HasNormalArguments : List Ty → ℕ → Arguments → Type 0
HasNormalArguments Γ x ps = (A : Ty) × HasType Γ x A × NormalArguments Γ A ps
