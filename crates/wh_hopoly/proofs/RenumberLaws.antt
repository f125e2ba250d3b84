-- Renumbering item by item, and by functions that agree.
use Rattle.std.proofs.Common.{◌≡◌, ℕ, ◌+◌, ◌-◌, ◌<◌, List, ◌∷◌, [], ◌++◌, refl, ap, ap₂, sym, ◌∙◌, arith, length, take, get_or, nat_lt, if◌then◌else◌}
use Rattle.wh_types.specs.Ty.{Ty}
use Rattle.wh_poly.specs.Polynomials.{Polynomial, zero_poly, plus, Factors, no_factors, times, Arguments, no_arguments, argument}
use Rattle.wh_poly.specs.Arithmetic.{followed_by, raised, renumber, renumber_factors, renumber_arguments}
use Rattle.wh_hopoly.specs.Evaluation.{widened}
use Rattle.wh_poly.specs.declared.polynomial.Poly.{Poly}
use Rattle.wh_poly.specs.declared.polynomial.Monomial.{Monomial, out-Monomial}
use Rattle.wh_poly.specs.declared.polynomial.Atom.{Atom, out-Atom}
use Rattle.wh_poly.specs.Erase.{poly, atoms, polys, sum_of, product_of, arguments_of}
use Rattle.wh_poly.proofs.Pushes.{factors_followed_by, arguments_followed_by, sum_of_append, product_of_append, arguments_of_append, sum_one_more, product_one_more, arguments_one_more}

renumber_followed : (r : ℕ → ℕ) (p q : Polynomial) → renumber r (followed_by p q) ≡ followed_by (renumber r p) (renumber r q)
renumber_followed r zero_poly q = refl
renumber_followed r (plus c us p) q = ap (plus c (renumber_factors r us)) (renumber_followed r p q)

renumber_factors_followed : (r : ℕ → ℕ) (us vs : Factors) → renumber_factors r (factors_followed_by us vs) ≡ factors_followed_by (renumber_factors r us) (renumber_factors r vs)
renumber_factors_followed r no_factors vs = refl
renumber_factors_followed r (times x ps us) vs = ap (times (r x) (renumber_arguments r ps)) (renumber_factors_followed r us vs)

renumber_arguments_followed : (r : ℕ → ℕ) (ps qs : Arguments) → renumber_arguments r (arguments_followed_by ps qs) ≡ arguments_followed_by (renumber_arguments r ps) (renumber_arguments r qs)
renumber_arguments_followed r no_arguments qs = refl
renumber_arguments_followed r (argument p ps) qs = ap (argument (renumber r p)) (renumber_arguments_followed r ps qs)

pub renumbered_push : (r : ℕ → ℕ) (out new xs : List Monomial) (i : ℕ) (n m : Monomial) → sum_of out ≡ renumber r (sum_of (take i xs)) → new ≡ out ++ n ∷ []
    → (out-Monomial n).coefficient ≡ (out-Monomial m).coefficient → atoms (out-Monomial n).atoms ≡ renumber_factors r (atoms (out-Monomial m).atoms)
    → i < length xs → m ≡ get_or xs i m → sum_of new ≡ renumber r (sum_of (take (i + 1) xs))
renumbered_push r out new xs i n m same pushed ec eu h e = ap sum_of pushed ∙ sum_of_append out (n ∷ []) ∙ ap₂ followed_by same (ap₂ (λ c us. plus c us zero_poly) ec eu)
    ∙ sym (renumber_followed r (sum_of (take i xs)) (plus (out-Monomial m).coefficient (atoms (out-Monomial m).atoms) zero_poly)) ∙ ap (renumber r) (sym (sum_one_more xs i m h e))

pub renumbered_factor_push : (r : ℕ → ℕ) (out new xs : List Atom) (i : ℕ) (n u : Atom) → product_of out ≡ renumber_factors r (product_of (take i xs)) → new ≡ out ++ n ∷ []
    → (out-Atom n).head ≡ r (out-Atom u).head → polys (out-Atom n).args ≡ renumber_arguments r (polys (out-Atom u).args)
    → i < length xs → u ≡ get_or xs i u → product_of new ≡ renumber_factors r (product_of (take (i + 1) xs))
renumbered_factor_push r out new xs i n u same pushed ex ep h e = ap product_of pushed ∙ product_of_append out (n ∷ []) ∙ ap₂ factors_followed_by same (ap₂ (λ x ps. times x ps no_factors) ex ep)
    ∙ sym (renumber_factors_followed r (product_of (take i xs)) (times (out-Atom u).head (polys (out-Atom u).args) no_factors)) ∙ ap (renumber_factors r) (sym (product_one_more xs i u h e))

pub renumbered_argument_push : (r : ℕ → ℕ) (out new xs : List Poly) (i : ℕ) (n p : Poly) → arguments_of out ≡ renumber_arguments r (arguments_of (take i xs)) → new ≡ out ++ n ∷ []
    → poly n ≡ renumber r (poly p) → i < length xs → p ≡ get_or xs i p → arguments_of new ≡ renumber_arguments r (arguments_of (take (i + 1) xs))
renumbered_argument_push r out new xs i n p same pushed ep h e = ap arguments_of pushed ∙ arguments_of_append out (n ∷ []) ∙ ap₂ arguments_followed_by same (ap (λ p. argument p no_arguments) ep)
    ∙ sym (renumber_arguments_followed r (arguments_of (take i xs)) (argument (poly p) no_arguments)) ∙ ap (renumber_arguments r) (sym (arguments_one_more xs i p h e))

-- functions that agree renumber alike
mutual
  renumber_alike : (r s : ℕ → ℕ) → ((i : ℕ) → r i ≡ s i) → (p : Polynomial) → renumber r p ≡ renumber s p
  renumber_alike r s h zero_poly = refl
  renumber_alike r s h (plus c us p) = ap₂ (plus c) (renumber_factors_alike r s h us) (renumber_alike r s h p)

  renumber_factors_alike : (r s : ℕ → ℕ) → ((i : ℕ) → r i ≡ s i) → (us : Factors) → renumber_factors r us ≡ renumber_factors s us
  renumber_factors_alike r s h no_factors = refl
  renumber_factors_alike r s h (times x ps us) = let e = h x in let f = renumber_arguments_alike r s h ps in let g = renumber_factors_alike r s h us in cc

  renumber_arguments_alike : (r s : ℕ → ℕ) → ((i : ℕ) → r i ≡ s i) → (ps : Arguments) → renumber_arguments r ps ≡ renumber_arguments s ps
  renumber_arguments_alike r s h no_arguments = refl
  renumber_arguments_alike r s h (argument p ps) = ap₂ argument (renumber_alike r s h p) (renumber_arguments_alike r s h ps)

raised_far : (n m by i : ℕ) → by + n ≡ m → raised n by i ≡ (if nat_lt i n then i else m + (i - n))
raised_far n m by i e = grind (arith, e)

raised_from_start : (n i : ℕ) → raised 0 n i ≡ n + i
raised_from_start n i = grind arith

-- a value in a longer scope, and an interpretation in one
pub moved_by : (n by : ℕ) (scope : List Ty) (p : Polynomial) → by + n ≡ length scope → renumber (raised n by) p ≡ widened n scope p
moved_by n by scope p e = renumber_alike (raised n by) _ (λ i. raised_far n (length scope) by i e) p

pub moved_from_start : (n : ℕ) (p : Polynomial) → renumber (raised 0 n) p ≡ renumber (λ i. n + i) p
moved_from_start n p = renumber_alike (raised 0 n) (λ i. n + i) (λ i. raised_from_start n i) p
