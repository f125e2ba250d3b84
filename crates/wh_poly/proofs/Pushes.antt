-- A list that is built item by item keeps pace with the one that it follows.
use Rattle.std.proofs.Common.{◌≡◌, ℕ, ◌+◌, ◌<◌, List, [], ◌∷◌, ◌++◌, refl, ap, ap₂, sym, ◌∙◌, length, take, get_or, add-one, append_assoc}
use Rattle.std.proofs.Math.Seq.{take-suc}
use Rattle.wh_poly.specs.Polynomials.{zero_poly, plus, Factors, no_factors, times, Arguments, no_arguments, argument}
use Rattle.wh_poly.specs.Arithmetic.{followed_by}
use Rattle.wh_poly.specs.declared.polynomial.Poly.{Poly}
use Rattle.wh_poly.specs.declared.polynomial.Monomial.{Monomial, out-Monomial}
use Rattle.wh_poly.specs.declared.polynomial.Atom.{Atom, out-Atom}
use Rattle.wh_poly.specs.declared.polynomial.Atoms.{Atoms}
use Rattle.wh_poly.proofs.Lists.{poly_is, atoms_is}
use Rattle.wh_poly.specs.Erase.{poly, atoms, polys, monomials, factors, sum_of, product_of, arguments_of}

-- the items of one list, and then those of another
abbrev pub factors_followed_by : Factors → Factors → Factors
factors_followed_by no_factors vs = vs
factors_followed_by (times x ps us) vs = times x ps (factors_followed_by us vs)

abbrev pub arguments_followed_by : Arguments → Arguments → Arguments
arguments_followed_by no_arguments qs = qs
arguments_followed_by (argument p ps) qs = argument p (arguments_followed_by ps qs)

pub sum_of_append : (xs ys : List Monomial) → sum_of (xs ++ ys) ≡ followed_by (sum_of xs) (sum_of ys)
sum_of_append [] ys = refl
sum_of_append (x ∷ xs) ys = ap (plus (out-Monomial x).coefficient (atoms (out-Monomial x).atoms)) (sum_of_append xs ys)

pub product_of_append : (xs ys : List Atom) → product_of (xs ++ ys) ≡ factors_followed_by (product_of xs) (product_of ys)
product_of_append [] ys = refl
product_of_append (x ∷ xs) ys = ap (times (out-Atom x).head (polys (out-Atom x).args)) (product_of_append xs ys)

pub arguments_of_append : (xs ys : List Poly) → arguments_of (xs ++ ys) ≡ arguments_followed_by (arguments_of xs) (arguments_of ys)
arguments_of_append [] ys = refl
arguments_of_append (x ∷ xs) ys = ap (argument (poly x)) (arguments_of_append xs ys)

one_more : {A : Type 0} (xs : List A) (i : ℕ) (x : A) → i < length xs → x ≡ get_or xs i x → take (i + 1) xs ≡ take i xs ++ x ∷ []
one_more xs i x h e = rw (add-one, take-suc xs i x h) (ap (λ y. take i xs ++ y ∷ []) (sym e))

pub sum_one_more : (xs : List Monomial) (i : ℕ) (m : Monomial) → i < length xs → m ≡ get_or xs i m
    → sum_of (take (i + 1) xs) ≡ followed_by (sum_of (take i xs)) (plus (out-Monomial m).coefficient (atoms (out-Monomial m).atoms) zero_poly)
sum_one_more xs i m h e = ap sum_of (one_more xs i m h e) ∙ sum_of_append (take i xs) (m ∷ [])

pub product_one_more : (xs : List Atom) (i : ℕ) (u : Atom) → i < length xs → u ≡ get_or xs i u
    → product_of (take (i + 1) xs) ≡ factors_followed_by (product_of (take i xs)) (times (out-Atom u).head (polys (out-Atom u).args) no_factors)
product_one_more xs i u h e = ap product_of (one_more xs i u h e) ∙ product_of_append (take i xs) (u ∷ [])

pub arguments_one_more : (xs : List Poly) (i : ℕ) (p : Poly) → i < length xs → p ≡ get_or xs i p
    → arguments_of (take (i + 1) xs) ≡ arguments_followed_by (arguments_of (take i xs)) (argument (poly p) no_arguments)
arguments_one_more xs i p h e = ap arguments_of (one_more xs i p h e) ∙ arguments_of_append (take i xs) (p ∷ [])

-- one monomial alone
pub single_push : (p : Poly) (old : List Monomial) (m : Monomial) (c : ℕ) (us : Factors) → old ≡ [] → monomials p ≡ old ++ m ∷ [] → (out-Monomial m).coefficient ≡ c → atoms (out-Monomial m).atoms ≡ us
    → poly p ≡ plus c us zero_poly
single_push p old m c us e k ec eu = poly_is p ∙ ap sum_of k ∙ ap (λ xs. sum_of (xs ++ m ∷ [])) e ∙ ap₂ (λ c us. plus c us zero_poly) ec eu

pub single_factor_push : (us : Atoms) (old : List Atom) (u : Atom) (x : ℕ) (ps : Arguments) → old ≡ [] → factors us ≡ old ++ u ∷ [] → (out-Atom u).head ≡ x → polys (out-Atom u).args ≡ ps
    → atoms us ≡ times x ps no_factors
single_factor_push us old u x ps e k ex ep = atoms_is us ∙ ap product_of k ∙ ap (λ xs. product_of (xs ++ u ∷ [])) e ∙ ap₂ (λ x ps. times x ps no_factors) ex ep

pub sum_push : (out new xs : List Monomial) (i : ℕ) (r m : Monomial) → sum_of out ≡ sum_of (take i xs) → new ≡ out ++ r ∷ []
    → (out-Monomial r).coefficient ≡ (out-Monomial m).coefficient → atoms (out-Monomial r).atoms ≡ atoms (out-Monomial m).atoms
    → i < length xs → m ≡ get_or xs i m → sum_of new ≡ sum_of (take (i + 1) xs)
sum_push out new xs i r m same pushed ec eu h e = ap sum_of pushed ∙ sum_of_append out (r ∷ []) ∙ ap₂ followed_by same (ap₂ (λ c us. plus c us zero_poly) ec eu)
    ∙ sym (sum_one_more xs i m h e)

pub product_push : (out new xs : List Atom) (i : ℕ) (r u : Atom) → product_of out ≡ product_of (take i xs) → new ≡ out ++ r ∷ []
    → (out-Atom r).head ≡ (out-Atom u).head → polys (out-Atom r).args ≡ polys (out-Atom u).args
    → i < length xs → u ≡ get_or xs i u → product_of new ≡ product_of (take (i + 1) xs)
product_push out new xs i r u same pushed ex ep h e = ap product_of pushed ∙ product_of_append out (r ∷ []) ∙ ap₂ factors_followed_by same (ap₂ (λ x ps. times x ps no_factors) ex ep)
    ∙ sym (product_one_more xs i u h e)

pub arguments_push : (out new xs : List Poly) (i : ℕ) (r p : Poly) → arguments_of out ≡ arguments_of (take i xs) → new ≡ out ++ r ∷ [] → poly r ≡ poly p
    → i < length xs → p ≡ get_or xs i p → arguments_of new ≡ arguments_of (take (i + 1) xs)
arguments_push out new xs i r p same pushed ep h e = ap arguments_of pushed ∙ arguments_of_append out (r ∷ []) ∙ ap₂ arguments_followed_by same (ap (λ p. argument p no_arguments) ep)
    ∙ sym (arguments_one_more xs i p h e)

-- copies at the end of a list
pub product_copy : (old new : List Atom) (r u : Atom) → new ≡ old ++ r ∷ [] → (out-Atom r).head ≡ (out-Atom u).head → polys (out-Atom r).args ≡ polys (out-Atom u).args
    → product_of new ≡ product_of (old ++ u ∷ [])
product_copy old new r u pushed ex ep = ap product_of pushed ∙ product_of_append old (r ∷ []) ∙ ap (factors_followed_by (product_of old)) (ap₂ (λ x ps. times x ps no_factors) ex ep)
    ∙ sym (product_of_append old (u ∷ []))

pub product_copies : (start out new xs : List Atom) (i : ℕ) (u : Atom) → product_of out ≡ product_of (start ++ take i xs) → product_of new ≡ product_of (out ++ u ∷ [])
    → i < length xs → u ≡ get_or xs i u → product_of new ≡ product_of (start ++ take (i + 1) xs)
product_copies start out new xs i u same pushed h e =
    pushed ∙ product_of_append out (u ∷ []) ∙ ap (λ us. factors_followed_by us (product_of (u ∷ []))) same ∙ sym (product_of_append (start ++ take i xs) (u ∷ []))
    ∙ ap product_of (append_assoc start (take i xs) (u ∷ []) ∙ ap (λ ys. start ++ ys) (sym (one_more xs i u h e)))
