-- What polynomials that are put together stand for, and the stack of their reader, as its code keeps it.
use Rattle.std.proofs.Common.{◌≡◌, ℕ, ◌+◌, ◌<◌, List, [], ◌∷◌, ◌++◌, length, Option, Some, None, MatchOption, IsSome, ◌↔◌, refl, sym, ap, ap₂, ◌∙◌, arith}
use Rattle.std.specs.Option.{option_to_list}
use Rattle.std.proofs.lemmas.Bool.{false≢true}
use Rattle.wh_poly.specs.Polynomials.{Polynomial, zero_poly, plus, Factors, no_factors, times, Arguments, no_arguments, argument}
use Rattle.wh_poly.specs.Erase.{poly, atoms, polys, monomials, factors, list, sum_of, product_of, arguments_of}
use Rattle.wh_poly.specs.declared.polynomial.Poly.{Poly}
use Rattle.wh_poly.specs.declared.polynomial.Monomial.{Monomial, out-Monomial, roll-Monomial, out-roll-Monomial}
use Rattle.wh_poly.specs.declared.polynomial.Atoms.{Atoms}
use Rattle.wh_poly.specs.declared.polynomial.Atom.{Atom, out-Atom, roll-Atom, out-roll-Atom}
use Rattle.wh_poly.specs.declared.polynomial.Polys.{Polys}
use Rattle.wh_poly.proofs.Lists.{poly_is, atoms_is, polys_is}
use Rattle.wh_cert_parts.specs.PolyMachine.{PolyStack, outside, poly_level, add_monomial, add_factor, add_argument}
use Rattle.wh_cert_parts.specs.PolyViews.{opened, opened_in, poly_stack}
use Rattle.wh_cert_parts.specs.declared.poly_reader.PolyFrame.{PolyFrame}

pub zero_is : (p : Poly) → monomials p ≡ [] → poly p ≡ zero_poly
zero_is p e = poly_is p ∙ ap sum_of e

pub no_factors_are : (us : Atoms) → factors us ≡ [] → atoms us ≡ no_factors
no_factors_are us e = atoms_is us ∙ ap product_of e

pub no_arguments_are : (ps : Polys) → list ps ≡ [] → polys ps ≡ no_arguments
no_arguments_are ps e = polys_is ps ∙ ap arguments_of e

-- one more item

sum_joins : (xs : List Monomial) (m : Monomial) → sum_of (xs ++ m ∷ []) ≡ add_monomial (sum_of xs) (out-Monomial m).coefficient (atoms (out-Monomial m).atoms)
sum_joins [] m = refl
sum_joins (x ∷ xs) m = ap (λ (o : Polynomial). plus (out-Monomial x).coefficient (atoms (out-Monomial x).atoms) o) (sum_joins xs m)

product_joins : (xs : List Atom) (u : Atom) → product_of (xs ++ u ∷ []) ≡ add_factor (product_of xs) (out-Atom u).head (polys (out-Atom u).args)
product_joins [] u = refl
product_joins (x ∷ xs) u = ap (λ (o : Factors). times (out-Atom x).head (polys (out-Atom x).args) o) (product_joins xs u)

arguments_join : (xs : List Poly) (p : Poly) → arguments_of (xs ++ p ∷ []) ≡ add_argument (arguments_of xs) (poly p)
arguments_join [] p = refl
arguments_join (x ∷ xs) p = ap (λ (o : Arguments). argument (poly x) o) (arguments_join xs p)

pub monomial_joins : (old new : Poly) (c : ℕ) (us : Atoms) → monomials new ≡ monomials old ++ roll-Monomial (record { coefficient = c; atoms = us }) ∷ [] → poly new ≡ add_monomial (poly old) c (atoms us)
monomial_joins old new c us e =
    poly_is new ∙ ap sum_of e ∙ sum_joins (monomials old) _
    ∙ ap₂ (λ (d : ℕ) (vs : Factors). add_monomial (sum_of (monomials old)) d vs) (ap (λ r. r.coefficient) (out-roll-Monomial _)) (ap (λ r. atoms r.atoms) (out-roll-Monomial _))
    ∙ ap (λ (o : Polynomial). add_monomial o c (atoms us)) (sym (poly_is old))

pub factor_joins : (old new : Atoms) (x : ℕ) (ps : Polys) → factors new ≡ factors old ++ roll-Atom (record { head = x; args = ps }) ∷ [] → atoms new ≡ add_factor (atoms old) x (polys ps)
factor_joins old new x ps e =
    atoms_is new ∙ ap product_of e ∙ product_joins (factors old) _
    ∙ ap₂ (λ (y : ℕ) (qs : Arguments). add_factor (product_of (factors old)) y qs) (ap (λ r. r.head) (out-roll-Atom _)) (ap (λ r. polys r.args) (out-roll-Atom _))
    ∙ ap (λ (o : Factors). add_factor o x (polys ps)) (sym (atoms_is old))

pub argument_joins : (old new : Polys) (p : Poly) → list new ≡ list old ++ p ∷ [] → polys new ≡ add_argument (polys old) (poly p)
argument_joins old new p e =
    polys_is new ∙ ap arguments_of e ∙ arguments_join (list old) p ∙ ap (λ (o : Arguments). add_argument o (poly p)) (sym (polys_is old))

-- the stack

opened_push : (fs : PolyStack) (xs : List PolyFrame) (x : PolyFrame) → opened_in fs (xs ++ x ∷ []) ≡ opened x (opened_in fs xs)
opened_push fs [] x = refl
opened_push fs (y ∷ ys) x = opened_push (opened y fs) ys x

pub poly_push : (old new : List PolyFrame) (x : PolyFrame) → new ≡ old ++ x ∷ [] → poly_stack new ≡ opened x (poly_stack old)
poly_push old new x e = ap poly_stack e ∙ opened_push outside old x

opened_level : (fs : PolyStack) (xs : List PolyFrame) → poly_level (opened_in fs xs) ≡ length xs + poly_level fs
opened_level fs [] = omega arith
opened_level fs (x ∷ xs) = omega (arith, opened_level (opened x fs) xs)

pub level_is : (xs : List PolyFrame) → poly_level (poly_stack xs) ≡ length xs
level_is xs = omega (arith, opened_level outside xs)

pub poly_pop : (old new : List PolyFrame) (r : Option PolyFrame) (n : ℕ) → n ≡ length old → old ≡ new ++ option_to_list r → (IsSome r ↔ (0 < n)) → MatchOption r (poly_stack old ≡ outside) (λ f. poly_stack old ≡ opened f (poly_stack new))
poly_pop [] new None n k e v = refl
poly_pop (x ∷ xs) new None n k e v = absurd (false≢true (v.1 (omega arith)))
poly_pop old new (Some x) n k e v = poly_push new old x e
