-- A walk over the items of a polynomial, of its factors or of its arguments, which asks whether it is normal.
use Rattle.std.proofs.Common.{◌++◌, ◌≡◌, ◌↔◌, ℕ, zero, suc, ◌+◌, ◌≤◌, ◌<◌, List, [], ◌∷◌, ap, sym, subst, ◌∙◌, arith, length, drop, get_or}
use Rattle.wh_types.specs.Ty.{Ty, sort, ◌⇒◌, arguments}
use Rattle.wh_poly.specs.Polynomials.{Polynomial, plus, times, Arguments, no_arguments, argument, HasType, Normal, NormalFactors, NormalArguments, HasNormalArguments}
use Rattle.wh_poly.specs.declared.polynomial.Poly.{Poly}
use Rattle.wh_poly.specs.declared.polynomial.Monomial.{Monomial, out-Monomial}
use Rattle.wh_poly.specs.declared.polynomial.Atoms.{Atoms}
use Rattle.wh_poly.specs.declared.polynomial.Atom.{Atom, out-Atom}
use Rattle.wh_poly.specs.declared.polynomial.Polys.{Polys}
use Rattle.wh_poly.specs.Erase.{poly, atoms, polys, monomials, factors, list, sum_of, product_of, arguments_of}
use Rattle.wh_poly.proofs.Lists.{poly_is, atoms_is, polys_is}
use Rattle.wh_hopoly.proofs.ReplaceLaws.{type_is}
use Rattle.wh_poly.proofs.Walks.{sum_drop, product_drop, arguments_drop, sum_ended, product_ended, arguments_ended}

-- the whole is normal if what is left is, and what is left has the item at i before it
pub monomial_left : (Γ : List Ty) (p : Poly) (xs : List Monomial) (i : ℕ) (m : Monomial) → xs ≡ monomials p → Normal Γ (sum_of xs) ↔ Normal Γ (sum_of (drop i xs))
    → i < length xs → m ≡ get_or xs i m → Normal Γ (poly p) → Normal Γ (plus (out-Monomial m).coefficient (atoms (out-Monomial m).atoms) (sum_of (drop (i + 1) xs)))
monomial_left Γ p xs i m l f h e n = subst (Normal Γ) (sum_drop xs i m h e) (f.0 (subst (Normal Γ) (poly_is p ∙ ap sum_of (sym l)) n))

pub factor_left : (Γ : List Ty) (us : Atoms) (xs : List Atom) (i : ℕ) (u : Atom) → xs ≡ factors us → NormalFactors Γ (product_of xs) ↔ NormalFactors Γ (product_of (drop i xs))
    → i < length xs → u ≡ get_or xs i u → NormalFactors Γ (atoms us) → NormalFactors Γ (times (out-Atom u).head (polys (out-Atom u).args) (product_of (drop (i + 1) xs)))
factor_left Γ us xs i u l f h e n = subst (NormalFactors Γ) (product_drop xs i u h e) (f.0 (subst (NormalFactors Γ) (atoms_is us ∙ ap product_of (sym l)) n))

-- where nothing is left the whole is normal
pub normal_ended : (Γ : List Ty) (p : Poly) (xs : List Monomial) (i : ℕ) → xs ≡ monomials p → Normal Γ (sum_of xs) ↔ Normal Γ (sum_of (drop i xs)) → length xs ≤ i → Normal Γ (poly p)
normal_ended Γ p xs i l f h = subst (Normal Γ) (sym (poly_is p ∙ ap sum_of (sym l))) (f.1 (subst (Normal Γ) (sym (sum_ended xs i h)) tt))

pub factors_ended : (Γ : List Ty) (us : Atoms) (xs : List Atom) (i : ℕ) → xs ≡ factors us → NormalFactors Γ (product_of xs) ↔ NormalFactors Γ (product_of (drop i xs)) → length xs ≤ i
    → NormalFactors Γ (atoms us)
factors_ended Γ us xs i l f h = subst (NormalFactors Γ) (sym (atoms_is us ∙ ap product_of (sym l))) (f.1 (subst (NormalFactors Γ) (sym (product_ended xs i h)) tt))

-- arguments for the type A, of which those from i on are for the type B
pub argument_left : (Γ : List Ty) (A B : Ty) (ps : Polys) (xs : List Poly) (i : ℕ) (p : Poly) → xs ≡ list ps → NormalArguments Γ A (arguments_of xs) ↔ NormalArguments Γ B (arguments_of (drop i xs))
    → i < length xs → p ≡ get_or xs i p → NormalArguments Γ A (polys ps) → NormalArguments Γ B (argument (poly p) (arguments_of (drop (i + 1) xs)))
argument_left Γ A B ps xs i p l f h e n = subst (NormalArguments Γ B) (arguments_drop xs i p h e) (f.0 (subst (NormalArguments Γ A) (polys_is ps ∙ ap arguments_of (sym l)) n))

pub arguments_left : (Γ : List Ty) (A B : Ty) (ps : Polys) (xs : List Poly) (i : ℕ) → xs ≡ list ps → NormalArguments Γ A (arguments_of xs) ↔ NormalArguments Γ B (arguments_of (drop i xs))
    → length xs ≤ i → NormalArguments Γ A (polys ps) ↔ NormalArguments Γ B no_arguments
arguments_left Γ A B ps xs i l f h = let a = polys_is ps ∙ ap arguments_of (sym l) in let b = arguments_ended xs i h in
    (λ n. subst (NormalArguments Γ B) b (f.0 (subst (NormalArguments Γ A) a n)), λ n. subst (NormalArguments Γ A) (sym a) (f.1 (subst (NormalArguments Γ B) (sym b) n)))

-- no argument is for a sort
pub sort_has_none : (Γ : List Ty) (A : Ty) (s : ℕ) (p : Polynomial) (ps : Arguments) → A ≡ sort s → NormalArguments Γ A (argument p ps) → ⊥
sort_has_none Γ A s p ps e n = subst (λ A. NormalArguments Γ A (argument p ps)) e n

-- a variable has one type
pub one_type : (Γ : List Ty) (x : ℕ) (ps : Arguments) (A : Ty) → HasType Γ x A → HasNormalArguments Γ x ps ↔ NormalArguments Γ A ps
one_type Γ x ps A a = (λ n. subst (λ B. NormalArguments Γ B ps) (sym (type_is Γ x n.0 n.1) ∙ type_is Γ x A a) n.2, λ n. (A, a, n))

pub has_type_within : (Γ : List Ty) (x : ℕ) (A : Ty) → HasType Γ x A → x < length Γ
has_type_within [] x A a = absurd a
has_type_within (B ∷ Γ) zero A a = omega arith
has_type_within (B ∷ Γ) (suc x) A a = let e = has_type_within Γ x A a in omega (arith, e)

pub not_past : (Γ : List Ty) (x past : ℕ) (ps : Arguments) → length Γ + past ≡ x → HasNormalArguments Γ x ps → ⊥
not_past Γ x past ps e n = let h = has_type_within Γ x n.0 n.1 in omega (arith, h, e)

-- of an arrow the first argument is for its first type, and there is one
pub arrow_first : (Γ : List Ty) (K A B : Ty) (p : Polynomial) (ps : Arguments) → K ≡ (A ⇒ B) → NormalArguments Γ K (argument p ps) → Normal (Γ ++ arguments A) p
arrow_first Γ K A B p ps e n = let k = subst (λ K. NormalArguments Γ K (argument p ps)) e n in k.0

pub arrow_has_some : (Γ : List Ty) (K A B : Ty) → K ≡ (A ⇒ B) → NormalArguments Γ K no_arguments → ⊥
arrow_has_some Γ K A B e n = subst (λ K. NormalArguments Γ K no_arguments) e n

pub sort_needs_none : (Γ : List Ty) (K : Ty) (s : ℕ) → K ≡ sort s → NormalArguments Γ K no_arguments
sort_needs_none Γ K s e = subst (λ K. NormalArguments Γ K no_arguments) (sym e) tt
