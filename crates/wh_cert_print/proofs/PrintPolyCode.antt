-- What the printers of polynomials append, one after another.
use Rattle.std.proofs.Common.{◌≡◌, ℕ, ◌+◌, ◌/◌, ◌%◌, ◌^◌, ◌<◌, ◌≤◌, List, [], ◌∷◌, ◌++◌, length, get_or, drop, subst, codes, refl, sym, ap, ◌∙◌, arith, append_assoc}
use Rattle.std.specs.Fmt.{decimal}
use Rattle.std.proofs.lemmas.Fmt.{decimal_step_wide}
use Rattle.wh_poly.specs.Polynomials.{Polynomial, Factors, Arguments}
use Rattle.wh_poly.specs.Erase.{poly, atoms, polys, monomials, factors, list, sum_of, product_of, arguments_of}
use Rattle.wh_poly.specs.declared.polynomial.Poly.{Poly}
use Rattle.wh_poly.specs.declared.polynomial.Monomial.{Monomial, out-Monomial}
use Rattle.wh_poly.specs.declared.polynomial.Atom.{Atom, out-Atom}
use Rattle.wh_poly.specs.declared.polynomial.Atoms.{Atoms}
use Rattle.wh_poly.specs.declared.polynomial.Polys.{Polys}
use Rattle.wh_poly.proofs.Lists.{poly_is, atoms_is, polys_is}
use Rattle.std.proofs.lemmas.List.{drop_all}
use Rattle.wh_text.specs.Pushes.{Pushes}
use Rattle.wh_text.proofs.PrintLemmas.{push_bytes, push_byte, push_then, Leaves}
use Rattle.wh_cert.specs.PolyText.{put_poly, put_sum, put_factors, put_polys, put_more}
use Rattle.wh_cert_print.proofs.PrintedLists.{next_left, none_left}

-- numbers of 128 bits
pub big_more : (a b c : List ℕ) (n : ℕ) → 10 ≤ n → n < 2 ^ 128 → b ≡ a ++ decimal (n / 10) → c ≡ b ++ (48 + n % 10) ∷ [] → c ≡ a ++ decimal n
big_more a b c n large fits front e =
    e ∙ ap (λ (s : List ℕ). s ++ (48 + n % 10) ∷ []) front ∙ append_assoc a (decimal (n / 10)) ((48 + n % 10) ∷ []) ∙ ap (λ (s : List ℕ). a ++ s) (sym (decimal_step_wide n large (omega (arith, fits))))

-- polynomials

pub sum_next : (old a b c d : List ℕ) (whole : List ℕ → List ℕ) (xs : List Monomial) (i : ℕ) (x : Monomial) → Leaves old a (put_sum (sum_of (drop i xs))) whole → i < length xs → x ≡ get_or xs i x → b ≡ a ++ 43 ∷ [] → c ≡ b ++ decimal (out-Monomial x).coefficient → Pushes c d (put_factors (atoms (out-Monomial x).atoms)) → Leaves old d (put_sum (sum_of (drop (i + 1) xs))) whole
sum_next old a b c d whole xs i x left below is sign number part =
    next_left (λ (m : Monomial) (r : List ℕ). 43 ∷ (decimal (out-Monomial m).coefficient ++ put_factors (atoms (out-Monomial m).atoms) r)) (λ (ms : List Monomial). put_sum (sum_of ms)) (λ x xs r. refl) old a d whole xs i x left below is
    (push_then a b d (λ r. 43 ∷ r) (λ r. decimal (out-Monomial x).coefficient ++ put_factors (atoms (out-Monomial x).atoms) r) (push_byte a b 43 sign)
    (push_then b c d (λ r. decimal (out-Monomial x).coefficient ++ r) (put_factors (atoms (out-Monomial x).atoms)) (push_bytes b c (decimal (out-Monomial x).coefficient) number) part))

pub sum_end : (old a : List ℕ) (whole : List ℕ → List ℕ) (xs : List Monomial) (i : ℕ) → Leaves old a (put_sum (sum_of (drop i xs))) whole → length xs ≤ i → Pushes old a whole
sum_end = none_left (λ (ms : List Monomial). put_sum (sum_of ms)) (λ r. refl)

pub factors_next : (old a b c d : List ℕ) (whole : List ℕ → List ℕ) (xs : List Atom) (i : ℕ) (x : Atom) → Leaves old a (put_factors (product_of (drop i xs))) whole → i < length xs → x ≡ get_or xs i x → b ≡ a ++ codes "*y" → c ≡ b ++ decimal (out-Atom x).head → Pushes c d (put_polys (polys (out-Atom x).args)) → Leaves old d (put_factors (product_of (drop (i + 1) xs))) whole
factors_next old a b c d whole xs i x left below is sign number part =
    next_left (λ (u : Atom) (r : List ℕ). codes "*y" ++ (decimal (out-Atom u).head ++ put_polys (polys (out-Atom u).args) r)) (λ (us : List Atom). put_factors (product_of us)) (λ x xs r. refl) old a d whole xs i x left below is
    (push_then a b d (λ r. codes "*y" ++ r) (λ r. decimal (out-Atom x).head ++ put_polys (polys (out-Atom x).args) r) (push_bytes a b (codes "*y") sign)
    (push_then b c d (λ r. decimal (out-Atom x).head ++ r) (put_polys (polys (out-Atom x).args)) (push_bytes b c (decimal (out-Atom x).head) number) part))

pub factors_end : (us : Atoms) (old a : List ℕ) (xs : List Atom) (i : ℕ) → Leaves old a (put_factors (product_of (drop i xs))) (put_factors (product_of xs)) → xs ≡ factors us → length xs ≤ i → Pushes old a (put_factors (atoms us))
factors_end us old a xs i left is past =
    subst (λ (vs : Factors). Pushes old a (put_factors vs)) (ap product_of is ∙ sym (atoms_is us)) (none_left (λ (vs : List Atom). put_factors (product_of vs)) (λ r. refl) old a (put_factors (product_of xs)) xs i left past)

pub more_next : (old a b c : List ℕ) (whole : List ℕ → List ℕ) (xs : List Poly) (i : ℕ) (x : Poly) → Leaves old a (put_more (arguments_of (drop i xs))) whole → i < length xs → x ≡ get_or xs i x → b ≡ a ++ 44 ∷ [] → Pushes b c (put_poly (poly x)) → Leaves old c (put_more (arguments_of (drop (i + 1) xs))) whole
more_next old a b c whole xs i x left below is sign part =
    next_left (λ (p : Poly) (r : List ℕ). 44 ∷ put_poly (poly p) r) (λ (ps : List Poly). put_more (arguments_of ps)) (λ x xs r. refl) old a c whole xs i x left below is
    (push_then a b c (λ r. 44 ∷ r) (put_poly (poly x)) (push_byte a b 44 sign) part)

pub more_end : (old a b : List ℕ) (whole : List ℕ → List ℕ) (xs : List Poly) (i : ℕ) → Leaves old a (put_more (arguments_of (drop i xs))) whole → length xs ≤ i → b ≡ a ++ 41 ∷ [] → Pushes old b whole
more_end old a b whole xs i left past sign =
    record { behind = λ r. ap (λ (s : List ℕ). s ++ r) sign ∙ append_assoc a (41 ∷ []) r ∙ ap (λ (ps : List Poly). a ++ put_more (arguments_of ps) r) (sym (drop_all i xs past)) ∙ left.behind r }

pub zero_pushes : (p : Poly) (a b : List ℕ) (xs : List Monomial) → xs ≡ monomials p → length xs ≡ 0 → b ≡ a ++ 48 ∷ [] → Pushes a b (put_poly (poly p))
zero_pushes p a b [] is none e = subst (λ (q : Polynomial). Pushes a b (put_poly q)) (ap sum_of is ∙ sym (poly_is p)) (push_byte a b 48 e)
zero_pushes p a b (x ∷ xs) is some e = absurd (omega arith)

pub poly_pushes : (p : Poly) (a b c d : List ℕ) (xs : List Monomial) (x : Monomial) (rest : List Monomial) → xs ≡ monomials p → xs ≡ x ∷ rest → b ≡ a ++ decimal (out-Monomial x).coefficient → Pushes b c (put_factors (atoms (out-Monomial x).atoms)) → Pushes c d (put_sum (sum_of rest)) → Pushes a d (put_poly (poly p))
poly_pushes p a b c d xs x rest is split number first others =
    subst (λ (q : Polynomial). Pushes a d (put_poly q)) (ap sum_of (sym split ∙ is) ∙ sym (poly_is p))
    (push_then a b d (λ r. decimal (out-Monomial x).coefficient ++ r) (λ r. put_factors (atoms (out-Monomial x).atoms) (put_sum (sum_of rest) r)) (push_bytes a b (decimal (out-Monomial x).coefficient) number)
    (push_then b c d (put_factors (atoms (out-Monomial x).atoms)) (put_sum (sum_of rest)) first others))

pub no_polys_push : (ps : Polys) (a : List ℕ) (xs : List Poly) → xs ≡ list ps → length xs ≡ 0 → Pushes a a (put_polys (polys ps))
no_polys_push ps a [] is none = subst (λ (qs : Arguments). Pushes a a (put_polys qs)) (ap arguments_of is ∙ sym (polys_is ps)) (record { behind = λ r. refl })
no_polys_push ps a (x ∷ xs) is some = absurd (omega arith)

pub polys_push : (ps : Polys) (a b c d : List ℕ) (xs : List Poly) (x : Poly) (rest : List Poly) → xs ≡ list ps → xs ≡ x ∷ rest → b ≡ a ++ 40 ∷ [] → Pushes b c (put_poly (poly x)) → Pushes c d (put_more (arguments_of rest)) → Pushes a d (put_polys (polys ps))
polys_push ps a b c d xs x rest is split sign first others =
    subst (λ (qs : Arguments). Pushes a d (put_polys qs)) (ap arguments_of (sym split ∙ is) ∙ sym (polys_is ps))
    (push_then a b d (λ r. 40 ∷ r) (λ r. put_poly (poly x) (put_more (arguments_of rest) r)) (push_byte a b 40 sign)
    (push_then b c d (put_poly (poly x)) (put_more (arguments_of rest)) first others))
