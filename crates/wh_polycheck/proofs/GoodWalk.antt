-- The monomials of a move, and a walk over two lists of factors or arguments that asks whether the first are at least the second.
use Rattle.std.proofs.Common.{◌≡◌, ◌↔◌, ℕ, zero, suc, ◌+◌, ◌<◌, ◌≤◌, List, [], ◌∷◌, ◌++◌, length, drop, get_or, Some, slice_get, inl, inr, ap, sym, subst, ◌∙◌, arith}
use Rattle.std.proofs.lemmas.Option.{same_Some}
use Rattle.std.proofs.lemmas.Bool.{cases_lt}
use mathlib.Core.Path.{subst₂}
use Rattle.wh_types.specs.Ty.{Ty, sort, ◌⇒◌, arguments}
use Rattle.wh_poly.specs.Polynomials.{Polynomial, zero_poly, plus, Factors, Sorted, Normal, NormalFactors, NormalArguments}
use Rattle.wh_hopoly.specs.Covers.{AtLeast}
use Rattle.wh_hopoly.specs.Moves.{Transfer, ArgumentsAtLeast, FactorsAtLeast, MonomialAt, Good}
use Rattle.wh_poly.specs.declared.polynomial.Poly.{Poly}
use Rattle.wh_poly.specs.declared.polynomial.Monomial.{Monomial, out-Monomial}
use Rattle.wh_poly.specs.declared.polynomial.Atoms.{Atoms}
use Rattle.wh_poly.specs.declared.polynomial.Atom.{Atom, out-Atom}
use Rattle.wh_poly.specs.declared.polynomial.Polys.{Polys}
use Rattle.wh_hopoly.specs.declared.expression.Move.{Move}
use Rattle.wh_poly.specs.Erase.{poly, atoms, polys, factors, list, sum_of, product_of, arguments_of}
use Rattle.wh_hopoly.specs.Erase.{transfer, transfers}
use Rattle.wh_polycheck.specs.CoverFaults.{AreGood}
use Rattle.wh_poly.proofs.Lists.{atoms_is, polys_is}
use Rattle.wh_poly.proofs.SumLaws.{normal_sorted}
use Rattle.wh_poly.proofs.Walks.{product_drop, product_ended, arguments_drop, arguments_ended}

-- the monomial at a place of the list, and that there is one alone
pub monomial_here : (xs : List Monomial) (i : ℕ) (m : Monomial) → i < length xs → m ≡ get_or xs i m
    → MonomialAt (sum_of xs) i (out-Monomial m).coefficient (atoms (out-Monomial m).atoms)
monomial_here [] i m h e = absurd (omega (arith, h))
monomial_here (x ∷ xs) zero m h e = (ap (λ m. (out-Monomial m).coefficient) (sym e), ap (λ m. atoms (out-Monomial m).atoms) (sym e))
monomial_here (x ∷ xs) (suc i) m h e = monomial_here xs i m (omega (arith, h)) e

pub monomial_within : (xs : List Monomial) (i c : ℕ) (us : Factors) → MonomialAt (sum_of xs) i c us → i < length xs
monomial_within [] i c us m = absurd m
monomial_within (x ∷ xs) zero c us m = omega arith
monomial_within (x ∷ xs) (suc i) c us m = let h = monomial_within xs i c us m in omega (arith, h)

pub one_monomial : (p : Polynomial) (i c d : ℕ) (us vs : Factors) → MonomialAt p i c us → MonomialAt p i d vs → (c ≡ d) × (us ≡ vs)
one_monomial zero_poly i c d us vs m n = absurd m
one_monomial (plus e ws p) zero c d us vs m n = (sym m.0 ∙ n.0, sym m.1 ∙ n.1)
one_monomial (plus e ws p) (suc i) c d us vs m n = one_monomial p i c d us vs m n

-- a move is good exactly where the factors of its two monomials are at least one another
pub good_here : (xs ys : List Monomial) (m : Move) (x y : Monomial) → m.from < length xs → m.to < length ys
    → x ≡ get_or xs m.from x → y ≡ get_or ys m.to y
    → FactorsAtLeast (atoms (out-Monomial x).atoms) (atoms (out-Monomial y).atoms) ↔ Good (sum_of xs) (sum_of ys) (transfer m)
good_here xs ys m x y h k ex ey =
    let source = monomial_here xs m.from x h ex in
    let target = monomial_here ys m.to y k ey in (
      λ f. record {
        given = (out-Monomial x).coefficient;
        taken = (out-Monomial y).coefficient;
        giver = atoms (out-Monomial x).atoms;
        taker = atoms (out-Monomial y).atoms;
        source = source;
        target = target;
        fits = f;
      },
      λ g. subst₂ FactorsAtLeast (one_monomial (sum_of xs) m.from g.given (out-Monomial x).coefficient g.giver (atoms (out-Monomial x).atoms) g.source source).1
          (one_monomial (sum_of ys) m.to g.taken (out-Monomial y).coefficient g.taker (atoms (out-Monomial y).atoms) g.target target).1 g.fits,
    )

pub good_from : (xs ys : List Monomial) (m : Move) → Good (sum_of xs) (sum_of ys) (transfer m) → m.from < length xs
good_from xs ys m g = monomial_within xs m.from g.given g.giver g.source

pub good_to : (xs ys : List Monomial) (m : Move) → Good (sum_of xs) (sum_of ys) (transfer m) → m.to < length ys
good_to xs ys m g = monomial_within ys m.to g.taken g.taker g.target

-- the parts of what is normal are
pub factors_normal_here : (Γ : List Ty) (xs : List Monomial) (i : ℕ) (m : Monomial) → Normal Γ (sum_of xs) → i < length xs → m ≡ get_or xs i m
    → NormalFactors Γ (atoms (out-Monomial m).atoms)
factors_normal_here Γ [] i m n h e = absurd (omega (arith, h))
factors_normal_here Γ (x ∷ xs) zero m n h e = subst (λ m. NormalFactors Γ (atoms (out-Monomial m).atoms)) (sym e) n.1
factors_normal_here Γ (x ∷ xs) (suc i) m n h e = factors_normal_here Γ xs i m n.3 (omega (arith, h)) e

arguments_normal_in : (Γ : List Ty) (xs : List Atom) (i : ℕ) (u : Atom) → NormalFactors Γ (product_of xs) → i < length xs → u ≡ get_or xs i u
    → (scope : List Ty) × (kind : Ty) × NormalArguments scope kind (polys (out-Atom u).args)
arguments_normal_in Γ [] i u n h e = absurd (omega (arith, h))
arguments_normal_in Γ (x ∷ xs) zero u n h e = (Γ, n.0, subst (λ u. NormalArguments Γ n.0 (polys (out-Atom u).args)) (sym e) n.2)
arguments_normal_in Γ (x ∷ xs) (suc i) u n h e = arguments_normal_in Γ xs i u n.4 (omega (arith, h)) e

pub arguments_normal_here : (us : Atoms) (xs : List Atom) (i : ℕ) (u : Atom) → xs ≡ factors us → (scope : List Ty) × NormalFactors scope (atoms us)
    → i < length xs → u ≡ get_or xs i u → (scope : List Ty) × (kind : Ty) × NormalArguments scope kind (polys (out-Atom u).args)
arguments_normal_here us xs i u l (Γ, n) h e = arguments_normal_in Γ xs i u (subst (NormalFactors Γ) (atoms_is us ∙ ap product_of (sym l)) n) h e

sorted_in : (Γ : List Ty) (A : Ty) (xs : List Poly) (i : ℕ) (p : Poly) → NormalArguments Γ A (arguments_of xs) → i < length xs → p ≡ get_or xs i p
    → Sorted (poly p)
sorted_in Γ A [] i p n h e = absurd (omega (arith, h))
sorted_in Γ (sort s) (x ∷ xs) i p n h e = absurd n
sorted_in Γ (A ⇒ B) (x ∷ xs) zero p n h e = normal_sorted (Γ ++ arguments A) (poly p) (subst (λ p. Normal (Γ ++ arguments A) (poly p)) (sym e) n.0)
sorted_in Γ (A ⇒ B) (x ∷ xs) (suc i) p n h e = sorted_in Γ B xs i p n.1 (omega (arith, h)) e

pub sorted_here : (ps : Polys) (xs : List Poly) (i : ℕ) (p : Poly) → xs ≡ list ps
    → (scope : List Ty) × (kind : Ty) × NormalArguments scope kind (polys ps)
    → i < length xs → p ≡ get_or xs i p → Sorted (poly p)
sorted_here ps xs i p l (Γ, A, n) h e = sorted_in Γ A xs i p (subst (NormalArguments Γ A) (polys_is ps ∙ ap arguments_of (sym l)) n) h e

-- what the walks keep: what is left of both lists decides
abbrev pub FactorsLeft : List Atom → List Atom → ℕ → Type 0
FactorsLeft xs ys i =
    FactorsAtLeast (product_of xs) (product_of ys) ↔ FactorsAtLeast (product_of (drop i xs)) (product_of (drop i ys))

abbrev pub ArgumentsLeft : List Poly → List Poly → ℕ → Type 0
ArgumentsLeft xs ys i =
    ArgumentsAtLeast (arguments_of xs) (arguments_of ys) ↔ ArgumentsAtLeast (arguments_of (drop i xs)) (arguments_of (drop i ys))

both_ways : {A B C : Type 0} → A ↔ B → B ↔ C → A ↔ C
both_ways f g = (λ a. g.0 (f.0 a), λ c. f.1 (g.1 c))

-- the item of both lists at the place, and what is behind it
factors_at : (xs ys : List Atom) (i : ℕ) (x y : Atom) → i < length xs → i < length ys → x ≡ get_or xs i x → y ≡ get_or ys i y
    → FactorsAtLeast (product_of (drop i xs)) (product_of (drop i ys))
    ↔ ((out-Atom x).head ≡ (out-Atom y).head × ArgumentsAtLeast (polys (out-Atom x).args) (polys (out-Atom y).args)
    × FactorsAtLeast (product_of (drop (i + 1) xs)) (product_of (drop (i + 1) ys)))
factors_at xs ys i x y h k ex ey = let a = product_drop xs i x h ex in let b = product_drop ys i y k ey in
    (subst₂ FactorsAtLeast a b, subst₂ FactorsAtLeast (sym a) (sym b))

pub factors_before : (xs ys : List Atom) (i : ℕ) (x y : Atom) → FactorsLeft xs ys i → i < length xs → i < length ys
    → x ≡ get_or xs i x → y ≡ get_or ys i y
    → FactorsAtLeast (product_of xs) (product_of ys)
    → (out-Atom x).head ≡ (out-Atom y).head × ArgumentsAtLeast (polys (out-Atom x).args) (polys (out-Atom y).args)
factors_before xs ys i x y l h k ex ey w = let a = (factors_at xs ys i x y h k ex ey).0 (l.0 w) in (a.0, a.1)

pub factors_next : (xs ys : List Atom) (i : ℕ) (x y : Atom) → FactorsLeft xs ys i → i < length xs → i < length ys
    → x ≡ get_or xs i x → y ≡ get_or ys i y
    → (out-Atom x).head ≡ (out-Atom y).head → ArgumentsAtLeast (polys (out-Atom x).args) (polys (out-Atom y).args)
    → FactorsLeft xs ys (i + 1)
factors_next xs ys i x y l h k ex ey e w = let a = factors_at xs ys i x y h k ex ey in
    both_ways l (λ f. (a.0 f).2, λ f. a.1 (e, w, f))

pub factors_all : (xs ys : List Atom) (i : ℕ) → FactorsLeft xs ys i → length xs ≤ i → length ys ≤ i
    → FactorsAtLeast (product_of xs) (product_of ys)
factors_all xs ys i l h k = l.1 (subst₂ FactorsAtLeast (sym (product_ended xs i h)) (sym (product_ended ys i k)) tt)

pub factors_as_long : (xs ys : List Atom) → FactorsAtLeast (product_of xs) (product_of ys) → length xs ≡ length ys
factors_as_long [] [] w = omega arith
factors_as_long [] (y ∷ ys) w = absurd w
factors_as_long (x ∷ xs) [] w = absurd w
factors_as_long (x ∷ xs) (y ∷ ys) w = let e = factors_as_long xs ys w.2 in omega (arith, e)

pub factors_by_lists : (us vs : Atoms) (xs ys : List Atom) → xs ≡ factors us → ys ≡ factors vs
    → FactorsAtLeast (product_of xs) (product_of ys) ↔ FactorsAtLeast (atoms us) (atoms vs)
factors_by_lists us vs xs ys e k = let a = atoms_is us ∙ ap product_of (sym e) in let b = atoms_is vs ∙ ap product_of (sym k) in
    (subst₂ FactorsAtLeast (sym a) (sym b), subst₂ FactorsAtLeast a b)

-- the same for arguments
arguments_at : (xs ys : List Poly) (i : ℕ) (x y : Poly) → i < length xs → i < length ys → x ≡ get_or xs i x → y ≡ get_or ys i y
    → ArgumentsAtLeast (arguments_of (drop i xs)) (arguments_of (drop i ys))
    ↔ (AtLeast (poly x) (poly y) × ArgumentsAtLeast (arguments_of (drop (i + 1) xs)) (arguments_of (drop (i + 1) ys)))
arguments_at xs ys i x y h k ex ey = let a = arguments_drop xs i x h ex in let b = arguments_drop ys i y k ey in
    (subst₂ ArgumentsAtLeast a b, subst₂ ArgumentsAtLeast (sym a) (sym b))

pub arguments_before : (xs ys : List Poly) (i : ℕ) (x y : Poly) → ArgumentsLeft xs ys i → i < length xs → i < length ys
    → x ≡ get_or xs i x → y ≡ get_or ys i y
    → ArgumentsAtLeast (arguments_of xs) (arguments_of ys) → AtLeast (poly x) (poly y)
arguments_before xs ys i x y l h k ex ey w = ((arguments_at xs ys i x y h k ex ey).0 (l.0 w)).0

pub arguments_next : (xs ys : List Poly) (i : ℕ) (x y : Poly) → ArgumentsLeft xs ys i → i < length xs → i < length ys
    → x ≡ get_or xs i x → y ≡ get_or ys i y → AtLeast (poly x) (poly y) → ArgumentsLeft xs ys (i + 1)
arguments_next xs ys i x y l h k ex ey w = let a = arguments_at xs ys i x y h k ex ey in
    both_ways l (λ f. (a.0 f).1, λ f. a.1 (w, f))

pub arguments_all : (xs ys : List Poly) (i : ℕ) → ArgumentsLeft xs ys i → length xs ≤ i → length ys ≤ i
    → ArgumentsAtLeast (arguments_of xs) (arguments_of ys)
arguments_all xs ys i l h k = l.1 (subst₂ ArgumentsAtLeast (sym (arguments_ended xs i h)) (sym (arguments_ended ys i k)) tt)

pub arguments_as_long : (xs ys : List Poly) → ArgumentsAtLeast (arguments_of xs) (arguments_of ys) → length xs ≡ length ys
arguments_as_long [] [] w = omega arith
arguments_as_long [] (y ∷ ys) w = absurd w
arguments_as_long (x ∷ xs) [] w = absurd w
arguments_as_long (x ∷ xs) (y ∷ ys) w = let e = arguments_as_long xs ys w.1 in omega (arith, e)

pub arguments_by_lists : (ps qs : Polys) (xs ys : List Poly) → xs ≡ list ps → ys ≡ list qs
    → ArgumentsAtLeast (arguments_of xs) (arguments_of ys) ↔ ArgumentsAtLeast (polys ps) (polys qs)
arguments_by_lists ps qs xs ys e k = let a = polys_is ps ∙ ap arguments_of (sym e) in let b = polys_is qs ∙ ap arguments_of (sym k) in
    (subst₂ ArgumentsAtLeast (sym a) (sym b), subst₂ ArgumentsAtLeast a b)

-- the moves before a place are good
abbrev pub GoodBefore : Polynomial → Polynomial → List Move → ℕ → Type 0
GoodBefore left right xs i = (j : ℕ) (n : Transfer) → j < i → slice_get (transfers xs) j ≡ Some n → Good left right n

transfer_at : (xs : List Move) (i : ℕ) (d : Move) (n : Transfer) → i < length xs → slice_get (transfers xs) i ≡ Some n → transfer (get_or xs i d) ≡ n
transfer_at [] i d n h e = absurd (omega (arith, h))
transfer_at (x ∷ xs) zero d n h e = same_Some (transfer x) n e
transfer_at (x ∷ xs) (suc i) d n h e = transfer_at xs i d n (omega (arith, h)) e

pub good_next : (left right : Polynomial) (xs : List Move) (i : ℕ) (d : Move) → GoodBefore left right xs i → i < length xs
    → Good left right (transfer (get_or xs i d)) → GoodBefore left right xs (i + 1)
good_next left right xs i d before h good j n below e = elim (cases_lt j i) [
  | inl less ↦ before j n less e
  | inr more ↦
      let same : j ≡ i = omega (arith, below, more) in
      subst (Good left right) (transfer_at xs i d n h (subst (λ j. slice_get (transfers xs) j ≡ Some n) same e)) good
]

as_many_transfers : (xs : List Move) → length (transfers xs) ≡ length xs
as_many_transfers [] = omega arith
as_many_transfers (x ∷ xs) = let e = as_many_transfers xs in omega (arith, e)

at_contained : (ms : List Transfer) (k : ℕ) (m : Transfer) → k < length ms → get_or ms k m ≡ m → slice_get ms k ≡ Some m
at_contained [] k m h e = absurd (omega (arith, h))
at_contained (n ∷ ms) zero m h e = ap Some e
at_contained (n ∷ ms) (suc k) m h e = at_contained ms k m (omega (arith, h)) e

pub all_good : (left right : Polynomial) (xs : List Move) (i : ℕ) → GoodBefore left right xs i → length xs ≤ i → AreGood left right (transfers xs)
all_good left right xs i before past m (k, h, e) =
    let n = as_many_transfers xs in before k m (omega (arith, h, n, past)) (at_contained (transfers xs) k m h e)
