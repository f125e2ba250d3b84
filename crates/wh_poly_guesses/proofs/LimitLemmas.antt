-- The limits of certificates hold of the polynomials that are tried, and of the moves that are found.
use Rattle.std.proofs.Common.{◌≡◌, ℕ, zero, suc, ◌+◌, ◌<◌, ◌≤◌, ◌^◌, ◌==◌, inl, inr, nat_lt, Bool, true, false, not, cond, List, [], ◌∷◌, ◌++◌, length, map, Some, slice_get, unwrap_or, All, Contains, refl, ap, sym, subst, ◌∙◌, arith}
use Rattle.std.proofs.lemmas.Bool.Decides.{nat_tests}
use Rattle.std.proofs.lemmas.List.{length-take}
use Rattle.std.proofs.lemmas.List.Elements.{All-nil, All-cons, All-head, All-tail, All-contains, Contains-append_cases}
use Rattle.wh_types.specs.Ty.{Ty, sort, ◌⇒◌, arguments}
use Rattle.wh_text.specs.Words.{IsWord, IsName}
use Rattle.wh_terms.specs.Typing.{Symbols}
use Rattle.wh_terms.specs.Rules.{RewriteRule}
use Rattle.wh_system.specs.Needs.{need_of}
use Rattle.wh_system.specs.Systems.{SystemData}
use Rattle.wh_system.specs.WellMade.{ArgumentsWithin, IsTypeOver}
use Rattle.wh_pairs.proofs.ByPlace.{contains_at, place_of, unmap, remap}
use Rattle.wh_poly.specs.Polynomials.{Polynomial, zero_poly, plus, Factors, no_factors, Normal}
use Rattle.wh_hopoly.specs.Evaluation.{Run, Interpretation, type_at}
use Rattle.wh_poly.specs.Limits.{Overflows, Exceeds, weight}
use Rattle.wh_hopoly.specs.Moves.{Transfer, MonomialAt, given_by}
use Rattle.wh_hopoly.specs.Erase.{transfer, transfers}
use Rattle.wh_hopoly.specs.declared.expression.Move.{Move}
use Rattle.wh_polycheck.specs.Marks.{Mark, marked_types}
use Rattle.wh_cert.specs.PolyLimits.{IsBig, PolyFits, FactorsFit, PolysFit}
use Rattle.wh_cert.specs.Interps.{Interp}
use Rattle.wh_cert.specs.Limits.{InterpFits, MoveFits}
use Rattle.wh_proof.specs.Looked.{SayInterpretations, SayMarks}
use Rattle.wh_poly_space.specs.Space.{is_sort, variables_where, sort_variables, functional_variables, sum_of_variables, filled, variable_before, alone, both, products, space_of, IsOfSpace}
use Rattle.wh_poly_guesses.specs.Lines.{IsLine}
use Rattle.wh_pairs.proofs.SetLemmas.{all_from_members}

-- polynomials that are tried

is_big : (c : ℕ) → 1 ≤ c → c ≤ 3 → IsBig c
is_big c positive small = (positive, omega arith)

variable_below : (test : Ty → Bool) (n : ℕ) (Γ : List Ty) (x : ℕ) → Contains (variables_where test n Γ) x → x < n + length Γ
variable_below test n [] x (k, within, is) = absurd (omega arith)
variable_below test n (A ∷ Γ) x found = by (test A) (λ there. variable_below test (suc n) Γ x there) found
  where
    by : (b : Bool) → (Contains (variables_where test (suc n) Γ) x → x < suc n + length Γ)
        → Contains (cond b (n ∷ variables_where test (suc n) Γ) (variables_where test (suc n) Γ)) x → x < n + length (A ∷ Γ)
    by true later (zero, within, is) = omega (arith, is)
    by true later (suc k, within, is) = let h = later (k, omega arith, is) in omega (arith, h)
    by false later there = let h = later there in omega (arith, h)

sum_fits : (xs : List ℕ) (k : ℕ) → ((x : ℕ) → Contains xs x → x ≤ 65535) → PolyFits k (sum_of_variables xs)
sum_fits [] k low = tt
sum_fits (x ∷ xs) k low = (
  is_big 1 (omega arith) (omega arith),
  (low x (0, omega arith, refl), tt, tt),
  sum_fits xs k (λ y (i, within, is). low y (suc i, omega arith, is)),
)

filled_fits : (p : Polynomial) (A : Ty) → PolyFits 1 p → PolysFit 0 (filled p A)
filled_fits p (sort s) fits = tt
filled_fits p (A ⇒ B) fits = (omega arith, by (is_sort A), filled_fits p B fits)
  where
    by : (b : Bool) → PolyFits 1 (cond b p zero_poly)
    by true = fits
    by false = tt

module _ (Γ : List Ty) (few : length Γ ≤ 65536) where
  low : (test : Ty → Bool) (x : ℕ) → Contains (variables_where test 0 Γ) x → x ≤ 65535
  low test x found = let h = variable_below test 0 Γ x found in omega (arith, h, few)

  variable_fits : (x : ℕ) (us : Factors) → x ≤ 65535 → FactorsFit 0 us → FactorsFit 0 (variable_before Γ x us)
  variable_fits x us small rest =
      (small, filled_fits (sum_of_variables (sort_variables Γ)) (type_at Γ x) (sum_fits (sort_variables Γ) 1 (low is_sort)), rest)

  alone_fits : (x : ℕ) → x ≤ 65535 → FactorsFit 0 (alone Γ x)
  alone_fits x small = variable_fits x no_factors small tt

  both_fits : (x y : ℕ) → x ≤ 65535 → y ≤ 65535 → FactorsFit 0 (both Γ x y)
  both_fits x y a b = by (nat_lt x y)
    where
      by : (t : Bool) → FactorsFit 0 (cond t (variable_before Γ x (alone Γ y)) (variable_before Γ y (alone Γ x)))
      by true = variable_fits x (alone Γ y) a (alone_fits y b)
      by false = variable_fits y (alone Γ x) b (alone_fits x a)

  mapped_fits : (f : ℕ → Factors) (xs : List ℕ) → ((x : ℕ) → Contains xs x → FactorsFit 0 (f x)) → (us : Factors) → Contains (map f xs) us → FactorsFit 0 us
  mapped_fits f xs each us found =
      let at = place_of (map f xs) us found in
      let x = unmap f xs at.0 us at.1 in
      subst (FactorsFit 0) x.2 (each x.0 (contains_at xs at.0 x.0 x.1))

  products_fit : (xs : List ℕ) → ((x : ℕ) → Contains xs x → x ≤ 65535) → (us : Factors) → Contains (products Γ xs) us → FactorsFit 0 us
  products_fit [] small us (k, within, is) = absurd (omega arith)
  products_fit (x ∷ xs) small us found = elim (Contains-append_cases (map (both Γ x) (sort_variables Γ)) (products Γ xs) us found) [
    | inl here ↦ mapped_fits (both Γ x) (sort_variables Γ) (λ y there. both_fits x y (small x (0, omega arith, refl)) (low is_sort y there)) us here
    | inr later ↦ products_fit xs (λ y (i, within, is). small y (suc i, omega arith, is)) us later
  ]

  functional : Ty → Bool
  functional A = not (is_sort A)

  space_fits : (us : Factors) → Contains (space_of Γ) us → FactorsFit 0 us
  unfolding space_of
  space_fits us (zero, within, is) = subst (FactorsFit 0) is tt
  space_fits us (suc k, within, is) =
      elim (Contains-append_cases (map (alone Γ) (sort_variables Γ)) (map (alone Γ) (functional_variables Γ) ++ products Γ (functional_variables Γ)) us (k, omega arith, is)) [
        | inl sorted ↦ mapped_fits (alone Γ) (sort_variables Γ) (λ x there. alone_fits x (low is_sort x there)) us sorted
        | inr behind ↦ elim (Contains-append_cases (map (alone Γ) (functional_variables Γ)) (products Γ (functional_variables Γ)) us behind) [
          | inl single ↦ mapped_fits (alone Γ) (functional_variables Γ) (λ x there. alone_fits x (low (λ A. not (is_sort A)) x there)) us single
          | inr product ↦ products_fit (functional_variables Γ) (low (λ A. not (is_sort A))) us product
        ]
      ]

  monomial_positive : (p : Polynomial) (i c : ℕ) (us : Factors) → Normal Γ p → MonomialAt p i c us → 1 ≤ c
  monomial_positive zero_poly i c us normal at = absurd at
  monomial_positive (plus d vs p) zero c us normal at = omega (arith, normal.0, at.0)
  monomial_positive (plus d vs p) (suc i) c us normal at = monomial_positive p i c us normal.3 at

  each_fits : (p : Polynomial) → ((i c : ℕ) (us : Factors) → MonomialAt p i c us → IsBig c × FactorsFit 0 us) → PolyFits 0 p
  each_fits zero_poly each = tt
  each_fits (plus c us p) each = let h = each 0 c us (refl, refl) in (h.0, h.1, each_fits p (λ i. each (suc i)))

  pub tried_fits : (p : Polynomial) → IsOfSpace Γ p → PolyFits 0 p
  tried_fits p of = each_fits p (λ i c us at. let h = of.monomials c us (i, at) in (is_big c (monomial_positive p i c us of.normal at) h.0, space_fits us h.1))

-- a type has at most 32 arguments where no part of it has more

pub wide : (a : Ty) → ArgumentsWithin 32 a → length (arguments a) ≤ 32
wide (sort s) narrow = omega arith
wide (a ⇒ b) narrow = omega (arith, narrow.0)

abbrev IsNarrow : Ty → Type 0
IsNarrow a = length (arguments a) ≤ 65536

pub all_narrow : (sorts : ℕ) (kinds : List Ty) → All (IsTypeOver sorts) kinds → All IsNarrow kinds
all_narrow sorts kinds over = all_from_members IsNarrow kinds (λ a found. let h = wide a (All-contains (IsTypeOver sorts) kinds a over found).narrow in omega (arith, h))

type_narrow : (kinds : List Ty) → All IsNarrow kinds → (f : ℕ) → IsNarrow (type_at kinds f)
type_narrow [] narrow f = omega arith
type_narrow (a ∷ kinds) narrow zero = All-head IsNarrow a kinds narrow
type_narrow (a ∷ kinds) narrow (suc f) = type_narrow kinds (All-tail IsNarrow a kinds narrow) f

marked_narrow : (S : Symbols) (rules : List RewriteRule) (f : ℕ) → All IsNarrow S.funs → length (marked_types S rules f) ≤ 65536
marked_narrow S rules f narrow =
    let h = type_narrow S.funs narrow f in omega (arith, h, length-take (unwrap_or (need_of rules f) 0) (arguments (type_at S.funs f)))

-- the lines of interpretations

pub symbols_fit : (names : List (List ℕ)) (kinds : List Ty) (lines : List Interp) (symbols : List Interpretation) → SayInterpretations names kinds lines symbols
    → All IsName names → All IsNarrow kinds → All (λ s. IsOfSpace (arguments s.kind) s.polynomial) symbols → All InterpFits lines
symbols_fit [] [] [] [] says named narrow of = All-nil InterpFits
symbols_fit (n ∷ names) (a ∷ kinds) (l ∷ lines) (s ∷ symbols) (name, kind, polynomial, rest) named narrow of =
    let few = subst IsNarrow (sym kind) (All-head IsNarrow a kinds narrow) in
    let fits = tried_fits (arguments s.kind) few s.polynomial (All-head (λ s. IsOfSpace (arguments s.kind) s.polynomial) s symbols of) in
    All-cons InterpFits l lines
    (record { name = subst IsWord (sym name) (All-head IsName n names named).word; poly = subst (PolyFits 0) polynomial fits })
    (symbols_fit names kinds lines symbols rest (All-tail IsName n names named) (All-tail IsNarrow a kinds narrow) (All-tail (λ s. IsOfSpace (arguments s.kind) s.polynomial) s symbols of))
symbols_fit [] [] [] (s ∷ symbols) says named narrow of = absurd says
symbols_fit [] [] (l ∷ lines) symbols says named narrow of = absurd says
symbols_fit [] (a ∷ kinds) lines symbols says named narrow of = absurd says
symbols_fit (n ∷ names) [] lines symbols says named narrow of = absurd says
symbols_fit (n ∷ names) (a ∷ kinds) [] symbols says named narrow of = absurd says
symbols_fit (n ∷ names) (a ∷ kinds) (l ∷ lines) [] says named narrow of = absurd says

pub marks_fit : (d : SystemData) (lines : List Interp) (marks : List Mark) → SayMarks d lines marks → All IsName d.fun_names → All IsNarrow d.symbols.funs
    → All (λ m. IsOfSpace (marked_types d.symbols d.rules m.symbol) m.polynomial) marks → All InterpFits lines
marks_fit d [] [] says named narrow of = All-nil InterpFits
marks_fit d (l ∷ lines) (m ∷ marks) (here, rest) named narrow of =
    let Γ = marked_types d.symbols d.rules m.symbol in
    let fits = tried_fits Γ (marked_narrow d.symbols d.rules m.symbol narrow) m.polynomial (All-head (λ m. IsOfSpace (marked_types d.symbols d.rules m.symbol) m.polynomial) m marks of) in
    let name = All-contains IsName d.fun_names l.name named (contains_at d.fun_names m.symbol l.name here.named) in
    All-cons InterpFits l lines
    (record { name = name.word; poly = subst (PolyFits 0) here.polynomial fits })
    (marks_fit d lines marks rest named narrow (All-tail (λ m. IsOfSpace (marked_types d.symbols d.rules m.symbol) m.polynomial) m marks of))
marks_fit d [] (m ∷ marks) says named narrow of = absurd says
marks_fit d (l ∷ lines) [] says named narrow of = absurd says

pub as_many_symbols : (names : List (List ℕ)) (kinds : List Ty) (lines : List Interp) (symbols : List Interpretation) → SayInterpretations names kinds lines symbols → length lines ≡ length names
as_many_symbols [] [] [] [] says = refl
as_many_symbols (n ∷ names) (a ∷ kinds) (l ∷ lines) (s ∷ symbols) (name, kind, polynomial, rest) = ap suc (as_many_symbols names kinds lines symbols rest)
as_many_symbols [] [] [] (s ∷ symbols) says = absurd says
as_many_symbols [] [] (l ∷ lines) symbols says = absurd says
as_many_symbols [] (a ∷ kinds) lines symbols says = absurd says
as_many_symbols (n ∷ names) [] lines symbols says = absurd says
as_many_symbols (n ∷ names) (a ∷ kinds) [] symbols says = absurd says
as_many_symbols (n ∷ names) (a ∷ kinds) (l ∷ lines) [] says = absurd says

pub as_many_marks : (d : SystemData) (lines : List Interp) (marks : List Mark) → SayMarks d lines marks → length lines ≡ length marks
as_many_marks d [] [] says = refl
as_many_marks d (l ∷ lines) (m ∷ marks) (here, rest) = ap suc (as_many_marks d lines marks rest)
as_many_marks d [] (m ∷ marks) says = absurd says
as_many_marks d (l ∷ lines) [] says = absurd says

-- a marked symbol that is said has a name
pub said_named : (d : SystemData) (lines : List Interp) (marks : List Mark) → SayMarks d lines marks → (m : Mark) → Contains marks m → (name : List ℕ) × (slice_get d.fun_names m.symbol ≡ Some name)
said_named d [] [] says m (k, within, is) = absurd (omega arith)
said_named d (l ∷ lines) (n ∷ marks) (here, rest) m (zero, within, is) = (l.name, ap (λ (m : Mark). slice_get d.fun_names m.symbol) (sym is) ∙ here.named)
said_named d (l ∷ lines) (n ∷ marks) (here, rest) m (suc k, within, is) = said_named d lines marks rest m (k, omega arith, is)
said_named d [] (n ∷ marks) says m found = absurd says
said_named d (l ∷ lines) [] says m found = absurd says

-- moves

monomial_within : (p : Polynomial) (i c : ℕ) (us : Factors) → MonomialAt p i c us → i < weight p
monomial_within zero_poly i c us at = absurd at
monomial_within (plus d vs p) zero c us at = omega arith
monomial_within (plus d vs p) (suc i) c us at = let h = monomial_within p i c us at in omega (arith, h)

coefficient_within : (p : Polynomial) (i c : ℕ) (us : Factors) → MonomialAt p i c us → (Overflows p → ⊥) → c < 2 ^ 128
coefficient_within zero_poly i c us at fits = absurd at
coefficient_within (plus d vs p) zero c us at fits = let h : 2 ^ 128 ≤ d → ⊥ = λ more. fits (inl more) in omega (arith, h, at.0)
coefficient_within (plus d vs p) (suc i) c us at fits = coefficient_within p i c us at (λ h. fits (inr h))

amount_given : (ms : List Transfer) (m : Transfer) → Contains ms m → m.amount ≤ given_by m.from ms
amount_given [] m (k, within, is) = absurd (omega arith)
amount_given (n ∷ ms) m (zero, within, is) =
    let t : (n.from == m.from) ≡ true = let e = ap (λ (m : Transfer). m.from) is in grind (arith, nat_tests, e) in
    let a = ap (λ (m : Transfer). m.amount) is in
    subst (λ (b : Bool). m.amount ≤ cond b (n.amount + given_by m.from ms) (given_by m.from ms)) (sym t) (omega (arith, a))
amount_given (n ∷ ms) m (suc k, within, is) =
    let h = amount_given ms m (k, omega arith, is) in by (n.from == m.from) h
  where
    by : (b : Bool) → m.amount ≤ given_by m.from ms → m.amount ≤ cond b (n.amount + given_by m.from ms) (given_by m.from ms)
    by true h = omega (arith, h)
    by false h = h

light : (p : Polynomial) → (Exceeds p → ⊥) → weight p ≤ 65536
light p fits = let h : 65536 < weight p → ⊥ = λ more. fits (inr (inl more)) in omega (arith, h)

pub moves_fit : (a b : Run Polynomial) (ms : List Move) → IsLine a b (transfers ms) → All MoveFits ms
moves_fit a b ms line = all_from_members MoveFits ms (λ m found.
    let at = place_of ms m found in
    let there = contains_at (transfers ms) at.0 (transfer m) (remap transfer ms at.0 m at.1) in
    let good = line.moves.cover.good (transfer m) there in
    let from = monomial_within a.result m.from good.given good.giver good.source in
    let to = monomial_within b.result m.to good.taken good.taker good.target in
    let left = light a.result line.left_side.fits in
    let right = light b.result line.right_side.fits in
    let given = amount_given (transfers ms) (transfer m) there in
    let spent = line.moves.cover.not_over_spent m.from good.given good.giver good.source in
    let small = coefficient_within a.result m.from good.given good.giver good.source (λ h. line.left_side.fits (inl h)) in
    let positive = All-contains (λ m. 1 ≤ m.amount) (transfers ms) (transfer m) line.moves.positive there in
    record {
      from = omega (arith, from, left);
      to = omega (arith, to, right);
      amount = (positive, omega (arith, given, spent, small));
    })
