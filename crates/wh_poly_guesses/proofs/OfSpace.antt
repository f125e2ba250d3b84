-- Interpretations of the space by the lists of their coefficients.
use Rattle.std.proofs.Common.{◌≡◌, ℕ, zero, suc, ◌+◌, ◌≤◌, List, [], ◌∷◌, ◌++◌, map, length, get_or, Some, slice_get, refl, ap, sym, subst, ◌∙◌, arith}
use Rattle.std.proofs.lemmas.List.{length-map}
use Rattle.std.proofs.lemmas.List.Elements.{All-contains}
use Rattle.std.proofs.lemmas.Option.{get_or_from_slice_get}
use Rattle.wh_types.specs.Ty.{Ty, arguments}
use Rattle.wh_terms.specs.Typing.{Symbols}
use Rattle.wh_terms.specs.Rules.{RewriteRule}
use Rattle.wh_reduction_pairs.specs.TaskData.{TaskData}
use Rattle.wh_polycheck.specs.Readings.{ReadingsData}
use Rattle.wh_pairs.proofs.ByPlace.{contains_at, remap}
use Rattle.wh_poly.specs.Polynomials.{Polynomial, Factors}
use Rattle.wh_hopoly.specs.Evaluation.{Interpretation}
use Rattle.wh_poly.specs.Rearranged.{coefficient}
use Rattle.wh_polycheck.specs.Marks.{Mark, marked_types}
use Rattle.wh_polycheck.proofs.MoreInterpretations.{slice_get_front, slice_get_behind}
use Rattle.wh_poly_space.specs.Space.{HasMonomial, IsOfSpace, space_of}
use Rattle.wh_poly_space.specs.Coefficients.{capped, HasCoefficients}
use Rattle.wh_poly_guesses.specs.Coefficients.{scopes_of, HaveCoefficients, AreOfSpace}
use Rattle.wh_poly_guesses.proofs.Uniqueness.{coefficient_is, monomial_of, monomial_at_least}

-- the coefficients of a polynomial, one for each monomial of the space

abbrev pub coefficients : List Ty → Polynomial → List ℕ
coefficients Γ p = map (λ us. coefficient us p) (space_of Γ)

pub capped_small : (c : ℕ) → c ≤ 3 → capped c ≡ c
capped_small c small = grind arith

pub small_coefficient : (Γ : List Ty) (p : Polynomial) → IsOfSpace Γ p → (us : Factors) → coefficient us p ≤ 3
small_coefficient Γ p of us = go (coefficient us p) refl
  where
    go : (c : ℕ) → coefficient us p ≡ c → c ≤ 3
    go zero e = omega arith
    go (suc c) e = (of.monomials (suc c) us (subst (λ c. HasMonomial p c us) e (monomial_of Γ p us of.normal (omega (arith, e))))).0

pub has_coefficients : (Γ : List Ty) (p : Polynomial) → IsOfSpace Γ p → HasCoefficients Γ (coefficients Γ p) p
has_coefficients Γ p of = record {
  of_space = of;
  each = λ j c us at. (
    λ found. (
      sym (coefficient_is Γ p c us of.normal found) ∙ sym (read j us at),
      monomial_at_least Γ p c us of.normal found,
    ),
    λ is. let e : c ≡ coefficient us p = is.0 ∙ read j us at in
        subst (λ c. HasMonomial p c us) (sym e) (monomial_of Γ p us of.normal (omega (arith, e, is.1))),
  );
}
  where
    read : (j : ℕ) (us : Factors) → slice_get (space_of Γ) j ≡ Some us → capped (get_or (coefficients Γ p) j 0) ≡ coefficient us p
    read j us at =
        ap capped (get_or_from_slice_get (coefficients Γ p) j (coefficient us p) 0 (remap (λ us. coefficient us p) (space_of Γ) j us at))
        ∙ capped_small (coefficient us p) (small_coefficient Γ p of us)

-- lists of numbers to 3, one for each scope, with a number for each monomial of its space

abbrev pub AreSmall : List ℕ → Type 0
AreSmall [] = Unit {0}
AreSmall (c ∷ cs) = (c ≤ 3) × AreSmall cs

are_small : (p : Polynomial) (l : List Factors) → ((us : Factors) → coefficient us p ≤ 3) → AreSmall (map (λ us. coefficient us p) l)
are_small p [] small = tt
are_small p (us ∷ l) small = (small us, are_small p l small)

abbrev pub AreListsFor : List (List Ty) → List (List ℕ) → Type 0
AreListsFor [] [] = Unit {0}
AreListsFor (Γ ∷ scopes) (cs ∷ lists) = (length cs ≡ length (space_of Γ)) × AreSmall cs × AreListsFor scopes lists
AreListsFor _ _ = ⊥

lists_append : (G H : List (List Ty)) (L M : List (List ℕ)) → AreListsFor G L → AreListsFor H M → AreListsFor (G ++ H) (L ++ M)
lists_append [] H [] M f g = g
lists_append [] H (cs ∷ L) M f g = absurd f
lists_append (Γ ∷ G) H [] M f g = absurd f
lists_append (Γ ∷ G) H (cs ∷ L) M f g = (f.0, f.1, lists_append G H L M f.2 g)

coefficients_for : (Γ : List Ty) (p : Polynomial) → IsOfSpace Γ p
    → (length (coefficients Γ p) ≡ length (space_of Γ)) × AreSmall (coefficients Γ p)
coefficients_for Γ p of = (length-map (space_of Γ) (λ us. coefficient us p), are_small p (space_of Γ) (small_coefficient Γ p of))

-- what is asked of an interpretation and of a mark

abbrev pub IsSymbolOfSpace : Interpretation → Type 0
IsSymbolOfSpace s = IsOfSpace (arguments s.kind) s.polynomial

abbrev pub IsMarkOfSpace : Symbols → List RewriteRule → Mark → Type 0
IsMarkOfSpace S rules m = IsOfSpace (marked_types S rules m.symbol) m.polynomial

abbrev pub symbol_coefficients : Interpretation → List ℕ
symbol_coefficients s = coefficients (arguments s.kind) s.polynomial

symbols_for : (symbols : List Interpretation) → ((f : ℕ) (s : Interpretation) → slice_get symbols f ≡ Some s → IsSymbolOfSpace s)
    → AreListsFor (map arguments (map (λ s. s.kind) symbols)) (map symbol_coefficients symbols)
symbols_for [] of = tt
symbols_for (s ∷ symbols) of =
    let here = coefficients_for (arguments s.kind) s.polynomial (of 0 s refl) in
    (here.0, here.1, symbols_for symbols (λ f t at. of (suc f) t at))

module _ (T : TaskData) where
  abbrev pub mark_coefficients : Mark → List ℕ
  mark_coefficients m = coefficients (marked_types T.symbols T.rules m.symbol) m.polynomial

  marks_for : (marks : List Mark) → ((i : ℕ) (m : Mark) → slice_get marks i ≡ Some m → IsMarkOfSpace T.symbols T.rules m)
      → AreListsFor (map (marked_types T.symbols T.rules) (map (λ m. m.symbol) marks)) (map mark_coefficients marks)
  marks_for [] of = tt
  marks_for (m ∷ marks) of =
      let here = coefficients_for (marked_types T.symbols T.rules m.symbol) m.polynomial (of 0 m refl) in
      (here.0, here.1, marks_for marks (λ i n at. of (suc i) n at))

  abbrev pub all_lists : ReadingsData → List (List ℕ)
  all_lists R = map symbol_coefficients R.symbols ++ map mark_coefficients R.marks

  module _ (R : ReadingsData) (are : AreOfSpace T R) where
    -- what is of the space, by places
    pub each_symbol : (f : ℕ) (s : Interpretation) → slice_get R.symbols f ≡ Some s → IsSymbolOfSpace s
    each_symbol f s at = All-contains IsSymbolOfSpace R.symbols s are.symbols_of_space (contains_at R.symbols f s at)

    pub each_mark : (i : ℕ) (m : Mark) → slice_get R.marks i ≡ Some m → IsMarkOfSpace T.symbols T.rules m
    each_mark i m at = All-contains (IsMarkOfSpace T.symbols T.rules) R.marks m are.marks_of_space (contains_at R.marks i m at)

    pub all_for : AreListsFor (scopes_of T (map (λ m. m.symbol) R.marks)) (all_lists R)
    all_for =
        subst (λ funs. AreListsFor (map arguments funs ++ map (marked_types T.symbols T.rules) (map (λ m. m.symbol) R.marks)) (all_lists R)) are.readings.kinds
        (lists_append (map arguments (map (λ s. s.kind) R.symbols)) (map (marked_types T.symbols T.rules) (map (λ m. m.symbol) R.marks))
        (map symbol_coefficients R.symbols) (map mark_coefficients R.marks) (symbols_for R.symbols each_symbol) (marks_for R.marks each_mark))

    pub have_coefficients : HaveCoefficients T (all_lists R) R
    have_coefficients = record {
      of_symbols = λ f s at.
          let there = slice_get_front (map symbol_coefficients R.symbols) (map mark_coefficients R.marks) f (symbol_coefficients s)
          (remap symbol_coefficients R.symbols f s at) in
          let is = get_or_from_slice_get (all_lists R) f (symbol_coefficients s) [] there in
          subst (λ cs. HasCoefficients (arguments s.kind) cs s.polynomial) (sym is)
          (has_coefficients (arguments s.kind) s.polynomial (each_symbol f s at));
      of_marks = λ i m at.
          let count : length R.symbols + i ≡ length (map symbol_coefficients R.symbols) + i =
          ap (λ n. n + i) (sym (length-map R.symbols symbol_coefficients)) in
          let there : slice_get (all_lists R) (length R.symbols + i) ≡ Some (mark_coefficients m) =
          ap (slice_get (all_lists R)) count ∙ slice_get_behind (map symbol_coefficients R.symbols) (map mark_coefficients R.marks) i
          ∙ remap mark_coefficients R.marks i m at in
          let is = get_or_from_slice_get (all_lists R) (length R.symbols + i) (mark_coefficients m) [] there in
          subst (λ cs. HasCoefficients (marked_types T.symbols T.rules m.symbol) cs m.polynomial) (sym is)
          (has_coefficients (marked_types T.symbols T.rules m.symbol) m.polynomial (each_mark i m at));
    }
