-- The coefficients of polynomials of the space.
use Rattle.std.proofs.Common.{◌≡◌, ◌≢◌, inl, inr, ℕ, zero, suc, ◌+◌, ◌<◌, ◌≤◌, nat_lt, Bool, true, false, if◌then◌else◌, List, [], ◌∷◌, ◌++◌, map, length, replicate, set, get_or, Vec, Global, Some, slice_get, refl, ap, sym, subst, ◌∙◌, arith}
use mathlib.Core.Path.{subst₂}
use Rattle.std.proofs.lemmas.List.{length-map, length-set, get_or-set_same, get_or-set_other, set_past}
use Rattle.std.proofs.lemmas.List.Elements.{All-contains}
use Rattle.std.proofs.lemmas.Bool.{cases_eq}
use Rattle.std.proofs.lemmas.Bool.Decides.{nat_tests}
use Rattle.std.proofs.lemmas.Option.{get_or_from_slice_get}
use Rattle.wh_types.specs.Ty.{Ty, arguments}
use Rattle.wh_terms.specs.Typing.{Symbols}
use Rattle.wh_terms.specs.Rules.{RewriteRule}
use Rattle.wh_reduction_pairs.specs.TaskData.{TaskData}
use Rattle.wh_polycheck.specs.Readings.{ReadingsData}
use Rattle.wh_pairs.proofs.ByPlace.{contains_at, place_of, remap, some_one}
use Rattle.wh_poly.specs.Polynomials.{Polynomial, zero_poly, plus, Factors}
use Rattle.wh_hopoly.specs.Evaluation.{Interpretation}
use Rattle.wh_hopoly.specs.Erase.{interpretations}
use Rattle.wh_hopoly.specs.declared.expression.Symbol.{Symbol}
use Rattle.wh_hopoly.specs.Moves.{MonomialAt}
use Rattle.wh_hopoly.specs.Covers.{Has, AtLeast}
use Rattle.wh_poly.specs.Rearranged.{coefficient}
use Rattle.wh_poly.proofs.SumLaws.{normal_sorted}
use Rattle.wh_polycheck.specs.Marks.{Mark, marked_types}
use Rattle.wh_polycheck.specs.SideResults.{marks_of}
use Rattle.wh_polycheck.specs.declared.marks.MarkedSymbol.{MarkedSymbol}
use Rattle.wh_polycheck.proofs.MoreInterpretations.{slice_get_front, slice_get_behind}
use Rattle.wh_poly_meaning.proofs.AtLeast.{at_least_den}
use Rattle.wh_poly_growth.specs.Below.{IsBelow, AreBelow}
use Rattle.wh_poly_space.specs.Space.{HasMonomial, IsOfSpace, space_of}
use Rattle.wh_poly_space.specs.Coefficients.{capped, HasCoefficients}
use Rattle.wh_poly_guesses.specs.Coefficients.{scopes_of, HaveCoefficients, AreOfSpace}
use Rattle.wh_poly_guesses.specs.Reads.{IsChanged, list_of}
use Rattle.wh_poly_guesses.proofs.ReadLemmas.{have_coefficients as have_read, symbols_have, marks_have}
use Rattle.wh_poly_guesses.proofs.OfSpace.{AreSmall, AreListsFor, all_lists, all_for, have_coefficients}
use Rattle.wh_poly_ranges.specs.Excluded.{coefficient_in, AreAtMost, LieIn}
use Rattle.wh_poly_ranges.specs.Bounds.{IsSetTo}
use Rattle.wh_poly_guesses.proofs.Uniqueness.{coefficient_is, monomial_of, monomial_at_least}

-- what has at most the coefficients of another is below it

has_at : (q : Polynomial) (i d c : ℕ) (us : Factors) → MonomialAt q i d us → c ≤ d → Has q c us
has_at zero_poly i d c us at less = absurd at
has_at (plus e ws q) zero d c us at less = inl (at.1, omega (arith, at.0, less))
has_at (plus e ws q) (suc i) d c us at less = inr (has_at q i d c us at less)

at_least_each : (q p : Polynomial) → ((i c : ℕ) (us : Factors) → MonomialAt p i c us → Has q c us) → AtLeast q p
at_least_each q zero_poly each = tt
at_least_each q (plus c us p) each = (each 0 c us (refl, refl), at_least_each q p (λ i d vs at. each (suc i) d vs at))

capped_more : (c d : ℕ) → c ≤ d → capped c ≤ capped d
capped_more c d less = by (nat_lt 3 c) (nat_lt 3 d) refl refl
  where
    by : (a b : Bool) → nat_lt 3 c ≡ a → nat_lt 3 d ≡ b → (if a then 3 else c) ≤ (if b then 3 else d)
    by true true s t = omega arith
    by false false s t = less
    by true false s t =
        let large : 3 < c = grind (arith, nat_tests, s) in
        let small : d ≤ 3 = grind (arith, nat_tests, t) in
        absurd (omega (arith, large, small, less))
    by false true s t = let small : c ≤ 3 = grind (arith, nat_tests, s) in small

pub below_by_coefficients : (Γ : List Ty) (cs ds : List ℕ) (p q : Polynomial) → HasCoefficients Γ cs p → HasCoefficients Γ ds q
    → ((j : ℕ) → get_or cs j 0 ≤ get_or ds j 0) → IsBelow Γ p q
below_by_coefficients Γ cs ds p q has also less ψ =
    at_least_den Γ ψ q p (normal_sorted Γ q also.of_space.normal) (normal_sorted Γ p has.of_space.normal) (at_least_each q p each)
  where
    each : (i c : ℕ) (us : Factors) → MonomialAt p i c us → Has q c us
    each i c us at =
        let (j, there) = place_of (space_of Γ) us (has.of_space.monomials c us (i, at)).1 in
        let is = (has.each j c us there).0 (i, at) in
        let d = capped (get_or ds j 0) in
        let more : c ≤ d = omega (arith, is.0, capped_more (get_or cs j 0) (get_or ds j 0) (less j)) in
        let found = (also.each j d us there).1 (refl, omega (arith, is.1, more)) in
        has_at q found.0 d c us found.1 more

-- places of lists of the same kinds

same_kind : {A B : Type 0} (f : A → B) (xs ys : List A) (i : ℕ) (x y : A) → map f xs ≡ map f ys
    → slice_get xs i ≡ Some x → slice_get ys i ≡ Some y → f x ≡ f y
same_kind f xs ys i x y same at there = some_one (remap f xs i x at) (ap (λ l. slice_get l i) same ∙ remap f ys i y there)

same_length : {A B : Type 0} (f : A → B) (xs ys : List A) → map f xs ≡ map f ys → length xs ≡ length ys
same_length f xs ys same = sym (length-map xs f) ∙ ap length same ∙ length-map ys f

pub lists_below : (T : TaskData) (ls hs : List (List ℕ)) (low high : ReadingsData)
    → map (λ s. s.kind) low.symbols ≡ map (λ s. s.kind) high.symbols → map (λ m. m.symbol) low.marks ≡ map (λ m. m.symbol) high.marks
    → HaveCoefficients T ls low → HaveCoefficients T hs high → AreAtMost ls hs → AreBelow T.symbols T.rules low high
lists_below T ls hs low high kinds symbols has_low has_high most = record {
  of_symbols = record {
    kinds = kinds;
    each = λ f s t at there.
        let same = same_kind (λ (s : Interpretation). s.kind) low.symbols high.symbols f s t kinds at there in
        let has = subst (λ A. HasCoefficients (arguments A) (get_or hs f []) t.polynomial) (sym same) (has_high.of_symbols f t there) in
        below_by_coefficients (arguments s.kind) (get_or ls f []) (get_or hs f []) s.polynomial t.polynomial
        (has_low.of_symbols f s at) has (most f);
  };
  of_marks = record {
    symbols = symbols;
    each = λ i m n at there.
        let count = length low.symbols in
        let same = same_kind (λ (m : Mark). m.symbol) low.marks high.marks i m n symbols at there in
        let place : length high.symbols + i ≡ count + i = omega (arith, same_length (λ (s : Interpretation). s.kind) low.symbols high.symbols kinds) in
        let has = subst (λ g. HasCoefficients (marked_types T.symbols T.rules g) (get_or hs (count + i) []) n.polynomial) (sym same)
        (subst (λ k. HasCoefficients (marked_types T.symbols T.rules n.symbol) (get_or hs k []) n.polynomial) place (has_high.of_marks i n there)) in
        below_by_coefficients (marked_types T.symbols T.rules m.symbol) (get_or ls (count + i) []) (get_or hs (count + i) [])
        m.polynomial n.polynomial (has_low.of_marks i m at) has (most (count + i));
  };
}

-- all coefficients of the space are 0 to 3

abbrev equal_lists : ℕ → List (List Ty) → List (List ℕ)
equal_lists c scopes = map (λ size. replicate size c) (map (λ Γ. length (space_of Γ)) scopes)

equal_at : {A : Type 0} (k j : ℕ) (x : A) → get_or (replicate k x) j x ≡ x
equal_at zero j x = refl
equal_at (suc k) zero x = refl
equal_at (suc k) (suc j) x = equal_at k j x

nothing_in : (scopes : List (List Ty)) (n j : ℕ) → coefficient_in (equal_lists 0 scopes) n j ≡ 0
nothing_in [] n j = refl
nothing_in (Γ ∷ scopes) zero j = equal_at (length (space_of Γ)) j 0
nothing_in (Γ ∷ scopes) (suc n) j = nothing_in scopes n j

at_most_three : (cs : List ℕ) (k j : ℕ) → length cs ≡ k → AreSmall cs → get_or cs j 0 ≤ get_or (replicate k 3) j 0
at_most_three [] k j long small = omega arith
at_most_three (c ∷ cs) zero j long small = absurd (omega (arith, long))
at_most_three (c ∷ cs) (suc k) zero long small = small.0
at_most_three (c ∷ cs) (suc k) (suc j) long small = at_most_three cs k j (omega (arith, long)) small.1

all_at_most : (scopes : List (List Ty)) (lists : List (List ℕ)) → AreListsFor scopes lists → AreAtMost lists (equal_lists 3 scopes)
all_at_most [] [] fit n j = omega arith
all_at_most [] (cs ∷ lists) fit n j = absurd fit
all_at_most (Γ ∷ scopes) [] fit n j = absurd fit
all_at_most (Γ ∷ scopes) (cs ∷ lists) fit zero j = at_most_three cs (length (space_of Γ)) j fit.0 fit.1
all_at_most (Γ ∷ scopes) (cs ∷ lists) fit (suc n) j = all_at_most scopes lists fit.2 n j

pub all_lie : (T : TaskData) (R : ReadingsData) → AreOfSpace T R
    → (lists : List (List ℕ)) × HaveCoefficients T lists R
    × LieIn (map (λ size. replicate size 0) (map (λ Γ. length (space_of Γ)) (scopes_of T (map (λ m. m.symbol) R.marks))))
    (map (λ size. replicate size 3) (map (λ Γ. length (space_of Γ)) (scopes_of T (map (λ m. m.symbol) R.marks)))) lists
all_lie T R are =
    let scopes = scopes_of T (map (λ m. m.symbol) R.marks) in (
      all_lists T R,
      have_coefficients T R are,
      record {
        above = λ n j. let none = nothing_in scopes n j in omega (arith, none);
        below = all_at_most scopes (all_lists T R) (all_for T R are);
      },
    )

-- one coefficient gets another value

abbrev pub set_in : List (List ℕ) → ℕ → ℕ → ℕ → List (List ℕ)
set_in lists n j value = set lists n (set (get_or lists n []) j value)

-- all other lists are the same
pub other_lists : (lists : List (List ℕ)) (n j value k : ℕ) → k ≢ n → get_or (set_in lists n j value) k [] ≡ get_or lists k []
other_lists lists n j value k apart = get_or-set_other lists n k (set (get_or lists n []) j value) [] apart

-- the list itself, also where there is none
pub this_list : (lists : List (List ℕ)) (n j value : ℕ) → get_or (set_in lists n j value) n [] ≡ set (get_or lists n []) j value
this_list [] n j value = refl
this_list (cs ∷ lists) zero j value = refl
this_list (cs ∷ lists) (suc n) j value = this_list lists n j value

pub is_set : (lists : List (List ℕ)) (n j value : ℕ) → IsSetTo n j value lists (set_in lists n j value)
is_set lists n j value = record {
  sizes = λ m. elim (cases_eq m n) [
    | inl same ↦ ap (λ k. length (get_or (set_in lists n j value) k [])) same ∙ ap length (this_list lists n j value)
        ∙ length-set (get_or lists n []) j value ∙ sym (ap (λ k. length (get_or lists k [])) same)
    | inr apart ↦ ap length (other_lists lists n j value m apart)
  ];
  here = λ has. ap (λ l. get_or l j 0) (this_list lists n j value) ∙ get_or-set_same (get_or lists n []) j value 0 has;
  others = λ m i apart. elim apart [
    | inl list ↦ ap (λ l. get_or l i 0) (other_lists lists n j value m list)
    | inr place ↦ elim (cases_eq m n) [
      | inl same ↦
          ap (λ k. coefficient_in (set_in lists n j value) k i) same ∙ ap (λ l. get_or l i 0) (this_list lists n j value)
          ∙ get_or-set_other (get_or lists n []) j i value 0 place ∙ sym (ap (λ k. coefficient_in lists k i) same)
      | inr list ↦ ap (λ l. get_or l i 0) (other_lists lists n j value m list)
    ]
  ];
}

-- so of lists that were written in the program
pub is_written : (n j value : ℕ) (lists old new : List (List ℕ)) → old ≡ lists → new ≡ set_in old n j value → IsSetTo n j value lists new
is_written n j value lists old new same is = subst₂ (λ l m. IsSetTo n j value l m) same (sym is) (is_set old n j value)

-- a list among vectors is written
pub vectors_set : (lists : List (Vec ℕ Global)) (n j value : ℕ) (old new : Vec ℕ Global) → n < length lists → old ≡ get_or lists n old
    → new.items ≡ set old.items j value
    → map (λ (l : Vec ℕ Global). l.items) (set lists n new) ≡ set_in (map (λ (l : Vec ℕ Global). l.items) lists) n j value
vectors_set [] n j value old new within is changed = absurd (omega (arith, within))
vectors_set (l ∷ lists) zero j value old new within is changed =
    ap (λ cs. cs ∷ map (λ (l : Vec ℕ Global). l.items) lists) (changed ∙ ap (λ (l : Vec ℕ Global). set l.items j value) is)
vectors_set (l ∷ lists) (suc n) j value old new within is changed =
    ap (λ ls. l.items ∷ ls) (vectors_set lists n j value old new (omega (arith, within)) is changed)

-- what was read by the lists is read by those with the new value
pub read_anew : (T : TaskData) (lists new : List (List ℕ)) (n j value : ℕ) (cs : List ℕ)
    (xs ys : List Symbol) (ms ns : List MarkedSymbol)
    → HaveCoefficients T lists (record { symbols = interpretations xs; marks = marks_of ms })
    → new ≡ set_in lists n j value → cs ≡ get_or new n [] → IsChanged T.symbols T.rules n cs xs ms ys ns
    → HaveCoefficients T new (record { symbols = interpretations ys; marks = marks_of ns })
read_anew T lists new n j value cs xs ys ms ns have is here changed =
    let step = changed (list_of lists) (list_of new) (sym here)
    (λ k apart. ap (λ l. get_or l k []) is ∙ other_lists lists n j value k apart)
    (symbols_have T lists xs ms have) (marks_have T lists xs ms have) in
    have_read T new ys ns (length ys) step.0 step.1 refl

-- where there is no such list, nothing changes
pub set_nowhere : (lists new : List (List ℕ)) (n j value : ℕ) → new ≡ set_in lists n j value → length new ≤ n → new ≡ lists
set_nowhere lists new n j value is past =
    let short : length lists ≤ n = omega (arith, past, ap length is, length-set lists n (set (get_or lists n []) j value)) in
    is ∙ set_past lists n (set (get_or lists n []) j value) short
