-- Sides mean more where symbols do.
use Rattle.std.proofs.Common.{◌≡◌, ℕ, suc, ◌==◌, Bool, if◌then◌else◌, List, [], ◌∷◌, ◌++◌, map, length, refl, ap, sym, subst, ◌∙◌, ◌≤◌, Some, slice_get}
use Rattle.std.proofs.lemmas.Option.{none-some}
use mathlib.Core.Path.{subst₂}
use Rattle.wh_types.specs.Ty.{Ty, sort, arguments}
use Rattle.wh_terms.specs.Tree.{Tm, Tms}
use Rattle.wh_terms.specs.Sight.{NoFree}
use Rattle.wh_terms.specs.Typing.{Symbols, Declared, Typed}
use Rattle.wh_terms.specs.Rules.{RewriteRule}
use Rattle.wh_pairs.specs.PairData.{PairData}
use Rattle.wh_poly.specs.Polynomials.{Normal}
use Rattle.wh_hopoly.specs.Evaluation.{symbol, Interpretation, interpretation_at, type_of, evaluate, NormalInterpretations}
use Rattle.wh_hopoly.proofs.ValueLaws.{interpretation_is}
use Rattle.wh_polycheck.specs.Sides.{arrows, types_of_metas, side_applied, side_polynomial, call_polynomial, Interprets}
use Rattle.wh_polycheck.specs.Marks.{Mark, marked_types, marked_kind, marked_interpretation, with_marks, place_of, mark_number, HasMark, HasMarkedSides, head_of_side, arguments_of_side}
use Rattle.wh_polycheck.specs.Readings.{ReadingsData, AreProper}
use Rattle.wh_polycheck.proofs.SideTypes.{side_applied_typed, HasSideType}
use Rattle.wh_polycheck.proofs.MoreInterpretations.{slice_get_front, slice_get_behind, interprets_more, mark_at, arguments_of_arrows, mapped, mark_interpreted, normal_with_marks}
use Rattle.wh_polycheck.proofs.MarkedSides.{marked_side}
use Rattle.wh_poly_meaning.specs.Functionals.{Sem, Le}
use Rattle.wh_poly_meaning.specs.Valuations.{Valuation, MonoValuation}
use Rattle.wh_poly_meaning.specs.Meaning.{den, reading}
use Rattle.wh_poly_meaning.specs.TermValues.{Meanings, MonoMeanings, fed, of_interpretations}
use Rattle.wh_poly_meaning.specs.Calls.{all_nothing, IsMarkedSide}
use Rattle.wh_polycheck.specs.Covering.{pair_run}
use Rattle.wh_poly_meaning.proofs.Order.{le_valuation_same, fun_le, mono_nothing, reading_mono}
use Rattle.wh_poly_meaning.proofs.Mean.{den_value}
use Rattle.wh_poly_meaning.proofs.SideMeans.{symbol_means, mean_applied}
use Rattle.wh_poly_meaning.proofs.Steps.{reading_at, side_value}
use Rattle.wh_poly_meaning.proofs.CallValues.{call_normal}
use Rattle.wh_poly_growth.specs.Below.{IsBelow, AreSymbolsBelow, AreMarksBelow, AreBelow}
use Rattle.wh_poly_growth.proofs.GrowthValues.{value_grows, fed_grows, den_by_reading}

-- symbols mean their interpretations, variables the values of ψ
abbrev with_values : List Interpretation → Valuation → Meanings
with_values symbols ψ = record { of_symbols = of_interpretations symbols; of_metas = ψ; of_free = all_nothing }

mono_nothings : MonoValuation all_nothing
mono_nothings x A = mono_nothing A

interpretations_mono : (symbols : List Interpretation) → MonoValuation (of_interpretations symbols)
interpretations_mono symbols f A = reading_mono A [] all_nothing (interpretation_at symbols f).polynomial mono_nothings

mono_values : (symbols : List Interpretation) (ψ : Valuation) → MonoValuation ψ → MonoMeanings (with_values symbols ψ)
mono_values symbols ψ h = record {
  symbols = interpretations_mono symbols;
  metas = h;
  free = mono_nothings;
}

-- of two interpretations of one type the greater one means more
meaning_grows : (low high : List Interpretation) (f g : ℕ) (s t : Interpretation) → slice_get low f ≡ Some s → slice_get high g ≡ Some t
    → (A : Ty) → s.kind ≡ A → IsBelow (arguments s.kind) s.polynomial t.polynomial
    → Le A (of_interpretations low f A) (of_interpretations high g A)
meaning_grows low high f g s t i j A k below =
    subst₂ (λ s t. Le A (reading A [] all_nothing s.polynomial) (reading A [] all_nothing t.polynomial))
    (sym (interpretation_is low f s i)) (sym (interpretation_is high g t j))
    (fun_le (λ χ. den (arguments A) χ s.polynomial) (λ χ. den (arguments A) χ t.polynomial)
    (λ χ h. subst (λ B. IsBelow (arguments B) s.polynomial t.polynomial) k below χ) A 0 all_nothing mono_nothings)

-- the longer list begins with the interpretations of the other one
abbrev Extends : List Interpretation → List Interpretation → Type 0
Extends symbols xs = (f : ℕ) (s : Interpretation) → slice_get symbols f ≡ Some s → slice_get xs f ≡ Some s

module _ (S : Symbols) (low high : List Interpretation) (in_low : Interprets S low) (in_high : Interprets S high)
    (below : AreSymbolsBelow low high) where
  -- so it is of the symbols, also in longer lists
  symbols_grow : (xs ys : List Interpretation) → Extends low xs → Extends high ys
      → (f : ℕ) (A : Ty) → slice_get S.funs f ≡ Some A → Le A (of_interpretations xs f A) (of_interpretations ys f A)
  symbols_grow xs ys in_xs in_ys f A known =
      let (s, i, k) = in_low f A known in
      let (t, j, l) = in_high f A known in
      meaning_grows xs ys f f s t (in_xs f s i) (in_ys f t j) A k (below.each f s t i j)

-- a side of a rule means more where the symbols do
pub side_grows : (S : Symbols) (rules : List RewriteRule) (low high : ReadingsData) → AreProper S rules low → AreProper S rules high
    → AreBelow S rules low high
    → (M : List Declared) (t : Tm) (a : Ty) → Typed S M [] t a → NoFree t → (ψ : Valuation) → MonoValuation ψ
    → den (types_of_metas M ++ arguments a) ψ (side_polynomial low.symbols M t)
    ≤ den (types_of_metas M ++ arguments a) ψ (side_polynomial high.symbols M t)
side_grows S rules low high low_proper high_proper below M t a p f ψ h =
    let xs = low.symbols in
    let ys = high.symbols in
    den_by_reading a (types_of_metas M) ψ h (side_polynomial xs M t) (side_polynomial ys M t)
    (subst₂ (Le a)
    (side_value S xs low_proper.interpreted low_proper.normal.symbols (with_values xs ψ) (λ g A. refl) M t a p f all_nothing)
    (side_value S ys high_proper.interpreted high_proper.normal.symbols (with_values ys ψ) (λ g A. refl) M t a p f all_nothing)
    (value_grows S M (with_values xs ψ) (with_values ys ψ) (mono_values xs ψ h) (mono_values ys ψ h)
    (symbols_grow S xs ys low_proper.interpreted high_proper.interpreted below.of_symbols xs ys (λ g s e. e) (λ g s e. e))
    (le_valuation_same ψ) (le_valuation_same all_nothing)
    all_nothing all_nothing mono_nothings mono_nothings (le_valuation_same all_nothing) p))

module _ (S : Symbols) (symbols : List Interpretation) (is : Interprets S symbols) (normal : NormalInterpretations symbols) where
  marked_type : (M : List Declared) (k : ℕ) (cs : List Ty) (s : ℕ) (ts : Tms) → IsMarkedSide S symbols M k cs s ts
      → HasSideType S M symbols is [] (side_applied (length (types_of_metas M)) (symbol k) ts) (sort s)
  marked_type M k cs s ts h = let (i, e, j) = h.interpreted in
      side_applied_typed S M symbols is (length (types_of_metas M)) refl (symbol k) (sort s)
      ((i, e), ap (λ i. i.kind) (interpretation_is symbols k i e) ∙ j) h.typed h.closed

  -- a marked side is worth what its polynomial means, where variables mean what meta-variables do
  side_worth : (m : Meanings) → ((f : ℕ) (A : Ty) → m.of_symbols f A ≡ of_interpretations symbols f A)
      → (M : List Declared) (k : ℕ) (cs : List Ty) (s : ℕ) (ts : Tms) → IsMarkedSide S symbols M k cs s ts
      → (ρ : Valuation)
      → fed S M m [] ρ cs (sort s) (m.of_symbols k (arrows cs (sort s))) ts
      ≡ den (types_of_metas M ++ []) m.of_metas (call_polynomial symbols M k ts)
  side_worth m means M k cs s ts h ρ =
      let Γ = types_of_metas M in
      let x = side_applied (length Γ) (symbol k) ts in
      let (typed, e) = marked_type M k cs s ts h in
      let (i, j, q) = h.interpreted in
      let c : type_of symbols Γ (symbol k) ≡ arrows cs (sort s) = ap (λ i. i.kind) (interpretation_is symbols k i j) ∙ q in
      sym (mean_applied S M symbols is normal m means (length Γ) refl ρ m.of_metas
      (record { metas = λ z d h. refl; binders = λ i b h. absurd (none-some b h) }) (symbol k) (sort s) c h.typed h.closed e
      ∙ ap (λ f. fed S M m [] ρ cs (sort s) f ts)
      (symbol_means S M symbols is normal m means k (arrows cs (sort s)) i j m.of_metas c))
      ∙ ap (subst Sem {x = type_of symbols Γ x} {y = sort s} e) (sym (den_value symbols normal Γ x m.of_metas typed))
      ∙ reading_at Γ m.of_metas (evaluate symbols Γ x).result (type_of symbols Γ x) (sort s) e

-- the place of a mark, told by the symbols alone
abbrev place_among : List ℕ → ℕ → ℕ
place_among [] f = 0
place_among (n ∷ ns) f = if n == f then 0 else suc (place_among ns f)

place_is : (ms : List Mark) (f : ℕ) → place_of ms f ≡ place_among (map (λ m. m.symbol) ms) f
place_is [] f = refl
place_is (m ∷ ms) f = ap (λ n. if m.symbol == f then 0 else suc n) (place_is ms f)

module _ (S : Symbols) (rules : List RewriteRule) where
  -- the interpretations of the symbols, and behind them those of the marked symbols
  abbrev all_of : ReadingsData → List Interpretation
  all_of R = with_marks S rules R.symbols R.marks

  abbrev number_in : ReadingsData → ℕ → ℕ
  number_in R f = mark_number R.symbols R.marks f

  all_interpret : (R : ReadingsData) → AreProper S rules R → Interprets S (all_of R)
  all_interpret R proper = interprets_more R.symbols (map (marked_interpretation S rules) R.marks) S proper.interpreted

  all_normal : (R : ReadingsData) → AreProper S rules R → NormalInterpretations (all_of R)
  all_normal R proper = normal_with_marks S rules R.symbols R.marks proper.normal.symbols proper.normal.marks

  is_marked_side : (R : ReadingsData) (p : PairData) → HasMarkedSides S rules R.marks p → (right : Bool)
      → IsMarkedSide S (all_of R) p.metas (number_in R (head_of_side p right)) (marked_types S rules (head_of_side p right)) 0 (arguments_of_side p right)
  is_marked_side R p h right =
      let side = marked_side S rules R.marks p right h in
      record {
        interpreted = mark_interpreted S rules R.symbols R.marks (head_of_side p right) side.marked;
        typed = side.typed;
        closed = side.closed;
      }

  -- what the polynomial of a side of a pair means, as the value of its marked symbol at the values of the arguments
  pair_worth : (R : ReadingsData) → AreProper S rules R → (p : PairData) → HasMarkedSides S rules R.marks p
      → (right : Bool) (ψ : Valuation)
      → fed S p.metas (with_values (all_of R) ψ) [] all_nothing
      (marked_types S rules (head_of_side p right)) (sort 0)
      (of_interpretations (all_of R) (number_in R (head_of_side p right)) (marked_kind S rules (head_of_side p right))) (arguments_of_side p right)
      ≡ den (types_of_metas p.metas ++ []) ψ (pair_run S rules R p right).result
  pair_worth R proper p h right ψ =
      let f = head_of_side p right in
      side_worth S (all_of R) (all_interpret R proper) (all_normal R proper)
      (with_values (all_of R) ψ) (λ g A. refl) p.metas (number_in R f) (marked_types S rules f) 0 (arguments_of_side p right)
      (is_marked_side R p h right) all_nothing

  -- the interpretation of a marked symbol, by the place of its mark
  marked_at : (R : ReadingsData) (f : ℕ) (m : Mark) → slice_get R.marks (place_of R.marks f) ≡ Some m
      → slice_get (all_of R) (number_in R f) ≡ Some (marked_interpretation S rules m)
  marked_at R f m there =
      slice_get_behind R.symbols (map (marked_interpretation S rules) R.marks) (place_of R.marks f)
      ∙ mapped S rules R.marks (place_of R.marks f) m there

  module _ (low high : ReadingsData) (below : AreMarksBelow S rules low.marks high.marks) where
    place_same : (f : ℕ) → place_of high.marks f ≡ place_of low.marks f
    place_same f = place_is high.marks f ∙ ap (λ l. place_among l f) (sym below.symbols) ∙ sym (place_is low.marks f)

    -- a marked symbol means more
    mark_grows : (f : ℕ) → HasMark low.marks f → HasMark high.marks f
        → Le (marked_kind S rules f)
        (of_interpretations (all_of low) (number_in low f) (marked_kind S rules f))
        (of_interpretations (all_of high) (number_in high f) (marked_kind S rules f))
    mark_grows f in_low in_high =
        let (m, i, k) = mark_at low.marks f in_low in
        let (n, j, l) = mark_at high.marks f in_high in
        meaning_grows (all_of low) (all_of high) (number_in low f) (number_in high f)
        (marked_interpretation S rules m) (marked_interpretation S rules n)
        (marked_at low f m i) (marked_at high f n j)
        (marked_kind S rules f) (ap (marked_kind S rules) k)
        (subst (λ Γ. IsBelow Γ m.polynomial n.polynomial) (sym (arguments_of_arrows (marked_types S rules m.symbol) 0))
        (below.each (place_of low.marks f) m n i (ap (slice_get high.marks) (sym (place_same f)) ∙ j)))

-- a side of a pair means more where the symbols and the marks do
pub pair_side_grows : (S : Symbols) (rules : List RewriteRule) (low high : ReadingsData) → AreProper S rules low → AreProper S rules high
    → AreBelow S rules low high → (p : PairData) → HasMarkedSides S rules low.marks p → HasMarkedSides S rules high.marks p
    → (right : Bool) (ψ : Valuation) → MonoValuation ψ
    → den (types_of_metas p.metas ++ []) ψ (pair_run S rules low p right).result
    ≤ den (types_of_metas p.metas ++ []) ψ (pair_run S rules high p right).result
pair_side_grows S rules low high low_proper high_proper below p in_low in_high right ψ h =
    let xs = all_of S rules low in
    let ys = all_of S rules high in
    let f = head_of_side p right in
    let A = marked_kind S rules f in
    let i = number_in S rules low f in
    let j = number_in S rules high f in
    let here = marked_side S rules low.marks p right in_low in
    let there = marked_side S rules high.marks p right in_high in
    subst₂ (λ a b. a ≤ b)
    (pair_worth S rules low low_proper p in_low right ψ)
    (pair_worth S rules high high_proper p in_high right ψ)
    (fed_grows S p.metas (with_values xs ψ) (with_values ys ψ) (mono_values xs ψ h) (mono_values ys ψ h)
    (symbols_grow S low.symbols high.symbols low_proper.interpreted high_proper.interpreted below.of_symbols xs ys
    (slice_get_front low.symbols (map (marked_interpretation S rules) low.marks))
    (slice_get_front high.symbols (map (marked_interpretation S rules) high.marks)))
    (le_valuation_same ψ) (le_valuation_same all_nothing)
    all_nothing all_nothing mono_nothings mono_nothings (le_valuation_same all_nothing) (sort 0)
    (of_interpretations xs i A) (of_interpretations ys j A) (interpretations_mono xs i A) (interpretations_mono ys j A)
    (mark_grows S rules low high below.of_marks f here.marked there.marked) here.typed)

-- the polynomial of a side of a pair is normal
pub pair_side_normal : (S : Symbols) (rules : List RewriteRule) (R : ReadingsData) → AreProper S rules R
    → (p : PairData) → HasMarkedSides S rules R.marks p → (right : Bool)
    → Normal (types_of_metas p.metas ++ []) (pair_run S rules R p right).result
pair_side_normal S rules R proper p h right =
    call_normal S (all_of S rules R) (all_interpret S rules R proper) (all_normal S rules R proper) p.metas
    (number_in S rules R (head_of_side p right)) (marked_types S rules (head_of_side p right)) 0 (arguments_of_side p right)
    (is_marked_side S rules R p h right)
