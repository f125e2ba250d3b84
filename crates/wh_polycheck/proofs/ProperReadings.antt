-- Readings for a task are proper where they are normal: they interpret each symbol, and the symbols of the set's pairs have marks.
use Rattle.std.proofs.Common.{◌≡◌, ℕ, zero, suc, inl, inr, List, [], ◌∷◌, map, Some, slice_get, Contains, refl, ap, ◌∙◌}
use Rattle.std.proofs.lemmas.Option.{none-some, same_Some}
use Rattle.wh_types.specs.Ty.{Ty}
use Rattle.wh_terms.specs.Typing.{Symbols}
use Rattle.wh_terms.specs.Rules.{RewriteRule}
use Rattle.wh_pairs.specs.PairData.{PairData}
use Rattle.wh_pairs.specs.Marked.{HeadsASide, AreMarked}
use Rattle.wh_pairs.specs.Sets.{InSet}
use Rattle.wh_pairs.proofs.ByPlace.{contains_at, place_of, unmap}
use Rattle.wh_reduction_pairs.specs.TaskData.{TaskData}
use Rattle.wh_hopoly.specs.Evaluation.{Interpretation}
use Rattle.wh_polycheck.specs.Sides.{IsInterpretedAs, Interprets}
use Rattle.wh_polycheck.specs.Marks.{Mark, HasMark, HasMarkedSides}
use Rattle.wh_polycheck.specs.Readings.{ReadingsData, AreNormal, AreProper, AreReadingsFor}
use Rattle.wh_polycheck.specs.Covering.{HaveTypedSides}

-- interpretations with the types of the symbols, in order, interpret each of them

pub interpreted_at : (symbols : List Interpretation) (f : ℕ) (a : Ty) → slice_get (map (λ (s : Interpretation). s.kind) symbols) f ≡ Some a
    → IsInterpretedAs symbols f a
interpreted_at [] f a e = absurd (none-some a e)
interpreted_at (s ∷ symbols) zero a e = (s, refl, same_Some s.kind a e)
interpreted_at (s ∷ symbols) (suc f) a e = interpreted_at symbols f a e

pub interprets_in_order : (S : Symbols) (symbols : List Interpretation) → map (λ (s : Interpretation). s.kind) symbols ≡ S.funs
    → Interprets S symbols
interprets_in_order S symbols kinds f a known = interpreted_at symbols f a (ap (λ l. slice_get l f) kinds ∙ known)

pub proper_readings : (T : TaskData) (R : ReadingsData) → AreReadingsFor T R → AreNormal T.symbols T.rules R → AreProper T.symbols T.rules R
proper_readings T R are normal = record { interpreted = interprets_in_order T.symbols R.symbols are.kinds; normal = normal }

-- a symbol among those of the marks has a mark
pub mark_among : (marks : List Mark) (f : ℕ) → Contains (map (λ (m : Mark). m.symbol) marks) f → HasMark marks f
mark_among marks f there =
    let (i, at) = place_of (map (λ (m : Mark). m.symbol) marks) f there in
    let (m, found, is) = unmap (λ (m : Mark). m.symbol) marks i f at in
    (m, contains_at marks i m found, is)

module _ (pairs : List PairData) (set : List ℕ) (marks : List Mark) (are : AreMarked pairs set (map (λ (m : Mark). m.symbol) marks)) where
  -- the symbols of a pair of the set have marks
  pub marked_head : (p : PairData) (f : ℕ) → InSet pairs set p → HeadsASide f p → HasMark marks f
  marked_head p f (n, inside, at) heads = mark_among marks f ((are.each f).1 (n, inside, (p, at, heads)))

  -- so such a pair has all that the evaluation of its sides asks
  pub sides_of_set : (S : Symbols) (rules : List RewriteRule) → HaveTypedSides S rules pairs → (p : PairData) → InSet pairs set p
      → HasMarkedSides S rules marks p
  sides_of_set S rules typed p (n, inside, at) =
      typed marks p (contains_at pairs n p at) (marked_head p p.left_fun (n, inside, at) (inl refl))
      (marked_head p p.right_fun (n, inside, at) (inr refl))
