-- Sides of pairs as expressions: a marked symbol whose mark stands alone behind the symbols comes to the same as one whose mark stands
-- among others.
use Rattle.std.proofs.Common.{◌≡◌, ◌<◌, ◌+◌, ℕ, zero, suc, Bool, true, false, List, [], ◌∷◌, ◌++◌, length, map, get_or, refl, ap, sym, subst, ◌∙◌, arith, Some, slice_get, Contains}
use Rattle.std.proofs.lemmas.Option.{none-some, same_Some}
use Rattle.wh_types.specs.Ty.{Ty, sort}
use Rattle.wh_terms.specs.Tree.{Tms}
use Rattle.wh_terms.specs.Sight.{AllNoFree}
use Rattle.wh_terms.specs.Typing.{Symbols, Declared, AllTyped, typed_none, typed_more}
use Rattle.wh_terms.specs.Rules.{RewriteRule}
use Rattle.wh_pairs.specs.PairData.{PairData}
use Rattle.wh_hopoly.specs.Evaluation.{Expression, symbol, apply, Interpretation, TypedExpression, NormalInterpretations}
use Rattle.wh_poly.specs.Polynomials.{Normal}
use Rattle.wh_hopoly.proofs.ValueLaws.{interpretation_is}
use Rattle.wh_polycheck.specs.Sides.{types_of_metas, side, side_applied, marked_expression, Interprets}
use Rattle.wh_polycheck.specs.Marks.{Mark, marked_types, marked_kind, marked_interpretation, with_marks, place_of, mark_number, HasMark, AreNormalMarks, HasMarkedSides, head_of_side, arguments_of_side}
use Rattle.wh_polycheck.proofs.SideTypes.{side_typed, side_applied_typed}
use Rattle.wh_polycheck.proofs.MoreInterpretations.{interprets_more, mark_interpreted, mark_at, slice_get_behind, mapped, normal_with_marks}
use Rattle.wh_polycheck.proofs.Alike.{Alike, alike_symbol, alike_apply, alike_typed}

-- a marked symbol with typed arguments is a typed expression
pub marked_typed : (S : Symbols) (rules : List RewriteRule) (symbols : List Interpretation) (marks : List Mark) → Interprets S symbols
    → (M : List Declared) (f : ℕ) (ts : Tms) → HasMark marks f → AllTyped S M [] ts (marked_types S rules f) → AllNoFree ts
    → TypedExpression (with_marks S rules symbols marks) (types_of_metas M) (marked_expression M (mark_number symbols marks f) ts)
marked_typed S rules symbols marks i M f ts h p c =
    let all = with_marks S rules symbols marks in
    let k = mark_number symbols marks f in
    let (s, e, j) = mark_interpreted S rules symbols marks f h in
    (side_applied_typed S M all (interprets_more symbols (map (marked_interpretation S rules) marks) S i) (length (types_of_metas M)) refl
    (symbol k) (sort 0) ((s, e), ap (λ s. s.kind) (interpretation_is all k s e) ∙ j) p c).0

pub contains_there : {A : Type 0} (xs : List A) (i : ℕ) (a : A) → slice_get xs i ≡ Some a → Contains xs a
contains_there [] i a e = absurd (none-some a e)
contains_there (x ∷ xs) zero a e = (0, omega arith, same_Some x a e)
contains_there (x ∷ xs) (suc i) a e = let (j, l, h) = contains_there xs i a e in (suc j, omega (arith, l), h)

-- a side of a pair has a mark, and typed and closed arguments
pub record HasMarkedSide (S : Symbols) (rules : List RewriteRule) (marks : List Mark) (p : PairData) (right : Bool) : Type 0 where
  pub marked : HasMark marks (head_of_side p right)
  pub typed : AllTyped S p.metas [] (arguments_of_side p right) (marked_types S rules (head_of_side p right))
  pub closed : AllNoFree (arguments_of_side p right)

pub marked_side : (S : Symbols) (rules : List RewriteRule) (marks : List Mark) (p : PairData) (right : Bool)
    → HasMarkedSides S rules marks p → HasMarkedSide S rules marks p right
marked_side S rules marks p false h = record {
  marked = h.left_marked;
  typed = h.left_typed;
  closed = h.left_closed;
}
marked_side S rules marks p true h = record {
  marked = h.right_marked;
  typed = h.right_typed;
  closed = h.right_closed;
}

module _ (S : Symbols) (rules : List RewriteRule) (symbols : List Interpretation) (interprets : Interprets S symbols) where
  -- two heads with the same arguments
  alike_applied : (M : List Declared) (xs ys : List Interpretation) {ts : Tms} {cs : List Ty} (e f : Expression)
      → Alike (symbols ++ xs) (symbols ++ ys) (types_of_metas M) e f → AllTyped S M [] ts cs → AllNoFree ts
      → Alike (symbols ++ xs) (symbols ++ ys) (types_of_metas M)
      (side_applied (length (types_of_metas M)) e ts) (side_applied (length (types_of_metas M)) f ts)
  alike_applied M xs ys e f h typed_none c = h
  alike_applied M xs ys e f h (typed_more {t = t} p ps) c =
      let d = side (length (types_of_metas M)) t in
      alike_applied M xs ys (apply e d) (apply f d)
      (alike_apply (symbols ++ xs) (symbols ++ ys) (types_of_metas M) e d f d h
      (alike_typed symbols xs ys (types_of_metas M) d (side_typed S M symbols interprets (length (types_of_metas M)) refl p c.0).0)) ps c.1

  module _ (marks : List Mark) (f : ℕ) (m : Mark) (there : slice_get marks (place_of marks f) ≡ Some m) (has : HasMark marks f)
      (a : Interpretation) (is : a ≡ marked_interpretation S rules m) where
    marked_here : m.symbol ≡ f
    marked_here = let (n, e, k) = mark_at marks f has in ap (λ m. m.symbol) (same_Some m n (sym there ∙ e)) ∙ k

    behind_alone : slice_get (symbols ++ a ∷ []) (length symbols) ≡ Some a
    behind_alone = let e : length symbols ≡ length symbols + 0 = omega arith in
        ap (slice_get (symbols ++ a ∷ [])) e ∙ slice_get_behind symbols (a ∷ []) 0

    behind_all : slice_get (with_marks S rules symbols marks) (mark_number symbols marks f) ≡ Some a
    behind_all = slice_get_behind symbols (map (marked_interpretation S rules) marks) (place_of marks f)
        ∙ mapped S rules marks (place_of marks f) m there ∙ ap Some (sym is)

    -- the mark alone behind the symbols
    pub alone_alike : (M : List Declared) (ts : Tms) → AllTyped S M [] ts (marked_types S rules f) → AllNoFree ts
        → Alike (symbols ++ a ∷ []) (with_marks S rules symbols marks) (types_of_metas M)
        (marked_expression M (length symbols) ts) (marked_expression M (mark_number symbols marks f) ts)
    alone_alike M ts p c =
        alike_applied M (a ∷ []) (map (marked_interpretation S rules) marks) (symbol (length symbols))
        (symbol (mark_number symbols marks f))
        (alike_symbol (symbols ++ a ∷ []) (with_marks S rules symbols marks) (types_of_metas M) (length symbols)
        (mark_number symbols marks f)
        (interpretation_is (symbols ++ a ∷ []) (length symbols) a behind_alone
        ∙ sym (interpretation_is (with_marks S rules symbols marks) (mark_number symbols marks f) a behind_all))) p c

    pub alone_typed : (M : List Declared) (ts : Tms) → AllTyped S M [] ts (marked_types S rules f) → AllNoFree ts
        → TypedExpression (symbols ++ a ∷ []) (types_of_metas M) (marked_expression M (length symbols) ts)
    alone_typed M ts p c =
        (side_applied_typed S M (symbols ++ a ∷ []) (interprets_more symbols (a ∷ []) S interprets) (length (types_of_metas M)) refl
        (symbol (length symbols)) (sort 0) (
          (a, behind_alone),
          ap (λ s. s.kind) (interpretation_is (symbols ++ a ∷ []) (length symbols) a behind_alone ∙ is)
              ∙ ap (marked_kind S rules) marked_here,
        ) p c).0

    pub alone_normal : NormalInterpretations symbols → AreNormalMarks S rules marks → NormalInterpretations (symbols ++ a ∷ [])
    alone_normal n k =
        subst (λ b. NormalInterpretations (symbols ++ b ∷ [])) (sym is) (normal_with_marks S rules symbols (m ∷ []) n only)
      where
        one : (j : ℕ) (l : Mark) → j < length (m ∷ []) → get_or (m ∷ []) j l ≡ l → m ≡ l
        one zero l h e = e
        one (suc j) l h e = absurd (omega (arith, h))

        only : AreNormalMarks S rules (m ∷ [])
        only l (j, h, e) =
            subst (λ l. Normal (marked_types S rules l.symbol) l.polynomial) (one j l h e)
            (k m (contains_there marks (place_of marks f) m there))
