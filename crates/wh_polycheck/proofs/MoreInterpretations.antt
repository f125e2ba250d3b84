-- A longer list of interpretations changes nothing for what is well typed over the shorter one; the marked symbols stand behind.
use Rattle.std.proofs.Common.{◌≡◌, ◌⊎◌, inl, inr, ℕ, zero, suc, ◌+◌, ◌<◌, ◌==◌, Bool, true, false, if◌then◌else◌, List, [], ◌∷◌, ◌++◌, map, length, get_or, refl, ap, ap₂, sym, subst, ◌∙◌, arith, Some, slice_get, Contains}
use Rattle.std.proofs.lemmas.Option.{none-some, same_Some}
use mathlib.Core.Path.{subst₂}
use Rattle.wh_types.specs.Ty.{Ty, sort, ◌⇒◌, arguments}
use Rattle.wh_terms.specs.Tree.{Tm}
use Rattle.wh_terms.specs.Sight.{NoFree}
use Rattle.wh_terms.specs.Typing.{Symbols, Declared, Typed}
use Rattle.wh_terms.specs.Rules.{RewriteRule, AreWellMade}
use Rattle.wh_poly.specs.Polynomials.{Normal}
use Rattle.wh_poly.specs.Arithmetic.{renumber}
use Rattle.wh_hopoly.specs.Evaluation.{one, next, Expression, var, symbol, lambda, apply, Interpretation, interpretation_at, type_of, codomain, apply_one, evaluate, TypedExpression, NormalInterpretations}
use Rattle.wh_hopoly.specs.Moves.{IsCover}
use Rattle.wh_hopoly.proofs.ValueLaws.{interpretation_is}
use Rattle.wh_polycheck.specs.Sides.{arrows, types_of_metas, side_expression, side_polynomial, IsInterpretedAs, Interprets, RulesAreCovered}
use Rattle.wh_polycheck.specs.Marks.{Mark, marked_types, marked_kind, marked_interpretation, with_marks, place_of, mark_number, HasMark, AreNormalMarks}
use Rattle.wh_polycheck.proofs.SideTypes.{side_typed}

-- the elements of two lists, one behind the other
pub slice_get_front : {A : Type 0} (xs ys : List A) (i : ℕ) (a : A) → slice_get xs i ≡ Some a → slice_get (xs ++ ys) i ≡ Some a
slice_get_front [] ys i a e = absurd (none-some a e)
slice_get_front (x ∷ xs) ys zero a e = e
slice_get_front (x ∷ xs) ys (suc i) a e = slice_get_front xs ys i a e

pub slice_get_behind : {A : Type 0} (xs ys : List A) (i : ℕ) → slice_get (xs ++ ys) (length xs + i) ≡ slice_get ys i
slice_get_behind {A = A} [] ys i = let e : length {A = A} [] + i ≡ i = omega arith in ap (slice_get ys) e
slice_get_behind (x ∷ xs) ys i =
    let e : length (x ∷ xs) + i ≡ suc (length xs + i) = omega arith in ap (slice_get (x ∷ (xs ++ ys))) e ∙ slice_get_behind xs ys i

slice_get_either : {A : Type 0} (xs ys : List A) (i : ℕ) (a : A) → slice_get (xs ++ ys) i ≡ Some a
    → (slice_get xs i ≡ Some a) ⊎ ((j : ℕ) × (slice_get ys j ≡ Some a))
slice_get_either [] ys i a e = inr (i, e)
slice_get_either (x ∷ xs) ys zero a e = inl e
slice_get_either (x ∷ xs) ys (suc i) a e = slice_get_either xs ys i a e

module _ (symbols more : List Interpretation) where
  pub interpretation_more : (f : ℕ) (s : Interpretation) → slice_get symbols f ≡ Some s
      → interpretation_at (symbols ++ more) f ≡ interpretation_at symbols f
  interpretation_more f s e = interpretation_is (symbols ++ more) f s (slice_get_front symbols more f s e) ∙ sym (interpretation_is symbols f s e)

  type_more : (Γ : List Ty) (e : Expression) → TypedExpression symbols Γ e → type_of (symbols ++ more) Γ e ≡ type_of symbols Γ e
  type_more Γ (var x) t = refl
  type_more Γ (symbol f) (s, e) = ap (λ s. s.kind) (interpretation_more f s e)
  type_more Γ (lambda A e) t = ap (λ B. A ⇒ B) (type_more (Γ ++ A ∷ []) e t)
  type_more Γ (apply e d) (t, u, B, i) = ap codomain (type_more Γ e t)

  -- neither the value nor what is met on the way
  pub evaluate_more : (Γ : List Ty) (e : Expression) → TypedExpression symbols Γ e → evaluate (symbols ++ more) Γ e ≡ evaluate symbols Γ e
  evaluate_more Γ (var x) t = refl
  evaluate_more Γ (symbol f) (s, e) = ap (λ s. one (renumber (λ i. length Γ + i) s.polynomial)) (interpretation_more f s e)
  evaluate_more Γ (lambda A e) t = evaluate_more (Γ ++ A ∷ []) e t
  evaluate_more Γ (apply e d) (t, u, B, i) =
      ap₂ (λ a b. next (evaluate (symbols ++ more) Γ e) (λ g. next (evaluate (symbols ++ more) Γ d) (λ p. apply_one a (codomain b) Γ g p))) (type_more Γ d u) (type_more Γ e t)
      ∙ ap₂ (λ x y. next x (λ g. next y (λ p. apply_one (type_of symbols Γ d) (codomain (type_of symbols Γ e)) Γ g p))) (evaluate_more Γ e t) (evaluate_more Γ d u)

  pub typed_more : (Γ : List Ty) (e : Expression) → TypedExpression symbols Γ e → TypedExpression (symbols ++ more) Γ e
  typed_more Γ (var x) t = t
  typed_more Γ (symbol f) (s, e) = (s, slice_get_front symbols more f s e)
  typed_more Γ (lambda A e) t = typed_more (Γ ++ A ∷ []) e t
  typed_more Γ (apply e d) (t, u, B, i) =
      (typed_more Γ e t, typed_more Γ d u, B, type_more Γ e t ∙ i ∙ ap (λ A. A ⇒ B) (sym (type_more Γ d u)))

  pub interprets_more : (S : Symbols) → Interprets S symbols → Interprets S (symbols ++ more)
  interprets_more S h f a e = let (s, i, k) = h f a e in (s, slice_get_front symbols more f s i, k)

  side_more : (S : Symbols) (M : List Declared) (t : Tm) (a : Ty) → Interprets S symbols → Typed S M [] t a → NoFree t
      → side_polynomial (symbols ++ more) M t ≡ side_polynomial symbols M t
  side_more S M t a h p f =
      ap (λ r. r.result) (evaluate_more (types_of_metas M) (side_expression M t) (side_typed S M symbols h (length (types_of_metas M)) refl p f).0)

  -- rules stay covered
  pub rules_covered_more : (S : Symbols) (rules : List RewriteRule) → AreWellMade S rules → Interprets S symbols
      → RulesAreCovered symbols rules → RulesAreCovered (symbols ++ more) rules
  rules_covered_more S rules w h c r m =
      let (a, p, q) = (w.each r m).typed in
      let (ms, k) = c r m in
      (ms, subst₂ (λ p q. IsCover p q ms) (sym (side_more S r.metas r.left a h p (w.each r m).left_closed)) (sym (side_more S r.metas r.right a h q (w.each r m).right_closed)) k)

-- the mark of a symbol stands at its place
abbrev pub StandsAt : List Mark → ℕ → ℕ → Type 0
StandsAt marks f i = (m : Mark) × (slice_get marks i ≡ Some m) × (m.symbol ≡ f)

pub mark_at : (marks : List Mark) (f : ℕ) → HasMark marks f → StandsAt marks f (place_of marks f)
mark_at [] f (m, (i, l, e), k) = absurd (omega (arith, l))
mark_at (n ∷ marks) f (m, (i, l, e), k) = go (n.symbol == f) refl (λ h. mark_at marks f h)
  where
    later : (i : ℕ) → i < length (n ∷ marks) → get_or (n ∷ marks) i m ≡ m → (n.symbol ≡ f → ⊥) → HasMark marks f
    later zero l e other = absurd (other (ap (λ m. m.symbol) e ∙ k))
    later (suc i) l e other = (m, (i, omega (arith, l), e), k)

    go : (b : Bool) → (n.symbol == f) ≡ b → (HasMark marks f → StandsAt marks f (place_of marks f))
        → StandsAt (n ∷ marks) f (if b then 0 else suc (place_of marks f))
    go true t rest = (n, refl, grind (arith, t))
    go false t rest = rest (later i l e (λ same. grind (arith, t, same)))

pub arguments_of_arrows : (cs : List Ty) (s : ℕ) → arguments (arrows cs (sort s)) ≡ cs
arguments_of_arrows [] s = refl
arguments_of_arrows (c ∷ cs) s = ap (λ ds. c ∷ ds) (arguments_of_arrows cs s)

module _ (S : Symbols) (rules : List RewriteRule) where
  pub mapped : (marks : List Mark) (i : ℕ) (m : Mark) → slice_get marks i ≡ Some m
      → slice_get (map (marked_interpretation S rules) marks) i ≡ Some (marked_interpretation S rules m)
  mapped [] i m e = absurd (none-some m e)
  mapped (n ∷ marks) zero m e = ap (λ n. Some (marked_interpretation S rules n)) (same_Some n m e)
  mapped (n ∷ marks) (suc i) m e = mapped marks i m e

  unmapped : (marks : List Mark) (i : ℕ) (s : Interpretation) → slice_get (map (marked_interpretation S rules) marks) i ≡ Some s
      → (m : Mark) × Contains marks m × (marked_interpretation S rules m ≡ s)
  unmapped [] i s e = absurd (none-some s e)
  unmapped (m ∷ marks) zero s e = (m, (0, omega arith, refl), same_Some (marked_interpretation S rules m) s e)
  unmapped (m ∷ marks) (suc i) s e = let (n, (j, l, h), k) = unmapped marks i s e in (n, (suc j, omega (arith, l), h), k)

  -- a marked symbol is interpreted by its mark
  pub mark_interpreted : (symbols : List Interpretation) (marks : List Mark) (f : ℕ) → HasMark marks f
      → IsInterpretedAs (with_marks S rules symbols marks) (mark_number symbols marks f) (marked_kind S rules f)
  mark_interpreted symbols marks f h = let (m, e, k) = mark_at marks f h in
      (marked_interpretation S rules m, slice_get_behind symbols (map (marked_interpretation S rules) marks) (place_of marks f) ∙ mapped marks (place_of marks f) m e, ap (marked_kind S rules) k)

  -- all interpretations are normal
  pub normal_with_marks : (symbols : List Interpretation) (marks : List Mark) → NormalInterpretations symbols → AreNormalMarks S rules marks
      → NormalInterpretations (with_marks S rules symbols marks)
  normal_with_marks symbols marks n k f s e = elim (slice_get_either symbols (map (marked_interpretation S rules) marks) f s e) [
    | inl h ↦ n f s h
    | inr (j, h) ↦
        let (m, c, i) = unmapped marks j s h in
        subst (λ s. Normal (arguments s.kind) s.polynomial) i
        (subst (λ Γ. Normal Γ m.polynomial) (sym (arguments_of_arrows (marked_types S rules m.symbol) 0)) (k m c))
  ]
