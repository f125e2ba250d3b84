-- Expressions that come to the same, with the same values in each part, over two lists of interpretations.
use Rattle.std.proofs.Common.{◌≡◌, inl, inr, ℕ, zero, suc, ◌+◌, ◌-◌, ◌<◌, ◌≤◌, List, [], ◌∷◌, ◌++◌, length, refl, ap, ap₂, sym, subst, ◌∙◌, Contains}
use Rattle.wh_types.specs.Ty.{Ty, ◌⇒◌}
use Rattle.wh_poly.specs.Polynomials.{Polynomial}
use Rattle.wh_poly.specs.Arithmetic.{renumber}
use Rattle.wh_hopoly.specs.Evaluation.{Run, one, next, Expression, var, symbol, lambda, apply, Interpretation, interpretation_at, type_of, codomain, apply_one, evaluate, TypedExpression}
use Rattle.wh_hopoly.specs.Outcomes.{ComesTo, IsFaultOf}
use Rattle.wh_hopoly.specs.NumberedParts.{parts, ValueOfPart}
use Rattle.wh_hopoly.specs.declared.fault.PolyFault.{PolyFault}
use Rattle.wh_hopoly.specs.declared.fault.PolyFault.TheVariants.{Overflow, TooLarge}
use Rattle.wh_polycheck.proofs.MoreInterpretations.{interpretation_more}

-- e over the one list comes to the same as d over the other one
pub record Alike (few many : List Interpretation) (Γ : List Ty) (e d : Expression) : Type 0 where
  pub kinds : type_of few Γ e ≡ type_of many Γ d
  pub runs : evaluate few Γ e ≡ evaluate many Γ d
  pub counts : parts e ≡ parts d
  pub values : (k : ℕ) (w : Polynomial) → ValueOfPart few Γ e k w → ValueOfPart many Γ d k w

module _ (few many : List Interpretation) where
  -- a symbol and another one with the same interpretation
  pub alike_symbol : (Γ : List Ty) (f g : ℕ) → interpretation_at few f ≡ interpretation_at many g → Alike few many Γ (symbol f) (symbol g)
  alike_symbol Γ f g e =
      let same : evaluate few Γ (symbol f) ≡ evaluate many Γ (symbol g) = ap (λ s. one (renumber (λ i. length Γ + i) s.polynomial)) e in
      record {
        kinds = ap (λ s. s.kind) e;
        runs = same;
        counts = refl;
        values = values same;
      }
    where
      values : evaluate few Γ (symbol f) ≡ evaluate many Γ (symbol g) → (k : ℕ) (w : Polynomial)
          → ValueOfPart few Γ (symbol f) k w → ValueOfPart many Γ (symbol g) k w
      values same zero w v = subst (λ r. Contains r.values w) same v
      values same (suc k) w v = v

  alike_variable : (Γ : List Ty) (x : ℕ) → Alike few many Γ (var x) (var x)
  alike_variable Γ x = record {
    kinds = refl;
    runs = refl;
    counts = refl;
    values = values;
  }
    where
      values : (k : ℕ) (w : Polynomial) → ValueOfPart few Γ (var x) k w → ValueOfPart many Γ (var x) k w
      values zero w v = v
      values (suc k) w v = v

  alike_lambda : (Γ : List Ty) (A : Ty) (e d : Expression) → Alike few many (Γ ++ A ∷ []) e d → Alike few many Γ (lambda A e) (lambda A d)
  alike_lambda Γ A e d h = record {
    kinds = ap (λ B. A ⇒ B) h.kinds;
    runs = h.runs;
    counts = ap (λ n. 1 + n) h.counts;
    values = values;
  }
    where
      values : (k : ℕ) (w : Polynomial) → ValueOfPart few Γ (lambda A e) k w → ValueOfPart many Γ (lambda A d) k w
      values zero w v = v
      values (suc k) w v = h.values k w v

  -- what an application gives, from what its parts give
  abbrev applying : List Ty → Ty → Ty → Run Polynomial → Run Polynomial → Run Polynomial
  applying Γ a b g p = apply_one a (codomain b) Γ g.result p.result

  applying_same : (Γ : List Ty) (e d f c : Expression) → Alike few many Γ e f → Alike few many Γ d c
      → applying Γ (type_of few Γ d) (type_of few Γ e) (evaluate few Γ e) (evaluate few Γ d)
      ≡ applying Γ (type_of many Γ c) (type_of many Γ f) (evaluate many Γ f) (evaluate many Γ c)
  applying_same Γ e d f c h k =
      ap₂ (λ a b. applying Γ a b (evaluate few Γ e) (evaluate few Γ d)) k.kinds h.kinds
      ∙ ap₂ (λ g p. applying Γ (type_of many Γ c) (type_of many Γ f) g p) h.runs k.runs

  pub alike_apply : (Γ : List Ty) (e d f c : Expression) → Alike few many Γ e f → Alike few many Γ d c
      → Alike few many Γ (apply e d) (apply f c)
  alike_apply Γ e d f c h k =
      record {
        kinds = ap codomain h.kinds;
        runs = ap₂ (λ a b. next (evaluate few Γ e) (λ g. next (evaluate few Γ d) (λ p. apply_one a (codomain b) Γ g p))) k.kinds h.kinds
            ∙ ap₂ (λ x y. next x (λ g. next y (λ p. apply_one (type_of many Γ c) (codomain (type_of many Γ f)) Γ g p))) h.runs k.runs;
        counts = ap₂ (λ m n. 1 + (m + n)) h.counts k.counts;
        values = values;
      }
    where
      values : (n : ℕ) (w : Polynomial) → ValueOfPart few Γ (apply e d) n w → ValueOfPart many Γ (apply f c) n w
      values zero w v = subst (λ r. Contains r.values w) (applying_same Γ e d f c h k) v
      values (suc n) w (inl (l, v)) = inl (subst (λ m. n < m) h.counts l, h.values n w v)
      values (suc n) w (inr (l, v)) =
          inr (subst (λ m. m ≤ n) h.counts l, subst (λ m. ValueOfPart many Γ c (n - m) w) h.counts (k.values (n - parts e) w v))

  -- so what is the one is the other
  pub comes_to_alike : (Γ : List Ty) (e d : Expression) → Alike few many Γ e d → (p : Polynomial) → ComesTo (evaluate few Γ e) p
      → ComesTo (evaluate many Γ d) p
  comes_to_alike Γ e d h p c = subst (λ r. ComesTo r p) h.runs c

  pub fault_alike : (Γ : List Ty) (e d : Expression) → Alike few many Γ e d → (x : PolyFault) → IsFaultOf few Γ e x → IsFaultOf many Γ d x
  fault_alike Γ e d h (Overflow k) (w, v, o) = (w, h.values k w v, o)
  fault_alike Γ e d h (TooLarge k) (w, v, o) = (w, h.values k w v, o)

-- what is well typed over a list comes to the same whatever stands behind that list
pub alike_typed : (symbols xs ys : List Interpretation) (Γ : List Ty) (e : Expression) → TypedExpression symbols Γ e
    → Alike (symbols ++ xs) (symbols ++ ys) Γ e e
alike_typed symbols xs ys Γ (var x) t = alike_variable (symbols ++ xs) (symbols ++ ys) Γ x
alike_typed symbols xs ys Γ (symbol f) (s, e) =
    alike_symbol (symbols ++ xs) (symbols ++ ys) Γ f f (interpretation_more symbols xs f s e ∙ sym (interpretation_more symbols ys f s e))
alike_typed symbols xs ys Γ (lambda A e) t =
    alike_lambda (symbols ++ xs) (symbols ++ ys) Γ A e e (alike_typed symbols xs ys (Γ ++ A ∷ []) e t)
alike_typed symbols xs ys Γ (apply e d) (t, u, B, i) =
    alike_apply (symbols ++ xs) (symbols ++ ys) Γ e d e d (alike_typed symbols xs ys Γ e t) (alike_typed symbols xs ys Γ d u)
