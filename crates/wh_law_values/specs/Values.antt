-- The value of a term where an interpretation covers only listed rules: a number, by recursion in three cases.
use Rattle.std.specs.Prelude.{ℕ, ◌≡◌, ◌≤◌, ◌⊎◌, List, [], ◌∷◌}
use Rattle.wh_types.specs.Ty.{Ty, sort, ◌⇒◌}
use Rattle.wh_terms.specs.Tree.{Tm, fun, app}
use Rattle.wh_terms.specs.Typing.{Symbols}
use Rattle.wh_terms.specs.Rules.{RewriteRule}
use Rattle.wh_step.specs.Step.{Step}
use Rattle.wh_hopoly.specs.Evaluation.{type_at, Interpretation}
use Rattle.wh_polycheck.specs.Sides.{arrows}
use Rattle.wh_polycheck.specs.Marks.{marked_types, with_marks, mark_number}
use Rattle.wh_polycheck.specs.Readings.{ReadingsData}
use Rattle.wh_usable_first_order.specs.FirstOrder.{AreSorts}
use Rattle.wh_poly_meaning.specs.Functionals.{Sem}
use Rattle.wh_poly_meaning.specs.TermValues.{of_interpretations}
use Rattle.wh_proof_calls.specs.MarkedCalls.{MarkedCall}
use Rattle.wh_usable_calls.specs.Bounds.{IsWholeCall, HasListedHead}

-- n is the greatest of k and of the numbers of all reducts of t
abbrev pub IsGreatest : (rules : List RewriteRule) (t : Tm) → ((u : Tm) → Step rules t u → ℕ) → ℕ → ℕ → Type 0
IsGreatest rules t values k n =
    (k ≤ n) × ((u : Tm) (s : Step rules t u) → values u s ≤ n) × ((n ≡ k) ⊎ ((u : Tm) × (s : Step rules t u) × (n ≡ values u s)))

module _ (S : Symbols) (rules : List RewriteRule) (listed : List ℕ) (symbols : List Interpretation) where
  mutual
    -- The value of a term. For a symbol with arguments of sorts, all whose rules are listed, it is what the symbol's
    -- interpretation gives at the values of the arguments; for another symbol with arguments of sorts the greatest of
    -- that and of the values of all reducts; for any other term the greatest value of a reduct, or 0 (ours).
    pub data IsValue : Tm → ℕ → Type 0 where
      of_listed : {t : Tm} {s n : ℕ} → HasListedHead rules listed t → ReadsValues t (sort s) n → IsValue t n
      of_call : {t : Tm} {s k n : ℕ} (values : (u : Tm) → Step rules t u → ℕ) → (HasListedHead rules listed t → ⊥)
          → ReadsValues t (sort s) k → ((u : Tm) (s : Step rules t u) → IsValue u (values u s)) → IsGreatest rules t values k n
          → IsValue t n
      of_other : {t : Tm} {n : ℕ} (values : (u : Tm) → Step rules t u → ℕ) → (IsWholeCall S t → ⊥)
          → ((u : Tm) (s : Step rules t u) → IsValue u (values u s)) → IsGreatest rules t values 0 n → IsValue t n

    -- the functional is what the interpretation of the symbol that heads the call gives at the values of the arguments
    -- (ours)
    pub data ReadsValues : Tm → (A : Ty) → Sem A → Type 0 where
      value_symbol : {f : ℕ} {A : Ty} → type_at S.funs f ≡ A → ReadsValues (fun f) A (of_interpretations symbols f A)
      value_application : {t u : Tm} {s n : ℕ} {B : Ty} {F : Sem (sort s ⇒ B)} → ReadsValues t (sort s ⇒ B) F → IsValue u n
          → ReadsValues (app t u) B (F n)

  -- the number is what a function of arguments of sorts gives at the values of the terms (ours)
  abbrev pub IsFedValues : (cs : List Ty) → Sem (arrows cs (sort 0)) → List Tm → ℕ → Type 0
  IsFedValues [] F [] n = n ≡ F
  IsFedValues [] F (t ∷ ts) n = ⊥
  IsFedValues (c ∷ cs) F [] n = ⊥
  IsFedValues (sort s ∷ cs) F (t ∷ ts) n = (k : ℕ) × IsValue t k × IsFedValues cs (F k) ts n
  IsFedValues ((a ⇒ b) ∷ cs) F (t ∷ ts) n = ⊥

-- n is the number of a call: what the interpretation of its marked symbol gives at the values of its arguments, where
-- all of them are of sorts, and else 0 (ours)
abbrev pub IsCallNumber : Symbols → List RewriteRule → List ℕ → ReadingsData → MarkedCall → ℕ → Type 0
IsCallNumber S rules listed R c n =
    (AreSorts (marked_types S rules c.symbol)
    × IsFedValues S rules listed (with_marks S rules R.symbols R.marks) (marked_types S rules c.symbol)
    (of_interpretations (with_marks S rules R.symbols R.marks) (mark_number R.symbols R.marks c.symbol)
    (arrows (marked_types S rules c.symbol) (sort 0))) c.arguments n)
    ⊎ ((AreSorts (marked_types S rules c.symbol) → ⊥) × (n ≡ 0))
