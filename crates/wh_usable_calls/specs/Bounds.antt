-- Numbers that bound terms: what takes the place of values where an interpretation is to cover only some rules.
use Rattle.std.specs.Prelude.{ℕ, ◌≡◌, ◌≤◌, List, [], ◌∷◌}
use Rattle.wh_types.specs.Ty.{Ty, sort, ◌⇒◌}
use Rattle.wh_terms.specs.Tree.{Tm, fun, app, head}
use Rattle.wh_terms.specs.Typing.{Symbols}
use Rattle.wh_terms.specs.Rules.{RewriteRule}
use Rattle.wh_step.specs.Step.{Step}
use Rattle.wh_hopoly.specs.Evaluation.{type_at, Interpretation}
use Rattle.wh_polycheck.specs.Sides.{arrows}
use Rattle.wh_poly_meaning.specs.Functionals.{Sem}
use Rattle.wh_poly_meaning.specs.TermValues.{of_interpretations}
use Rattle.wh_usable.specs.Closed.{ListsRulesOf}

-- the tree is a symbol with arguments for which its type has sorts, and the rest of that type is A (ours)
abbrev pub IsFlatCall : Symbols → Tm → Ty → Type 0
IsFlatCall S (fun f) A = type_at S.funs f ≡ A
IsFlatCall S (app t u) A = (s : ℕ) × IsFlatCall S t (sort s ⇒ A)
IsFlatCall S _ A = ⊥

-- the tree is a symbol with all its arguments, for which its type has sorts
abbrev pub IsWholeCall : Symbols → Tm → Type 0
IsWholeCall S t = (s : ℕ) × IsFlatCall S t (sort s)

-- if a symbol heads the tree, all rules of that symbol are listed
abbrev pub HasListedHead : List RewriteRule → List ℕ → Tm → Type 0
HasListedHead rules listed t = (f : ℕ) → head t ≡ fun f → ListsRulesOf rules listed f

module _ (S : Symbols) (rules : List RewriteRule) (listed : List ℕ) (symbols : List Interpretation) where
  mutual
    -- the number bounds the term: that of a symbol whose rules are listed is at least what the symbol's interpretation
    -- gives at bounds of the arguments; that of another whole call is so too, and bounds all reducts; that of any other
    -- term bounds its reducts (ours; the least such number is the value of the term)
    pub data Bounds : Tm → ℕ → Type 0 where
      by_reading : {t : Tm} {s k n : ℕ} → HasListedHead rules listed t → Reads t (sort s) k → k ≤ n → Bounds t n
      by_reading_and_steps : {t : Tm} {s k n : ℕ} → Reads t (sort s) k → k ≤ n → ((u : Tm) → Step rules t u → Bounds u n) → Bounds t n
      by_steps : {t : Tm} {n : ℕ} → (IsWholeCall S t → ⊥) → ((u : Tm) → Step rules t u → Bounds u n) → Bounds t n

    -- the functional is what the interpretation of the symbol that heads the call gives at bounds of the arguments
    -- (ours)
    pub data Reads : Tm → (A : Ty) → Sem A → Type 0 where
      reads_symbol : {f : ℕ} {A : Ty} → type_at S.funs f ≡ A → Reads (fun f) A (of_interpretations symbols f A)
      reads_application : {t u : Tm} {s n : ℕ} {B : Ty} {F : Sem (sort s ⇒ B)} → Reads t (sort s ⇒ B) F → Bounds u n
          → Reads (app t u) B (F n)

  -- the number is at least what a function of arguments of sorts gives at bounds of the terms (ours)
  abbrev pub BoundsFed : (cs : List Ty) → Sem (arrows cs (sort 0)) → List Tm → ℕ → Type 0
  BoundsFed [] F [] n = F ≤ n
  BoundsFed [] F (t ∷ ts) n = ⊥
  BoundsFed (c ∷ cs) F [] n = ⊥
  BoundsFed (sort s ∷ cs) F (t ∷ ts) n = (k : ℕ) × Bounds t k × BoundsFed cs (F k) ts n
  BoundsFed ((a ⇒ b) ∷ cs) F (t ∷ ts) n = ⊥
