-- Lists of the steps of a term: one rule more, the root, and one level up.
use Rattle.std.proofs.Common.{◌≡◌, ℕ, zero, suc, ◌+◌, ◌-◌, ◌<◌, ◌≤◌, ◌⊎◌, inl, inr, List, [], ◌∷◌, ◌++◌, length, take, get_or, Option, Some, None, slice_get, refl, ap, sym, ◌∙◌, subst, arith}
use Rattle.std.specs.Prelude.{Contains, Result, Ok, Err, OnOk}
use Rattle.std.proofs.lemmas.List.{take_more, take_at, append-nil, append_assoc, length_push}
use Rattle.std.proofs.lemmas.List.Elements.{Contains-push_cases}
use Rattle.std.proofs.lemmas.Option.{slice_get_within}
use Rattle.wh_types.specs.Ty.{Ty}
use Rattle.wh_terms.specs.Tree.{Tm, bound, free, fun, meta, lam, app, head}
use Rattle.wh_terms.specs.Typing.{Symbols, Declared, Typed, typed_bound, typed_free, typed_fun, typed_meta, typed_lam, typed_app}
use Rattle.wh_terms.specs.Rules.{RewriteRule, AreWellMade}
use Rattle.wh_terms.specs.Value.{Body}
use Rattle.wh_terms.specs.declared.path.Step as taken
use Rattle.wh_terms.specs.Erase.{tm, rewrite_rules}
use Rattle.wh_terms.specs.declared.rule.Rule.{Rule}
use Rattle.wh_terms.specs.declared.term.Term.{Term}
use Rattle.wh_terms.proofs.TermLemmas.{tm_of_meta}
use Rattle.wh_terms.proofs.ValueForm.{value}
use Rattle.wh_terms.proofs.ValueLaws.{value_is}
use Rattle.wh_step.specs.Roots.{BetaStep, RuleStep, RootStep}
use Rattle.wh_step.proofs.RedexLemmas.{rules_counted}
use Rattle.wh_step.proofs.RootLaws.{rule_made, same_rule, StepsDown, down_root, down_function, down_argument, down_body, down_of_at, at_of_down}
use Rattle.wh_step.proofs.EnumerationLaws.{IsLeaf as IsLeafTerm}
use Rattle.wh_loop_steps.specs.Tables.{HasNumber, KeepsNumbers}
use Rattle.wh_loop_steps.specs.StepLists.{IsRuleTable, Lists, KeepsSteps, ListsRuleStep, ListsRuleSteps, ListsRootSteps, ListsStepsBelow}

-- one rule more

pub rule_steps_next : (rules : List RewriteRule) (numbers : List ℕ) (i n : ℕ) (t : Tm) (way : List ℕ) (old new : List taken.Step) → i < length numbers → n ≡ get_or numbers i n
    → ListsRuleSteps rules (take i numbers) t way old → KeepsSteps old new → ListsRuleStep rules n t way new → ListsRuleSteps rules (take (i + 1) numbers) t way new
rule_steps_next rules numbers i n t way old new within is before kept here k in_more r v e step =
    by_case (Contains-push_cases (take i numbers) n k (subst (λ l. Contains l k) (take_more numbers i n within ∙ ap (λ m. take i numbers ++ m ∷ []) (sym is)) in_more))
  where
    by_case : Contains (take i numbers) k ⊎ (n ≡ k) → Lists new (Some k) way
    by_case (inl h) = kept (record { rule = Some k; path = way }) (before k h r v e step)
    by_case (inr h) = subst (λ m. Lists new (Some m) way) h (here r v (ap (slice_get rules) h ∙ e) step)

-- the head of a value

head_value : (g : ℕ → Body) (p : Tm) (f : ℕ) → head p ≡ fun f → head (value g p) ≡ fun f
unfolding value
head_value g (bound i) f e = absurd (cc)
head_value g (free x a) f e = absurd (cc)
head_value g (fun c) f e = e
head_value g (meta z ts) f e = absurd (cc)
head_value g (lam a t) f e = absurd (cc)
head_value g (app t u) f e = head_value g t f e

pub head_of_redex : (r : RewriteRule) (t v : Tm) (f : ℕ) → head r.left ≡ fun f → RuleStep r t v → head t ≡ fun f
head_of_redex r t v f e (g, left, right) = subst (λ s. head s ≡ fun f) (sym (value_is left).1) (head_value g r.left f e)

-- the root

pub root_steps : (S : Symbols) (rules : List RewriteRule) (table : List (List ℕ)) (numbers : List ℕ) (t : Tm) (way : List ℕ) (steps : List taken.Step) → AreWellMade S rules → IsRuleTable rules table
    → ((f k : ℕ) → head t ≡ fun f → HasNumber table f k → Contains numbers k) → ((v : Tm) → BetaStep t v → Lists steps None way) → ListsRuleSteps rules numbers t way steps → ListsRootSteps rules t way steps
root_steps S rules table numbers t way steps made tabled found beta by_rules None v step = beta v step
root_steps S rules table numbers t way steps made tabled found beta by_rules (Some k) v (r, e, step) =
    let (f, headed) = (rule_made S made k r e).headed in
    by_rules k (found f k (head_of_redex r t v f headed step) (tabled k f r e headed)) r v e step

-- one level up

same_way : (steps : List taken.Step) (k : Option ℕ) (p q : List ℕ) → p ≡ q → Lists steps k p → Lists steps k q
same_way steps k p q e h = subst (Lists steps k) e h

function_is : (t u s v : Tm) → app t u ≡ app s v → t ≡ s
function_is t u s v e = cc

argument_is : (t u s v : Tm) → app t u ≡ app s v → u ≡ v
argument_is t u s v e = cc

body_is : (a b : Ty) (t s : Tm) → lam a t ≡ lam b s → t ≡ s
body_is a b t s e = cc

-- a tree with neither a function nor a body
abbrev pub IsLeaf : Tm → Type 0
IsLeaf (app t u) = ⊥
IsLeaf (lam a t) = ⊥
IsLeaf _ = Unit {0}

module _ (rules : List RewriteRule) (way : List ℕ) where
  at_root : (w v : Tm) (k : Option ℕ) (steps : List taken.Step) → ListsRootSteps rules w way steps → RootStep rules k w v → Lists steps k (way ++ [])
  at_root w v k steps h s = same_way steps k way (way ++ []) (sym (append-nil way)) (h k v s)

  deeper : (d : ℕ) (t v : Tm) (k : Option ℕ) (path : List ℕ) (steps : List taken.Step) → ListsStepsBelow rules t (way ++ d ∷ []) steps → StepsDown rules k path t v → Lists steps k (way ++ d ∷ path)
  deeper d t v k path steps h s = same_way steps k ((way ++ d ∷ []) ++ path) (way ++ d ∷ path) (append_assoc way (d ∷ []) path) (h k path v (at_of_down s))

  app_down : {k : Option ℕ} {path : List ℕ} {w v : Tm} (t u : Tm) (first mid last : List taken.Step) → w ≡ app t u → ListsRootSteps rules w way first → KeepsSteps first mid → ListsStepsBelow rules t (way ++ 0 ∷ []) mid
      → KeepsSteps mid last → ListsStepsBelow rules u (way ++ 1 ∷ []) last → StepsDown rules k path w v → Lists last k (way ++ path)
  app_down t u first mid last e roots kept fronts more lasts (down_root {k = k} {t = w} {u = v} s) = more (record { rule = k; path = way ++ [] }) (kept (record { rule = k; path = way ++ [] }) (at_root w v k first roots s))
  app_down t u first mid last e roots kept fronts more lasts (down_function {k = k} {path = path} {t = s} {t' = s'} {u = x} step) =
      more (record { rule = k; path = way ++ 0 ∷ path }) (deeper 0 t s' k path mid fronts (subst (λ q. StepsDown rules k path q s') (function_is s x t u e) step))
  app_down t u first mid last e roots kept fronts more lasts (down_argument {k = k} {path = path} {t = s} {u = x} {u' = x'} step) =
      deeper 1 u x' k path last lasts (subst (λ q. StepsDown rules k path q x') (argument_is s x t u e) step)
  app_down t u first mid last e roots kept fronts more lasts (down_body step) = absurd (cc)

  pub steps_of_app : (w t u : Tm) (way' way'' : List ℕ) (first mid last : List taken.Step) → w ≡ app t u → way' ≡ way ++ 0 ∷ [] → way'' ≡ way ++ 1 ∷ [] → ListsRootSteps rules w way first → KeepsSteps first mid
      → ListsStepsBelow rules t way' mid → KeepsSteps mid last → ListsStepsBelow rules u way'' last → ListsStepsBelow rules w way last
  steps_of_app w t u way' way'' first mid last e d d' roots kept fronts more lasts k path v s =
      app_down t u first mid last e roots kept (subst (λ p. ListsStepsBelow rules t p mid) d fronts) more (subst (λ p. ListsStepsBelow rules u p last) d' lasts) (down_of_at k path w v s)

  lam_down : {k : Option ℕ} {path : List ℕ} {w v : Tm} (a : Ty) (t : Tm) (first last : List taken.Step) → w ≡ lam a t → ListsRootSteps rules w way first → KeepsSteps first last → ListsStepsBelow rules t (way ++ 0 ∷ []) last
      → StepsDown rules k path w v → Lists last k (way ++ path)
  lam_down a t first last e roots kept bodies (down_root {k = k} {t = w} {u = v} s) = kept (record { rule = k; path = way ++ [] }) (at_root w v k first roots s)
  lam_down a t first last e roots kept bodies (down_function step) = absurd (cc)
  lam_down a t first last e roots kept bodies (down_argument step) = absurd (cc)
  lam_down a t first last e roots kept bodies (down_body {k = k} {path = path} {a = b} {t = s} {t' = s'} step) =
      deeper 0 t s' k path last bodies (subst (λ q. StepsDown rules k path q s') (body_is b a s t e) step)

  pub steps_of_lam : (w : Tm) (a : Ty) (t : Tm) (way' : List ℕ) (first last : List taken.Step) → w ≡ lam a t → way' ≡ way ++ 0 ∷ [] → ListsRootSteps rules w way first → KeepsSteps first last
      → ListsStepsBelow rules t way' last → ListsStepsBelow rules w way last
  steps_of_lam w a t way' first last e d roots kept bodies k path v s = lam_down a t first last e roots kept (subst (λ p. ListsStepsBelow rules t p last) d bodies) (down_of_at k path w v s)

  leaf_down : {k : Option ℕ} {path : List ℕ} {w v : Tm} (steps : List taken.Step) → IsLeaf w → ListsRootSteps rules w way steps → StepsDown rules k path w v → Lists steps k (way ++ path)
  leaf_down steps leaf roots (down_root {k = k} {t = w} {u = v} s) = at_root w v k steps roots s
  leaf_down steps leaf roots (down_function step) = absurd leaf
  leaf_down steps leaf roots (down_argument step) = absurd leaf
  leaf_down steps leaf roots (down_body step) = absurd leaf

  pub steps_of_leaf : (w : Tm) (steps : List taken.Step) → IsLeaf w → ListsRootSteps rules w way steps → ListsStepsBelow rules w way steps
  steps_of_leaf w steps leaf roots k path v s = leaf_down steps leaf roots (down_of_at k path w v s)

-- what is left where the last element is taken off again
pub taken_off : (xs ys zs : List ℕ) (d n : ℕ) → ys ≡ xs ++ d ∷ [] → zs ≡ take (n - 1) ys → length ys ≡ n → zs ≡ xs
taken_off xs ys zs d n e f g =
    let longer : length ys ≡ length xs + 1 = ap length e ∙ length_push xs d in
    f ∙ ap (take (n - 1)) e ∙ take_at xs (d ∷ []) (n - 1) (omega arith)

-- two facts on a result that is there
pub on_both : {T E : Type 0} (r : Result T E) (P Q R : Type 0) → (P → Q → R) → OnOk r P → OnOk r Q → OnOk r R
on_both (Ok x) P Q R f p q = f p q
on_both (Err e) P Q R f p q = tt

-- variables, symbols and meta-applications are leaves
pub leaf_of : (t : Term) → IsLeafTerm t → IsLeaf (tm t)
leaf_of t (inl (i, is)) = subst (λ s. IsLeaf (tm s)) (sym is) tt
leaf_of t (inr (inl (x, a, is))) = subst (λ s. IsLeaf (tm s)) (sym is) tt
leaf_of t (inr (inr (inl (f, is)))) = subst (λ s. IsLeaf (tm s)) (sym is) tt
leaf_of t (inr (inr (inr (z, ts, is)))) = subst IsLeaf (sym (tm_of_meta t z ts is)) tt

pub symbol_is : (f g : ℕ) → fun g ≡ fun f → f ≡ g
symbol_is f g e = cc

-- the symbol at the head of a typed tree is a symbol
pub head_low : {S : Symbols} {M : List Declared} {Γ : List Ty} {t : Tm} {a : Ty} → Typed S M Γ t a → (f : ℕ) → head t ≡ fun f → f < length S.funs
head_low (typed_bound e) f h = absurd (cc)
head_low (typed_free p) f h = absurd (cc)
head_low (typed_fun {S = S} {f = g} {a = a} e) f h = let same : f ≡ g = symbol_is f g h in subst (λ n. n < length S.funs) (sym same) (slice_get_within S.funs g a e)
head_low (typed_meta e ps q) f h = absurd (cc)
head_low (typed_lam p q) f h = absurd (cc)
head_low (typed_app p q) f h = head_low p f h

-- a table of the first rules, and one rule more

abbrev pub IsRuleTableBelow : ℕ → List RewriteRule → List (List ℕ) → Type 0
IsRuleTableBelow i rules table = (k f : ℕ) (r : RewriteRule) → k < i → slice_get rules k ≡ Some r → head r.left ≡ fun f → HasNumber table f k

pub below_or_at : (k i : ℕ) → k < i + 1 → (k < i) ⊎ (k ≡ i)
below_or_at zero zero h = inr refl
below_or_at zero (suc i) h = inl (omega arith)
below_or_at (suc k) zero h = absurd (omega arith)
below_or_at (suc k) (suc i) h = one_more (below_or_at k i (omega arith))
  where
    one_more : (k < i) ⊎ (k ≡ i) → (suc k < suc i) ⊎ (suc k ≡ suc i)
    one_more (inl low) = inl (omega arith)
    one_more (inr is) = inr (ap suc is)

pub rule_table_next : (rules : List RewriteRule) (i : ℕ) (r : RewriteRule) (old new : List (List ℕ)) → slice_get rules i ≡ Some r → IsRuleTableBelow i rules old → KeepsNumbers old new
    → ((f : ℕ) → head r.left ≡ fun f → HasNumber new f i) → IsRuleTableBelow (i + 1) rules new
rule_table_next rules i r old new here before kept added k f q low e headed = by_case (below_or_at k i low)
  where
    by_case : (k < i) ⊎ (k ≡ i) → HasNumber new f k
    by_case (inl h) = kept f k (before k f q h e headed)
    by_case (inr h) =
        let same : q ≡ r = same_rule rules k r q (ap (slice_get rules) h ∙ here) e in
        subst (HasNumber new f) (sym h) (added f (subst (λ p. head p.left ≡ fun f) same headed))

pub rule_table_all : (rules : List Rule) (i : ℕ) (table : List (List ℕ)) → length rules ≤ i → IsRuleTableBelow i (rewrite_rules rules) table → IsRuleTable (rewrite_rules rules) table
rule_table_all rules i table all h k f r e headed =
    let low : k < length (rewrite_rules rules) = slice_get_within (rewrite_rules rules) k r e in
    h k f r (omega (arith, rules_counted rules)) e headed
