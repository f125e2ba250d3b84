-- What good inferences say of parts.
use Rattle.std.proofs.Common.{◌≡◌, ◌≢◌, ℕ, zero, suc, true, false, ◌&&◌, List, [], ◌∷◌, inl, inr, refl, ap, ap₂, ◌∙◌, subst, Some, None, slice_get, arith, eqb-true}
use Rattle.std.specs.Prelude.{◌==◌}
use Rattle.wh_terms.specs.Tree.{Tm, bound, free, fun, meta, lam, app, none, head}
use Rattle.wh_terms.specs.Typing.{Symbols, Declared}
use Rattle.wh_order_inference.specs.Filters.{Filter}
use Rattle.wh_order_inference.specs.Inferences.{Letter, same_trees, Inference, infer, Inferences, no_parts, more_parts, letter_of}
use Rattle.wh_order_extended.specs.Filtered.{precedences}
use Rattle.wh_order_path.specs.Heads.{nearest}
use Rattle.wh_order_path.specs.SameTrees.{all_same}
use Rattle.wh_order_path.specs.Verdict as v
use Rattle.wh_order_path.specs.Verdict.{Task, at_least, greater, above, each, is_other_head, is_abstracted, above_tasks, verdict, verdicts}
use Rattle.wh_order_path.proofs.SameTreeLaws.{some_none, both, trees_equal}
use Rattle.wh_order_path.proofs.AskedTasks.{split, first_part, above_asks, GreaterAsks, asks_bodies, asks_arguments, asks_above, AtLeastAsks, asks_same, asks_greater, at_least_asks}
use Rattle.wh_order_demands.specs.declared.claim.Claim.TheVariants.{AtLeast}
use Rattle.wh_order_demands.specs.Claims.{behind, Holds, IsShown, IsGreater}
use Rattle.wh_order_demands.proofs.BehindLemmas.{symbol_not_other}

one_of : {A : Type 0} {a b : A} → Some a ≡ Some b → a ≡ b
one_of e = cc

module _ (F : Symbols) (prec : ℕ → ℕ) (M : List Declared) where
  pub shown_by : (k : Task) (i : Inference) → verdict F prec M k i ≡ None → IsShown prec k
  shown_by k (infer l n is) e =
      let (ks, a, g) = split F prec M k l n is e in
      record { signature = F; metas = M; letter = l; place = n; parts = is; asked = ks; asks = a; good = g }

  -- the first of the tasks
  pub first_shown : (k : Task) (ks : List Task) (is : Inferences) → verdicts F prec M (k ∷ ks) is ≡ None → (i : Inference) × (verdict F prec M k i ≡ None)
  first_shown k ks no_parts e = absurd (some_none e)
  first_shown k ks (more_parts i is) e = (i, (first_part F prec M k ks i is e).0)

  pub others_shown : (k : Task) (ks : List Task) (is : Inferences) → verdicts F prec M (k ∷ ks) is ≡ None → (js : Inferences) × (verdicts F prec M ks js ≡ None)
  others_shown k ks no_parts e = absurd (some_none e)
  others_shown k ks (more_parts i is) e = (is, (first_part F prec M k ks i is e).1)

  -- each of the tasks for the trees of a list
  pub each_shown : (c : v.Claim) (n : ℕ) (s : Tm) (ts : List Tm) (is : Inferences) → verdicts F prec M (each c n s ts) is ≡ None
      → (m : ℕ) (u : Tm) → slice_get ts m ≡ Some u → (i : Inference) × (verdict F prec M (record { claim = c; next = n; left = s; right = u }) i ≡ None)
  each_shown c n s [] is e m u at = absurd (cc)
  each_shown c n s (t ∷ ts) is e zero u at =
      subst (λ u. (i : Inference) × (verdict F prec M (record { claim = c; next = n; left = s; right = u }) i ≡ None)) (one_of at)
      (first_shown (record { claim = c; next = n; left = s; right = t }) (each c n s ts) is e)
  each_shown c n s (t ∷ ts) is e (suc m) u at =
      let (js, g) = others_shown (record { claim = c; next = n; left = s; right = t }) (each c n s ts) is e in
      each_shown c n s ts js g m u at

  -- where a symbol heads the greater tree it is above
  pub greater_above : (next : ℕ) (s t : Tm) (f : ℕ) → head s ≡ fun f → (l : Letter) (n : ℕ) (is : Inferences) (ks : List Task)
      → GreaterAsks F prec M next s t l n is ks → above_tasks F prec M next next s t l n ≡ Some ks
  greater_above next s t f e l n is ks (asks_bodies d k) = absurd (cc)
  greater_above next s t f e l n is ks (asks_arguments other heads count strict k) = absurd (symbol_not_other f _ e other)
  greater_above next s t f e l n is ks (asks_above a) = a

  -- no tree that no symbol heads is greater than one that a symbol heads
  pub greater_none : (next : ℕ) (s t : Tm) (g : ℕ) → is_other_head (head s) ≡ true → head t ≡ fun g → (l : Letter) (n : ℕ) (is : Inferences) (ks : List Task)
      → GreaterAsks F prec M next s t l n is ks → ⊥
  greater_none next s t g o e l n is ks (asks_bodies d k) = absurd (cc)
  greater_none next s t g o e l n is ks (asks_arguments other heads count strict k) = symbol_not_other g _ (heads ∙ e) other
  greater_none next s t g o e l n is ks (asks_above a) =
      let ((f, h), _) = above_asks F prec M next next s t l n ks a in
      symbol_not_other f (head s) h o

  -- and none is less than a meta-variable without arguments
  pub meta_greater_none : (next : ℕ) (s t : Tm) (z : ℕ) → s ≡ meta z none → (l : Letter) (n : ℕ) (is : Inferences) (ks : List Task)
      → GreaterAsks F prec M next s t l n is ks → ⊥
  meta_greater_none next s t z e l n is ks (asks_bodies d k) = absurd (cc)
  meta_greater_none next s t z e l n is ks (asks_arguments other heads count strict k) = absurd (cc)
  meta_greater_none next s t z e l n is ks (asks_above a) =
      let ((f, h), _) = above_asks F prec M next next s t l n ks a in
      symbol_not_other f (head s) h (ap (λ s. is_other_head (head s)) e)

-- trees of which one is at least the other
pub at_least_holds : (Φ : ℕ → Filter) (F : Symbols) (M : List Declared) (next : ℕ) (s t : Tm) (i : Inference)
    → verdict F (precedences Φ) M (record { claim = at_least; next = next; left = behind Φ s; right = behind Φ t }) i ≡ None → Holds Φ AtLeast s t
at_least_holds Φ F M next s t (infer l n is) e =
    let (ks, a, g) = split F (precedences Φ) M (record { claim = at_least; next = next; left = behind Φ s; right = behind Φ t }) l n is e in
    on ks g l n (at_least_asks F (precedences Φ) M next (behind Φ s) (behind Φ t) l n is ks a)
  where
    on : (ks : List Task) → verdicts F (precedences Φ) M ks is ≡ None → (l : Letter) (n : ℕ) → AtLeastAsks F (precedences Φ) M next (behind Φ s) (behind Φ t) l n is ks → Holds Φ AtLeast s t
    on ks g same_trees zero (asks_same d k) = inl d
    on ks g l n (asks_greater d) =
        inr (record { next = next; shown = record { signature = F; metas = M; letter = l; place = n; parts = is; asked = ks; asks = d; good = g } })

-- of which one is greater, since the inference is not that of equal trees
pub greater_holds : (Φ : ℕ → Filter) (F : Symbols) (M : List Declared) (next : ℕ) (s t : Tm) (i : Inference)
    → verdict F (precedences Φ) M (record { claim = at_least; next = next; left = behind Φ s; right = behind Φ t }) i ≡ None → letter_of i ≢ same_trees → IsGreater Φ s t
greater_holds Φ F M next s t (infer l n is) e differ =
    let (ks, a, g) = split F (precedences Φ) M (record { claim = at_least; next = next; left = behind Φ s; right = behind Φ t }) l n is e in
    on ks g l n differ (at_least_asks F (precedences Φ) M next (behind Φ s) (behind Φ t) l n is ks a)
  where
    on : (ks : List Task) → verdicts F (precedences Φ) M ks is ≡ None → (l : Letter) (n : ℕ) → l ≢ same_trees
        → AtLeastAsks F (precedences Φ) M next (behind Φ s) (behind Φ t) l n is ks → IsGreater Φ s t
    on ks g same_trees zero ne (asks_same d k) = absurd (ne refl)
    on ks g l n ne (asks_greater d) =
        record { next = next; shown = record { signature = F; metas = M; letter = l; place = n; parts = is; asked = ks; asks = d; good = g } }

no_true : false ≡ true → ⊥
no_true e = cc

no_abstraction : (z k : ℕ) (u : Tm) → is_abstracted z 0 (suc k) u ≡ true → ⊥
no_abstraction z k (lam a u) e = no_abstraction z (suc k) u e
no_abstraction z k (meta y ts) e =
    let (d, _) = both ((y == z) && (suc k == 0)) (all_same ts (nearest 0)) e in
    let (_, never) = both (y == z) (suc k == 0) d in
    omega (arith, eqb-true (suc k) 0 never)
no_abstraction z k (bound i) e = no_true e
no_abstraction z k (free x a) e = no_true e
no_abstraction z k (fun f) e = no_true e
no_abstraction z k (app t u) e = no_true e

-- a meta-variable without arguments is only itself
pub meta_alone : (z : ℕ) (u : Tm) → is_abstracted z 0 0 u ≡ true → u ≡ meta z none
meta_alone z (lam a u) e = absurd (no_abstraction z 0 u e)
meta_alone z (meta y ts) e =
    let (d, arguments_same) = both ((y == z) && (0 == 0)) (all_same ts (nearest 0)) e in
    let (one, _) = both (y == z) (0 == 0) d in
    ap₂ meta (eqb-true y z one) (trees_equal ts none arguments_same)
meta_alone z (bound i) e = absurd (cc)
meta_alone z (free x a) e = absurd (cc)
meta_alone z (fun f) e = absurd (cc)
meta_alone z (app t u) e = absurd (cc)
