-- What the letters ask for, each in the cases that the code tells apart.
use Rattle.std.proofs.Common.{◌≡◌, ℕ, zero, suc, ◌<◌, ◌≤◌, List, [], ◌∷◌, length, take, Bool, true, false, ◌&&◌, cond, Option, Some, None, slice_get, refl, ap, ap₂, sym, ◌∙◌, arith}
use Rattle.std.specs.Prelude.{◌==◌, nat_lt}
use Rattle.std.proofs.lemmas.Bool.{eq-eqb, ne_eqb, lt-ltb, le-ltb}
use Rattle.wh_types.specs.Ty.{Ty}
use Rattle.wh_terms.specs.Tree.{Tm, bound, free, fun, meta, lam, app, Tms, head}
use Rattle.wh_terms.specs.Substitution.{opened}
use Rattle.wh_terms.specs.Typing.{Symbols, Declared}
use Rattle.wh_order_inference.specs.Inferences.{Letter, same_trees, bodies, arguments, part, lower, first_less, spine_parts, body, variable, meta_part}
use Rattle.wh_order_path.specs.Heads.{arguments_of, list_of}
use Rattle.wh_order_path.specs.SameTrees.{same_list}
use Rattle.wh_order_path.specs.Verdict.{at_least, greater, above, Task, each, when, is_other_head, is_abstracted, symbol_tasks, above_tasks}
use Rattle.wh_order_trees.specs.TreeParts.{item_at, body_in, number_in, IsMeta, IsOtherSpine}

module _ (F : Symbols) (prec : ℕ → ℕ) (M : List Declared) where
  -- s

  pub part_none : (f from next : ℕ) (s t h : Tm) (place : ℕ) → item_at (arguments_of s) place ≡ None → symbol_tasks F prec M f from next s t part place h ≡ None
  part_none f from next s t h zero e = refl
  part_none f from next s t h (suc k) e =
      ap (λ (o : Option Tm). elim o as (λ x. Option (List Task)) [ None ↦ None | Some u ↦ Some (record { claim = at_least; next = next; left = u; right = t } ∷ []) ]) e

  pub part_some : (f from next : ℕ) (s t h u : Tm) (place : ℕ) → item_at (arguments_of s) place ≡ Some u
      → symbol_tasks F prec M f from next s t part place h ≡ Some (record { claim = at_least; next = next; left = u; right = t } ∷ [])
  part_some f from next s t h u zero e = absurd (cc)
  part_some f from next s t h u (suc k) e =
      ap (λ (o : Option Tm). elim o as (λ x. Option (List Task)) [ None ↦ None | Some v ↦ Some (record { claim = at_least; next = next; left = v; right = t } ∷ []) ]) e

  -- p

  pub lower_place : (f from next : ℕ) (s t h : Tm) (place : ℕ) → 0 < place → symbol_tasks F prec M f from next s t lower place h ≡ None
  lower_place f from next s t h zero some = absurd (omega arith)
  lower_place f from next s t h (suc k) some = refl

  pub lower_other : (f from next : ℕ) (s t h : Tm) (place : ℕ) → ((g : ℕ) → h ≡ fun g → ⊥) → symbol_tasks F prec M f from next s t lower place h ≡ None
  lower_other f from next s t h (suc k) refuted = refl
  lower_other f from next s t (bound i) zero refuted = refl
  lower_other f from next s t (free x a) zero refuted = refl
  lower_other f from next s t (fun g) zero refuted = absurd (refuted g refl)
  lower_other f from next s t (meta z ts) zero refuted = refl
  lower_other f from next s t (lam a u) zero refuted = refl
  lower_other f from next s t (app u v) zero refuted = refl

  lower_at : (f g from next : ℕ) (s t h : Tm) → h ≡ fun g → symbol_tasks F prec M f from next s t lower zero h ≡ when (nat_lt (prec g) (prec f)) (each (above from) next s (arguments_of t))
  lower_at f g from next s t h e = ap (λ (h : Tm). symbol_tasks F prec M f from next s t lower zero h) e

  pub lower_not : (f g from next : ℕ) (s t h : Tm) (place : ℕ) → h ≡ fun g → prec f ≤ prec g → symbol_tasks F prec M f from next s t lower place h ≡ None
  lower_not f g from next s t h (suc k) e not = refl
  lower_not f g from next s t h zero e not = lower_at f g from next s t h e ∙ ap (λ b. when b (each (above from) next s (arguments_of t))) (le-ltb (prec g) (prec f) not)

  pub lower_is : (f g from next : ℕ) (s t h : Tm) (place : ℕ) → place ≡ 0 → h ≡ fun g → prec g < prec f → symbol_tasks F prec M f from next s t lower place h ≡ Some (each (above from) next s (arguments_of t))
  lower_is f g from next s t h (suc k) zero_place e less = absurd (omega (arith, zero_place))
  lower_is f g from next s t h zero zero_place e less = lower_at f g from next s t h e ∙ ap (λ b. when b (each (above from) next s (arguments_of t))) (lt-ltb (prec g) (prec f) less)

  -- x

  pub less_other : (f from next : ℕ) (s t h : Tm) (place : ℕ) → ((g : ℕ) → h ≡ fun g → ⊥) → symbol_tasks F prec M f from next s t first_less place h ≡ None
  less_other f from next s t h zero refuted = refl
  less_other f from next s t (bound i) (suc k) refuted = refl
  less_other f from next s t (free x a) (suc k) refuted = refl
  less_other f from next s t (fun g) (suc k) refuted = absurd (refuted g refl)
  less_other f from next s t (meta z ts) (suc k) refuted = refl
  less_other f from next s t (lam a u) (suc k) refuted = refl
  less_other f from next s t (app u v) (suc k) refuted = refl

  abbrev less : (from next : ℕ) → Tm → Tm → Option Tm → Option Tm → Bool → Option (List Task)
  less from next s t o p b = elim o as (λ x. Option (List Task)) [
    | None ↦ None
    | Some u ↦ elim p as (λ x. Option (List Task)) [
      | None ↦ None
      | Some v ↦ when b (record { claim = greater; next = next; left = u; right = v } ∷ each (above from) next s (arguments_of t))
    ]
  ]

  less_at : (f g from next : ℕ) (s t h : Tm) (k : ℕ) → h ≡ fun g → symbol_tasks F prec M f from next s t first_less (suc k) h
      ≡ less from next s t (slice_get (arguments_of s) k) (slice_get (arguments_of t) k) ((prec g == prec f) && same_list (take k (arguments_of s)) (take k (arguments_of t)))
  less_at f g from next s t h k e = ap (λ (h : Tm). symbol_tasks F prec M f from next s t first_less (suc k) h) e

  less_no_right : (from next : ℕ) (s t : Tm) (o : Option Tm) (b : Bool) → less from next s t o None b ≡ None
  less_no_right from next s t None b = refl
  less_no_right from next s t (Some u) b = refl

  less_false : (from next : ℕ) (s t : Tm) (o p : Option Tm) → less from next s t o p false ≡ None
  less_false from next s t None p = refl
  less_false from next s t (Some u) None = refl
  less_false from next s t (Some u) (Some v) = refl

  pub less_place : (f from next : ℕ) (s t h : Tm) (place : ℕ) → place ≡ 0 → symbol_tasks F prec M f from next s t first_less place h ≡ None
  less_place f from next s t h zero e = refl
  less_place f from next s t h (suc k) e = absurd (omega (arith, e))

  pub less_not : (f g from next : ℕ) (s t h : Tm) (place : ℕ) → h ≡ fun g → (prec g ≡ prec f → ⊥) → symbol_tasks F prec M f from next s t first_less place h ≡ None
  less_not f g from next s t h zero e refuted = refl
  less_not f g from next s t h (suc k) e refuted =
      less_at f g from next s t h k e
      ∙ ap (λ b. less from next s t (slice_get (arguments_of s) k) (slice_get (arguments_of t) k) (b && same_list (take k (arguments_of s)) (take k (arguments_of t)))) (ne_eqb (prec g) (prec f) refuted)
      ∙ less_false from next s t (slice_get (arguments_of s) k) (slice_get (arguments_of t) k)

  pub less_short_left : (f g from next : ℕ) (s t h : Tm) (k : ℕ) → h ≡ fun g → slice_get (arguments_of s) k ≡ None → symbol_tasks F prec M f from next s t first_less (suc k) h ≡ None
  less_short_left f g from next s t h k e n =
      less_at f g from next s t h k e
      ∙ ap (λ (o : Option Tm). less from next s t o (slice_get (arguments_of t) k) ((prec g == prec f) && same_list (take k (arguments_of s)) (take k (arguments_of t)))) n

  pub less_short_right : (f g from next : ℕ) (s t h : Tm) (k : ℕ) → h ≡ fun g → slice_get (arguments_of t) k ≡ None → symbol_tasks F prec M f from next s t first_less (suc k) h ≡ None
  less_short_right f g from next s t h k e n =
      less_at f g from next s t h k e
      ∙ ap (λ (o : Option Tm). less from next s t (slice_get (arguments_of s) k) o ((prec g == prec f) && same_list (take k (arguments_of s)) (take k (arguments_of t)))) n
      ∙ less_no_right from next s t (slice_get (arguments_of s) k) ((prec g == prec f) && same_list (take k (arguments_of s)) (take k (arguments_of t)))

  pub less_differ : (f g from next : ℕ) (s t h : Tm) (k : ℕ) → h ≡ fun g → same_list (take k (arguments_of s)) (take k (arguments_of t)) ≡ false → symbol_tasks F prec M f from next s t first_less (suc k) h ≡ None
  less_differ f g from next s t h k e d =
      less_at f g from next s t h k e
      ∙ ap (λ b. less from next s t (slice_get (arguments_of s) k) (slice_get (arguments_of t) k) ((prec g == prec f) && b)) d
      ∙ ap (less from next s t (slice_get (arguments_of s) k) (slice_get (arguments_of t) k)) (refuted (prec g == prec f))
      ∙ less_false from next s t (slice_get (arguments_of s) k) (slice_get (arguments_of t) k)
    where
      refuted : (b : Bool) → (b && false) ≡ false
      refuted true = refl
      refuted false = refl

  pub less_is : (f g from next : ℕ) (s t h u v : Tm) (k : ℕ) → h ≡ fun g → prec g ≡ prec f → same_list (take k (arguments_of s)) (take k (arguments_of t)) ≡ true
      → slice_get (arguments_of s) k ≡ Some u → slice_get (arguments_of t) k ≡ Some v
      → symbol_tasks F prec M f from next s t first_less (suc k) h ≡ Some (record { claim = greater; next = next; left = u; right = v } ∷ each (above from) next s (arguments_of t))
  less_is f g from next s t h u v k e same_prec same_front es et =
      less_at f g from next s t h k e
      ∙ ap₂ (λ (o p : Option Tm). less from next s t o p ((prec g == prec f) && same_list (take k (arguments_of s)) (take k (arguments_of t)))) es et
      ∙ ap₂ (λ b c. when (b && c) (record { claim = greater; next = next; left = u; right = v } ∷ each (above from) next s (arguments_of t))) (eq-eqb (prec g) (prec f) same_prec) same_front

  -- a

  other_heads : (u v : Tm) (l : List Task) → (IsOtherSpine (app u v) → ⊥) → when (is_other_head (head (app u v))) l ≡ None
  other_heads u v l refuted = on (head u) refl
    where
      on : (h : Tm) → head u ≡ h → when (is_other_head h) l ≡ None
      on (bound i) e = absurd (refuted (λ f k. absurd (cc (sym e ∙ k))))
      on (free x a) e = absurd (refuted (λ f k. absurd (cc (sym e ∙ k))))
      on (fun f) e = refl
      on (meta z ts) e = absurd (refuted (λ f k. absurd (cc (sym e ∙ k))))
      on (lam a t) e = absurd (refuted (λ f k. absurd (cc (sym e ∙ k))))
      on (app p q) e = refl

  pub spine_none : (f from next : ℕ) (s t : Tm) (place : ℕ) → (IsOtherSpine t → ⊥) → symbol_tasks F prec M f from next s t spine_parts place (head t) ≡ None
  spine_none f from next s (bound i) zero refuted = refl
  spine_none f from next s (free x a) zero refuted = refl
  spine_none f from next s (fun g) zero refuted = refl
  spine_none f from next s (meta z ts) zero refuted = refl
  spine_none f from next s (lam a u) zero refuted = refl
  spine_none f from next s (app u v) zero refuted = other_heads u v (each (above from) next s (head (app u v) ∷ arguments_of (app u v))) refuted
  spine_none f from next s (bound i) (suc k) refuted = refl
  spine_none f from next s (free x a) (suc k) refuted = refl
  spine_none f from next s (fun g) (suc k) refuted = refl
  spine_none f from next s (meta z ts) (suc k) refuted = refl
  spine_none f from next s (lam a u) (suc k) refuted = refl
  spine_none f from next s (app u v) (suc k) refuted = refl

  pub spine_place : (f from next : ℕ) (s t h : Tm) (place : ℕ) → 0 < place → symbol_tasks F prec M f from next s t spine_parts place h ≡ None
  spine_place f from next s t h zero some = absurd (omega arith)
  spine_place f from next s (bound i) h (suc k) some = refl
  spine_place f from next s (free x a) h (suc k) some = refl
  spine_place f from next s (fun g) h (suc k) some = refl
  spine_place f from next s (meta z ts) h (suc k) some = refl
  spine_place f from next s (lam a u) h (suc k) some = refl
  spine_place f from next s (app u v) h (suc k) some = refl

  pub spine_is : (f from next : ℕ) (s t u v h : Tm) (place : ℕ) → place ≡ 0 → t ≡ app u v → head t ≡ h → is_other_head h ≡ true
      → symbol_tasks F prec M f from next s t spine_parts place (head t) ≡ Some (each (above from) next s (h ∷ arguments_of t))
  spine_is f from next s t u v h (suc k) zero_place form e other = absurd (omega (arith, zero_place))
  spine_is f from next s (app p q) u v h zero zero_place form e other =
      ap (λ (h : Tm). when (is_other_head h) (each (above from) next s (h ∷ arguments_of (app p q)))) e
      ∙ ap (λ b. when b (each (above from) next s (h ∷ arguments_of (app p q)))) other
  spine_is f from next s (bound i) u v h zero zero_place form e other = absurd (cc)
  spine_is f from next s (free x a) u v h zero zero_place form e other = absurd (cc)
  spine_is f from next s (fun g) u v h zero zero_place form e other = absurd (cc)
  spine_is f from next s (meta z ts) u v h zero zero_place form e other = absurd (cc)
  spine_is f from next s (lam a p) u v h zero zero_place form e other = absurd (cc)

  -- b

  pub body_place : (f from next : ℕ) (s t h : Tm) (place : ℕ) → 0 < place → symbol_tasks F prec M f from next s t body place h ≡ None
  body_place f from next s t h zero some = absurd (omega arith)
  body_place f from next s (bound i) h (suc k) some = refl
  body_place f from next s (free x a) h (suc k) some = refl
  body_place f from next s (fun g) h (suc k) some = refl
  body_place f from next s (meta z ts) h (suc k) some = refl
  body_place f from next s (lam a u) h (suc k) some = refl
  body_place f from next s (app u v) h (suc k) some = refl

  pub body_none : (f from next : ℕ) (s t h : Tm) (place : ℕ) → body_in t ≡ None → symbol_tasks F prec M f from next s t body place h ≡ None
  body_none f from next s (bound i) h zero e = refl
  body_none f from next s (free x a) h zero e = refl
  body_none f from next s (fun g) h zero e = refl
  body_none f from next s (meta z ts) h zero e = refl
  body_none f from next s (lam a u) h zero e = absurd (cc)
  body_none f from next s (app u v) h zero e = refl
  body_none f from next s t h (suc k) e = body_place f from next s t h (suc k) (omega arith)

  pub body_is : (f from next : ℕ) (s t h u : Tm) (a : Ty) (place : ℕ) → place ≡ 0 → t ≡ lam a u
      → symbol_tasks F prec M f from next s t body place h ≡ Some (record { claim = above from; next = suc next; left = s; right = opened (free next a) u } ∷ [])
  body_is f from next s t h u a (suc k) zero_place e = absurd (omega (arith, zero_place))
  body_is f from next s t h u a zero zero_place e = ap (λ (t : Tm). symbol_tasks F prec M f from next s t body zero h) e

  -- v

  pub variable_place : (f from next : ℕ) (s t h : Tm) (place : ℕ) → 0 < place → symbol_tasks F prec M f from next s t variable place h ≡ None
  variable_place f from next s t h zero some = absurd (omega arith)
  variable_place f from next s (bound i) h (suc k) some = refl
  variable_place f from next s (free x a) h (suc k) some = refl
  variable_place f from next s (fun g) h (suc k) some = refl
  variable_place f from next s (meta z ts) h (suc k) some = refl
  variable_place f from next s (lam a u) h (suc k) some = refl
  variable_place f from next s (app u v) h (suc k) some = refl

  pub variable_at : (f from next : ℕ) (s t h : Tm) (x : ℕ) → number_in t ≡ Some x → symbol_tasks F prec M f from next s t variable zero h ≡ when (cond (nat_lt x from) false (nat_lt x next)) []
  variable_at f from next s (free y a) h x e = ap (λ (o : Option ℕ). when (elim o as (λ z. Bool) [ None ↦ false | Some z ↦ cond (nat_lt z from) false (nat_lt z next) ]) []) e
  variable_at f from next s (bound i) h x e = absurd (cc)
  variable_at f from next s (fun g) h x e = absurd (cc)
  variable_at f from next s (meta z ts) h x e = absurd (cc)
  variable_at f from next s (lam a u) h x e = absurd (cc)
  variable_at f from next s (app u v) h x e = absurd (cc)

  pub variable_none : (f from next : ℕ) (s t h : Tm) (place : ℕ) → number_in t ≡ None → symbol_tasks F prec M f from next s t variable place h ≡ None
  variable_none f from next s t h (suc k) e = variable_place f from next s t h (suc k) (omega arith)
  variable_none f from next s (bound i) h zero e = refl
  variable_none f from next s (free x a) h zero e = absurd (cc)
  variable_none f from next s (fun g) h zero e = refl
  variable_none f from next s (meta z ts) h zero e = refl
  variable_none f from next s (lam a u) h zero e = refl
  variable_none f from next s (app u v) h zero e = refl

  pub variable_low : (f from next : ℕ) (s t h : Tm) (place x : ℕ) → number_in t ≡ Some x → x < from → symbol_tasks F prec M f from next s t variable place h ≡ None
  variable_low f from next s t h (suc k) x e low = variable_place f from next s t h (suc k) (omega arith)
  variable_low f from next s t h zero x e low = variable_at f from next s t h x e ∙ ap (λ b. when (cond b false (nat_lt x next)) []) (lt-ltb x from low)

  pub variable_high : (f from next : ℕ) (s t h : Tm) (place x : ℕ) → number_in t ≡ Some x → next ≤ x → symbol_tasks F prec M f from next s t variable place h ≡ None
  variable_high f from next s t h (suc k) x e high = variable_place f from next s t h (suc k) (omega arith)
  variable_high f from next s t h zero x e high = variable_at f from next s t h x e ∙ ap (λ b. when (cond (nat_lt x from) false b) []) (le-ltb x next high) ∙ refuted (nat_lt x from)
    where
      refuted : (b : Bool) → when (cond b false false) [] ≡ None
      refuted true = refl
      refuted false = refl

  pub variable_is : (f from next : ℕ) (s t h : Tm) (place x : ℕ) → place ≡ 0 → number_in t ≡ Some x → from ≤ x → x < next → symbol_tasks F prec M f from next s t variable place h ≡ Some []
  variable_is f from next s t h (suc k) x zero_place e low high = absurd (omega (arith, zero_place))
  variable_is f from next s t h zero x zero_place e low high =
      variable_at f from next s t h x e ∙ ap₂ (λ b c. when (cond b false c) []) (le-ltb x from low) (lt-ltb x next high)

  -- z

  pub meta_none : (f from next : ℕ) (s t h : Tm) (place : ℕ) → (IsMeta t → ⊥) → symbol_tasks F prec M f from next s t meta_part place h ≡ None
  meta_none f from next s (bound i) h zero refuted = refl
  meta_none f from next s (free x a) h zero refuted = refl
  meta_none f from next s (fun g) h zero refuted = refl
  meta_none f from next s (meta z ts) h zero refuted = absurd (refuted tt)
  meta_none f from next s (lam a u) h zero refuted = refl
  meta_none f from next s (app u v) h zero refuted = refl
  meta_none f from next s (bound i) h (suc k) refuted = refl
  meta_none f from next s (free x a) h (suc k) refuted = refl
  meta_none f from next s (fun g) h (suc k) refuted = refl
  meta_none f from next s (meta z ts) h (suc k) refuted = absurd (refuted tt)
  meta_none f from next s (lam a u) h (suc k) refuted = refl
  meta_none f from next s (app u v) h (suc k) refuted = refl

  abbrev behind : (from next : ℕ) → Tm → ℕ → Tms → Option Tm → Option (List Task)
  behind from next s z ts o = elim o as (λ x. Option (List Task)) [ None ↦ None | Some u ↦ when (is_abstracted z (length (list_of ts)) 0 u) (each (above from) next s (list_of ts)) ]

  meta_at : (f from next : ℕ) (s t h : Tm) (z k : ℕ) (ts : Tms) → t ≡ meta z ts → symbol_tasks F prec M f from next s t meta_part (suc k) h ≡ behind from next s z ts (slice_get (arguments_of s) k)
  meta_at f from next s t h z k ts e = ap (λ (t : Tm). symbol_tasks F prec M f from next s t meta_part (suc k) h) e

  pub meta_no_item : (f from next : ℕ) (s t h : Tm) (z place : ℕ) (ts : Tms) → t ≡ meta z ts → item_at (arguments_of s) place ≡ None → symbol_tasks F prec M f from next s t meta_part place h ≡ None
  meta_no_item f from next s t h z zero ts e none = ap (λ (t : Tm). symbol_tasks F prec M f from next s t meta_part zero h) e
  meta_no_item f from next s t h z (suc k) ts e none = meta_at f from next s t h z k ts e ∙ ap (behind from next s z ts) none

  pub meta_other : (f from next : ℕ) (s t h u : Tm) (z place : ℕ) (ts : Tms) → t ≡ meta z ts → item_at (arguments_of s) place ≡ Some u → is_abstracted z (length (list_of ts)) 0 u ≡ false
      → symbol_tasks F prec M f from next s t meta_part place h ≡ None
  meta_other f from next s t h u z zero ts e some not = absurd (cc)
  meta_other f from next s t h u z (suc k) ts e some not =
      meta_at f from next s t h z k ts e ∙ ap (behind from next s z ts) some ∙ ap (λ b. when b (each (above from) next s (list_of ts))) not

  pub meta_is : (f from next : ℕ) (s t h u : Tm) (z place : ℕ) (ts : Tms) → t ≡ meta z ts → item_at (arguments_of s) place ≡ Some u → is_abstracted z (length (list_of ts)) 0 u ≡ true
      → symbol_tasks F prec M f from next s t meta_part place h ≡ Some (each (above from) next s (list_of ts))
  meta_is f from next s t h u z zero ts e some so = absurd (cc)
  meta_is f from next s t h u z (suc k) ts e some so =
      meta_at f from next s t h z k ts e ∙ ap (behind from next s z ts) some ∙ ap (λ b. when b (each (above from) next s (list_of ts))) so

  -- where a symbol heads the left tree, or none does

  pub above_none : (from next : ℕ) (s t : Tm) (l : Letter) (place : ℕ) → ((f : ℕ) → head s ≡ fun f → ⊥) → above_tasks F prec M from next s t l place ≡ None
  above_none from next s t l place refuted = on (head s) refl
    where
      on : (h : Tm) → head s ≡ h → elim h as (λ x. Option (List Task)) [ fun f ↦ symbol_tasks F prec M f from next s t l place (head t) | _ ↦ None ] ≡ None
      on (bound i) e = refl
      on (free x a) e = refl
      on (fun f) e = absurd (refuted f e)
      on (meta z ts) e = refl
      on (lam a u) e = refl
      on (app u v) e = refl

  pub above_symbol : (f from next : ℕ) (s t : Tm) (l : Letter) (place : ℕ) → head s ≡ fun f → above_tasks F prec M from next s t l place ≡ symbol_tasks F prec M f from next s t l place (head t)
  above_symbol f from next s t l place e =
      ap (λ (h : Tm). elim h as (λ x. Option (List Task)) [ fun f ↦ symbol_tasks F prec M f from next s t l place (head t) | _ ↦ None ]) e

  -- letters that ask nothing there
  pub same_asks : (f from next : ℕ) (s t : Tm) (place : ℕ) → symbol_tasks F prec M f from next s t same_trees place (head t) ≡ None
  same_asks f from next s t place = refl

  pub bodies_asks : (f from next : ℕ) (s t : Tm) (place : ℕ) → symbol_tasks F prec M f from next s t bodies place (head t) ≡ None
  bodies_asks f from next s t place = refl

  pub arguments_asks : (f from next : ℕ) (s t : Tm) (place : ℕ) → symbol_tasks F prec M f from next s t arguments place (head t) ≡ None
  arguments_asks f from next s t place = refl

  pub no_above : (from next : ℕ) (s t : Tm) (l : Letter) (place : ℕ) → ((f : ℕ) → symbol_tasks F prec M f from next s t l place (head t) ≡ None) → above_tasks F prec M from next s t l place ≡ None
  no_above from next s t l place none = on (head s)
    where
      on : (h : Tm) → elim h as (λ x. Option (List Task)) [ fun f ↦ symbol_tasks F prec M f from next s t l place (head t) | _ ↦ None ] ≡ None
      on (bound i) = refl
      on (free x a) = refl
      on (fun f) = none f
      on (meta z ts) = refl
      on (lam a u) = refl
      on (app u v) = refl
