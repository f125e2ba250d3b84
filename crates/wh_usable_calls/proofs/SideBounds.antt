-- Bounds of the values of flat sides: they give numbers for the sides' meta-variables, at which the sides are worth no more; and from such
-- numbers come bounds of sides.
use Rattle.std.proofs.Common.{◌≡◌, ℕ, ◌+◌, ◌≤◌, ◌<◌, ◌==◌, inl, inr, Bool, true, false, if◌then◌else◌, List, [], refl, ◌∙◌, sym, subst, arith, le_trans}
use Rattle.std.proofs.lemmas.Bool.{cases_lt}
use Rattle.wh_types.specs.Ty.{Ty, sort, ◌⇒◌}
use Rattle.wh_terms.specs.Tree.{Tm, bound, free, fun, meta, lam, app, none, more, head}
use Rattle.wh_terms.specs.Sight.{Occurs}
use Rattle.wh_terms.specs.Typing.{Symbols, Declared, Typed, typed_fun, typed_app}
use Rattle.wh_terms.specs.Rules.{RewriteRule}
use Rattle.wh_terms.specs.Value.{Body}
use Rattle.wh_terms.proofs.ValueForm.{value}
use Rattle.wh_hopoly.specs.Evaluation.{Interpretation}
use Rattle.wh_usable_first_order.specs.FirstOrder.{IsFlatTree, IsNullary}
use Rattle.wh_usable.specs.Closed.{HasSymbol, ListsRulesIn}
use Rattle.wh_poly_meaning.specs.Functionals.{Sem, Le}
use Rattle.wh_poly_meaning.specs.TermValues.{of_interpretations}
use Rattle.wh_poly_meaning.proofs.Order.{le_nat, le_same, le_then}
use Rattle.wh_poly_meaning.proofs.TermValues.{at_is}
use Rattle.wh_usable_calls.specs.Bounds.{Bounds, by_reading, Reads, reads_symbol, reads_application}
use Rattle.wh_usable_calls.proofs.FlatCalls.{argument_one, result_one, sort_one, IsHeaded, arrow_headed, argument_sort, value_call}
use Rattle.wh_usable_calls.proofs.BoundLaws.{bounds_more, reads_mono, bound_reading}
use Rattle.wh_usable_calls.proofs.Numbers.{AreBelow, at_numbers, app_value, meta_value, side_below}

-- what holds of meta-variables and of trees that symbols head holds of well-typed flat trees
flat_cases : (S : Symbols) (M : List Declared) (P : Tm → Type 0) → ((z : ℕ) → IsNullary M z → P (meta z none))
    → ((t : Tm) → IsHeaded t → IsFlatTree S M t → P t) → (t : Tm) (A : Ty) → IsFlatTree S M t → Typed S M [] t A → P t
flat_cases S M P metas headed (bound i) A flat p = absurd flat
flat_cases S M P metas headed (free x a) A flat p = absurd flat
flat_cases S M P metas headed (fun f) A flat p = headed (fun f) tt flat
flat_cases S M P metas headed (meta z none) A flat p = metas z flat
flat_cases S M P metas headed (meta z (more t ts)) A flat p = absurd flat
flat_cases S M P metas headed (lam a t) A flat p = absurd flat
flat_cases S M P metas headed (app t u) A flat (typed_app {a = a} p q) = headed (app t u) (arrow_headed S M t a A flat.0 p) flat

-- the numbers with n for the variable z
abbrev with_number : (ℕ → ℕ) → ℕ → ℕ → ℕ → ℕ
with_number ν z n y = if y == z then n else ν y

module _ (S : Symbols) (rules : List RewriteRule) (listed : List ℕ) (symbols : List Interpretation) (M : List Declared) (g : ℕ → Body) where
  abbrev IsBound : Tm → ℕ → Type 0
  IsBound = Bounds S rules listed symbols

  abbrev IsRead : Tm → (A : Ty) → Sem A → Type 0
  IsRead = Reads S rules listed symbols

  abbrev at : Tm → (ℕ → ℕ) → (A : Ty) → Sem A
  at = at_numbers S M symbols

  -- the numbers bound the bodies of the meta-variables of which P holds
  abbrev pub BoundBodies : (ℕ → Type 0) → (ℕ → ℕ) → Type 0
  BoundBodies P ν = (z : ℕ) → P z → IsBound (value g (meta z none)) (ν z)

  -- some numbers bound those of the meta-variables of a side

  abbrev pub HasNumbers : (ℕ → Type 0) → Type 0
  HasNumbers P = (ν : ℕ → ℕ) × BoundBodies P ν

  abbrev GivesNumbers : Tm → Type 0
  GivesNumbers t = (A B : Ty) (F : Sem B) → IsHeaded t → IsFlatTree S M t → Typed S M [] t A → IsRead (value g t) B F
      → HasNumbers (λ z. Occurs z t)

  abbrev FromBound : ℕ → ℕ → Tm → Type 0
  FromBound s n t = GivesNumbers t → Typed S M [] t (sort s) → IsBound (value g t) n → HasNumbers (λ z. Occurs z t)

  meta_numbers : (s n z : ℕ) → IsNullary M z → FromBound s n (meta z none)
  meta_numbers s n z flat gives p b = (
    λ y. n,
    λ y o. elim o [
      | inl e ↦ subst (λ y. IsBound (value g (meta y none)) n) e b
      | inr never ↦ absurd never
    ],
  )

  headed_numbers : (s n : ℕ) (t : Tm) → IsHeaded t → IsFlatTree S M t → FromBound s n t
  headed_numbers s n t h flat gives p b =
      let (r, k, read, under) = bound_reading S rules listed symbols (s, value_call S M g t (sort s) h flat p) b in
      gives (sort s) (sort r) k h flat p read

  bound_numbers : (t : Tm) → GivesNumbers t → (s n : ℕ) → IsFlatTree S M t → Typed S M [] t (sort s) → IsBound (value g t) n
      → HasNumbers (λ z. Occurs z t)
  bound_numbers t gives s n flat p b =
      flat_cases S M (FromBound s n) (meta_numbers s n) (headed_numbers s n) t (sort s) flat p gives p b

  numbers_both : (t u : Tm) → HasNumbers (λ z. Occurs z t) → HasNumbers (λ z. Occurs z u) → HasNumbers (λ z. Occurs z (app t u))
  numbers_both t u (ν, left) (μ, right) = (
    λ z. ν z + μ z,
    λ z o. elim o [
      | inl i ↦ bounds_more S rules listed symbols (ν z + μ z) (omega arith) (left z i)
      | inr i ↦ bounds_more S rules listed symbols (ν z + μ z) (omega arith) (right z i)
    ],
  )

  reading_numbers : (t : Tm) → GivesNumbers t
  unfolding value
  reading_numbers (bound i) A B F h flat p r = absurd h
  reading_numbers (free x a) A B F h flat p r = absurd h
  reading_numbers (fun f) A B F h flat p r = (λ z. 0, λ z o. absurd o)
  reading_numbers (meta z ts) A B F h flat p r = absurd h
  reading_numbers (lam a t) A B F h flat p r = absurd h
  reading_numbers (app t u) A B F h flat (typed_app {a = a} p q) (reads_application {s = s} {n = n} {F = G} r b) =
      let (d, same) = argument_sort S M t a A flat.0 p in
      numbers_both t u (reading_numbers t (a ⇒ A) (sort s ⇒ B) G h flat.0 p r)
      (bound_numbers u (reading_numbers u) d n flat.1 (subst (λ a. Typed S M [] u a) same q) b)

  -- where a bound is given of the value of a side
  pub side_numbers : (t : Tm) (s n : ℕ) → IsFlatTree S M t → Typed S M [] t (sort s) → IsBound (value g t) n → HasNumbers (λ z. Occurs z t)
  side_numbers t = bound_numbers t (reading_numbers t)

  -- and such numbers can be made as small as the side tells

  -- smaller numbers that bound the bodies too, and of which Q holds
  abbrev pub Lowers : (ℕ → Type 0) → (ℕ → ℕ) → ((ℕ → ℕ) → Type 0) → Type 0
  Lowers P ν Q = (μ : ℕ → ℕ) × AreBelow μ ν × BoundBodies P μ × Q μ

  -- a call is read at its type
  pub reading_type : (t : Tm) (A B : Ty) (F : Sem B) → IsHeaded t → IsFlatTree S M t → Typed S M [] t A → IsRead (value g t) B F → A ≡ B
  unfolding value
  reading_type (bound i) A B F h flat p r = absurd h
  reading_type (free x a) A B F h flat p r = absurd h
  reading_type (fun f) A B F h flat (typed_fun e) (reads_symbol d) = sym (at_is S.funs f A e) ∙ d
  reading_type (meta z ts) A B F h flat p r = absurd h
  reading_type (lam a t) A B F h flat p r = absurd h
  reading_type (app t u) A B F h flat (typed_app {a = a} p q) (reads_application {s = s} {F = G} r b) =
      result_one (reading_type t (a ⇒ A) (sort s ⇒ B) G h flat.0 p r)

  -- a bound of a body is a number for its meta-variable
  lower_meta : (P : ℕ → Type 0) (ν : ℕ → ℕ) (z n : ℕ) → BoundBodies P ν → IsBound (value g (meta z none)) n → Lowers P ν (λ μ. μ z ≤ n)
  lower_meta P ν z n bodies b = elim (cases_lt n (ν z)) [
    | inl less ↦ (with_number ν z n, λ y. below less y (y == z) refl, λ y has. fits y has (y == z) refl, there)
    | inr under ↦ (ν, λ y. le_nat (ν y), bodies, under)
  ]
    where
      below : n < ν z → (y : ℕ) (b : Bool) → (y == z) ≡ b → (if b then n else ν y) ≤ ν y
      below less y true e = let same : y ≡ z = grind (arith, e) in subst (λ y. n ≤ ν y) (sym same) (omega (arith, less))
      below less y false e = le_nat (ν y)

      fits : (y : ℕ) → P y → (b : Bool) → (y == z) ≡ b → IsBound (value g (meta y none)) (if b then n else ν y)
      fits y has true e = let same : y ≡ z = grind (arith, e) in subst (λ y. IsBound (value g (meta y none)) n) (sym same) b
      fits y has false e = bodies y has

      there : with_number ν z n z ≤ n
      there = let same : with_number ν z n z ≡ n = grind arith in omega (arith, same)

  abbrev LowersAt : (ℕ → Type 0) → Tm → Type 0
  LowersAt P t = (ν : ℕ → ℕ) (A B : Ty) (F : Sem B) → BoundBodies P ν → IsHeaded t → IsFlatTree S M t → Typed S M [] t A
      → IsRead (value g t) B F → Lowers P ν (λ μ. Le B (at t μ B) F)

  abbrev LowersTo : (ℕ → Type 0) → (ℕ → ℕ) → ℕ → ℕ → Tm → Type 0
  LowersTo P ν s n t = LowersAt P t → Typed S M [] t (sort s) → IsBound (value g t) n → Lowers P ν (λ μ. at t μ (sort s) ≤ n)

  meta_lowers : (P : ℕ → Type 0) (ν : ℕ → ℕ) (s n : ℕ) → BoundBodies P ν → (z : ℕ) → IsNullary M z → LowersTo P ν s n (meta z none)
  meta_lowers P ν s n bodies z flat lowers p b =
      let (μ, below, fits, under) = lower_meta P ν z n bodies b in
      (μ, below, fits, subst (λ k. k ≤ n) (sym (meta_value S M symbols z μ s flat p)) under)

  headed_lowers : (P : ℕ → Type 0) (ν : ℕ → ℕ) (s n : ℕ) → BoundBodies P ν → (t : Tm) → IsHeaded t → IsFlatTree S M t
      → LowersTo P ν s n t
  headed_lowers P ν s n bodies t h flat lowers p b =
      let (r, k, read, under) = bound_reading S rules listed symbols (s, value_call S M g t (sort s) h flat p) b in
      let (μ, below, fits, le) = lowers ν (sort s) (sort r) k bodies h flat p read in
      let same = sort_one (reading_type t (sort s) (sort r) k h flat p read) in
      (μ, below, fits, le_trans (subst (λ r. at t μ (sort r) ≤ k) (sym same) le) under)

  lower_bound : (P : ℕ → Type 0) (t : Tm) → LowersAt P t → (ν : ℕ → ℕ) (s n : ℕ) → BoundBodies P ν → IsFlatTree S M t
      → Typed S M [] t (sort s) → IsBound (value g t) n → Lowers P ν (λ μ. at t μ (sort s) ≤ n)
  lower_bound P t lowers ν s n bodies flat p b =
      flat_cases S M (LowersTo P ν s n) (meta_lowers P ν s n bodies) (headed_lowers P ν s n bodies) t (sort s) flat p lowers p b

  lower_reading : (P : ℕ → Type 0) (t : Tm) → LowersAt P t
  unfolding value
  lower_reading P (bound i) ν A B F bodies h flat p r = absurd h
  lower_reading P (free x a) ν A B F bodies h flat p r = absurd h
  lower_reading P (fun f) ν A B F bodies h flat p (reads_symbol e) =
      (ν, λ z. le_nat (ν z), bodies, le_same B (of_interpretations symbols f B))
  lower_reading P (meta z ts) ν A B F bodies h flat p r = absurd h
  lower_reading P (lam a t) ν A B F bodies h flat p r = absurd h
  lower_reading P (app t u) ν A B F bodies h flat (typed_app {a = a} p q) (reads_application {s = s} {n = n} {F = G} r b) =
      let same = reading_type t (a ⇒ A) (sort s ⇒ B) G h flat.0 p r in
      let function = subst (λ c. Typed S M [] t c) same p in
      let argument = subst (λ a. Typed S M [] u a) (argument_one same) q in
      let (μ, first, bodies_first, le) = lower_reading P t ν (a ⇒ A) (sort s ⇒ B) G bodies h flat.0 p r in
      let (χ, second, bodies_second, under) = lower_bound P u (lower_reading P u) μ s n bodies_first flat.1 argument b in
      let x = at u χ (sort s) in
      let f = at t χ (sort s ⇒ B) in
      let k = at t μ (sort s ⇒ B) in (
        χ,
        λ z. le_trans (second z) (first z),
        bodies_second,
        subst (λ v. Le B v (G n)) (sym (app_value S M symbols t u χ (sort s) B argument))
            (le_then B (f x) (k x) (G n) (side_below S M symbols t (sort s ⇒ B) χ μ second flat.0 function x tt)
            (le_then B (k x) (G x) (G n) (le x tt) ((reads_mono S rules listed symbols r).1 x n tt tt under))),
      )

  -- the side is worth no more than the bound
  pub side_lowers : (t : Tm) (P : ℕ → Type 0) (ν : ℕ → ℕ) (s n : ℕ) → BoundBodies P ν → IsFlatTree S M t → Typed S M [] t (sort s)
      → IsBound (value g t) n → Lowers P ν (λ μ. at t μ (sort s) ≤ n)
  side_lowers t P = lower_bound P t (lower_reading P t)

  -- the other way round: what a side is worth bounds its value, where all rules of its symbols are listed

  -- what heads the value of a side is a symbol of the side
  head_occurs : (t : Tm) (f : ℕ) → IsHeaded t → head (value g t) ≡ fun f → HasSymbol f t
  unfolding value
  head_occurs (bound i) f h e = absurd h
  head_occurs (free x a) f h e = absurd h
  head_occurs (fun c) f h e = cc
  head_occurs (meta z ts) f h e = absurd h
  head_occurs (lam a t) f h e = absurd h
  head_occurs (app t u) f h e = inl (head_occurs t f h e)

  abbrev IsReadAt : (ℕ → ℕ) → Tm → Type 0
  IsReadAt ν t = (A : Ty) → IsHeaded t → IsFlatTree S M t → Typed S M [] t A → ListsRulesIn rules listed t
      → BoundBodies (λ z. Occurs z t) ν → IsRead (value g t) A (at t ν A)

  abbrev IsBoundedAt : (ℕ → ℕ) → ℕ → Tm → Type 0
  IsBoundedAt ν s t = IsReadAt ν t → Typed S M [] t (sort s) → ListsRulesIn rules listed t → BoundBodies (λ z. Occurs z t) ν
      → IsBound (value g t) (at t ν (sort s))

  meta_bounded : (ν : ℕ → ℕ) (s z : ℕ) → IsNullary M z → IsBoundedAt ν s (meta z none)
  meta_bounded ν s z flat reads p lists bodies =
      subst (IsBound (value g (meta z none))) (sym (meta_value S M symbols z ν s flat p)) (bodies z (inl refl))

  headed_bounded : (ν : ℕ → ℕ) (s : ℕ) (t : Tm) → IsHeaded t → IsFlatTree S M t → IsBoundedAt ν s t
  headed_bounded ν s t h flat reads p lists bodies =
      by_reading (λ f e. lists f (head_occurs t f h e)) (reads (sort s) h flat p lists bodies) (le_nat (at t ν (sort s)))

  bound_at : (ν : ℕ → ℕ) (t : Tm) → IsReadAt ν t → (s : ℕ) → IsFlatTree S M t → Typed S M [] t (sort s) → ListsRulesIn rules listed t
      → BoundBodies (λ z. Occurs z t) ν → IsBound (value g t) (at t ν (sort s))
  bound_at ν t reads s flat p lists bodies =
      flat_cases S M (IsBoundedAt ν s) (meta_bounded ν s) (headed_bounded ν s) t (sort s) flat p reads p lists bodies

  read_at : (ν : ℕ → ℕ) (t : Tm) → IsReadAt ν t
  unfolding value
  read_at ν (bound i) A h flat p lists bodies = absurd h
  read_at ν (free x a) A h flat p lists bodies = absurd h
  read_at ν (fun f) A h flat (typed_fun e) lists bodies = reads_symbol (at_is S.funs f A e)
  read_at ν (meta z ts) A h flat p lists bodies = absurd h
  read_at ν (lam a t) A h flat p lists bodies = absurd h
  read_at ν (app t u) A h flat (typed_app {a = a} p q) lists bodies =
      let (s, same) = argument_sort S M t a A flat.0 p in
      let argument = subst (λ a. Typed S M [] u a) same q in
      let r = read_at ν t (a ⇒ A) h flat.0 p (λ f o. lists f (inl o)) (λ z o. bodies z (inl o)) in
      let b = bound_at ν u (read_at ν u) s flat.1 argument (λ f o. lists f (inr o)) (λ z o. bodies z (inr o)) in
      subst (IsRead (app (value g t) (value g u)) A) (sym (app_value S M symbols t u ν (sort s) A argument))
      (reads_application (subst (λ a. IsRead (value g t) (a ⇒ A) (at t ν (a ⇒ A))) same r) b)

  pub side_bound : (ν : ℕ → ℕ) (t : Tm) (s : ℕ) → IsFlatTree S M t → Typed S M [] t (sort s) → ListsRulesIn rules listed t
      → BoundBodies (λ z. Occurs z t) ν → IsBound (value g t) (at t ν (sort s))
  side_bound ν t = bound_at ν t (read_at ν t)
