-- Plans by what heads the two trees.
use Rattle.std.proofs.Common.{◌≡◌, ℕ, ◌+◌, Bool, true, List, ◌++◌, ◌⊎◌, inl, inr, length, ap, ◌∙◌, sym, subst, Option, Some, None, Result, Ok, Err, IfOk, arith}
use Rattle.std.specs.declared.alloc.AllocError.{AllocError}
use Rattle.wh_terms.specs.Tree.{Tm, meta, none, head}
use Rattle.wh_order_inference.specs.Filters.{Filter}
use Rattle.wh_order_path.specs.Verdict.{is_other_head}
use Rattle.wh_order_demands.specs.declared.claim.Claim.TheVariants.{Equal, Greater, Above, PartGreater}
use Rattle.wh_order_demands.specs.declared.plan.Plan.{Plan}
use Rattle.wh_order_demands.specs.declared.view.Spot.{Spot}
use Rattle.wh_order_demands.specs.Claims.{Holds, SayFilters}
use Rattle.wh_order_demands.specs.Views.{IsCallOf}
use Rattle.wh_order_demands.specs.Plans.{PartData, AllData, left_parts, right_parts, IsSomeMet, IsWholeMet, IsMet, IsPlanFor, IsPlan, IsPlanBeside}
use Rattle.wh_order_demands.specs.Orders.{all_above, all_equal}
use Rattle.wh_order_demands.proofs.PartLemmas.{met_left, met_right}
use Rattle.wh_order_demands.proofs.PlanLemmas.{above_call, above_meta, least_met, greater_call, greater_other, greater_meta, part_greater, equal_metas, equal_same, equal_others, equal_other_left, equal_other_right}

module _ (spots : List (Option Spot)) where
  pub equal_to_call : (s t : Tm) (g y : ℕ) (ts : List Tm) (ps : List PartData) → is_other_head (head s) ≡ true → IsCallOf spots t g y ts
      → ps ≡ right_parts (length ts + y) (length ts + y) Equal s ts → IsPlanFor spots Equal s t (record { some = ps; all = None })
  equal_to_call s t g y ts ps o d e v Φ say h = inl (subst (IsSomeMet v Φ) (sym e) (equal_other_left spots v Φ say s t g y ts o d h))

  pub equal_never : (s t : Tm) (z y : ℕ) (ps : List PartData) → s ≡ meta z none → t ≡ meta y none → (z ≡ y → ⊥) → IsPlanFor spots Equal s t (record { some = ps; all = None })
  equal_never s t z y ps e d ne v Φ say h = absurd (ne (equal_metas spots v Φ say s t z y e d h))

  pub equal_from_other : (s t : Tm) (f x : ℕ) (ss : List Tm) (ps : List PartData) → IsCallOf spots s f x ss → is_other_head (head t) ≡ true
      → ps ≡ left_parts (length ss + x) (length ss + x) Equal ss t → IsPlanFor spots Equal s t (record { some = ps; all = None })
  equal_from_other s t f x ss ps c o e v Φ say h = inl (subst (IsSomeMet v Φ) (sym e) (equal_other_right spots v Φ say s t f x ss c o h))

  -- one symbol heads both
  pub equal_from_same : (s t : Tm) (f x g y : ℕ) (ss ts : List Tm) (ps : List PartData) (a : AllData) → IsCallOf spots s f x ss → IsCallOf spots t g y ts → f ≡ g
      → a ≡ all_equal x ss ts → IsPlanFor spots Equal s t (record { some = ps; all = Some a })
  equal_from_same s t f x g y ss ts ps a c d same e v Φ say h =
      inr (subst (IsWholeMet v Φ) (sym e) (record {
        parts = equal_same spots v Φ say s t f x y ss ts c (subst (λ g. IsCallOf spots t g y ts) (sym same) d) h;
        order = tt;
        unset = λ i l. absurd (omega (arith, l));
      }))

  -- the symbols differ
  pub equal_from_others : (s t : Tm) (f x g y : ℕ) (ss ts : List Tm) (ps : List PartData) → IsCallOf spots s f x ss → IsCallOf spots t g y ts → (f ≡ g → ⊥)
      → ps ≡ left_parts (length ss + x) (length ss + x) Equal ss t ++ right_parts (length ts + y) (length ts + y) Equal s ts
      → IsPlanFor spots Equal s t (record { some = ps; all = None })
  equal_from_others s t f x g y ss ts ps c d differ e v Φ say h = on (equal_others spots v Φ say s t f x g y ss ts c d differ h)
    where
      on : IsSomeMet v Φ (left_parts (length ss + x) (length ss + x) Equal ss t) ⊎ IsSomeMet v Φ (right_parts (length ts + y) (length ts + y) Equal s ts)
          → IsMet v Φ (record { some = ps; all = None })
      on (inl m) = inl (subst (IsSomeMet v Φ) (sym e) (met_left v Φ (left_parts (length ss + x) (length ss + x) Equal ss t) (right_parts (length ts + y) (length ts + y) Equal s ts) m))
      on (inr m) = inl (subst (IsSomeMet v Φ) (sym e) (met_right v Φ (left_parts (length ss + x) (length ss + x) Equal ss t) (right_parts (length ts + y) (length ts + y) Equal s ts) m))

  -- no symbol heads the greater one
  pub greater_to_call : (s t : Tm) (g y : ℕ) (ts : List Tm) (ps : List PartData) → is_other_head (head s) ≡ true → IsCallOf spots t g y ts
      → ps ≡ right_parts (length ts + y) (length ts + y) Greater s ts → IsPlanFor spots Greater s t (record { some = ps; all = None })
  greater_to_call s t g y ts ps o d e v Φ say h = inl (subst (IsSomeMet v Φ) (sym e) (greater_other spots v Φ say s t g y ts o d h))

  pub greater_never : (s t : Tm) (z : ℕ) (ps : List PartData) → s ≡ meta z none → IsPlanFor spots Greater s t (record { some = ps; all = None })
  greater_never s t z ps e v Φ say h = absurd (greater_meta spots v Φ say s t z e h)

  -- a tree above another one, where an argument that is greater may be met instead
  module _ (s t : Tm) (f x z : ℕ) (ss : List Tm) (before ps : List PartData) (c : IsCallOf spots s f x ss)
      (greater : before ≡ left_parts x z Greater ss t) (all : ps ≡ before ++ left_parts x x Equal ss t) where
    pub above_from_meta : (m : ℕ) → t ≡ meta m none → (v : ℕ → Bool) (Φ : ℕ → Filter) → SayFilters spots v Φ → IsSomeMet v Φ before ⊎ Holds Φ Above s t
        → IsMet v Φ (record { some = ps; all = None })
    above_from_meta m e v Φ say (inl h) = inl (subst (IsSomeMet v Φ) (sym all) (met_left v Φ before (left_parts x x Equal ss t) h))
    above_from_meta m e v Φ say (inr h) =
        inl (subst (IsSomeMet v Φ) (sym (all ∙ ap (λ l. l ++ left_parts x x Equal ss t) greater))
        (least_met spots v Φ say x z ss t (above_meta spots v Φ say s t f x ss c h m e)))

    pub above_from_call : (g y : ℕ) (ts : List Tm) (a : AllData) → IsCallOf spots t g y ts → a ≡ all_above s f x g y ss ts
        → (v : ℕ → Bool) (Φ : ℕ → Filter) → SayFilters spots v Φ → IsSomeMet v Φ before ⊎ Holds Φ Above s t → IsMet v Φ (record { some = ps; all = Some a })
    above_from_call g y ts a d e v Φ say (inl h) = inl (subst (IsSomeMet v Φ) (sym all) (met_left v Φ before (left_parts x x Equal ss t) h))
    above_from_call g y ts a d e v Φ say (inr h) = elim (above_call spots v Φ say s t f x ss c h g y ts d) [
      | inl part ↦ inl (subst (IsSomeMet v Φ) (sym (all ∙ ap (λ l. l ++ left_parts x x Equal ss t) greater)) (least_met spots v Φ say x z ss t part))
      | inr whole ↦ inr (subst (IsWholeMet v Φ) (sym e) whole)
    ]

  -- picked, or above
  pub greater_split : (s t : Tm) (f x : ℕ) (ss : List Tm) (ps : List PartData) → IsCallOf spots s f x ss → ps ≡ left_parts x (length ss + x) Greater ss t
      → (v : ℕ → Bool) (Φ : ℕ → Filter) → SayFilters spots v Φ → Holds Φ Greater s t → IsSomeMet v Φ ps ⊎ Holds Φ Above s t
  greater_split s t f x ss ps c e v Φ say h = subst (λ ps. IsSomeMet v Φ ps ⊎ Holds Φ Above s t) (sym e) (greater_call spots v Φ say s t f x ss c h)

  -- an argument that is greater
  pub part_from_call : (s t : Tm) (f x : ℕ) (ss : List Tm) (ps : List PartData) → IsCallOf spots s f x ss → ps ≡ left_parts x x Greater ss t
      → IsPlanFor spots PartGreater s t (record { some = ps; all = None })
  part_from_call s t f x ss ps c e v Φ say h = inl (subst (IsSomeMet v Φ) (sym e) (part_greater spots v Φ say s t f x ss c h))

  -- where a plan is found
  pub greater_planned : (s t : Tm) (f x z : ℕ) (ss : List Tm) (ps : List PartData) (r : Result (Option Plan) AllocError) → IsCallOf spots s f x ss → z ≡ length ss + x
      → ps ≡ left_parts x z Greater ss t → IfOk r (IsPlanBeside spots ps s t) → IfOk r (IsPlan spots Greater s t)
  greater_planned s t f x z ss ps (Ok (Some p)) c e parts h = λ v Φ say g.
      h v Φ say (greater_split s t f x ss ps c (parts ∙ ap (λ z. left_parts x z Greater ss t) e) v Φ say g)
  greater_planned s t f x z ss ps (Ok None) c e parts h = tt
  greater_planned s t f x z ss ps (Err a) c e parts h = tt

  pub above_planned : (s t : Tm) (ps : List PartData) (r : Result (Option Plan) AllocError) → IfOk r (IsPlanBeside spots ps s t) → IfOk r (IsPlan spots Above s t)
  above_planned s t ps (Ok (Some p)) h = λ v Φ say a. h v Φ say (inr a)
  above_planned s t ps (Ok None) h = tt
  above_planned s t ps (Err a) h = tt
