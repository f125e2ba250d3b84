-- Whether a list of terms is an instance of a list of patterns is decided: one candidate is read off the terms.
use Rattle.std.proofs.Common.{◌≡◌, ℕ, Bool, true, false, List, [], ◌∷◌, inl, inr, map, slice_get, refl, ap, ap₂, sym, ◌∙◌, subst}
use Rattle.std.specs.List.{AllByRecursion}
use Rattle.wh_terms.specs.Tree.{Tm, bound, free, fun, meta, lam, app, spine, tms_of}
use Rattle.wh_terms.specs.Typing.{Declared}
use Rattle.wh_terms.specs.Pattern.{IsPatternUnder, IsPatternSpine, IsPattern}
use Rattle.wh_terms.specs.Value.{Body, Values, of_none, of_more}
use Rattle.wh_terms.proofs.ValueForm.{value, FitsArities, AllFitArities, AllFitBodies, value_agree}
use Rattle.wh_terms.proofs.ValueLaws.{value_is, values_are, has_value}
use Rattle.wh_step_laws.proofs.SameTree.{same_tm, same_tm-equal, same_tm-self}
use Rattle.wh_step_laws.proofs.Reading.{declared_arity, candidate_for, candidate_is}
use Rattle.wh_system.proofs.TypedDecided.{Decided}
use Rattle.wh_pairs.specs.Spines.{spine_arguments}
use Rattle.wh_proof_calls.proofs.SpineLaws.{arguments-symbol_spine, value-symbol_spine}

-- a symbol with patterns as its arguments

spine_of_patterns : (h : Tm) (ts : List Tm) → IsPatternSpine 0 h → AllByRecursion (IsPatternUnder 0) ts → IsPatternSpine 0 (spine h ts)
spine_of_patterns h [] p ps = p
spine_of_patterns h (t ∷ ts) p ps = spine_of_patterns (app h t) ts (p, ps.0) ps.1

spine_is_pattern : (t : Tm) → IsPatternSpine 0 t → IsPattern t
spine_is_pattern (bound i) p = p
spine_is_pattern (free x a) p = absurd p
spine_is_pattern (fun f) p = tt
spine_is_pattern (meta z ts) p = absurd p
spine_is_pattern (lam a t) p = absurd p
spine_is_pattern (app t u) p = p

spine_fits : (n : ℕ → ℕ) (h : Tm) (ts : List Tm) → FitsArities n h → AllFitArities n (tms_of ts) → FitsArities n (spine h ts)
spine_fits n h [] f fs = f
spine_fits n h (t ∷ ts) f fs = spine_fits n (app h t) ts (f, fs.0) fs.1

-- values of lists

values_map : {g : ℕ → Body} (ps vs : List Tm) → Values g (tms_of ps) (tms_of vs) → map (value g) ps ≡ vs
values_map [] [] are = refl
values_map [] (v ∷ vs) are = elim are [ ]
values_map (p ∷ ps) [] are = elim are [ ]
values_map (p ∷ ps) (v ∷ vs) (of_more here rest) = ap₂ ◌∷◌ (sym (value_is here).1) (values_map ps vs rest)

has_values : (g : ℕ → Body) (ps : List Tm) → AllFitBodies g (tms_of ps) → Values g (tms_of ps) (tms_of (map (value g) ps))
has_values g [] f = of_none
has_values g (p ∷ ps) f = of_more (has_value g p f.0) (has_values g ps f.1)

-- the terms are the values of the patterns under some meta-substitution
abbrev pub IsMatch : List Tm → List Tm → Type 0
IsMatch ps vs = (g : ℕ → Body) × Values g (tms_of ps) (tms_of vs)

module _ (M : List Declared) (ps vs : List Tm) where
  abbrev left : Tm
  left = spine (fun 0) ps

  abbrev right : Tm
  right = spine (fun 0) vs

  abbrev found : ℕ → Body
  found = candidate_for M left right

  values_found : value found left ≡ right → map (value found) ps ≡ vs
  values_found e =
      sym (arguments-symbol_spine 0 (map (value found) ps)) ∙ ap spine_arguments (sym (value-symbol_spine found 0 ps) ∙ e)
      ∙ arguments-symbol_spine 0 vs

  abbrev FitsDeclarations : Type 0
  FitsDeclarations = AllFitArities (λ z. declared_arity (slice_get M z)) (tms_of ps)

  found_any : AllByRecursion (IsPatternUnder 0) ps → FitsDeclarations → IsMatch ps vs → value found left ≡ right
  found_any patterns fits (g, are) =
      let is : right ≡ value g left = ap (spine (fun 0)) (sym (values_map ps vs are)) ∙ sym (value-symbol_spine g 0 ps) in
      let pattern : IsPattern left = spine_is_pattern left (spine_of_patterns (fun 0) ps tt patterns) in
      let declared = spine_fits (λ z. declared_arity (slice_get M z)) (fun 0) ps tt fits in
      let bodies = spine_fits (λ z. (g z).arity) (fun 0) ps tt (values_are are).0 in
      value_agree found g left (λ z o. candidate_is M g left right pattern declared bodies is z o) ∙ sym is

  pub match_decided : AllByRecursion (IsPatternUnder 0) ps → FitsDeclarations → Decided (IsMatch ps vs)
  match_decided patterns fits = by_test (same_tm (value found left) right) refl
    where
      by_test : (b : Bool) → same_tm (value found left) right ≡ b → Decided (IsMatch ps vs)
      by_test true e = inl (
        found,
        subst (λ us. Values found (tms_of ps) (tms_of us)) (values_found (same_tm-equal (value found left) right e)) (has_values found ps fits),
      )
      by_test false e = inr (λ m.
          let same : value found left ≡ right = found_any patterns fits m in
          let yes : same_tm (value found left) right ≡ true =
          subst (λ v. same_tm (value found left) v ≡ true) same (same_tm-self (value found left)) in
          absurd (cc))
