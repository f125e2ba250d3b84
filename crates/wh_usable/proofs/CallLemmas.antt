-- What symbols in trees call.
use Rattle.std.proofs.Common.{◌≡◌, ℕ, zero, suc, ◌↔◌, inl, inr, List, [], ◌∷◌, map, Contains, refl, sym, subst, arith}
use Rattle.wh_terms.specs.Erase.{tm}
use Rattle.wh_terms.specs.Tree.{Tm, fun, app}
use Rattle.wh_terms.specs.Rules.{RewriteRule}
use Rattle.wh_terms.specs.declared.term.Term.{Term}
use Rattle.wh_usable.specs.Closed.{HasSymbol, ListsRulesOf, ListsRulesIn, ListsRulesInEach}

module _ (rules : List RewriteRule) (listed : List ℕ) where
  pub lists_fun : (f : ℕ) (t : Tm) → t ≡ fun f → ListsRulesOf rules listed f ↔ ListsRulesIn rules listed t
  lists_fun f t is = (
    λ h g found. subst (ListsRulesOf rules listed) (sym (subst (HasSymbol g) is found)) h,
    λ h. h f (subst (HasSymbol f) (sym is) refl),
  )

  pub lists_app : (t a b : Tm) → t ≡ app a b → (ListsRulesIn rules listed a × ListsRulesIn rules listed b) ↔ ListsRulesIn rules listed t
  lists_app t a b is = (
    λ (h, k) f found. elim (subst (HasSymbol f) is found) [
      | inl x ↦ h f x
      | inr y ↦ k f y
    ],
    λ h. (λ f x. h f (subst (HasSymbol f) (sym is) (inl x)), λ f y. h f (subst (HasSymbol f) (sym is) (inr y))),
  )

  pub lists_all : (ts : List Term) → ((t : Term) → Contains ts t → ListsRulesIn rules listed (tm t)) → ListsRulesInEach rules listed (map tm ts)
  lists_all [] each = tt
  lists_all (t ∷ ts) each = (each t (0, omega arith, refl), lists_all ts (λ u (i, within, at). each u (suc i, omega (arith, within), at)))

  pub lists_each : (ts : List Term) → ListsRulesInEach rules listed (map tm ts) → (t : Term) → Contains ts t → ListsRulesIn rules listed (tm t)
  lists_each [] all t (i, within, at) = absurd (omega (arith, within))
  lists_each (u ∷ ts) all t (zero, within, at) = subst (λ (t : Term). ListsRulesIn rules listed (tm t)) at all.0
  lists_each (u ∷ ts) all t (suc i, within, at) = lists_each ts all.1 t (i, omega (arith, within), at)
