-- Whether all rules of the symbol that heads a term are listed is decided.
use Rattle.std.proofs.Common.{◌≡◌, ℕ, List, length, inl, inr, Option, Some, None, slice_get, Contains, refl, ap, sym, ◌∙◌, subst}
use Rattle.std.proofs.lemmas.Option.{slice_get_within}
use Rattle.wh_terms.specs.Tree.{Tm, bound, free, fun, meta, lam, app, head}
use Rattle.wh_terms.specs.Rules.{RewriteRule}
use Rattle.wh_system.proofs.TypedDecided.{Decided, decided_by, both_decided}
use Rattle.wh_pairs.proofs.ByPlace.{some_one}
use Rattle.wh_pairs.proofs.DropLemmas.{contains_or_not}
use Rattle.wh_pairs.proofs.Searches.{not_decided, not_refuted, some_below}
use Rattle.wh_subterm.proofs.PartsDecided.{tree_decided}
use Rattle.wh_usable.specs.Closed.{ListsRulesOf}
use Rattle.wh_usable_calls.specs.Bounds.{HasListedHead}

module _ (rules : List RewriteRule) (listed : List ℕ) where
  -- the rule with the number is one of the symbol, and not listed
  abbrev IsUnlisted : ℕ → ℕ → Type 0
  IsUnlisted f n = (r : RewriteRule) × (slice_get rules n ≡ Some r) × (head r.left ≡ fun f) × (Contains listed n → ⊥)

  unlisted_decided : (f n : ℕ) → Decided (IsUnlisted f n)
  unlisted_decided f n = by_number (slice_get rules n) refl
    where
      by_number : (o : Option RewriteRule) → slice_get rules n ≡ o → Decided (IsUnlisted f n)
      by_number None e = inr (λ (r, at, heads, out). cc (e, at))
      by_number (Some r) e =
          decided_by (λ (heads, out). (r, e, heads, out))
          (λ (q, at, heads, out). (ap (λ (x : RewriteRule). head x.left) (some_one e at) ∙ heads, out))
          (both_decided (tree_decided (head r.left) (fun f)) (not_decided (contains_or_not listed n)))

  symbol_listed : (f : ℕ) → Decided (ListsRulesOf rules listed f)
  symbol_listed f = elim (some_below (IsUnlisted f) (unlisted_decided f) (length rules)) [
    | inl (n, less, (r, at, heads, out)) ↦ inr (λ lists. out (lists n r at heads))
    | inr none ↦ inl (λ n r at heads. not_refuted (contains_or_not listed n)
        (λ out. none (n, slice_get_within rules n r at, (r, at, heads, out))))
  ]

  pub head_listed : (t : Tm) → Decided (HasListedHead rules listed t)
  head_listed t = by_head (head t) refl
    where
      by_head : (h : Tm) → head t ≡ h → Decided (HasListedHead rules listed t)
      by_head (fun f) e =
          decided_by (λ lists g d. subst (ListsRulesOf rules listed) (symbol_one f g (sym e ∙ d)) lists) (λ lists. lists f e) (symbol_listed f)
        where
          symbol_one : (f g : ℕ) → fun f ≡ fun g → f ≡ g
          symbol_one f g d = cc
      by_head (bound i) e = inl (λ f d. let never : bound i ≡ fun f = sym e ∙ d in absurd (cc))
      by_head (free x a) e = inl (λ f d. let never : free x a ≡ fun f = sym e ∙ d in absurd (cc))
      by_head (meta z ts) e = inl (λ f d. let never : meta z ts ≡ fun f = sym e ∙ d in absurd (cc))
      by_head (lam a u) e = inl (λ f d. let never : lam a u ≡ fun f = sym e ∙ d in absurd (cc))
      by_head (app u v) e = inl (λ f d. let never : app u v ≡ fun f = sym e ∙ d in absurd (cc))
