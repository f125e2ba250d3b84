-- Ranks under which rules are passing meet all demands, and so no demands lead round in a cycle with a strict one.
use Rattle.std.proofs.Common.{◌≡◌, ℕ, ◌<◌, ◌≤◌, inl, inr, true, List, [], ◌∷◌, refl, ap, subst, sym, arith}
use Rattle.std.proofs.lemmas.List.Elements.{All-contains}
use Rattle.wh_types.specs.Ty.{Ty, sort, ◌⇒◌, arguments, result_sort}
use Rattle.wh_terms.specs.Typing.{Symbols}
use Rattle.wh_terms.specs.Rules.{RewriteRule}
use Rattle.wh_step_laws.specs.Ranks.{RanksBelow, IsAccessibleIn, IsAccessible}
use Rattle.wh_access.specs.Readings.{Place}
use Rattle.wh_access.specs.Passing.{AllAccessible, Passing}
use Rattle.wh_access.specs.Demands.{Demand, HasSort, Asks, IsAskedAt, IsDemand, Leads, LeadsStrictly, LeadsAlong, LeadsSomewhere, IsStrictCycle}

-- the ranks are as the demand wants them
abbrev pub Meets : (ℕ → ℕ) → Demand → Type 0
Meets rank d = (rank d.from ≤ rank d.to) × (d.strict ≡ true → rank d.from < rank d.to)

below_of : (rank : ℕ → ℕ) (n : ℕ) (a : Ty) (s : ℕ) → RanksBelow rank n a → HasSort s a → rank s < n
below_of rank n (sort r) s below here = subst (λ s. rank s < n) here below
below_of rank n (a ⇒ b) s below (inl here) = below_of rank n a s below.0 here
below_of rank n (a ⇒ b) s below (inr here) = below_of rank n b s below.1 here

-- what an accessible place asks is met
asked_met : (rank : ℕ → ℕ) (a : Ty) (t : ℕ) (d : Demand) → IsAccessibleIn rank t a → Asks a t d → Meets rank d
asked_met rank (sort r) t d within asked =
    (subst (λ s. rank s ≤ rank d.to) (sym asked.0) (subst (λ u. rank r ≤ rank u) (sym asked.1) within), λ yes. absurd (cc (yes, asked.2)))
asked_met rank (a ⇒ b) t d within asked =
    let below = subst (λ u. rank d.from < rank u) (sym asked.1) (below_of rank (rank t) (a ⇒ b) d.from within asked.0) in
    (omega (arith, below), λ yes. below)

place_met : (S : Symbols) (rank : ℕ → ℕ) (p : Place) (d : Demand) → IsAccessible S rank p.symbol p.index → IsAskedAt S p d → Meets rank d
place_met S rank p d (a, b, has, at, within) (a', b', has', at', asked) =
    let kind : b ≡ b' = cc (has, has') in
    let argument : a ≡ a' = cc (at, at', ap arguments kind) in
    asked_met rank a' (result_sort b') d (subst (λ u. IsAccessibleIn rank (result_sort b') u) argument (subst (λ u. IsAccessibleIn rank (result_sort u) a) kind within)) asked

pub demand_met : (S : Symbols) (rank : ℕ → ℕ) (rules : List RewriteRule) (d : Demand) → Passing S rank rules → IsDemand S rules d → Meets rank d
demand_met S rank rules d passing (r, listed, (z, (used, (way, read, (p, on, asked))))) =
    let passes = passing r listed z used in
    let same : passes.0 ≡ way = cc (passes.1, read) in
    place_met S rank p d (All-contains (λ p. IsAccessible S rank p.symbol p.index) way p (subst (AllAccessible S rank) same passes.2) on) asked

-- along demands the ranks do not fall
along : (rank : ℕ → ℕ) (P : ℕ → ℕ → Type 0) → ((s t : ℕ) → P s t → rank s ≤ rank t) → (s : ℕ) (us : List ℕ) (t : ℕ) → LeadsAlong P s us t → rank s ≤ rank t
along rank P h s [] t leads = h s t leads
along rank P h s (u ∷ us) t leads = omega (arith, h s u leads.0, along rank P h u us t leads.1)

rises : (rank : ℕ → ℕ) (P Q : ℕ → ℕ → Type 0) → ((s t : ℕ) → P s t → rank s ≤ rank t) → ((s t : ℕ) → Q s t → rank s < rank t) → (s : ℕ) (us : List ℕ) (t : ℕ)
    → LeadsAlong P s us t → LeadsSomewhere Q s us t → rank s < rank t
rises rank P Q h k s [] t leads strict = k s t strict
rises rank P Q h k s (u ∷ us) t leads (inl strict) = omega (arith, k s u strict, along rank P h u us t leads.1)
rises rank P Q h k s (u ∷ us) t leads (inr later) = omega (arith, h s u leads.0, rises rank P Q h k u us t leads.1 later)

pub no_strict_cycle : (S : Symbols) (rules : List RewriteRule) (rank : ℕ → ℕ) (sorts : List ℕ) → IsStrictCycle S rules sorts → Passing S rank rules → ⊥
no_strict_cycle S rules rank [] cycle passing = absurd cycle
no_strict_cycle S rules rank (s ∷ ss) cycle passing =
    let up = rises rank (Leads S rules) (LeadsStrictly S rules) (λ s t leads. (demand_met S rank rules _ passing leads.1).0) (λ s t strict. (demand_met S rank rules _ passing strict).1 refl) s ss s cycle.1 cycle.2 in
    omega (arith, up)
