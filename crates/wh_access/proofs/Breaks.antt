-- Rules are passing, or there is a first break.
use Rattle.std.proofs.Common.{◌≡◌, ℕ, ◌<◌, ◌⊎◌, inl, inr, List, Option, Some, None, slice_get, Contains, refl, sym, subst}
use Rattle.wh_types.specs.Ty.{Ty, sort, ◌⇒◌, arguments, result_sort}
use Rattle.wh_terms.specs.Tree.{Tm, bound, free, fun, meta, lam, app, Tms, none, more}
use Rattle.wh_terms.specs.Typing.{Symbols}
use Rattle.wh_terms.specs.Sight.{Occurs, OccursIn}
use Rattle.wh_terms.specs.Rules.{RewriteRule}
use Rattle.wh_step_laws.specs.Ranks.{RanksBelow, IsAccessibleIn, IsAccessible}
use Rattle.wh_system.proofs.TypedDecided.{Decided, below_decided, decided_by, both_decided}
use Rattle.wh_pairs.proofs.ByPlace.{some_one}
use Rattle.wh_access.specs.Readings.{Place, reading_of}
use Rattle.wh_access.specs.Passing.{AllAccessible, Passes, EachUsed, IsFirstWithout, Passing, IsFirstBreak}
use Rattle.wh_pairs.proofs.Searches.{not_decided, not_refuted, equal_decided, at_most_decided, all_decided, first_place, least_of}

-- accessible places

ranks_below_decided : (rank : ℕ → ℕ) (n : ℕ) (a : Ty) → Decided (RanksBelow rank n a)
ranks_below_decided rank n (sort s) = below_decided (rank s) n
ranks_below_decided rank n (a ⇒ b) = both_decided (ranks_below_decided rank n a) (ranks_below_decided rank n b)

accessible_in_decided : (rank : ℕ → ℕ) (s : ℕ) (a : Ty) → Decided (IsAccessibleIn rank s a)
accessible_in_decided rank s (sort r) = at_most_decided (rank r) (rank s)
accessible_in_decided rank s (a ⇒ b) = ranks_below_decided rank (rank s) (a ⇒ b)

accessible_decided : (S : Symbols) (rank : ℕ → ℕ) (f i : ℕ) → Decided (IsAccessible S rank f i)
accessible_decided S rank f i = go (slice_get S.funs f) refl
  where
    at_type : (b : Ty) → slice_get S.funs f ≡ Some b → (o : Option Ty) → slice_get (arguments b) i ≡ o → Decided (IsAccessible S rank f i)
    at_type b d None e = inr (λ (a, c, at, also, is).
        let there : slice_get (arguments b) i ≡ Some a = subst (λ x. slice_get (arguments x) i ≡ Some a) (some_one at d) also in
        cc (e, there))
    at_type b d (Some a) e =
        decided_by (λ is. (a, b, d, e, is))
        (λ (x, c, at, also, is).
        let same : c ≡ b = some_one at d in
        let there : slice_get (arguments b) i ≡ Some x = subst (λ y. slice_get (arguments y) i ≡ Some x) same also in
        subst (IsAccessibleIn rank (result_sort b)) (some_one there e) (subst (λ y. IsAccessibleIn rank (result_sort y) x) same is))
        (accessible_in_decided rank (result_sort b) a)

    go : (o : Option Ty) → slice_get S.funs f ≡ o → Decided (IsAccessible S rank f i)
    go None d = inr (λ (a, b, at, also, is). cc (d, at))
    go (Some b) d = at_type b d (slice_get (arguments b) i) refl

pub passes_decided : (S : Symbols) (rank : ℕ → ℕ) (l : Tm) (z : ℕ) → Decided (Passes S rank l z)
passes_decided S rank l z = go (reading_of l z) refl
  where
    go : (o : Option (List Place)) → reading_of l z ≡ o → Decided (Passes S rank l z)
    go None d = inr (λ (way, is, all). cc (d, is))
    go (Some way) d =
        decided_by (λ all. (way, d, all)) (λ (other, is, all). subst (AllAccessible S rank) (some_one is d) all)
        (all_decided (λ p. IsAccessible S rank p.symbol p.index) (λ p. accessible_decided S rank p.symbol p.index) way)

-- meta-variables that occur

mutual
  some_occurring : (P : ℕ → Type 0) → ((z : ℕ) → Decided (P z)) → (t : Tm) → ((z : ℕ) × Occurs z t × P z) ⊎ ((z : ℕ) → Occurs z t → P z → ⊥)
  some_occurring P decided (bound i) = inr (λ z occurs p. occurs)
  some_occurring P decided (free x a) = inr (λ z occurs p. occurs)
  some_occurring P decided (fun f) = inr (λ z occurs p. occurs)
  some_occurring P decided (lam a t) = some_occurring P decided t
  some_occurring P decided (meta y ts) = elim (decided y) [
    | inl p ↦ inl (y, inl refl, p)
    | inr not ↦ elim (some_occurring_in P decided ts) [
      | inl (z, occurs, p) ↦ inl (z, inr occurs, p)
      | inr nowhere ↦ inr (λ z occurs p. elim occurs [ inl same ↦ not (subst P (sym same) p) | inr inside ↦ nowhere z inside p ])
    ]
  ]
  some_occurring P decided (app t u) = elim (some_occurring P decided t) [
    | inl (z, occurs, p) ↦ inl (z, inl occurs, p)
    | inr nowhere ↦ elim (some_occurring P decided u) [
      | inl (z, occurs, p) ↦ inl (z, inr occurs, p)
      | inr neither ↦ inr (λ z occurs p. elim occurs [ inl left ↦ nowhere z left p | inr right ↦ neither z right p ])
    ]
  ]

  some_occurring_in : (P : ℕ → Type 0) → ((z : ℕ) → Decided (P z)) → (ts : Tms) → ((z : ℕ) × OccursIn z ts × P z) ⊎ ((z : ℕ) → OccursIn z ts → P z → ⊥)
  some_occurring_in P decided none = inr (λ z occurs p. occurs)
  some_occurring_in P decided (more t ts) = elim (some_occurring P decided t) [
    | inl (z, occurs, p) ↦ inl (z, inl occurs, p)
    | inr nowhere ↦ elim (some_occurring_in P decided ts) [
      | inl (z, occurs, p) ↦ inl (z, inr occurs, p)
      | inr neither ↦ inr (λ z occurs p. elim occurs [ inl left ↦ nowhere z left p | inr right ↦ neither z right p ])
    ]
  ]

occurs_decided : (z : ℕ) (t : Tm) → Decided (Occurs z t)
occurs_decided z t = elim (some_occurring (λ y. y ≡ z) (λ y. equal_decided y z) t) [
  | inl (y, occurs, same) ↦ inl (subst (λ x. Occurs x t) same occurs)
  | inr nowhere ↦ inr (λ occurs. nowhere z occurs refl)
]

-- the first break

-- z is the least meta-variable of the right side of which Q does not hold
abbrev IsLeastWithout : (Tm → ℕ → Type 0) → RewriteRule → ℕ → Type 0
IsLeastWithout Q r z = Occurs z r.right × (Q r.left z → ⊥) × ((y : ℕ) → y < z → Occurs y r.right → Q r.left y)

least_without : (Q : Tm → ℕ → Type 0) → ((l : Tm) (z : ℕ) → Decided (Q l z)) → (r : RewriteRule) → ((z : ℕ) × IsLeastWithout Q r z) ⊎ EachUsed Q r
least_without Q decided r = elim (some_occurring (λ z. Q r.left z → ⊥) (λ z. not_decided (decided r.left z)) r.right) [
  | inl (x, occurs, not) ↦
      let (z, ((there, bad), least)) = least_of (λ z. Occurs z r.right × (Q r.left z → ⊥)) used_badly x (occurs, not) in
      inl (z, (there, bad, λ y less here. not_refuted (decided r.left y) (λ missing. least y less (here, missing))))
  | inr nowhere ↦ inr (λ z occurs. not_refuted (decided r.left z) (nowhere z occurs))
]
  where
    used_badly : (z : ℕ) → Decided (Occurs z r.right × (Q r.left z → ⊥))
    used_badly z = both_decided (occurs_decided z r.right) (not_decided (decided r.left z))

each_used_decided : (Q : Tm → ℕ → Type 0) → ((l : Tm) (z : ℕ) → Decided (Q l z)) → (r : RewriteRule) → Decided (EachUsed Q r)
each_used_decided Q decided r = elim (least_without Q decided r) [
  | inl (z, (occurs, bad, least)) ↦ inr (λ each. bad (each z occurs))
  | inr each ↦ inl each
]

used_or_not : (Q : Tm → ℕ → Type 0) → ((l : Tm) (z : ℕ) → Decided (Q l z)) → (rules : List RewriteRule)
    → ((r : RewriteRule) → Contains rules r → EachUsed Q r) ⊎ ((i z : ℕ) × IsFirstWithout Q rules i z)
used_or_not Q decided rules = elim (first_place (λ r. EachUsed Q r → ⊥) (λ r. not_decided (each_used_decided Q decided r)) rules) [
  | inl (i, r, at, bad, before) ↦ elim (least_without Q decided r) [
    | inl (z, (occurs, not, least)) ↦ inr (
      i,
      z,
      record {
        here = (r, at, occurs, not, least);
        before = λ j s less also. not_refuted (each_used_decided Q decided s) (before j s less also);
      },
    )
    | inr each ↦ absurd (bad each)
  ]
  | inr nowhere ↦ inl (λ r found. not_refuted (each_used_decided Q decided r) (nowhere r found))
]

pub passing_or_break : (S : Symbols) (rank : ℕ → ℕ) (rules : List RewriteRule) → Passing S rank rules ⊎ ((i z : ℕ) × IsFirstBreak S rank rules i z)
passing_or_break S rank rules = used_or_not (Passes S rank) (passes_decided S rank) rules
