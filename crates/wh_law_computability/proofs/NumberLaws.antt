-- Computability by three numbers is the family's: by induction on ranks, and within a rank on the type and on the
-- bound.
use Rattle.std.proofs.Common.{◌≡◌, ℕ, zero, suc, ◌<◌, ◌≤◌, ◌↔◌, ltb, List, [], ◌∷◌, ◌⊎◌, inl, inr, length, refl, sym, subst, arith, lt-ltb, le-ltb}
use Rattle.wh_types.specs.Ty.{Ty, sort, ◌⇒◌, SortsBelow}
use Rattle.wh_terms.specs.Tree.{Tm, fun, free, app, spine}
use Rattle.wh_terms.specs.Typing.{Symbols, Typed}
use Rattle.wh_terms.specs.Rules.{RewriteRule, AreWellMade}
use Rattle.wh_terms.proofs.StepOver.{over-typed}
use Rattle.wh_step.specs.Step.{Step}
use Rattle.wh_step.specs.Reduction.{Walk, last_of, Bounded}
use Rattle.wh_step.proofs.Instances.{instances_typed}
use Rattle.wh_step.proofs.RawStep.{step_raw}
use Rattle.wh_step.proofs.Walks.{bounded_next}
use Rattle.wh_step_laws.specs.Ends.{Ends, ends}
use Rattle.wh_step_laws.specs.DirectSubterms.{StepOrPart}
use Rattle.wh_step_laws.specs.Ranks.{RanksBelow, above_ranks, IsAccessibleIn}
use Rattle.wh_step_laws.specs.RootRelations.{KnowsSorts}
use Rattle.wh_step_laws.specs.Neutral.{IsNeutral}
use Rattle.wh_step_laws.specs.Computable.{by_test, Computable}
use Rattle.wh_step_laws.proofs.RankLaws.{ranks_above}
use Rattle.wh_step_laws.proofs.SystemSteps.{bounded-ends}
use Rattle.wh_step_laws.proofs.SystemComputable.{sort-unfolded, sort-folded, arrow-unfolded, arrow-folded, computable-typed, computable-bounded, computable-step, computable-free, computable-neutral}
use Rattle.wh_law_computability.specs.ByNumbers.{NoLonger, AsksArgument, IsWithin, WithinAt, WithinBelow, NumberedBelow, IsComputableWithin, IsNumbered, IsWithinLess}
use Rattle.wh_law_computability.proofs.SequenceLaws.{argument_shorter, some_bound}

-- tests of ranks

tested : (P Q : Type 0) (m k : ℕ) → m < k → (by_test (ltb m k) P Q ↔ P)
tested P Q m k h = (subst (λ b. by_test b P Q) (lt-ltb m k h), subst (λ b. by_test b P Q) (sym (lt-ltb m k h)))

not_tested : (P Q : Type 0) (m k : ℕ) → k ≤ m → (by_test (ltb m k) P Q ↔ Q)
not_tested P Q m k h = (subst (λ b. by_test b P Q) (le-ltb m k h), subst (λ b. by_test b P Q) (sym (le-ltb m k h)))

below_or_equal : (m k : ℕ) → m ≤ k → (m < k) ⊎ (m ≡ k)
below_or_equal zero zero h = inr refl
below_or_equal zero (suc k) h = inl (omega arith)
below_or_equal (suc m) zero h = absurd (omega arith)
below_or_equal (suc m) (suc k) h = elim (below_or_equal m k (omega arith)) [
  | inl less ↦ inl (omega arith)
  | inr same ↦ inr (omega arith)
]

no_rank_below : (rank : ℕ → ℕ) (a : Ty) → RanksBelow rank 0 a → ⊥
no_rank_below rank (sort s) h = omega arith
no_rank_below rank (a ⇒ b) h = no_rank_below rank a h.0

module _ {S : Symbols} {rules : List RewriteRule} (made : AreWellMade S rules) (known : KnowsSorts S) (rank : ℕ → ℕ) where
  -- computability by the family
  abbrev Is : Ty → Tm → Type 0
  Is a t = Computable S rank (Step rules) a t

  -- what stands to be shown of ranks below k
  abbrev SortsAgree : ℕ → Type 0
  SortsAgree k = (n s : ℕ) (t : Tm) → rank s < k → (WithinBelow S rank rules k n s t ↔ (Is (sort s) t × NoLonger rules n t))

  abbrev TypesAgree : ℕ → Type 0
  TypesAgree k = (a : Ty) (t : Tm) → RanksBelow rank k a → (NumberedBelow S rank rules k a t ↔ Is a t)

  -- within a number is kept by steps
  within_step : {Low : Ty → Tm → Type 0} {Before : ℕ → Tm → Type 0} (n s : ℕ) (t u : Tm) → Step rules t u
      → IsWithin S rank rules Low Before n s t → IsWithin S rank rules Low Before n s u
  within_step n s t u r w = record {
    typed = over-typed S (instances_typed S rules made) [] (sort s) (step_raw S made r) w.typed;
    bounded = (w.bounded.0, λ l v. bounded_next (Step rules) t u w.bounded.0 r w.bounded.1 l v);
    no_longer = λ l v. bounded_next (StepOrPart (Step rules)) t u n (inl r) w.no_longer l v;
    accessible = λ f i a ts v (l, x, e) place acc at. w.accessible f i a ts v (u ∷ l, (r, x), e) place acc at;
  }

  -- what is within a number is computable, where that is known of its accessible arguments
  within_computable : (Low : Ty → Tm → Type 0) (Before : ℕ → Tm → Type 0) (n s : ℕ)
      → ((a : Ty) (u : Tm) → IsAccessibleIn rank s a → AsksArgument Low Before a u → Is a u)
      → (t : Tm) → Ends (Step rules) t → IsWithin S rank rules Low Before n s t → Is (sort s) t
  within_computable Low Before n s arg t (ends h) w = sort-folded S rank (Step rules) s t (record {
    typed = w.typed;
    reducts = λ u r. within_computable Low Before n s arg u (h u r) (within_step n s t u r w);
    accessible = λ f i a ts u e place acc at. arg a u acc (w.accessible f i a ts u ([], tt, e) place acc at);
  })

  -- steps of computable terms
  reduct_computable : (a : Ty) (t : Tm) (l : List Tm) → Walk (Step rules) t l → Is a t → Is a (last_of t l)
  reduct_computable a t [] w c = c
  reduct_computable a t (u ∷ l) w c = reduct_computable a u l w.1 (computable-step made known rank a t u c w.0)

  -- a computable term is within a bound on its sequences, where its accessible arguments are as asked
  computable_within : (Low : Ty → Tm → Type 0) (Before : ℕ → Tm → Type 0) (n s : ℕ) (t : Tm)
      → ((a : Ty) (u : Tm) → IsAccessibleIn rank s a → Is a u
      → ((m : List Tm) → Walk (StepOrPart (Step rules)) u m → length m < n) → AsksArgument Low Before a u)
      → Is (sort s) t → NoLonger rules n t → IsWithin S rank rules Low Before n s t
  computable_within Low Before n s t arg c best = record {
    typed = computable-typed S rank (Step rules) (sort s) t c;
    bounded = computable-bounded made known rank (sort s) t c;
    no_longer = best;
    accessible = λ f i a ts u (l, w, e) place acc at.
        let d : Is (sort s) (spine (fun f) ts) = subst (Is (sort s)) e (reduct_computable (sort s) t l w c) in
        let is = sort-unfolded S rank (Step rules) s (spine (fun f) ts) d in
        arg a u acc (is.accessible f i a ts u refl place acc at) (argument_shorter t (fun f) l ts i n u w e at best);
  }

  -- one rank more

  module _ (k : ℕ) (sorts : SortsAgree k) (types : TypesAgree k) where
    abbrev Low : Ty → Tm → Type 0
    Low = NumberedBelow S rank rules k

    abbrev LowWithin : ℕ → ℕ → Tm → Type 0
    LowWithin = WithinBelow S rank rules k

    abbrev At : ℕ → ℕ → Tm → Type 0
    At n s t = WithinAt S rank rules Low LowWithin k n s t

    -- what the bound n asks of an argument of a sort, where it is n + 1 for the term
    abbrev Before : ℕ → ℕ → Tm → Type 0
    Before n r u = by_test (ltb (rank r) k) (LowWithin n r u) (At n r u)

    functional : (s : ℕ) → rank s ≡ k → (a b : Ty) (u : Tm) → IsAccessibleIn rank s (a ⇒ b) → (Low (a ⇒ b) u ↔ Is (a ⇒ b) u)
    functional s e a b u acc = types (a ⇒ b) u (subst (λ m. RanksBelow rank m (a ⇒ b)) e acc)

    -- what is asked of an argument of a sort, one bound further on
    before_computable : (n r : ℕ) (u : Tm) → rank r ≤ k → ((r : ℕ) (u : Tm) → rank r ≡ k → At n r u → Is (sort r) u) → Before n r u
        → Is (sort r) u
    before_computable n r u le same_rank h = elim (below_or_equal (rank r) k le) [
      | inl less ↦ ((sorts n r u less).0 ((tested (LowWithin n r u) (At n r u) (rank r) k less).0 h)).0
      | inr same ↦ same_rank r u same ((not_tested (LowWithin n r u) (At n r u) (rank r) k (omega arith)).0 h)
    ]

    argument_computable : (Prior : ℕ → Tm → Type 0) (s : ℕ) → rank s ≡ k → ((r : ℕ) (u : Tm) → rank r ≤ k → Prior r u → Is (sort r) u)
        → (a : Ty) (u : Tm) → IsAccessibleIn rank s a → AsksArgument Low Prior a u → Is a u
    argument_computable Prior s e arg (sort r) u acc h = arg r u (omega arith) h
    argument_computable Prior s e arg (a ⇒ b) u acc h = (functional s e a b u acc).0 h

    at_computable : (n s : ℕ) (t : Tm) → rank s ≡ k → At n s t → Is (sort s) t
    at_computable zero s t e w =
        within_computable Low (λ r u. ⊥) zero s (argument_computable (λ r u. ⊥) s e (λ r u le h. absurd h)) t (bounded-ends t w.bounded) w
    at_computable (suc n) s t e w =
        within_computable Low (Before n) (suc n) s
        (argument_computable (Before n) s e (λ r u le h. before_computable n r u le (λ r u same at. at_computable n r u same at) h)) t
        (bounded-ends t w.bounded) w

    -- each sequence from the term is shorter than n
    abbrev IsShorter : ℕ → Tm → Type 0
    IsShorter n u = (m : List Tm) → Walk (StepOrPart (Step rules)) u m → length m < n

    computable_before : (n r : ℕ) (u : Tm) → rank r ≤ k
        → ((r : ℕ) (u : Tm) → rank r ≡ k → Is (sort r) u → NoLonger rules n u → At n r u) → Is (sort r) u → IsShorter (suc n) u → Before n r u
    computable_before n r u le same_rank h short =
        let within : NoLonger rules n u = λ m w. let less = short m w in omega arith in
        elim (below_or_equal (rank r) k le) [
          | inl less ↦ (tested (LowWithin n r u) (At n r u) (rank r) k less).1 ((sorts n r u less).1 (h, within))
          | inr same ↦ (not_tested (LowWithin n r u) (At n r u) (rank r) k (omega arith)).1 (same_rank r u same h within)
        ]

    argument_asked : (Prior : ℕ → Tm → Type 0) (n s : ℕ) → rank s ≡ k
        → ((r : ℕ) (u : Tm) → rank r ≤ k → Is (sort r) u → IsShorter n u → Prior r u)
        → (a : Ty) (u : Tm) → IsAccessibleIn rank s a → Is a u → IsShorter n u → AsksArgument Low Prior a u
    argument_asked Prior n s e arg (sort r) u acc h short = arg r u (omega arith) h short
    argument_asked Prior n s e arg (a ⇒ b) u acc h short = (functional s e a b u acc).1 h

    none_shorter : (u : Tm) → IsShorter zero u → ⊥
    none_shorter u short = let never : 0 < 0 = short [] tt in omega arith

    computable_at_bound : (n s : ℕ) (t : Tm) → rank s ≡ k → Is (sort s) t → NoLonger rules n t → At n s t
    computable_at_bound zero s t e c best =
        computable_within Low (λ r u. ⊥) zero s t (argument_asked (λ r u. ⊥) zero s e (λ r u le h short. none_shorter u short)) c best
    computable_at_bound (suc n) s t e c best =
        computable_within Low (Before n) (suc n) s t
        (argument_asked (Before n) (suc n) s e
        (λ r u le h short. computable_before n r u le (λ r u same d within. computable_at_bound n r u same d within) h short)) c best

    at_no_longer : (n s : ℕ) (t : Tm) → At n s t → NoLonger rules n t
    at_no_longer zero s t w = w.no_longer
    at_no_longer (suc n) s t w = w.no_longer

    sorts_next : SortsAgree (suc k)
    sorts_next n s t h = elim (below_or_equal (rank s) k (omega arith)) [
      | inl less ↦
          let test = tested (LowWithin n s t) (At n s t) (rank s) k less in
          (λ w. (sorts n s t less).0 (test.0 w), λ c. test.1 ((sorts n s t less).1 c))
      | inr same ↦
          let past = not_tested (LowWithin n s t) (At n s t) (rank s) k (omega arith) in (
            λ w. let at = past.0 w in (at_computable n s t same at, at_no_longer n s t at),
            λ (c, best). past.1 (computable_at_bound n s t same c best),
          )
    ]

    types_next : TypesAgree (suc k)
    types_next (sort s) t h = (
      λ (n, w). ((sorts_next n s t h).0 w).0,
      λ c.
          let p = computable-typed S rank (Step rules) (sort s) t c in
          let (n, best) = some_bound made t (sort s) p (computable-bounded made known rank (sort s) t c) in
          (n, (sorts_next n s t h).1 (c, best)),
    )
    types_next (a ⇒ b) t h = (
      λ (p, f). arrow-folded S rank (Step rules) a b t (record {
        typed = p;
        takes = λ u c. (types_next b (app t u) h.1).0 (f u ((types_next a u h.0).1 c));
      }),
      λ c.
          let is = arrow-unfolded S rank (Step rules) a b t c in
          (is.typed, λ u d. (types_next b (app t u) h.1).1 (is.takes u ((types_next a u h.0).0 d))),
    )

  all_agree : (k : ℕ) → SortsAgree k × TypesAgree k
  all_agree zero = (λ n s t h. absurd (omega arith), λ a t h. absurd (no_rank_below rank a h))
  all_agree (suc k) = let (sorts, types) = all_agree k in (sorts_next k sorts types, types_next k sorts types)

  -- the two definitions agree

  pub numbered-computable : (a : Ty) (t : Tm) → (IsNumbered S rank rules a t ↔ Is a t)
  numbered-computable a t = (all_agree (above_ranks rank a)).1 a t (ranks_above rank a)

  pub within-computable : (n s : ℕ) (t : Tm) → (IsComputableWithin S rank rules n s t ↔ (Is (sort s) t × NoLonger rules n t))
  within-computable n s t = (all_agree (suc (rank s))).0 n s t (omega arith)

  -- and so it is at sorts and arrows as the definition says

  less_computable : (n : ℕ) (s : ℕ) (a : Ty) (u : Tm) → IsAccessibleIn rank s a
      → AsksArgument (IsNumbered S rank rules) (IsWithinLess S rank rules n) a u → Is a u
  less_computable zero s (sort r) u acc h = absurd h
  less_computable (suc n) s (sort r) u acc h = ((within-computable n r u).0 h).0
  less_computable n s (a ⇒ b) u acc h = (numbered-computable (a ⇒ b) u).0 h

  computable_less : (n : ℕ) (s : ℕ) (a : Ty) (u : Tm) → IsAccessibleIn rank s a → Is a u
      → ((m : List Tm) → Walk (StepOrPart (Step rules)) u m → length m < n)
      → AsksArgument (IsNumbered S rank rules) (IsWithinLess S rank rules n) a u
  computable_less zero s (sort r) u acc h short = let never = short [] tt in absurd (omega arith)
  computable_less (suc n) s (sort r) u acc h short =
      (within-computable n r u).1 (h, λ m w. let less = short m w in omega arith)
  computable_less n s (a ⇒ b) u acc h short = (numbered-computable (a ⇒ b) u).1 h

  pub within-unfolded : (n s : ℕ) (t : Tm) → (IsComputableWithin S rank rules n s t
      ↔ IsWithin S rank rules (IsNumbered S rank rules) (IsWithinLess S rank rules n) n s t)
  within-unfolded n s t = (
    λ w.
        let (c, best) = (within-computable n s t).0 w in
        computable_within (IsNumbered S rank rules) (IsWithinLess S rank rules n) n s t (computable_less n s) c best,
    λ w. (within-computable n s t).1 (
      within_computable (IsNumbered S rank rules) (IsWithinLess S rank rules n) n s (less_computable n s) t (bounded-ends t w.bounded) w,
      w.no_longer,
    ),
  )

  pub numbered-arrow : (a b : Ty) (t : Tm) → (IsNumbered S rank rules (a ⇒ b) t
      ↔ (Typed S [] [] t (a ⇒ b) × ((u : Tm) → IsNumbered S rank rules a u → IsNumbered S rank rules b (app t u))))
  numbered-arrow a b t = (
    λ c.
        let is = arrow-unfolded S rank (Step rules) a b t ((numbered-computable (a ⇒ b) t).0 c) in
        (is.typed, λ u d. (numbered-computable b (app t u)).1 (is.takes u ((numbered-computable a u).0 d))),
    λ (p, f). (numbered-computable (a ⇒ b) t).1 (arrow-folded S rank (Step rules) a b t (record {
      typed = p;
      takes = λ u c. (numbered-computable b (app t u)).0 (f u ((numbered-computable a u).1 c));
    })),
  )

  -- the laws of computability

  pub numbered-bounded : (a : Ty) (t : Tm) → IsNumbered S rank rules a t → Bounded rules t
  numbered-bounded a t c = computable-bounded made known rank a t ((numbered-computable a t).0 c)

  pub numbered-step : (a : Ty) (t u : Tm) → IsNumbered S rank rules a t → Step rules t u → IsNumbered S rank rules a u
  numbered-step a t u c s = (numbered-computable a u).1 (computable-step made known rank a t u ((numbered-computable a t).0 c) s)

  pub numbered-free : (x : ℕ) (a : Ty) → SortsBelow S.sorts a → IsNumbered S rank rules a (free x a)
  numbered-free x a sorts = (numbered-computable a (free x a)).1 (computable-free made rank x a sorts)

  pub numbered-neutral : (a : Ty) (t : Tm) → Typed S [] [] t a → IsNeutral t → ((u : Tm) → Step rules t u → IsNumbered S rank rules a u)
      → IsNumbered S rank rules a t
  numbered-neutral a t p n h =
      (numbered-computable a t).1 (computable-neutral made known rank a t p n (λ u s. (numbered-computable a u).0 (h u s)))

  pub computable-within_some : (s : ℕ) (t : Tm) → Is (sort s) t → (n : ℕ) × IsComputableWithin S rank rules n s t
  computable-within_some s t c = (numbered-computable (sort s) t).1 c
