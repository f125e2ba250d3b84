-- Bounds of the arguments of marked calls: they give numbers for the meta-variables of a side, at which the call is worth no more; and from
-- such numbers come bounds of arguments.
use Rattle.std.proofs.Common.{ℕ, ◌+◌, ◌≤◌, inl, inr, List, [], ◌∷◌, sym, subst, arith, le_trans}
use Rattle.std.specs.List.{AllByRecursion}
use Rattle.wh_types.specs.Ty.{Ty, sort, ◌⇒◌}
use Rattle.wh_terms.specs.Tree.{Tm, tms_of}
use Rattle.wh_terms.specs.Sight.{OccursIn}
use Rattle.wh_terms.specs.Typing.{Symbols, Declared, AllTyped, typed_more}
use Rattle.wh_terms.specs.Rules.{RewriteRule, AreWellMade}
use Rattle.wh_terms.specs.Value.{Body, Values, of_more}
use Rattle.wh_terms.proofs.TypingLaws.{typed_loose, typed_term}
use Rattle.wh_terms.proofs.ValueLaws.{value_is}
use Rattle.wh_step.specs.Step.{Step}
use Rattle.wh_step_laws.specs.Ends.{Ends, StepsIn, step_here, step_there}
use Rattle.wh_hopoly.specs.Evaluation.{Interpretation}
use Rattle.wh_polycheck.specs.Sides.{arrows}
use Rattle.wh_usable_first_order.specs.FirstOrder.{AreSorts, AreFlatTrees}
use Rattle.wh_usable.specs.Closed.{ListsRulesInEach}
use Rattle.wh_poly_meaning.specs.Functionals.{Sem, Mono}
use Rattle.wh_poly_meaning.specs.Calls.{all_nothing}
use Rattle.wh_poly_meaning.proofs.Order.{le_nat, le_valuation_same}
use Rattle.wh_poly_meaning.proofs.TermValues.{fed_le}
use Rattle.wh_usable_calls.specs.Bounds.{Bounds, BoundsFed}
use Rattle.wh_usable_calls.proofs.BoundLaws.{bounds_more, ending_bound}
use Rattle.wh_usable_calls.proofs.Numbers.{by_numbers_of, nothings_mono, numbers_mono, at_numbers, fed_numbers, side_below}
use Rattle.wh_usable_calls.proofs.SideBounds.{BoundBodies, HasNumbers, side_numbers, Lowers, side_lowers, side_bound}

module _ (S : Symbols) (rules : List RewriteRule) (listed : List ℕ) (symbols : List Interpretation) where
  abbrev IsBound : Tm → ℕ → Type 0
  IsBound = Bounds S rules listed symbols

  abbrev IsFed : (cs : List Ty) → Sem (arrows cs (sort 0)) → List Tm → ℕ → Type 0
  IsFed = BoundsFed S rules listed symbols

  -- arguments that end have bounds
  pub ending_fed : AreWellMade S rules → (cs : List Ty) (F : Sem (arrows cs (sort 0))) (ts : List Tm) → AreSorts cs
      → AllTyped S [] [] (tms_of ts) cs → AllByRecursion (Ends (Step rules)) ts → (n : ℕ) × IsFed cs F ts n
  ending_fed made [] F [] sorts p e = (F, le_nat F)
  ending_fed made [] F (t ∷ ts) sorts p e = elim p [ ]
  ending_fed made (c ∷ cs) F [] sorts p e = elim p [ ]
  ending_fed made (sort s ∷ cs) F (t ∷ ts) sorts (typed_more p ps) e =
      let (k, b) = ending_bound S rules listed symbols made t (typed_loose p, typed_term t p) e.0 in
      let (n, rest) = ending_fed made cs (F k) ts sorts ps e.1 in
      (n, (k, b, rest))
  ending_fed made ((a ⇒ b) ∷ cs) F (t ∷ ts) sorts p e = absurd sorts

  -- steps keep them
  pub step_fed : ((t u : Tm) (n : ℕ) → IsBound t n → Step rules t u → IsBound u n) → (cs : List Ty) (F : Sem (arrows cs (sort 0)))
      (ts us : List Tm) (n : ℕ) → IsFed cs F ts n → StepsIn (Step rules) ts us → IsFed cs F us n
  step_fed keeps [] F [] us n fed s = elim s [ ]
  step_fed keeps [] F (t ∷ ts) us n fed s = absurd fed
  step_fed keeps (c ∷ cs) F [] us n fed s = elim s [ ]
  step_fed keeps (sort s ∷ cs) F (t ∷ ts) us n (k, b, rest) (step_here {b = u} step) = (k, keeps t u k b step, rest)
  step_fed keeps (sort s ∷ cs) F (t ∷ ts) us n (k, b, rest) (step_there {m = vs} step) = (k, b, step_fed keeps cs (F k) ts vs n rest step)
  step_fed keeps ((a ⇒ b) ∷ cs) F (t ∷ ts) us n fed s = absurd fed

  module _ (M : List Declared) (g : ℕ → Body) where
    abbrev Bodies : (ℕ → Type 0) → (ℕ → ℕ) → Type 0
    Bodies = BoundBodies S rules listed symbols M g

    abbrev fed_at : (ℕ → ℕ) → (cs : List Ty) → Sem (arrows cs (sort 0)) → List Tm → ℕ
    fed_at = fed_numbers S M symbols

    -- some numbers bound the bodies of the meta-variables
    pub list_numbers : (cs : List Ty) (F : Sem (arrows cs (sort 0))) (ts vs : List Tm) (n : ℕ) → AreFlatTrees S M ts
        → AllTyped S M [] (tms_of ts) cs → Values g (tms_of ts) (tms_of vs) → IsFed cs F vs n
        → HasNumbers S rules listed symbols M g (λ z. OccursIn z (tms_of ts))
    list_numbers cs F [] vs n flat p v fed = (λ z. 0, λ z o. absurd o)
    list_numbers cs F (t ∷ ts) [] n flat p v fed = elim v [ ]
    list_numbers [] F (t ∷ ts) (w ∷ vs) n flat p v fed = absurd fed
    list_numbers (sort s ∷ cs) F (t ∷ ts) (w ∷ vs) n flat (typed_more p ps) (of_more v rest_values) (k, b, rest) =
        let (ν, first) = side_numbers S rules listed symbols M g t s k flat.0 p (subst (λ w. IsBound w k) (value_is v).1 b) in
        let (μ, others) = list_numbers cs (F k) ts vs n flat.1 ps rest_values rest in (
          λ z. ν z + μ z,
          λ z o. elim o [
            | inl i ↦ bounds_more S rules listed symbols (ν z + μ z) (omega arith) (first z i)
            | inr i ↦ bounds_more S rules listed symbols (ν z + μ z) (omega arith) (others z i)
          ],
        )
    list_numbers ((a ⇒ b) ∷ cs) F (t ∷ ts) (w ∷ vs) n flat p v fed = absurd fed

    -- and such numbers can be made as small as the arguments tell
    pub list_lowers : (P : ℕ → Type 0) (ν : ℕ → ℕ) (cs : List Ty) (F : Sem (arrows cs (sort 0))) (ts vs : List Tm) (n : ℕ) → Bodies P ν
        → Mono (arrows cs (sort 0)) F → AreFlatTrees S M ts → AllTyped S M [] (tms_of ts) cs → Values g (tms_of ts) (tms_of vs)
        → IsFed cs F vs n
        → Lowers S rules listed symbols M g P ν (λ μ. fed_at μ cs F ts ≤ n)
    list_lowers P ν [] F [] [] n bodies mono flat p v fed = (ν, λ z. le_nat (ν z), bodies, fed)
    list_lowers P ν [] F [] (w ∷ vs) n bodies mono flat p v fed = absurd fed
    list_lowers P ν (c ∷ cs) F [] vs n bodies mono flat p v fed = elim p [ ]
    list_lowers P ν cs F (t ∷ ts) [] n bodies mono flat p v fed = elim v [ ]
    list_lowers P ν [] F (t ∷ ts) (w ∷ vs) n bodies mono flat p v fed = absurd fed
    list_lowers P ν (sort s ∷ cs) F (t ∷ ts) (w ∷ vs) n bodies mono flat (typed_more p ps) (of_more v rest_values) (k, b, rest) =
        let here = subst (λ w. IsBound w k) (value_is v).1 b in
        let (μ, first, bodies_first, under) = side_lowers S rules listed symbols M g t P ν s k bodies flat.0 p here in
        let (χ, second, bodies_second, le) = list_lowers P μ cs (F k) ts vs n bodies_first (mono.0 k tt) flat.1 ps rest_values rest in
        let x = at_numbers S M symbols t χ (sort s) in
        let less = le_trans (side_below S M symbols t (sort s) χ μ second flat.0 p) under in (
          χ,
          λ z. le_trans (second z) (first z),
          bodies_second,
          le_trans
              (fed_le S M (by_numbers_of symbols χ) (numbers_mono symbols χ) (tms_of ts) [] all_nothing all_nothing nothings_mono
              nothings_mono
              (le_valuation_same all_nothing) cs (sort 0) (F x) (F k) (mono.0 x tt) (mono.0 k tt) (mono.1 x k tt tt less))
              le,
        )
    list_lowers P ν ((a ⇒ b) ∷ cs) F (t ∷ ts) (w ∷ vs) n bodies mono flat p v fed = absurd fed

    -- the other way round: what numbers give bounds the arguments, where all rules of their symbols are listed
    pub list_fed : (ν : ℕ → ℕ) (cs : List Ty) (F : Sem (arrows cs (sort 0))) (ts vs : List Tm) → AreSorts cs → AreFlatTrees S M ts
        → AllTyped S M [] (tms_of ts) cs → ListsRulesInEach rules listed ts → Bodies (λ z. OccursIn z (tms_of ts)) ν
        → Values g (tms_of ts) (tms_of vs)
        → IsFed cs F vs (fed_at ν cs F ts)
    list_fed ν [] F [] [] sorts flat p lists bodies v = le_nat F
    list_fed ν [] F [] (w ∷ vs) sorts flat p lists bodies v = elim v [ ]
    list_fed ν (c ∷ cs) F [] vs sorts flat p lists bodies v = elim p [ ]
    list_fed ν cs F (t ∷ ts) [] sorts flat p lists bodies v = elim v [ ]
    list_fed ν [] F (t ∷ ts) (w ∷ vs) sorts flat p lists bodies v = elim p [ ]
    list_fed ν (sort s ∷ cs) F (t ∷ ts) (w ∷ vs) sorts flat (typed_more p ps) lists bodies (of_more v rest_values) =
        let x = at_numbers S M symbols t ν (sort s) in
        let b = side_bound S rules listed symbols M g ν t s flat.0 p lists.0 (λ z o. bodies z (inl o)) in (
          x,
          subst (λ w. IsBound w x) (sym (value_is v).1) b,
          list_fed ν cs (F x) ts vs sorts flat.1 ps lists.1 (λ z o. bodies z (inr o)) rest_values,
        )
    list_fed ν ((a ⇒ b) ∷ cs) F (t ∷ ts) (w ∷ vs) sorts flat p lists bodies v = absurd sorts
