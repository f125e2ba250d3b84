use Rattle.std.proofs.Common.{◌≡◌, ◌≢◌, ℕ, ◌<◌, Bool, true, false, List, [], length, get_or, refl, sym, ◌∙◌, ap, subst, ◌⊎◌, inl, inr, arith}
use Rattle.std.proofs.lemmas.Bool.{cases_eq}
use Rattle.wh_sat_trail.specs.declared.literal.Literal.{Literal}
use Rattle.wh_sat_trail.specs.Assignment.{value_in, Holds, Fails}
use Rattle.wh_sat_trail.specs.Propagation.{IsClosed}
use Rattle.wh_sat_trail.specs.Assignment.{negated}
use Rattle.wh_sat.specs.Learning.{Has, Derives, given, forced, Refutes}
use Rattle.wh_sat_trail.proofs.Watching.{cases_value}

cases_pos : (a b : Bool) → (a ≡ b) ⊎ (a ≢ b)
cases_pos true true = inl refl
cases_pos false false = inl refl
cases_pos true false = inr (λ e. grind arith)
cases_pos false true = inr (λ e. grind arith)

pub cases_lit : (a b : Literal) → (a ≡ b) ⊎ (a ≢ b)
cases_lit a b = elim (cases_eq a.variable b.variable) [
  | inl v ↦ elim (cases_pos a.positive b.positive) [
    | inl p ↦ inl (ap (λ n. let r : Literal = record { variable = n; positive = a.positive } in r) v ∙ ap (λ q. let r : Literal = record { variable = b.variable; positive = q } in r) p)
    | inr q ↦ inr (λ e. q (ap (λ l. l.positive) e))
  ]
  | inr u ↦ inr (λ e. u (ap (λ l. l.variable) e))
]

-- what propagation derives from literals that a closed assignment makes true, it makes true
pub derives_holds : (clauses : List (List Literal)) (start t : List Literal) (l : Literal) → IsClosed clauses t → ((m : Literal) → Has start m → Holds t m) → Derives clauses start l → Holds t l
derives_holds clauses start t l c h (given l' q) = h l q
derives_holds clauses start t l c h (forced k l' w q others) =
    let cl = get_or clauses k [] in
    let rest : (i : ℕ) (d : Literal) → i < length cl → get_or cl i d ≢ l → Fails t (get_or cl i d) = λ i d x u. derives_holds clauses start t (negated (get_or cl i d)) c h (others i d x u) in
    elim (cases_value (value_in t l.variable) l.positive) [
      | inl good ↦ good
      | inr other ↦ elim other [
        | inl bad ↦ absurd (c.unrefuted k w (λ i d x. elim (cases_lit (get_or cl i d) l) [ inl e ↦ subst (Fails t) (sym e) bad | inr u ↦ rest i d x u ]))
        | inr free ↦ absurd (c.unforced k l w (record { free = free; place = q.place; within = q.within; is = q.is; others = rest }))
      ]
    ]

-- so a closed assignment shows that they do not refute
pub closed_not_refutes : (clauses : List (List Literal)) (start t : List Literal) → IsClosed clauses t → ((m : Literal) → Has start m → Holds t m) → Refutes clauses start → ⊥
closed_not_refutes clauses start t c h r = c.unrefuted r.clause r.known (λ i d x. derives_holds clauses start t (negated (get_or (get_or clauses r.clause []) i d)) c h (r.all i d x))
