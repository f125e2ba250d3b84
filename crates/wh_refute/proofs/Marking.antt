-- Marks of true literals.
use Rattle.std.proofs.Common.{◌≡◌, ℕ, ◌<◌, ◌≤◌, inl, inr, Bool, true, nat_eq, List, [], ◌∷◌, ◌++◌, length, get_or, slice_set, sym, ◌∙◌, ap, subst, arith}
use Rattle.std.proofs.lemmas.Bool.{cases_eq}
use Rattle.std.proofs.lemmas.List.{get_or-set_same, get_or-set_other, length-set}
use Rattle.wh_sat_trail.specs.declared.literal.Literal.{Literal}
use Rattle.wh_sat_trail.specs.Member.{member}
use Rattle.wh_refute.specs.Told.{Marks}
use Rattle.wh_refute.proofs.Members.{member_last, member_other}

abbrev literal : ℕ → Bool → Literal
literal v s = record { variable = v; positive = s }

equal_self : (n : ℕ) → nat_eq n n ≡ true
equal_self n = grind arith

-- the literal's own mark gets the present number
pub marks_set : (marks : List ℕ) (now : ℕ) (t : List Literal) (l : Literal) (sign : Bool) → l.positive ≡ sign → l.variable < length marks
    → Marks marks now sign t → Marks (slice_set marks l.variable now) now sign (t ++ l ∷ [])
marks_set marks now t l sign is within m v inside = elim (cases_eq v l.variable) [
  | inl same ↦ (
    omega (arith, got same),
    ap (λ n. nat_eq n now) (got same) ∙ equal_self now ∙ sym (subst (λ x. member x (t ++ l ∷ []) ≡ true) (this same) (member_last l t)),
  )
  | inr other ↦ (
    subst (λ n. n ≤ now) (sym (kept other)) (let r = m v inner in r.0),
    ap (λ n. nat_eq n now) (kept other) ∙ (let r = m v inner in r.1)
        ∙ sym (member_other (literal v sign) l t (λ e. other (sym (ap (λ (x : Literal). x.variable) e)))),
  )
]
  where
    inner : v < length marks
    inner = omega (arith, inside, length-set marks l.variable now)

    got : v ≡ l.variable → get_or (slice_set marks l.variable now) v 0 ≡ now
    got same = ap (λ k. get_or (slice_set marks l.variable now) k 0) same ∙ get_or-set_same marks l.variable now 0 within

    kept : (v ≡ l.variable → ⊥) → get_or (slice_set marks l.variable now) v 0 ≡ get_or marks v 0
    kept other = get_or-set_other marks l.variable v now 0 other

    this : v ≡ l.variable → l ≡ literal v sign
    this same = ap (λ n. literal n l.positive) (sym same) ∙ ap (λ s. literal v s) is

-- the marks of the other sign stay
pub marks_other : (marks : List ℕ) (now : ℕ) (t : List Literal) (l : Literal) (sign : Bool) → (l.positive ≡ sign → ⊥)
    → Marks marks now sign t → Marks marks now sign (t ++ l ∷ [])
marks_other marks now t l sign other m v inside =
    (let r = m v inside in r.0, (let r = m v inside in r.1) ∙ sym (member_other (literal v sign) l t (λ e. other (ap (λ (x : Literal). x.positive) e))))
