-- A sum of many polynomials does not depend on which are added first.
use Rattle.std.proofs.Common.{◌≡◌, ℕ, ◌+◌, ◌-◌, ◌≤◌, inl, inr, List, [], ◌∷◌, ◌++◌, refl, ap, sym, subst, ◌∙◌, arith, length, length-append}
use Rattle.std.specs.Prelude.{max, Option, None, Some}
use Rattle.wh_poly.specs.Polynomials.{Polynomial, zero_poly, plus, Ordered}
use Rattle.wh_poly.specs.Arithmetic.{add_monomial, sum_poly}
use Rattle.wh_poly.specs.Limits.{weight, nesting, Overflows, Exceeds}
use Rattle.wh_poly.specs.Excesses.{ExceedsAs}
use Rattle.wh_poly.specs.Erase.{poly, monomials, sum_of}
use Rattle.wh_poly_arithmetic.specs.Totals.{sum_of_parts, AllOrdered, weight_of_parts, nesting_of_parts, Leaves, IsTakenFrom}
use Rattle.wh_poly.specs.declared.excess.Excess.{Excess}
use Rattle.wh_poly.specs.declared.polynomial.Poly.{Poly}
use Rattle.wh_poly.proofs.Lists.{poly_is}
use Rattle.wh_poly.proofs.SumLaws.{add_front}
use Rattle.wh_poly_arithmetic.proofs.ScaleLaws.{light_add, shallow_add}
use Rattle.wh_poly.proofs.OrderedLaws.{ordered_sum, ordered_associate, exceeds_left}

pub parts_append : (q : Polynomial) (ps : List Poly) (p : Poly) → sum_of_parts q (ps ++ p ∷ []) ≡ sum_poly (poly p) (sum_of_parts q ps)
parts_append q [] p = refl
parts_append q (a ∷ ps) p = parts_append (sum_poly (poly a) q) ps p

parts_ordered : (q : Polynomial) (ps : List Poly) → Ordered q → AllOrdered ps → Ordered (sum_of_parts q ps)
parts_ordered q [] n m = n
parts_ordered q (p ∷ ps) n m = parts_ordered (sum_poly (poly p) q) ps (ordered_sum (poly p) q m.0 n) m.1

pub total_ordered : (ps : List Poly) → AllOrdered ps → Ordered (sum_of_parts zero_poly ps)
total_ordered ps m = parts_ordered zero_poly ps tt m

pub all_append : (ps : List Poly) (p : Poly) → AllOrdered ps → Ordered (poly p) → AllOrdered (ps ++ p ∷ [])
all_append [] p m n = (n, tt)
all_append (a ∷ ps) p m n = (m.0, all_append ps p m.1 n)

all_but_last : (ps : List Poly) (p : Poly) → AllOrdered (ps ++ p ∷ []) → AllOrdered ps × Ordered (poly p)
all_but_last [] p m = (tt, m.0)
all_but_last (a ∷ ps) p m = let r = all_but_last ps p m.1 in ((m.0, r.0), r.1)

-- a value and the last part
pub last_added : (p : Polynomial) (old new : List Poly) (part : Poly) → old ≡ new ++ part ∷ [] → Ordered p → AllOrdered old
    → sum_poly p (sum_of_parts zero_poly old) ≡ sum_poly (sum_poly p (poly part)) (sum_of_parts zero_poly new)
last_added p old new part e n m =
    let k = all_but_last new part (subst AllOrdered e m) in
    ap (λ ps. sum_poly p (sum_of_parts zero_poly ps)) e ∙ ap (sum_poly p) (parts_append zero_poly new part)
    ∙ sym (ordered_associate p (poly part) (sum_of_parts zero_poly new) n k.1 (total_ordered new k.0))

pub last_ordered : (p : Polynomial) (old new : List Poly) (part : Poly) → old ≡ new ++ part ∷ [] → Ordered p → AllOrdered old
    → Ordered (sum_poly p (poly part)) × AllOrdered new × (length new ≡ length old - 1)
last_ordered p old new part e n m =
    let k = all_but_last new part (subst AllOrdered e m) in
    (ordered_sum p (poly part) n k.1, k.0, (let l = ap length e in let a = length-append new (part ∷ []) in omega (arith, l, a)))

pub last_exceeds : (x : Excess) (p : Polynomial) (old new : List Poly) (part : Poly) → old ≡ new ++ part ∷ [] → Ordered p → AllOrdered old
    → ExceedsAs x (sum_poly p (poly part)) → ExceedsAs x (sum_poly p (sum_of_parts zero_poly old))
last_exceeds x p old new part e n m h =
    let k = all_but_last new part (subst AllOrdered e m) in
    subst (ExceedsAs x) (sym (last_added p old new part e n m))
    (exceeds_left x (sum_poly p (poly part)) (sum_of_parts zero_poly new) (ordered_sum p (poly part) n k.1) (total_ordered new k.0) h)

-- what is left
weight_sum : (p q : Polynomial) → weight (sum_poly p q) ≤ weight p + weight q
weight_sum zero_poly q = omega arith
weight_sum (plus c us p) q = let r = weight_sum p q in let a = light_add c us (sum_poly p q) in omega (arith, r, a)

nesting_sum : (p q : Polynomial) → nesting (sum_poly p q) ≤ max (nesting p) (nesting q)
nesting_sum zero_poly q = omega arith
nesting_sum (plus c us p) q = let r = nesting_sum p q in let a = shallow_add c us (sum_poly p q) in omega (arith, r, a)

weight_append : (ps : List Poly) (p : Poly) → weight_of_parts (ps ++ p ∷ []) ≡ weight_of_parts ps + weight (poly p)
weight_append [] p = omega arith
weight_append (a ∷ ps) p = let r = weight_append ps p in omega (arith, r)

nesting_append : (ps : List Poly) (p : Poly) → nesting_of_parts (ps ++ p ∷ []) ≡ max (nesting_of_parts ps) (nesting (poly p))
nesting_append [] p = omega arith
nesting_append (a ∷ ps) p = let r = nesting_append ps p in omega (arith, r)

pub taken_leaves : (left rest : Option ℕ) (q : Polynomial) (ps : List Poly) → IsTakenFrom left q rest → Leaves left zero_poly ps → Leaves rest q ps
taken_leaves left None q ps t h = tt
taken_leaves None (Some n) q ps t h = absurd t
taken_leaves (Some m) (Some n) q ps t h = (omega (arith, t.0, h.0), t.1, h.2)

pub sum_leaves : (left : Option ℕ) (p : Polynomial) (old new : List Poly) (part : Poly) → old ≡ new ++ part ∷ [] → Leaves left p old → Leaves left (sum_poly p (poly part)) new
sum_leaves None p old new part e h = tt
sum_leaves (Some n) p old new part e h =
    let w = weight_sum p (poly part) in
    let d = nesting_sum p (poly part) in
    let a = ap weight_of_parts e ∙ weight_append new part in
    let b = ap nesting_of_parts e ∙ nesting_append new part in
    (omega (arith, w, a, h.0), omega (arith, d, b, h.1, h.2), omega (arith, b, h.2))

pub last_leaves : (left : Option ℕ) (old new : List Poly) (last : Poly) → old ≡ new ++ last ∷ [] → Leaves left zero_poly old → Leaves left (poly last) new
last_leaves None old new last e h = tt
last_leaves (Some n) old new last e h =
    let a = ap weight_of_parts e ∙ weight_append new last in
    let b = ap nesting_of_parts e ∙ nesting_append new last in
    (omega (arith, a, h.0), omega (arith, b, h.2), omega (arith, b, h.2))

pub pushed_leaves : (left : Option ℕ) (old new : List Poly) (last : Poly) → new ≡ old ++ last ∷ [] → Leaves left (poly last) old → Leaves left zero_poly new
pushed_leaves None old new last e h = tt
pushed_leaves (Some n) old new last e h =
    let a = ap weight_of_parts e ∙ weight_append old last in
    let b = ap nesting_of_parts e ∙ nesting_append old last in
    (omega (arith, a, h.0), omega arith, omega (arith, b, h.1, h.2))

-- of the value alone, and of the parts
pub value_leaves : (left : Option ℕ) (p q : Polynomial) (ps : List Poly) → p ≡ q → Leaves left p ps → Leaves left q []
value_leaves None p q ps e h = tt
value_leaves (Some n) p q ps e h = subst (λ q. Leaves (Some n) q []) e (omega (arith, h.0), h.1, omega arith)

pub parts_leave : (left : Option ℕ) (p : Polynomial) (ps : List Poly) → Leaves left p ps → Leaves left zero_poly ps
parts_leave None p ps h = tt
parts_leave (Some n) p ps h = (omega (arith, h.0), omega arith, h.2)

pub leaves_within : (left : Option ℕ) (n : ℕ) (p : Polynomial) → left ≡ Some n → (Overflows p → ⊥) → Leaves left p [] → Exceeds p → ⊥
leaves_within left n p e o h x = within (subst (λ left. Leaves left p []) e h) x
  where
    within : Leaves (Some n) p [] → Exceeds p → ⊥
    within h (inl f) = o f
    within h (inr (inl l)) = omega (arith, h.0, l)
    within h (inr (inr l)) = omega (arith, h.1, l)

-- a value that is still to be added to the parts, which give the whole with it
pub record Carrying (whole p : Polynomial) (parts : List Poly) : Type 0 where
  pub same : whole ≡ sum_poly p (sum_of_parts zero_poly parts)
  pub value_ordered : Ordered p
  pub parts_ordered : AllOrdered parts

pub carrying_steps : (whole p q : Polynomial) (old new : List Poly) → Carrying whole p old → sum_poly p (sum_of_parts zero_poly old) ≡ sum_poly q (sum_of_parts zero_poly new) → Ordered q → AllOrdered new
    → Carrying whole q new
carrying_steps whole p q old new g e n m = record { same = g.same ∙ e; value_ordered = n; parts_ordered = m }

pub carried_is_pushed : (whole : Polynomial) (value : Poly) (parts new : List Poly) → Carrying whole (poly value) parts → new ≡ parts ++ value ∷ [] → (sum_of_parts zero_poly new ≡ whole) × AllOrdered new
carried_is_pushed whole value parts new g e = (
  ap (sum_of_parts zero_poly) e ∙ parts_append zero_poly parts value ∙ sym g.same,
  subst AllOrdered (sym e) (all_append parts value g.parts_ordered g.value_ordered),
)

sum_zero : (p : Polynomial) → Ordered p → sum_poly p zero_poly ≡ p
sum_zero zero_poly n = refl
sum_zero (plus c us p) n = ap (add_monomial c us) (sum_zero p n.3) ∙ add_front c us p n.2

pub carried_is_whole : (whole p : Polynomial) (parts : List Poly) → Carrying whole p parts → length parts ≤ 0 → p ≡ whole
carried_is_whole whole p [] g l = sym (g.same ∙ sum_zero p g.value_ordered)
carried_is_whole whole p (q ∷ parts) g l = absurd (omega (arith, l))

zero_is_within : (p : Poly) → monomials p ≡ [] → Exceeds (poly p) → ⊥
zero_is_within p e h = no_excess (subst Exceeds (poly_is p ∙ ap sum_of e) h)
  where
    no_excess : Exceeds zero_poly → ⊥
    no_excess (inl o) = o
    no_excess (inr (inl l)) = omega (arith, l)
    no_excess (inr (inr l)) = omega (arith, l)

pub nothing_added : (p : Poly) (parts : List Poly) → monomials p ≡ [] → length parts ≤ 0 → (poly p ≡ sum_of_parts zero_poly parts) × (Exceeds (poly p) → ⊥)
nothing_added p [] e l = (poly_is p ∙ ap sum_of e, zero_is_within p e)
nothing_added p (q ∷ parts) e l = absurd (omega (arith, l))

-- the last part is where the sum begins
pub finishing_starts : (parts rest : List Poly) (last value : Poly) → parts ≡ rest ++ last ∷ [] → AllOrdered parts → poly value ≡ poly last → Carrying (sum_of_parts zero_poly parts) (poly value) rest
finishing_starts parts rest last value e m k =
    let n = all_but_last rest last (subst AllOrdered e m) in
    record {
      same = ap (sum_of_parts zero_poly) e ∙ parts_append zero_poly rest last ∙ ap (λ p. sum_poly p (sum_of_parts zero_poly rest)) (sym k);
      value_ordered = subst Ordered (sym k) n.1;
      parts_ordered = n.0;
    }

pub last_alone_exceeds : (x : Excess) (parts rest : List Poly) (last : Poly) → parts ≡ rest ++ last ∷ [] → AllOrdered parts → ExceedsAs x (poly last) → ExceedsAs x (sum_of_parts zero_poly parts)
last_alone_exceeds x parts rest last e m h =
    let n = all_but_last rest last (subst AllOrdered e m) in
    subst (ExceedsAs x) (sym (ap (sum_of_parts zero_poly) e ∙ parts_append zero_poly rest last))
    (exceeds_left x (poly last) (sum_of_parts zero_poly rest) n.1 (total_ordered rest n.0) h)

pub part_ordered : (old new : List Poly) (part : Poly) → old ≡ new ++ part ∷ [] → AllOrdered old → Ordered (poly part)
part_ordered old new part e m = (all_but_last new part (subst AllOrdered e m)).1

pub last_taken : (left : Option ℕ) (p : Polynomial) (old new : List Poly) (part r : Poly) → old ≡ new ++ part ∷ [] → Ordered p → AllOrdered old → Leaves left p old → poly r ≡ sum_poly p (poly part) → (Exceeds (poly r) → ⊥)
    → (sum_poly p (sum_of_parts zero_poly old) ≡ sum_poly (poly r) (sum_of_parts zero_poly new)) × Ordered (poly r) × (AllOrdered new × Leaves left zero_poly new) × ((Exceeds p → ⊥) → Exceeds (poly r) → ⊥) × (length new ≡ length old - 1)
    × Leaves left (poly r) new
last_taken left p old new part r e n m s h w =
    let k = last_ordered p old new part e n m in
    let l = sum_leaves left p old new part e s in (
      last_added p old new part e n m ∙ ap (λ q. sum_poly q (sum_of_parts zero_poly new)) (sym h),
      subst Ordered (sym h) k.0,
      (k.1, parts_leave left (sum_poly p (poly part)) new l),
      (λ _. w),
      k.2,
      subst (λ q. Leaves left q new) (sym h) l,
    )
