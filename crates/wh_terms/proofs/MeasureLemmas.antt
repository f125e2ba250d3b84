-- Heights and sizes of argument lists, and of what stands in them.
use Rattle.std.proofs.Common.{◌≡◌, ℕ, zero, suc, ◌+◌, ◌<◌, ◌≤◌, max, List, [], ◌∷◌, length, take, get_or, refl, ap, ◌∙◌, arith}
use Rattle.wh_terms.specs.Tree.{Tm, bound, free, fun, meta, lam, app, Tms, none, more}
use Rattle.wh_terms.specs.Measures.{size, sizes, height, heights, risen, nesting, nestings}
use Rattle.wh_terms.specs.Erase.{tm, tms}
use Rattle.wh_terms.specs.declared.term.Term.{Term}
use Rattle.wh_terms.proofs.TermLemmas.{join, tms_take_next}

-- no tree is higher than it is nested

risen-le : (t : Tm) (n : ℕ) → risen t n ≤ 1 + n
risen-le (app t u) n = omega arith
risen-le (bound i) n = omega arith
risen-le (free x a) n = omega arith
risen-le (fun f) n = omega arith
risen-le (meta z ts) n = omega arith
risen-le (lam a t) n = omega arith

mutual
  pub height_le : (t : Tm) → height t ≤ nesting t
  height_le (bound i) = omega arith
  height_le (free x a) = omega arith
  height_le (fun f) = omega arith
  height_le (meta z none) = omega arith
  height_le (meta z (more t ts)) = omega (arith, height_le t, heights_le ts)
  height_le (lam a t) = omega (arith, height_le t)
  height_le (app t u) = omega (arith, height_le t, height_le u, risen-le t (height t))

  pub heights_le : (ts : Tms) → heights ts ≤ nestings ts
  heights_le none = omega arith
  heights_le (more t ts) = omega (arith, height_le t, heights_le ts)

-- the next argument

heights-join : (ts us : Tms) → heights (join ts us) ≡ max (heights ts) (heights us)
heights-join none us = omega arith
heights-join (more t ts) us = omega (arith, heights-join ts us)

pub heights_next : (xs : List Term) (i : ℕ) (t : Term) → i < length xs → t ≡ get_or xs i t
    → heights (tms (take (i + 1) xs)) ≡ max (heights (tms (take i xs))) (height (tm t))
heights_next xs i t within e =
    let next = ap heights (tms_take_next xs i t within e) ∙ heights-join (tms (take i xs)) (more (tm t) none) in
    omega (arith, next)

sizes-join : (ts us : Tms) → sizes (join ts us) ≡ sizes ts + sizes us
sizes-join none us = omega arith
sizes-join (more t ts) us = omega (arith, sizes-join ts us)

pub sizes_next : (xs : List Term) (i : ℕ) (t : Term) → i < length xs → t ≡ get_or xs i t
    → sizes (tms (take (i + 1) xs)) ≡ sizes (tms (take i xs)) + size (tm t)
sizes_next xs i t within e =
    let next = ap sizes (tms_take_next xs i t within e) ∙ sizes-join (tms (take i xs)) (more (tm t) none) in
    omega (arith, next)

-- a front part of a list of trees is no larger than the list
pub sizes_take : (xs : List Term) (n : ℕ) → sizes (tms (take n xs)) ≤ sizes (tms xs)
sizes_take [] zero = omega arith
sizes_take [] (suc n) = omega arith
sizes_take (x ∷ xs) zero = omega arith
sizes_take (x ∷ xs) (suc n) = omega (arith, sizes_take xs n)

-- a tree and those before it are together no larger than the list
pub size_here : (xs : List Term) (i : ℕ) (t : Term) → i < length xs → t ≡ get_or xs i t
    → sizes (tms (take i xs)) + size (tm t) ≤ sizes (tms xs)
size_here xs i t within e = omega (arith, sizes_next xs i t within e, sizes_take xs (i + 1))

-- the height of a meta-variable with arguments

height-of_count : (z : ℕ) (xs : List Term) → 0 < length xs → height (meta z (tms xs)) ≡ 1 + heights (tms xs)
height-of_count z [] some = absurd (omega arith)
height-of_count z (x ∷ xs) some = refl

pub height_of_some : (t : Term) (z : ℕ) (ts : List Term) → tm t ≡ meta z (tms ts) → 0 < length ts → height (tm t) ≡ 1 + heights (tms ts)
height_of_some t z ts e some = ap height e ∙ height-of_count z ts some

height-of_no : (z : ℕ) (xs : List Term) → length xs ≡ 0 → height (meta z (tms xs)) ≡ 0
height-of_no z [] no_item = refl
height-of_no z (x ∷ xs) no_item = absurd (omega arith)

pub height_of_none : (t : Term) (z : ℕ) (ts : List Term) → tm t ≡ meta z (tms ts) → length ts ≡ 0 → height (tm t) ≡ 0
height_of_none t z ts e no_item = ap height e ∙ height-of_no z ts no_item
