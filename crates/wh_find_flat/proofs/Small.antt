-- A number of a plain tree fits two bits for each occurrence.
use Rattle.std.proofs.Common.{◌≡◌, ℕ, zero, suc, ◌+◌, ◌*◌, ◌^◌, ◌<◌, ◌≤◌, ◌==◌, if◌then◌else◌, Bool, true, false, List, ap, sym, subst, ◌∙◌, arith}
use Rattle.std.proofs.lemmas.Nat.{pow-add}
use Rattle.wh_terms.specs.Tree.{Tm, bound, free, fun, meta, lam, app, none, more}
use Rattle.wh_poly_flat.specs.Flat.{occurrences}
use Rattle.wh_poly_flat.specs.Worth.{coefficient, worth, symbol_in, places_in}
use Rattle.wh_poly_flat.proofs.Tails.{coefficient_small}
use Rattle.wh_poly_flat.proofs.Valued.{power_at_least, product_bound}
use Rattle.wh_find_flat.specs.Plain.{IsPlain}
use Rattle.wh_find_flat.specs.Parts.{number_at, one_of, weights_of}
use Rattle.wh_find_flat.specs.declared.part.Part.{Part}
use Rattle.wh_find_flat.specs.declared.part.Part.TheVariants.{Constant, Factor}

pub occurs_some : (t : Tm) → IsPlain t → 1 ≤ occurrences t
occurs_some (fun f) p = omega arith
occurs_some (meta z none) p = omega arith
occurs_some (meta z (more t ts)) p = absurd p
occurs_some (app t u) p = let e = occurs_some t p.0 in omega (arith, e)
occurs_some (bound i) p = absurd p
occurs_some (free x a) p = absurd p
occurs_some (lam a t) p = absurd p

times_small : (c k : ℕ) → c ≤ 3 → k ≤ 1 → c * k ≤ 3
times_small c zero h l = omega arith
times_small c (suc zero) h l = omega (arith, h)
times_small c (suc (suc k)) h l = absurd (omega (arith, l))

worth_small : (lists : List (List ℕ)) (first : ℕ) (at : ℕ → ℕ) (t : Tm) → first ≤ 1 → ((x : ℕ) → at x ≤ 1) → IsPlain t
    → worth lists first at t + 1 ≤ 2 ^ (2 * occurrences t)
worth_small lists first at (fun f) h k p =
    let c = times_small (coefficient lists f 0) first (coefficient_small lists f 0) h in let b = power_at_least 1 (omega arith) in omega (arith, c, b)
worth_small lists first at (meta z none) h k p = let b = power_at_least 1 (omega arith) in let c = k z in omega (arith, b, c)
worth_small lists first at (meta z (more t ts)) h k p = absurd p
worth_small lists first at (app t u) h k p =
    let e : 2 * (occurrences t + occurrences u) ≡ 2 * occurrences t + 2 * occurrences u = omega arith in
    let q : 2 ^ (2 * (occurrences t + occurrences u)) ≡ 2 ^ (2 * occurrences t) * 2 ^ (2 * occurrences u) =
    ap (λ k. 2 ^ k) e ∙ pow-add 2 (2 * occurrences t) (2 * occurrences u) in
    subst (λ k. worth lists first at (app t u) + 1 ≤ k) (sym q)
    (product_bound (2 ^ (2 * occurrences t)) (2 ^ (2 * occurrences u)) (worth lists first at t) (worth lists first at u)
    (coefficient lists (symbol_in t) (suc (places_in t)))
    (power_at_least (occurrences t) (occurs_some t p.0)) (power_at_least (occurrences u) (occurs_some u p.1))
    (worth_small lists first at t h k p.0) (worth_small lists first at u h k p.1) (coefficient_small lists (symbol_in t) (suc (places_in t))))
worth_small lists first at (bound i) h k p = absurd p
worth_small lists first at (free x a) h k p = absurd p
worth_small lists first at (lam a t) h k p = absurd p

one_small : (part : Part) → one_of part ≤ 1
one_small Constant = omega arith
one_small (Factor z) = omega arith

weights_small : (part : Part) (x : ℕ) → weights_of part x ≤ 1
weights_small Constant x = omega arith
weights_small (Factor z) x = go (x == z)
  where
    go : (b : Bool) → (if b then 1 else 0) ≤ 1
    go true = omega arith
    go false = omega arith

-- arguments are fewer than what occurs
pub places_few : (t : Tm) → IsPlain t → places_in t < occurrences t
places_few (fun f) p = omega arith
places_few (meta z none) p = omega arith
places_few (meta z (more t ts)) p = absurd p
places_few (app t u) p = let e = places_few t p.0 in let f = occurs_some u p.1 in omega (arith, e, f)
places_few (bound i) p = absurd p
places_few (free x a) p = absurd p
places_few (lam a t) p = absurd p

pub number_small : (part : Part) (lists : List (List ℕ)) (t : Tm) → IsPlain t → number_at part lists t < 2 ^ (2 * occurrences t)
number_small part lists t p = let e = worth_small lists (one_of part) (weights_of part) t (one_small part) (weights_small part) p in omega (arith, e)
