-- Bounds on the trees of a list, tree by tree.
use Rattle.std.proofs.Common.{◌≡◌, ℕ, zero, suc, ◌+◌, ◌<◌, ◌≤◌, List, [], ◌∷◌, Option, Some, None, length, take, get_or, ap, subst, sym, arith}
use Rattle.wh_terms.specs.Tree.{Tm, meta, Tms, none, more}
use Rattle.wh_terms.specs.Measures.{size, sizes, height, heights, SpinesWithin, AllSpinesWithin}
use Rattle.wh_terms.specs.Budget.{Keeps, AllBelow, AllKeep, Left}
use Rattle.wh_terms.specs.Erase.{tm, tms}
use Rattle.wh_terms.specs.declared.term.Term.{Term}
use Rattle.wh_terms.proofs.TermLemmas.{join, tms_take_next}
use Rattle.wh_terms.proofs.MeasureLemmas.{sizes_next, size_here}

-- heights of the arguments, and of the meta-variable over them

below-heights : (low : ℕ) (ts : Tms) → 0 < low → AllBelow low ts → heights ts < low
below-heights low none some below = omega arith
below-heights low (more t ts) some below = omega (arith, below.0, below-heights low ts some below.1)

below-meta : (low z : ℕ) (ts : Tms) → AllBelow low ts → height (meta z ts) ≤ low
below-meta low z none below = omega arith
below-meta low z (more t ts) below = omega (arith, below.0, below-heights low ts (omega (arith, below.0)) below.1)

heights-below : (low : ℕ) (ts : Tms) → heights ts < low → AllBelow low ts
heights-below low none lower = tt
heights-below low (more t ts) lower = (omega arith, heights-below low ts (omega arith))

meta-below : (low z : ℕ) (ts : Tms) → height (meta z ts) ≤ low → AllBelow low ts
meta-below low z none lower = tt
meta-below low z (more t ts) lower = heights-below low (more t ts) (omega arith)

-- what is left after the arguments is what is left after the meta-variable
pub left_meta : (low room rest z : ℕ) (ts : Tms) → rest + 1 ≡ room → (answer : Option ℕ)
    → Left rest (sizes ts) (AllKeep low rest ts) answer → Left room (size (meta z ts)) (Keeps low room (meta z ts)) answer
left_meta low room rest z ts one None breaks = λ keeps.
    breaks (record { low_enough = meta-below low z ts keeps.low_enough; narrow = keeps.narrow; small = omega (arith, keeps.small) })
left_meta low room rest z ts one (Some left) (keeps, adds) =
    (record { low_enough = below-meta low z ts keeps.low_enough; narrow = keeps.narrow; small = omega (arith, keeps.small) }, omega (arith, adds))

-- one more tree of the list

below-join : (low : ℕ) (ts : Tms) (t : Tm) → AllBelow low ts → height t < low → AllBelow low (join ts (more t none))
below-join low none t below here = (here, tt)
below-join low (more u ts) t below here = (below.0, below-join low ts t below.1 here)

narrow-join : (ts : Tms) (t : Tm) → AllSpinesWithin 32 ts → SpinesWithin 32 t → AllSpinesWithin 32 (join ts (more t none))
narrow-join none t narrow here = (here, tt)
narrow-join (more u ts) t narrow here = (narrow.0, narrow-join ts t narrow.1 here)

pub keep_next : (low room left below rest : ℕ) (xs : List Term) (i : ℕ) (t : Term) → i < length xs → t ≡ get_or xs i t → below + 1 ≡ low
    → AllKeep low room (tms (take i xs)) → left + sizes (tms (take i xs)) ≡ room → Keeps below left (tm t) → rest + size (tm t) ≡ left
    → Left room (sizes (tms (take (i + 1) xs))) (AllKeep low room (tms (take (i + 1) xs))) (Some rest)
keep_next low room left below rest xs i t within e one passed adds here takes =
    let next = tms_take_next xs i t within e in
    let larger = sizes_next xs i t within e in (
      record {
        low_enough = subst (AllBelow low) (sym next) (below-join low (tms (take i xs)) (tm t) passed.low_enough (omega (arith, here.low_enough)));
        narrow = subst (AllSpinesWithin 32) (sym next) (narrow-join (tms (take i xs)) (tm t) passed.narrow here.narrow);
        small = omega (arith, larger);
      },
      omega (arith, larger),
    )

-- a tree of a list that keeps within the bounds

below-at : (low : ℕ) (xs : List Term) (i : ℕ) (t : Term) → i < length xs → t ≡ get_or xs i t → AllBelow low (tms xs) → height (tm t) < low
below-at low [] i t within e below = absurd (omega arith)
below-at low (x ∷ xs) zero t within e below = omega (arith, below.0, ap (λ u. height (tm u)) e)
below-at low (x ∷ xs) (suc i) t within e below = below-at low xs i t (omega arith) e below.1

narrow-at : (xs : List Term) (i : ℕ) (t : Term) → i < length xs → t ≡ get_or xs i t → AllSpinesWithin 32 (tms xs) → SpinesWithin 32 (tm t)
narrow-at [] i t within e narrow = absurd (omega arith)
narrow-at (x ∷ xs) zero t within e narrow = subst (λ u. SpinesWithin 32 (tm u)) (sym e) narrow.0
narrow-at (x ∷ xs) (suc i) t within e narrow = narrow-at xs i t (omega arith) e narrow.1

pub keep_here : (low below room left : ℕ) (xs : List Term) (i : ℕ) (t : Term) → i < length xs → t ≡ get_or xs i t → below + 1 ≡ low
    → left + sizes (tms (take i xs)) ≡ room → AllKeep low room (tms xs) → Keeps below left (tm t)
keep_here low below room left xs i t within e one adds all =
    let lower = below-at low xs i t within e all.low_enough in
    record {
      low_enough = omega (arith, lower);
      narrow = narrow-at xs i t within e all.narrow;
      small = omega (arith, size_here xs i t within e, all.small);
    }
