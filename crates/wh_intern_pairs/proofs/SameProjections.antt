-- What the tests of a projection find of numbered sides holds of the pairs that have them.
use Rattle.std.proofs.Common.{ℕ, zero, suc, ◌≡◌, ◌<◌, ◌⊎◌, inl, inr, List, [], ◌∷◌, length, map, get_or, All, Contains, Some, slice_get, Result, MatchResult, refl, sym, ap, ap₂, ◌∙◌, subst, arith}
use Rattle.std.proofs.lemmas.Option.{slice_get_within, slice_get-get_or, get_or_from_slice_get}
use Rattle.wh_terms.specs.Tree.{Tm, bound}
use Rattle.wh_terms.specs.Rules.{RewriteRule}
use Rattle.wh_pairs.specs.PairData.{PairData}
use Rattle.wh_pairs.specs.Marked.{HeadsASide, IsMarked}
use Rattle.wh_pairs.proofs.ByPlace.{unmap, remap}
use Rattle.wh_subterm.specs.Projections.{Chosen, Equal, Below}
use Rattle.wh_subterm.specs.declared.projection.Choice as code
use Rattle.wh_subterm.specs.declared.projection.SubtermFault.{SubtermFault}
use Rattle.wh_subterm.specs.SubtermRows.{AreForMarked, IsDecreasing, IsNotDecreasing, IsProjection, IsFirstSubtermFault, chosen}
use Rattle.wh_intern.specs.Trees.{tree_at}
use Rattle.wh_intern.specs.declared.sides.Sides.{Sides}
use Rattle.wh_intern_pairs.specs.NumberedSides.{AreNumbersOf, AreSidesOf, AreSides}
use Rattle.wh_intern_pairs.specs.SidesAsPairs.{heads_of, as_pair, AreNumbersIn}
use Rattle.wh_intern_pairs.proofs.EntryLaws.{there_is}

-- the sides alone
abbrev pub sides_of : ℕ → List Tm → ℕ → List Tm → PairData
sides_of f us g vs = record { rule = 0; metas = []; left_fun = f; left = us; right_fun = g; right = vs; conditions = [] }

abbrev pub sides_only : PairData → PairData
sides_only p = sides_of p.left_fun p.left p.right_fun p.right

-- the trees of numbers

pub trees_of_numbers : (ts : List Tm) (ns : List ℕ) (us : List Tm) → AreNumbersOf ts ns us → map (tree_at ts) ns ≡ us
trees_of_numbers ts [] [] e = refl
trees_of_numbers ts [] (u ∷ us) e = absurd (cc)
trees_of_numbers ts (n ∷ ns) [] e = absurd (cc)
trees_of_numbers ts (n ∷ ns) (u ∷ us) e =
    let here : slice_get ts n ≡ Some u = cc in
    let rest : AreNumbersOf ts ns us = cc in
    ap₂ (λ x xs. x ∷ xs) (get_or_from_slice_get ts n u (bound 0) here) (trees_of_numbers ts ns us rest)

pub numbers_within : (ts : List Tm) (ns : List ℕ) (us : List Tm) → AreNumbersOf ts ns us → All (λ n. n < length ts) ns
numbers_within ts [] us e i d h = absurd (omega (arith, h))
numbers_within ts (n ∷ ns) [] e i d h = absurd (cc)
numbers_within ts (n ∷ ns) (u ∷ us) e zero d h = let here : slice_get ts n ≡ Some u = cc in slice_get_within ts n u here
numbers_within ts (n ∷ ns) (u ∷ us) e (suc i) d h =
    let rest : AreNumbersOf ts ns us = cc in numbers_within ts ns us rest i d (omega (arith, h))

-- the sides of an entry are those of the pair that has it
pub same_sides : (ts : List Tm) (s : Sides) (p : PairData) → AreSidesOf ts s p → as_pair ts s ≡ sides_only p
same_sides ts s p h =
    let left = trees_of_numbers ts s.left p.left h.left in
    let right = trees_of_numbers ts s.right p.right h.right in
    ap₂ (λ f us. sides_of f us s.right_fun (map (tree_at ts) s.right)) h.left_fun left
    ∙ ap₂ (λ g vs. sides_of p.left_fun p.left g vs) h.right_fun right

module _ (ts : List Tm) (sides : List Sides) (ps : List PairData) (are : AreSides ts sides ps) where
  -- the pair of an entry, and the entry of a pair
  pair_of : (n : ℕ) (s : Sides) → slice_get sides n ≡ Some s → (p : PairData) × (slice_get ps n ≡ Some p) × AreSidesOf ts s p
  pair_of n s at =
      let (p, there) = there_is ps n (omega (arith, slice_get_within sides n s at, are.long)) in (p, there, are.each n s p at there)

  entry_of : (n : ℕ) (p : PairData) → slice_get ps n ≡ Some p → (s : Sides) × (slice_get sides n ≡ Some s) × AreSidesOf ts s p
  entry_of n p there =
      let (s, at) = there_is sides n (omega (arith, slice_get_within ps n p there, are.long)) in (s, at, are.each n s p at there)

  pub numbers_in : All (AreNumbersIn ts) sides
  numbers_in i d within =
      let s = get_or sides i d in
      let (p, there, h) = pair_of i s (slice_get-get_or sides i d within) in record {
        left = numbers_within ts s.left p.left h.left;
        right = numbers_within ts s.right p.right h.right;
      }

  -- marked symbols

  headed : (f : ℕ) (s : Sides) (p : PairData) → AreSidesOf ts s p → HeadsASide f (heads_of s) → HeadsASide f p
  headed f s p h (inl left) = inl (left ∙ h.left_fun)
  headed f s p h (inr right) = inr (right ∙ h.right_fun)

  headed_back : (f : ℕ) (s : Sides) (p : PairData) → AreSidesOf ts s p → HeadsASide f p → HeadsASide f (heads_of s)
  headed_back f s p h (inl left) = inl (left ∙ sym h.left_fun)
  headed_back f s p h (inr right) = inr (right ∙ sym h.right_fun)

  marked : (set : List ℕ) (f : ℕ) → IsMarked (map heads_of sides) set f → IsMarked ps set f
  marked set f (n, found, (a, at, heads)) =
      let (s, here, is) = unmap heads_of sides n a at in
      let (p, there, h) = pair_of n s here in
      (n, found, (p, there, headed f s p h (subst (HeadsASide f) (sym is) heads)))

  marked_back : (set : List ℕ) (f : ℕ) → IsMarked ps set f → IsMarked (map heads_of sides) set f
  marked_back set f (n, found, (p, there, heads)) =
      let (s, here, h) = entry_of n p there in
      (n, found, (heads_of s, remap heads_of sides n s here, headed_back f s p h heads))

  pub for_marked : (set : List ℕ) (args : List Chosen) → AreForMarked (map heads_of sides) set args → AreForMarked ps set args
  for_marked set args m = record {
    in_order = m.in_order;
    each = λ f. (λ c. marked set f ((m.each f).0 c), λ is. (m.each f).1 (marked_back set f is));
  }

  pub for_marked_back : (set : List ℕ) (args : List Chosen) → AreForMarked ps set args → AreForMarked (map heads_of sides) set args
  for_marked_back set args m = record {
    in_order = m.in_order;
    each = λ f. (λ c. marked_back set f ((m.each f).0 c), λ is. (m.each f).1 (marked set f is));
  }

  -- projected sides

  view_there : (n : ℕ) (p : PairData) → slice_get ps n ≡ Some p → slice_get (map (as_pair ts) sides) n ≡ Some (sides_only p)
  view_there n p there =
      let (s, here, h) = entry_of n p there in remap (as_pair ts) sides n s here ∙ ap (λ q. Some q) (same_sides ts s p h)

  pub decreasing_same : (args : List Chosen) (drop : List ℕ) (n : ℕ) → IsDecreasing (map (as_pair ts) sides) args drop n → IsDecreasing ps args drop n
  decreasing_same args drop n right p there = right (sides_only p) (view_there n p there)

  pub wrong_same : (args : List Chosen) (drop : List ℕ) (n : ℕ) → IsNotDecreasing (map (as_pair ts) sides) args drop n
      → IsNotDecreasing ps args drop n
  wrong_same args drop n (a, at, wrong) =
      let (s, here, is) = unmap (as_pair ts) sides n a at in
      let (p, there, h) = pair_of n s here in (
        p,
        there,
        subst (λ (q : PairData). ((Equal args q ⊎ Below args q) → ⊥) ⊎ (Contains drop n × (Below args q → ⊥)))
            (sym is ∙ same_sides ts s p h) wrong,
      )

  pub wrong_back : (args : List Chosen) (drop : List ℕ) (n : ℕ) → IsNotDecreasing ps args drop n
      → IsNotDecreasing (map (as_pair ts) sides) args drop n
  wrong_back args drop n (p, there, wrong) = (sides_only p, view_there n p there, wrong)

-- what a check answers, over the same lists under other names
abbrev pub Checked : List RewriteRule → List PairData → List ℕ → List code.Choice → List ℕ → Result (Unit {0}) SubtermFault → Type 0
Checked rules ps set args drop r =
    MatchResult r (λ _. IsProjection rules ps set (map chosen args) drop) (IsFirstSubtermFault rules ps set (map chosen args) drop)

pub checked_same : (rules : List RewriteRule) (ps : List PairData) (ms ns : List ℕ) (cs ds : List code.Choice) (drop : List ℕ)
    (r : Result (Unit {0}) SubtermFault) → ms ≡ ns → cs ≡ ds → Checked rules ps ms cs drop r → Checked rules ps ns ds drop r
checked_same rules ps ms ns cs ds drop r m c checked =
    subst (λ bs. Checked rules ps ns bs drop r) c (subst (λ ks. Checked rules ps ks cs drop r) m checked)
