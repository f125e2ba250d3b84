-- What two numbers of an entry are to one another holds of the arguments of the pair that has it.
use Rattle.std.proofs.Common.{ℕ, ◌≡◌, ◌<◌, ◌⊎◌, ◌↔◌, inl, inr, List, length, None, Some, slice_get, sym, ap, ◌∙◌, subst}
use Rattle.std.proofs.lemmas.Option.{none-some, slice_get_within, get_or_from_slice_get}
use Rattle.wh_terms.specs.Tree.{Tm}
use Rattle.wh_pairs.specs.PairData.{PairData}
use Rattle.wh_pairs.proofs.ByPlace.{some_one, unmap, remap}
use Rattle.wh_subterm.specs.ProperParts.{Part}
use Rattle.wh_subterm.specs.Projections.{Chosen, Below}
use Rattle.wh_subterm.specs.Relations.{EqualAt, BelowAt, IsRelation, Relates}
use Rattle.wh_subterm.specs.declared.relation.Relation.{Relation}
use Rattle.wh_subterm.specs.declared.relation.Relation.TheVariants as is
use Rattle.wh_intern.specs.Trees.{tree_at}
use Rattle.wh_intern.specs.declared.sides.Sides.{Sides}
use Rattle.wh_intern_pairs.specs.NumberedSides.{AreNumbersOf, AreSidesOf}
use Rattle.wh_intern_pairs.specs.SidesAsPairs.{as_pair, AreNumbersIn}
use Rattle.wh_intern_pairs.proofs.SameProjections.{trees_of_numbers, numbers_within, same_sides}

-- the numbers of some trees, place by place

tree_there : (ts : List Tm) (ns : List ℕ) (us : List Tm) (i n : ℕ) → AreNumbersOf ts ns us → slice_get ns i ≡ Some n
    → slice_get us i ≡ Some (tree_at ts n)
tree_there ts ns us i n are at =
    subst (λ vs. slice_get vs i ≡ Some (tree_at ts n)) (trees_of_numbers ts ns us are) (remap (tree_at ts) ns i n at)

no_tree_there : (ts : List Tm) (ns : List ℕ) (us : List Tm) (i : ℕ) (u : Tm) → AreNumbersOf ts ns us → slice_get ns i ≡ None
    → slice_get us i ≡ Some u → ⊥
no_tree_there ts ns us i u are none at =
    let (n, there, e) = unmap (tree_at ts) ns i u (subst (λ vs. slice_get vs i ≡ Some u) (sym (trees_of_numbers ts ns us are)) at) in
    none-some n (sym none ∙ there)

pub number_low : (ts : List Tm) (ns : List ℕ) (us : List Tm) (i n : ℕ) → AreNumbersOf ts ns us → slice_get ns i ≡ Some n → n < length ts
number_low ts ns us i n are at =
    subst (λ m. m < length ts) (get_or_from_slice_get ns i n n at) (numbers_within ts ns us are i n (slice_get_within ns i n at))

module _ (ts : List Tm) (s : Sides) (p : PairData) (are : AreSidesOf ts s p) (i j : ℕ) where
  pub no_left : slice_get s.left i ≡ None → Relates p i j is.Neither
  no_left none (inl (t, at, there)) = no_tree_there ts s.left p.left i t are.left none at
  no_left none (inr (t, u, at, there, part)) = no_tree_there ts s.left p.left i t are.left none at

  pub no_right : slice_get s.right j ≡ None → Relates p i j is.Neither
  no_right none (inl (t, at, there)) = no_tree_there ts s.right p.right j t are.right none there
  no_right none (inr (t, u, at, there, part)) = no_tree_there ts s.right p.right j u are.right none there

  pub related : (m n : ℕ) (r : Relation) → slice_get s.left i ≡ Some m → slice_get s.right j ≡ Some n
      → IsRelation (tree_at ts m) (tree_at ts n) r → Relates p i j r
  related m n r at there = go r
    where
      left : slice_get p.left i ≡ Some (tree_at ts m)
      left = tree_there ts s.left p.left i m are.left at

      right : slice_get p.right j ≡ Some (tree_at ts n)
      right = tree_there ts s.right p.right j n are.right there

      either : EqualAt p i j ⊎ BelowAt p i j → (tree_at ts m ≡ tree_at ts n) ⊎ Part (tree_at ts n) (tree_at ts m)
      either (inl (t, here, also)) = inl (some_one left here ∙ sym (some_one right also))
      either (inr (t, u, here, also, part)) =
          inr (subst (λ v. Part v (tree_at ts m)) (sym (some_one right also)) (subst (Part u) (sym (some_one left here)) part))

      go : (r : Relation) → IsRelation (tree_at ts m) (tree_at ts n) r → Relates p i j r
      go is.Equal same = (tree_at ts m, left, right ∙ ap (λ v. Some v) (sym same))
      go is.Below part = (tree_at ts m, tree_at ts n, left, right, part)
      go is.Neither none = λ e. none (either e)

pub numbers_below : (ts : List Tm) (s : Sides) (p : PairData) → AreSidesOf ts s p → AreNumbersIn ts s
numbers_below ts s p are = record {
  left = numbers_within ts s.left p.left are.left;
  right = numbers_within ts s.right p.right are.right;
}

-- a test of the entry is one of the pair
pub below_same : (ts : List Tm) (s : Sides) (p : PairData) (args : List Chosen) (A : Type 0) → AreSidesOf ts s p
    → A ↔ Below args (as_pair ts s) → A ↔ Below args p
below_same ts s p args A are h = subst (λ (q : PairData). A ↔ Below args q) (same_sides ts s p are) h
