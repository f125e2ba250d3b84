-- The arguments of a numbered application.
use Rattle.std.proofs.Common.{ℕ, ◌≡◌, ◌<◌, ◌≤◌, ◌⊎◌, inl, inr, List, refl, sym, ap, ◌∙◌, subst, arith}
use Rattle.wh_terms.specs.Tree.{Tm}
use Rattle.wh_terms.specs.Tree as tree
use Rattle.wh_terms.specs.Measures.{size}
use Rattle.wh_subterm.specs.ProperParts.{Argument, last, front, Part, argument, deeper, SomeArgumentHas}
use Rattle.wh_subterm.proofs.PartLemmas.{last_has, front_has, has_cases}
use Rattle.wh_intern.specs.Parts.{PartTree, app}
use Rattle.wh_intern.specs.Trees.{IsPart, tree_at, tree_of}

module _ (ts : List Tm) (k : ℕ) (p : PartTree) (says : tree_at ts k ≡ tree_of ts p) (m n : ℕ) (is : p ≡ app m n) where
  pub app_there : tree_at ts k ≡ tree.app (tree_at ts m) (tree_at ts n)
  app_there = says ∙ ap (tree_of ts) is

  pub app_has : (u : Tm) → ((tree_at ts n ≡ u) ⊎ Part u (tree_at ts n)) ⊎ SomeArgumentHas u (tree_at ts m) → SomeArgumentHas u (tree_at ts k)
  app_has u h = subst (SomeArgumentHas u) (sym app_there) (go h)
    where
      go : ((tree_at ts n ≡ u) ⊎ Part u (tree_at ts n)) ⊎ SomeArgumentHas u (tree_at ts m)
          → SomeArgumentHas u (tree.app (tree_at ts m) (tree_at ts n))
      go (inl here) = last_has u (tree_at ts m) (tree_at ts n) here
      go (inr there) = front_has u (tree_at ts m) (tree_at ts n) there

  pub app_cases : (u : Tm) → SomeArgumentHas u (tree_at ts k) → ((tree_at ts n ≡ u) ⊎ Part u (tree_at ts n)) ⊎ SomeArgumentHas u (tree_at ts m)
  app_cases u h = has_cases u (tree_at ts m) (tree_at ts n) (subst (SomeArgumentHas u) app_there h)

-- proper parts are parts, and smaller

part_itself : (t : Tm) → IsPart t t
part_itself (tree.bound i) = refl
part_itself (tree.free x a) = refl
part_itself (tree.fun f) = refl
part_itself (tree.meta z ts) = inl refl
part_itself (tree.lam a u) = inl refl
part_itself (tree.app u v) = inl refl

in_argument : (u v t : Tm) → Argument v t → IsPart u v → IsPart u t
in_argument u v t last is = inr (inr is)
in_argument u v t (front {t = s} at) is = inr (inl (in_argument u v s at is))

pub proper_is_part : (u t : Tm) → Part u t → IsPart u t
proper_is_part u t (argument headed at) = in_argument u u t at (part_itself u)
proper_is_part u t (deeper {v = v} headed at part) = in_argument u v t at (proper_is_part u v part)

argument_smaller : (u t : Tm) → Argument u t → size u < size t
argument_smaller u t last = omega arith
argument_smaller u t (front {t = s} at) = omega (arith, argument_smaller u s at)

part_smaller : (u t : Tm) → Part u t → size u < size t
part_smaller u t (argument headed at) = argument_smaller u t at
part_smaller u t (deeper {v = v} headed at part) = omega (arith, argument_smaller v t at, part_smaller u v part)

pub not_of_itself : (u t : Tm) → u ≡ t → Part u t → ⊥
not_of_itself u t is part = omega (arith, ap size is, part_smaller u t part)

-- the number of a proper part is below
pub part_below : (ts : List Tm) (m k : ℕ) → (IsPart (tree_at ts k) (tree_at ts m) → k ≤ m) → Part (tree_at ts k) (tree_at ts m) → k < m
part_below ts m k low part =
    let le = low (proper_is_part (tree_at ts k) (tree_at ts m) part) in
    let apart : k ≡ m → ⊥ = λ e. not_of_itself (tree_at ts k) (tree_at ts m) (ap (tree_at ts) e) part in
    grind (arith, le, apart)
