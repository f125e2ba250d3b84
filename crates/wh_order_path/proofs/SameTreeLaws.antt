-- Trees that pass the test are the same.
use Rattle.std.proofs.Common.{◌≡◌, Bool, true, false, ◌&&◌, List, [], ◌∷◌, refl, ap, ap₂, Some, None, eqb-true}
use Rattle.std.specs.Prelude.{◌==◌}
use Rattle.wh_types.specs.Ty.{same_ty}
use Rattle.wh_terms.proofs.TypeTests.{same_ty-equal}
use Rattle.wh_terms.specs.Tree.{Tm, bound, free, fun, meta, lam, app, Tms, none, more}
use Rattle.wh_order_path.specs.SameTrees.{same, all_same, same_list}

pub some_none : {A : Type 0} {a : A} → Some a ≡ None → ⊥
some_none e = cc

pub none_some : {A : Type 0} {a : A} → None ≡ Some a → ⊥
none_some e = cc

pub both : (b c : Bool) → (b && c) ≡ true → (b ≡ true) × (c ≡ true)
both true c e = (refl, e)
both false c e = absurd (cc)

mutual
  pub tree_equal : (t u : Tm) → same t u ≡ true → t ≡ u
  tree_equal (bound i) (bound j) e = ap bound (eqb-true i j e)
  tree_equal (free x a) (free y b) e = let (f, g) = both (x == y) (same_ty a b) e in ap₂ free (eqb-true x y f) (same_ty-equal a b g)
  tree_equal (fun f) (fun g) e = ap fun (eqb-true f g e)
  tree_equal (meta z ts) (meta y us) e = let (f, g) = both (z == y) (all_same ts us) e in ap₂ meta (eqb-true z y f) (trees_equal ts us g)
  tree_equal (lam a t) (lam b u) e = let (f, g) = both (same_ty a b) (same t u) e in ap₂ lam (same_ty-equal a b f) (tree_equal t u g)
  tree_equal (app t u) (app v w) e = let (f, g) = both (same t v) (same u w) e in ap₂ app (tree_equal t v f) (tree_equal u w g)
  tree_equal _ _ e = absurd (cc)

  pub trees_equal : (ts us : Tms) → all_same ts us ≡ true → ts ≡ us
  trees_equal none none e = refl
  trees_equal (more t ts) (more u us) e = let (f, g) = both (same t u) (all_same ts us) e in ap₂ more (tree_equal t u f) (trees_equal ts us g)
  trees_equal _ _ e = absurd (cc)

pub list_equal : (ts us : List Tm) → same_list ts us ≡ true → ts ≡ us
list_equal [] [] e = refl
list_equal (t ∷ ts) (u ∷ us) e = let (f, g) = both (same t u) (same_list ts us) e in ap₂ (λ t ts. t ∷ ts) (tree_equal t u f) (list_equal ts us g)
list_equal [] (u ∷ us) e = absurd (cc)
list_equal (t ∷ ts) [] e = absurd (cc)
