-- No tree has two numbers.
use Rattle.std.proofs.Common.{ℕ, zero, suc, ◌≡◌, ◌<◌, ◌⊎◌, inl, inr, true, false, List, [], ◌∷◌, length, map, get_or, Contains, Some, slice_get, option_map, refl, sym, ap, ap₂, ◌∙◌, subst, arith}
use Rattle.std.specs.List.{IsDistinct}
use Rattle.std.proofs.lemmas.List.{length-map}
use Rattle.std.proofs.lemmas.List.Elements.{Contains-append_right}
use Rattle.std.proofs.lemmas.Map.Keys.{apart_from_distinct}
use Rattle.std.proofs.lemmas.Option.{same_Some, slice_get-map, slice_get-get_or, slice_get_within}
use Rattle.wh_terms.specs.Tree.{Tm, Tms, none, more}
use Rattle.wh_terms.specs.Tree as t
use Rattle.wh_intern.specs.declared.part.Part.{Part}
use Rattle.wh_intern.specs.declared.part.Part.TheVariants.{Fun}
use Rattle.wh_intern.specs.Parts.{PartTree, bound, free, fun, meta, lam, app, part_tree, same_part_tree, same_part}
use Rattle.wh_intern.specs.PartLaws.{part_tree_self}
use Rattle.wh_intern.specs.Trees.{tree_at, trees_at, tree_of, numbers, grown, AreFounded}
use Rattle.wh_intern.proofs.TreeLaws.{AreApart, node_tree, bound_node, free_node, fun_node, meta_node, lam_node, app_node}

three_ways : (i j : ℕ) → (i < j) ⊎ ((i ≡ j) ⊎ (j < i))
three_ways zero zero = inr (inl refl)
three_ways zero (suc j) = inl (omega arith)
three_ways (suc i) zero = inr (inr (omega arith))
three_ways (suc i) (suc j) = go (three_ways i j)
  where
    go : (i < j) ⊎ ((i ≡ j) ⊎ (j < i)) → (suc i < suc j) ⊎ ((suc i ≡ suc j) ⊎ (suc j < suc i))
    go (inl h) = inl (omega (arith, h))
    go (inr (inl h)) = inr (inl (ap suc h))
    go (inr (inr h)) = inr (inr (omega (arith, h)))

-- the node at a number is that of the part
at_part : (ks : List Part) (i : ℕ) (p : PartTree) → slice_get (map part_tree ks) i ≡ Some p → part_tree (get_or ks i (Fun 0)) ≡ p
at_part ks i p e =
    let within : i < length ks = omega (arith, slice_get_within (map part_tree ks) i p e, length-map ks part_tree) in
    same_Some (part_tree (get_or ks i (Fun 0))) p (sym (slice_get-map part_tree ks i ∙ ap (option_map part_tree) (slice_get-get_or ks i (Fun 0) within)) ∙ e)

clash : (ks : List Part) → IsDistinct same_part ks → (i j : ℕ) (p : PartTree) → slice_get (map part_tree ks) i ≡ Some p
    → slice_get (map part_tree ks) j ≡ Some p → i < j → ⊥
clash ks d i j p e g h =
    let within : j < length ks = omega (arith, slice_get_within (map part_tree ks) j p g, length-map ks part_tree) in
    let yes : same_part (get_or ks i (Fun 0)) (get_or ks j (Fun 0)) ≡ true =
    ap₂ same_part_tree (at_part ks i p e) (at_part ks j p g) ∙ part_tree_self p in
    let no : same_part (get_or ks i (Fun 0)) (get_or ks j (Fun 0)) ≡ false = apart_from_distinct same_part ks i j (Fun 0) d h within in
    absurd (cc)

pub parts_apart : (ks : List Part) → IsDistinct same_part ks → AreApart (map part_tree ks)
parts_apart ks d i j p e g = go (three_ways i j)
  where
    go : (i < j) ⊎ ((i ≡ j) ⊎ (j < i)) → i ≡ j
    go (inl h) = absurd (clash ks d i j p e g h)
    go (inr (inl h)) = h
    go (inr (inr h)) = absurd (clash ks d j i p g e h)

module _ (ps : List PartTree) (f : AreFounded ps) (a : AreApart ps) where
  here : (m : ℕ) → m < length ps → slice_get ps m ≡ Some (get_or ps m (bound 0))
  here m h = slice_get-get_or ps m (bound 0) h

  tree_here : (m : ℕ) (u : Tm) → m < length ps → tree_at (grown [] ps) m ≡ u → tree_of (grown [] ps) (get_or ps m (bound 0)) ≡ u
  tree_here m u h e = sym (node_tree ps f m (get_or ps m (bound 0)) (here m h)) ∙ e

  part_below : (m : ℕ) (p : PartTree) → m < length ps → get_or ps m (bound 0) ≡ p → (n : ℕ) → Contains (numbers p) n → n < length ps
  part_below m p h e n c =
      omega (arith, h, f m (get_or ps m (bound 0)) (here m h) n (subst (λ q. Contains (numbers q) n) (sym e) c))

  one_place : (m n : ℕ) (p : PartTree) → m < length ps → n < length ps → get_or ps m (bound 0) ≡ p → get_or ps n (bound 0) ≡ p → m ≡ n
  one_place m n p h k e g = a m n p (here m h ∙ ap Some e) (here n k ∙ ap Some g)

  mutual
    pub one_number : (u : Tm) (m n : ℕ) → m < length ps → n < length ps → tree_at (grown [] ps) m ≡ u → tree_at (grown [] ps) n ≡ u → m ≡ n
    one_number (t.bound i) m n h k e g =
        one_place m n (bound i) h k (bound_node _ _ i (tree_here m _ h e)) (bound_node _ _ i (tree_here n _ k g))
    one_number (t.free x b) m n h k e g =
        one_place m n (free x b) h k (free_node _ _ x b (tree_here m _ h e)) (free_node _ _ x b (tree_here n _ k g))
    one_number (t.fun s) m n h k e g =
        one_place m n (fun s) h k (fun_node _ _ s (tree_here m _ h e)) (fun_node _ _ s (tree_here n _ k g))
    one_number (t.meta z us) m n h k e g =
        let x = meta_node _ _ z us (tree_here m _ h e) in
        let y = meta_node _ _ z us (tree_here n _ k g) in
        let same = one_list us x.0 y.0 (part_below m (meta z x.0) h x.1) (part_below n (meta z y.0) k y.1) x.2 y.2 in
        one_place m n (meta z x.0) h k x.1 (y.1 ∙ ap (meta z) (sym same))
    one_number (t.lam b u) m n h k e g =
        let x = lam_node _ _ b u (tree_here m _ h e) in
        let y = lam_node _ _ b u (tree_here n _ k g) in
        let same = one_number u x.0 y.0 (part_below m (lam b x.0) h x.1 x.0 (zero, omega arith, refl))
        (part_below n (lam b y.0) k y.1 y.0 (zero, omega arith, refl)) x.2 y.2 in
        one_place m n (lam b x.0) h k x.1 (y.1 ∙ ap (lam b) (sym same))
    one_number (t.app u v) m n h k e g =
        let x = app_node _ _ u v (tree_here m _ h e) in
        let y = app_node _ _ u v (tree_here n _ k g) in
        let left = one_number u x.0 y.0 (part_below m (app x.0 x.1) h x.2 x.0 (zero, omega arith, refl))
        (part_below n (app y.0 y.1) k y.2 y.0 (zero, omega arith, refl)) x.3 y.3 in
        let right = one_number v x.1 y.1 (part_below m (app x.0 x.1) h x.2 x.1 (1, omega arith, refl))
        (part_below n (app y.0 y.1) k y.2 y.1 (1, omega arith, refl)) x.4 y.4 in
        one_place m n (app x.0 x.1) h k x.2 (y.2 ∙ ap₂ app (sym left) (sym right))

    one_list : (us : Tms) (ms ns : List ℕ) → ((n : ℕ) → Contains ms n → n < length ps) → ((n : ℕ) → Contains ns n → n < length ps)
        → trees_at (grown [] ps) ms ≡ us → trees_at (grown [] ps) ns ≡ us → ms ≡ ns
    one_list none [] [] b c e g = refl
    one_list none [] (n ∷ ns) b c e g = absurd (cc)
    one_list none (m ∷ ms) ns b c e g = absurd (cc)
    one_list (more u us) [] ns b c e g = absurd (cc)
    one_list (more u us) (m ∷ ms) [] b c e g = absurd (cc)
    one_list (more u us) (m ∷ ms) (n ∷ ns) b c e g =
        let e1 : tree_at (grown [] ps) m ≡ u = cc in
        let e2 : trees_at (grown [] ps) ms ≡ us = cc in
        let g1 : tree_at (grown [] ps) n ≡ u = cc in
        let g2 : trees_at (grown [] ps) ns ≡ us = cc in
        ap₂ (λ (x : ℕ) (xs : List ℕ). x ∷ xs) (one_number u m n (b m (zero, omega arith, refl)) (c n (zero, omega arith, refl)) e1 g1)
        (one_list us ms ns (λ l d. b l (Contains-append_right (m ∷ []) ms l d)) (λ l d. c l (Contains-append_right (n ∷ []) ns l d)) e2 g2)
