-- The parts of a tree of a table have numbers too, which are not above its own.
use Rattle.std.proofs.Common.{ℕ, zero, ◌≡◌, ◌<◌, ◌≤◌, inl, inr, List, [], ◌∷◌, length, get_or, Contains, Some, slice_get, refl, sym, ◌∙◌, subst, arith}
use Rattle.std.proofs.lemmas.List.Elements.{Contains-append_right}
use Rattle.std.proofs.lemmas.Option.{slice_get-get_or}
use Rattle.wh_terms.specs.Tree.{Tm, Tms, none, more}
use Rattle.wh_terms.specs.Tree as tree
use Rattle.wh_intern.specs.Parts.{PartTree, bound, lam, app, meta}
use Rattle.wh_intern.specs.Trees.{tree_at, trees_at, tree_of, numbers, grown, AreFounded, IsPart, IsPartOfSome}
use Rattle.wh_intern.proofs.TreeLaws.{node_tree, meta_node, lam_node, app_node}

module _ (ps : List PartTree) (f : AreFounded ps) where
  -- the tree has a number that is not above m
  abbrev pub HasNumber : ℕ → Tm → Type 0
  HasNumber m s = (k : ℕ) × (k ≤ m) × (tree_at (grown [] ps) k ≡ s)

  above : (n m : ℕ) (s : Tm) → n < m → HasNumber n s → HasNumber m s
  above n m s less x = (x.0, omega (arith, x.1, less), x.2)

  here : (m : ℕ) → m < length ps → slice_get ps m ≡ Some (get_or ps m (bound 0))
  here m h = slice_get-get_or ps m (bound 0) h

  tree_here : (m : ℕ) (u : Tm) → m < length ps → tree_at (grown [] ps) m ≡ u → tree_of (grown [] ps) (get_or ps m (bound 0)) ≡ u
  tree_here m u h e = sym (node_tree ps f m (get_or ps m (bound 0)) (here m h)) ∙ e

  part_below : (m : ℕ) (p : PartTree) → m < length ps → get_or ps m (bound 0) ≡ p → (n : ℕ) → Contains (numbers p) n → n < m
  part_below m p h e n c = f m (get_or ps m (bound 0)) (here m h) n (subst (λ q. Contains (numbers q) n) (sym e) c)

  mutual
    pub part_number : (u : Tm) (m : ℕ) (s : Tm) → m < length ps → tree_at (grown [] ps) m ≡ u → IsPart s u → HasNumber m s
    part_number (tree.bound i) m s h e is = (m, omega arith, e ∙ sym is)
    part_number (tree.free x a) m s h e is = (m, omega arith, e ∙ sym is)
    part_number (tree.fun g) m s h e is = (m, omega arith, e ∙ sym is)
    part_number (tree.meta z us) m s h e (inl is) = (m, omega arith, e ∙ sym is)
    part_number (tree.meta z us) m s h e (inr is) =
        let x = meta_node _ _ z us (tree_here m _ h e) in
        part_numbers us x.0 m s h (part_below m (meta z x.0) h x.1) x.2 is
    part_number (tree.lam a u) m s h e (inl is) = (m, omega arith, e ∙ sym is)
    part_number (tree.lam a u) m s h e (inr is) =
        let x = lam_node _ _ a u (tree_here m _ h e) in
        let low = part_below m (lam a x.0) h x.1 x.0 (zero, omega arith, refl) in
        above x.0 m s low (part_number u x.0 s (omega (arith, low, h)) x.2 is)
    part_number (tree.app u v) m s h e (inl is) = (m, omega arith, e ∙ sym is)
    part_number (tree.app u v) m s h e (inr (inl is)) =
        let x = app_node _ _ u v (tree_here m _ h e) in
        let low = part_below m (app x.0 x.1) h x.2 x.0 (zero, omega arith, refl) in
        above x.0 m s low (part_number u x.0 s (omega (arith, low, h)) x.3 is)
    part_number (tree.app u v) m s h e (inr (inr is)) =
        let x = app_node _ _ u v (tree_here m _ h e) in
        let low = part_below m (app x.0 x.1) h x.2 x.1 (1, omega arith, refl) in
        above x.1 m s low (part_number v x.1 s (omega (arith, low, h)) x.4 is)

    part_numbers : (us : Tms) (ns : List ℕ) (m : ℕ) (s : Tm) → m < length ps → ((n : ℕ) → Contains ns n → n < m)
        → trees_at (grown [] ps) ns ≡ us → IsPartOfSome s us → HasNumber m s
    part_numbers none ns m s h b e is = absurd is
    part_numbers (more u us) [] m s h b e is = absurd (cc)
    part_numbers (more u us) (n ∷ ns) m s h b e (inl is) =
        let here : tree_at (grown [] ps) n ≡ u = cc in
        let low = b n (zero, omega arith, refl) in
        above n m s low (part_number u n s (omega (arith, low, h)) here is)
    part_numbers (more u us) (n ∷ ns) m s h b e (inr is) =
        let there : trees_at (grown [] ps) ns ≡ us = cc in
        part_numbers us ns m s h (λ l d. b l (Contains-append_right (n ∷ []) ns l d)) there is
