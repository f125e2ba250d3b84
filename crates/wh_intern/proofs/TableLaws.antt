-- What joins a table.
use Rattle.std.proofs.Common.{ℕ, zero, suc, ◌≡◌, ◌-◌, ◌<◌, ◌^◌, ◌⊎◌, inl, inr, Bool, true, false, List, [], ◌∷◌, ◌++◌, length, map, get_or, Contains, option_map, Some, if◌then◌else◌, Result, Ok, Err, OnOk, OnErr, rules, slice_get, refl, sym, ap, ◌∙◌, subst, arith}
use Rattle.std.specs.List.{list_any}
use Rattle.indexmap.specs.IndexSet.{insert_key}
use Rattle.std.proofs.lemmas.List.{length-append, length-map, get_or_append_left}
use Rattle.std.proofs.lemmas.Option.{same_Some, slice_get-map, slice_get-get_or, slice_get_within}
use Rattle.wh_terms.specs.Tree.{Tm}
use Rattle.wh_terms.specs.Tree as t
use Rattle.wh_intern.specs.declared.part.Part.{Part}
use Rattle.wh_intern.specs.Parts.{PartTree, part_tree, same_part}
use Rattle.wh_intern.specs.PartLaws.{part_tree_equal}
use Rattle.wh_intern.specs.Trees.{tree_at, tree_of, numbers, Below, grown, AreFounded, Adds}
use Rattle.wh_intern.proofs.TreeLaws.{grown_append, grown_length, node_tree, tree_of_same}

map_append : {A B : Type 0} (f : A → B) (xs ys : List A) → map f (xs ++ ys) ≡ map f xs ++ map f ys
map_append f [] ys = refl
map_append f (x ∷ xs) ys = ap (λ zs. f x ∷ zs) (map_append f xs ys)

-- the trees of parts
abbrev pub trees_of : List Part → List Tm
trees_of ks = grown [] (map part_tree ks)

pub trees_length : (ks : List Part) → length (trees_of ks) ≡ length ks
trees_length ks = omega (arith, grown_length [] (map part_tree ks), length-map ks part_tree)

-- a list of parts with one more behind it
trees_push : (ks : List Part) (p : Part) → trees_of (ks ++ p ∷ []) ≡ trees_of ks ++ tree_of (trees_of ks) (part_tree p) ∷ []
trees_push ks p = ap (grown []) (map_append part_tree ks (p ∷ [])) ∙ grown_append [] (map part_tree ks) (part_tree p ∷ [])

push_cases : (ps : List PartTree) (q : PartTree) (k : ℕ) (p : PartTree) → slice_get (ps ++ q ∷ []) k ≡ Some p
    → (slice_get ps k ≡ Some p) ⊎ ((k ≡ length ps) × (q ≡ p))
push_cases [] q zero p e = inr (refl, same_Some q p e)
push_cases [] q (suc k) p e = absurd (cc)
push_cases (r ∷ ps) q zero p e = inl e
push_cases (r ∷ ps) q (suc k) p e = go (push_cases ps q k p e)
  where
    go : (slice_get ps k ≡ Some p) ⊎ ((k ≡ length ps) × (q ≡ p)) → (slice_get ps k ≡ Some p) ⊎ ((suc k ≡ suc (length ps)) × (q ≡ p))
    go (inl h) = inl h
    go (inr h) = inr (ap suc h.0, h.1)

founded_push : (ps : List PartTree) (q : PartTree) → AreFounded ps → Below (length ps) q → AreFounded (ps ++ q ∷ [])
founded_push ps q f b k p e n c = go (push_cases ps q k p e)
  where
    go : (slice_get ps k ≡ Some p) ⊎ ((k ≡ length ps) × (q ≡ p)) → n < k
    go (inl h) = f k p h n c
    go (inr h) = omega (arith, b n (subst (λ r. Contains (numbers r) n) (sym h.1) c), h.0)

-- after a part was put
pub put_founded : (ks : List Part) (p : Part) → AreFounded (map part_tree ks) → Below (length (trees_of ks)) (part_tree p)
    → AreFounded (map part_tree (insert_key same_part ks p))
put_founded ks p f b = go (list_any (same_part p) ks)
  where
    low : Below (length (map part_tree ks)) (part_tree p)
    low n c = omega (arith, b n c, trees_length ks, length-map ks part_tree)

    go : (r : Bool) → AreFounded (map part_tree (if r then ks else ks ++ p ∷ []))
    go true = f
    go false = subst AreFounded (sym (map_append part_tree ks (p ∷ []))) (founded_push (map part_tree ks) (part_tree p) f low)

pub put_adds : (ks : List Part) (p : Part) → Adds (trees_of ks) (trees_of (insert_key same_part ks p)) (λ s. s ≡ tree_of (trees_of ks) (part_tree p)) 1
put_adds ks p = go (list_any (same_part p) ks)
  where
    go : (r : Bool) → Adds (trees_of ks) (trees_of (if r then ks else ks ++ p ∷ [])) (λ s. s ≡ tree_of (trees_of ks) (part_tree p)) 1
    go true = record { parts = []; behind = search rules; all = λ k d h. absurd (omega (arith, h)); few = omega arith }
    go false = record {
      parts = tree_of (trees_of ks) (part_tree p) ∷ [];
      behind = trees_push ks p;
      all = λ k d h. (let first : k ≡ 0 = omega (arith, h) in subst (λ j. get_or (tree_of (trees_of ks) (part_tree p) ∷ []) j d ≡ tree_of (trees_of ks) (part_tree p)) (sym first) refl);
      few = omega arith;
    }

module _ {A E : Type 0} (ks new : List Part) (p : Part) where
  cases_of_put : (r : Result A E) → OnOk r (new ≡ insert_key same_part ks p) → OnErr r (new ≡ ks)
      → (new ≡ ks) ⊎ (new ≡ insert_key same_part ks p)
  cases_of_put (Ok x) h k = inr h
  cases_of_put (Err x) h k = inl k

  pub put_founded_new : (r : Result A E) → OnOk r (new ≡ insert_key same_part ks p) → OnErr r (new ≡ ks) → AreFounded (map part_tree ks)
      → Below (length (trees_of ks)) (part_tree p) → AreFounded (map part_tree new)
  put_founded_new r h k f b = go (cases_of_put r h k)
    where
      go : (new ≡ ks) ⊎ (new ≡ insert_key same_part ks p) → AreFounded (map part_tree new)
      go (inl e) = subst (λ us. AreFounded (map part_tree us)) (sym e) f
      go (inr e) = subst (λ us. AreFounded (map part_tree us)) (sym e) (put_founded ks p f b)

  pub put_adds_new : (r : Result A E) → OnOk r (new ≡ insert_key same_part ks p) → OnErr r (new ≡ ks)
      → Adds (trees_of ks) (trees_of new) (λ s. s ≡ tree_of (trees_of ks) (part_tree p)) 1
  put_adds_new r h k = go (cases_of_put r h k)
    where
      go : (new ≡ ks) ⊎ (new ≡ insert_key same_part ks p) → Adds (trees_of ks) (trees_of new) (λ s. s ≡ tree_of (trees_of ks) (part_tree p)) 1
      go (inl e) = subst (λ us. Adds (trees_of ks) (trees_of us) (λ s. s ≡ tree_of (trees_of ks) (part_tree p)) 1) (sym e)
          (record { parts = []; behind = search rules; all = λ k d h. absurd (omega (arith, h)); few = omega arith })
      go (inr e) = subst (λ us. Adds (trees_of ks) (trees_of us) (λ s. s ≡ tree_of (trees_of ks) (part_tree p)) 1) (sym e) (put_adds ks p)

-- a tree that was there is there still
pub adds_keeps : (old new : List Tm) (P : Tm → Type 0) (n k : ℕ) → Adds old new P n → k < length old → tree_at new k ≡ tree_at old k
adds_keeps old new P n k a h = ap (λ us. tree_at us k) a.behind ∙ get_or_append_left old a.parts (t.bound 0) k h

pub put_number : (ks new : List Part) (i : ℕ) (p k : Part) → AreFounded (map part_tree new)
    → Adds (trees_of ks) (trees_of new) (λ s. s ≡ tree_of (trees_of ks) (part_tree p)) 1
    → Below (length (trees_of ks)) (part_tree p) → slice_get new i ≡ Some k → same_part p k ≡ true
    → slice_get (trees_of new) i ≡ Some (tree_of (trees_of ks) (part_tree p))
put_number ks new i p k f a b e same =
    let place : slice_get (map part_tree new) i ≡ Some (part_tree k) = slice_get-map part_tree new i ∙ ap (option_map part_tree) e in
    let within : i < length (trees_of new) = omega (arith, slice_get_within new i k e, trees_length new) in
    slice_get-get_or (trees_of new) i (t.bound 0) within ∙ ap Some (node_tree (map part_tree new) f i (part_tree k) place
    ∙ ap (tree_of (trees_of new)) (sym (part_tree_equal (part_tree p) (part_tree k) same))
    ∙ tree_of_same (trees_of new) (trees_of ks) (part_tree p) (λ n c. adds_keeps _ _ _ 1 n a (b n c)))

-- what stands at a place of the list of parts
pub part_there : (ks xs : List Part) (i : ℕ) (p : Part) → xs ≡ ks → i < length (trees_of ks) → p ≡ get_or xs i p
    → slice_get (map part_tree ks) i ≡ Some (part_tree p)
part_there ks xs i p e h is =
    let within : i < length ks = omega (arith, h, trees_length ks) in
    slice_get-map part_tree ks i ∙ ap (option_map part_tree) (slice_get-get_or ks i p within ∙ ap Some (ap (λ us. get_or us i p) (sym e) ∙ sym is))

-- one part more at most
pub put_few : (ks new : List Part) (P : Tm → Type 0) → Adds (trees_of ks) (trees_of new) P 1 → length ks < 2 ^ 32 - 1 → length new < 2 ^ 32
put_few ks new P a h =
    omega (arith, h, trees_length ks, trees_length new, ap length a.behind, length-append (trees_of ks) a.parts, a.few)
