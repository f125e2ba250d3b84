-- Meta-variables below abstractions over all their arguments.
use Rattle.std.proofs.Common.{◌≡◌, ℕ, zero, suc, ◌+◌, ◌-◌, ◌<◌, ◌≤◌, List, [], ◌∷◌, length, drop, get_or, Bool, true, false, ◌&&◌, Box, Global, refl, ap, ap₂, subst, sym, ◌∙◌, arith}
use Rattle.std.specs.Prelude.{◌==◌}
use Rattle.std.proofs.lemmas.Bool.{eq-eqb, ne_eqb}
use Rattle.wh_types.specs.declared.simple_type.SimpleType.{SimpleType}
use Rattle.wh_terms.specs.Tree.{Tm, bound, free, fun, meta, lam, app, Tms, none, more, tms_of, spine}
use Rattle.wh_order_path.specs.Heads.{nearest}
use Rattle.wh_order_path.specs.SameTrees.{same, all_same}
use Rattle.wh_order_path.specs.Verdict.{is_abstracted}
use Rattle.wh_order_trees.specs.declared.tree.Tree.{Tree, Meta, Lam}
use Rattle.wh_order_trees.specs.declared.tree.Tree.TheVariants.{Bound, Free, Meta', Sym', Mark', Lam', Apply'}
use Rattle.wh_order_trees.specs.Trees.{tree, row, trees}
use Rattle.wh_order_trees.specs.TreeParts.{World, Over, AllOver}
use Rattle.wh_order_trees.proofs.TreeLemmas.{tree_of_meta, over_of_meta}

same-spine : (k : ℕ) (h : Tm) (ts : List Tm) → same h (bound k) ≡ false → same (spine h ts) (bound k) ≡ false
same-spine k h [] e = e
same-spine k h (t ∷ ts) e = same-spine k (app h t) ts refl

same-some : (k : ℕ) (h : Tm) (ts : List Tm) → 0 < length ts → same (spine h ts) (bound k) ≡ false
same-some k h [] some = absurd (omega arith)
same-some k h (t ∷ ts) some = same-spine k (app h t) ts refl

pub no_variable : (t : Tree) (k : ℕ) → ((i : ℕ) → t ≡ Bound i → ⊥) → (n : ℕ) (w : World) → Over n w t → false ≡ same (tree n t) (bound k)
no_variable (Bound i) k h n w o = absurd (h i refl)
no_variable (Free x a) k h n w o = refl
no_variable (Meta' z a shape all) k h n w o = refl
no_variable (Sym' f shape all) k h n w o = sym (same-spine k (fun f) (row n all) refl)
no_variable (Mark' f shape all) k h n w o = sym (same-spine k (fun (n + f)) (row n all) refl)
no_variable (Lam' a p t) k h n w o = refl
no_variable (Apply' p t shape all) k h n w o = sym (same-some k (tree n t) (row n all) o.1)

-- the variables of the nearest binders

-- the trees from a place on are compared with as many variables
abbrev pub Nearest : List Tree → ℕ → ℕ → ℕ → Type 0
Nearest ts count i left = (n : ℕ) (w : World) → AllOver n w ts
    → AllOver n w (drop i ts) × (all_same (tms_of (trees n ts)) (nearest count) ≡ all_same (tms_of (trees n (drop i ts))) (nearest left))

drop_more : (ts : List Tree) (i : ℕ) (t : Tree) → i < length ts → t ≡ get_or ts i t → drop i ts ≡ t ∷ drop (i + 1) ts
drop_more [] i t within e = absurd (omega arith)
drop_more (u ∷ ts) zero t within e = ap (λ (x : Tree). x ∷ ts) (sym e)
drop_more (u ∷ ts) (suc i) t within e =
    let next : suc (i + 1) ≡ suc i + 1 = omega arith in
    drop_more ts i t (omega arith) e ∙ ap (λ (k : ℕ). t ∷ drop k (u ∷ ts)) next

step : (t : Tm) (ts : Tms) (left : ℕ) (b : Bool) → 0 < left → b ≡ same t (bound (left - 1)) → all_same (more t ts) (nearest left) ≡ (b && all_same ts (nearest (left - 1)))
step t ts zero b some e = absurd (omega arith)
step t ts (suc k) b some e =
    ap₂ (λ (c : Bool) (j : ℕ). c && all_same ts (nearest j)) (ap (λ (j : ℕ). same t (bound j)) (omega arith) ∙ sym e) (omega arith)

past : (t : Tm) (ts : Tms) (left : ℕ) → left ≡ 0 → all_same (more t ts) (nearest left) ≡ false
past t ts zero e = refl
past t ts (suc k) e = absurd (omega (arith, e))

pub nearest_next : (ts : List Tree) (count i left : ℕ) (t : Tree) (b : Bool) → Nearest ts count i left → i < length ts → t ≡ get_or ts i t → 0 < left
    → ((n : ℕ) (w : World) → Over n w t → b ≡ same (tree n t) (bound (left - 1))) → b ≡ true → Nearest ts count (i + 1) (left - 1)
nearest_next ts count i left t b before within e some is so n w all =
    let l = drop_more ts i t within e in
    let p = subst (AllOver n w) l (before n w all).0 in (
      p.1,
      (before n w all).1 ∙ ap (λ (us : List Tree). all_same (tms_of (trees n us)) (nearest left)) l
          ∙ step (tree n t) (tms_of (trees n (drop (i + 1) ts))) left b some (is n w p.0)
          ∙ ap (λ (c : Bool). c && all_same (tms_of (trees n (drop (i + 1) ts))) (nearest (left - 1))) so,
    )

pub nearest_other : (ts : List Tree) (count i left : ℕ) (t : Tree) (b : Bool) → Nearest ts count i left → i < length ts → t ≡ get_or ts i t → 0 < left
    → ((n : ℕ) (w : World) → Over n w t → b ≡ same (tree n t) (bound (left - 1))) → b ≡ false → (n : ℕ) (w : World) → AllOver n w ts → false ≡ all_same (tms_of (trees n ts)) (nearest count)
nearest_other ts count i left t b before within e some is not n w all =
    let l = drop_more ts i t within e in
    let p = subst (AllOver n w) l (before n w all).0 in
    sym ((before n w all).1 ∙ ap (λ (us : List Tree). all_same (tms_of (trees n us)) (nearest left)) l
    ∙ step (tree n t) (tms_of (trees n (drop (i + 1) ts))) left b some (is n w p.0)
    ∙ ap (λ (c : Bool). c && all_same (tms_of (trees n (drop (i + 1) ts))) (nearest (left - 1))) not)

pub nearest_past : (ts : List Tree) (count i left : ℕ) (t : Tree) → Nearest ts count i left → i < length ts → t ≡ get_or ts i t → left ≡ 0
    → (n : ℕ) (w : World) → AllOver n w ts → false ≡ all_same (tms_of (trees n ts)) (nearest count)
nearest_past ts count i left t before within e zero_left n w all =
    sym ((before n w all).1 ∙ ap (λ (us : List Tree). all_same (tms_of (trees n us)) (nearest left)) (drop_more ts i t within e)
    ∙ past (tree n t) (tms_of (trees n (drop (i + 1) ts))) left zero_left)

drop_past : (ts : List Tree) (i : ℕ) → length ts ≤ i → drop i ts ≡ []
drop_past [] zero past = refl
drop_past [] (suc i) past = refl
drop_past (t ∷ ts) zero past = absurd (omega arith)
drop_past (t ∷ ts) (suc i) past = drop_past ts i (omega arith)

ended : (left : ℕ) → (left == 0) ≡ all_same none (nearest left)
ended zero = refl
ended (suc k) = ne_eqb (suc k) 0 (λ e. absurd (omega (arith, e)))

pub nearest_first : (ts : List Tree) (count : ℕ) → Nearest ts count 0 count
nearest_first ts count n w all = (all, refl)

pub nearest_end : (ts : List Tree) (count i left : ℕ) → Nearest ts count i left → length ts ≤ i → (n : ℕ) (w : World) → AllOver n w ts → (left == 0) ≡ all_same (tms_of (trees n ts)) (nearest count)
nearest_end ts count i left h past n w all =
    ended left ∙ ap (λ (us : List Tree). all_same (tms_of (trees n us)) (nearest left)) (sym (drop_past ts i past)) ∙ sym (h n w all).1

-- below abstractions

too_deep : (z c k : ℕ) (t : Tm) → c < k → is_abstracted z c k t ≡ false
too_deep z c k (bound i) deep = refl
too_deep z c k (free x a) deep = refl
too_deep z c k (fun f) deep = refl
too_deep z c k (meta y ts) deep =
    ap (λ b. ((y == z) && b) && all_same ts (nearest c)) (ne_eqb k c (λ e. absurd (omega (arith, deep, e)))) ∙ on (y == z)
  where
    on : (b : Bool) → ((b && false) && all_same ts (nearest c)) ≡ false
    on true = refl
    on false = refl
too_deep z c k (lam a t) deep = too_deep z c (suc k) t (omega arith)
too_deep z c k (app t u) deep = refl

-- what the test says of a tree below binders, where `left` more are to come
abbrev pub IsBelow : Tree → ℕ → ℕ → ℕ → Bool → Type 0
IsBelow t z c left b = (n k : ℕ) (w : World) → k + left ≡ c → Over n w t → b ≡ is_abstracted z c k (tree n t)

pub below_lam : (t : Tree) (a : SimpleType) (p : Box Tree Global) (z c left : ℕ) (b : Bool) → t ≡ Lam a p → 0 < left → IsBelow p.value z c (left - 1) b → IsBelow t z c left b
below_lam t a p z c left b e some h n k w sum o =
    h n (suc k) w (omega arith) (subst (Over n w) e o) ∙ ap (λ (u : Tree). is_abstracted z c k (tree n u)) (sym e)

pub below_none : (t : Tree) (a : SimpleType) (p : Box Tree Global) (z c left : ℕ) → t ≡ Lam a p → left ≡ 0 → IsBelow t z c left false
below_none t a p z c left e zero_left n k w sum o =
    sym (ap (λ (u : Tree). is_abstracted z c k (tree n u)) e ∙ too_deep z c (suc k) (tree n p.value) (omega (arith, sum, zero_left)))

zero_same : (left k c : ℕ) → k + left ≡ c → (left == 0) ≡ (k == c)
zero_same zero k c sum = sym (eq-eqb k c (omega (arith, sum)))
zero_same (suc l) k c sum = ne_eqb (suc l) 0 (λ e. absurd (omega (arith, e))) ∙ sym (ne_eqb k c (λ e. absurd (omega (arith, sum, e))))

pub below_meta : (t : Tree) (y : ℕ) (a : SimpleType) (ts xs : List Tree) (z c left : ℕ) (b d : Bool) → t ≡ Meta y a ts → xs ≡ ts
    → ((n : ℕ) (w : World) → AllOver n w xs → d ≡ all_same (tms_of (trees n xs)) (nearest c)) → b ≡ (((y == z) && (left == 0)) && d) → IsBelow t z c left b
below_meta t y a ts xs z c left b d e list h is n k w sum o =
    is ∙ ap₂ (λ (u v : Bool). ((y == z) && u) && v) (zero_same left k c sum) (h n w (subst (AllOver n w) (sym list) (over_of_meta n w t y a ts e o).1) ∙ ap (λ (us : List Tree). all_same (tms_of (trees n us)) (nearest c)) list)
    ∙ sym (ap (is_abstracted z c k) (tree_of_meta n t y a ts e))

pub below_meta_is : (t : Tree) (y : ℕ) (a : SimpleType) (ts xs : List Tree) (z c left : ℕ) (d : Bool) → t ≡ Meta y a ts → xs ≡ ts
    → ((n : ℕ) (w : World) → AllOver n w xs → d ≡ all_same (tms_of (trees n xs)) (nearest c)) → y ≡ z → left ≡ 0 → IsBelow t z c left d
below_meta_is t y a ts xs z c left d e list h number none_left =
    below_meta t y a ts xs z c left d d e list h (sym (ap₂ (λ (u v : Bool). (u && v) && d) (eq-eqb y z number) (eq-eqb left 0 none_left)))

pub below_other_number : (t : Tree) (y : ℕ) (a : SimpleType) (ts : List Tree) (z c left : ℕ) → t ≡ Meta y a ts → (y ≡ z → ⊥) → IsBelow t z c left false
below_other_number t y a ts z c left e differ n k w sum o =
    sym (ap (is_abstracted z c k) (tree_of_meta n t y a ts e)
    ∙ ap (λ (b : Bool). (b && (k == c)) && all_same (tms_of (trees n ts)) (nearest c)) (ne_eqb y z differ))

and_false : (b c : Bool) → ((b && false) && c) ≡ false
and_false true c = refl
and_false false c = refl

pub below_too_few : (t : Tree) (y : ℕ) (a : SimpleType) (ts : List Tree) (z c left : ℕ) → t ≡ Meta y a ts → (left ≡ 0 → ⊥) → IsBelow t z c left false
below_too_few t y a ts z c left e some n k w sum o =
    sym (ap (is_abstracted z c k) (tree_of_meta n t y a ts e)
    ∙ ap (λ (b : Bool). ((y == z) && b) && all_same (tms_of (trees n ts)) (nearest c)) (ne_eqb k c (λ e. absurd (some (omega (arith, sum, e)))))
    ∙ and_false (y == z) (all_same (tms_of (trees n ts)) (nearest c)))

abbrev pub IsNeither : Tree → Type 0
IsNeither (Meta' z a shape all) = ⊥
IsNeither (Lam' a p t) = ⊥
IsNeither _ = Unit {0}

abstracted-spine : (z c k : ℕ) (h : Tm) (ts : List Tm) → is_abstracted z c k h ≡ false → is_abstracted z c k (spine h ts) ≡ false
abstracted-spine z c k h [] e = e
abstracted-spine z c k h (t ∷ ts) e = abstracted-spine z c k (app h t) ts refl

abstracted-some : (z c k : ℕ) (h : Tm) (ts : List Tm) → 0 < length ts → is_abstracted z c k (spine h ts) ≡ false
abstracted-some z c k h [] some = absurd (omega arith)
abstracted-some z c k h (t ∷ ts) some = abstracted-spine z c k (app h t) ts refl

pub below_other : (t : Tree) (z c left : ℕ) → IsNeither t → IsBelow t z c left false
below_other (Bound i) z c left h n k w sum o = refl
below_other (Free x a) z c left h n k w sum o = refl
below_other (Meta' y a shape all) z c left h n k w sum o = absurd h
below_other (Sym' f shape all) z c left h n k w sum o = sym (abstracted-spine z c k (fun f) (row n all) refl)
below_other (Mark' f shape all) z c left h n k w sum o = sym (abstracted-spine z c k (fun (n + f)) (row n all) refl)
below_other (Lam' a p t) z c left h n k w sum o = absurd h
below_other (Apply' p t shape all) z c left h n k w sum o = sym (abstracted-some z c k (tree n t) (row n all) o.1)
