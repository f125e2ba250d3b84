-- What a tree stands for, and what it is over, by what tells it apart.
use Rattle.std.proofs.Common.{◌≡◌, ℕ, zero, suc, ◌+◌, ◌<◌, ◌≤◌, List, [], ◌∷◌, ◌++◌, length, take, get_or, Box, Global, refl, ap, ap₂, subst, sym, ◌∙◌, arith}
use Rattle.std.proofs.lemmas.List.{take_more}
use Rattle.wh_types.specs.declared.simple_type.SimpleType.{SimpleType}
use Rattle.wh_types.specs.Ty.{sort}
use Rattle.wh_types.specs.Erase.{ty}
use Rattle.wh_terms.specs.Tree.{Tm, bound, free, fun, meta, lam, tms_of, spine}
use Rattle.wh_order_extended.specs.Kinds.{type_at, out_at}
use Rattle.wh_order_trees.specs.declared.tree.Tree.{Tree, Meta, Sym, Mark, Lam, Apply, Row_of-Tree, end_of-Tree, more_of-Tree, items-the_row-Tree, items_hidden-the_row-Tree-0}
use Rattle.wh_order_trees.specs.declared.tree.Tree.TheVariants.{Bound, Free, Meta', Sym', Mark', Lam', Apply'}
use Rattle.wh_order_trees.specs.Trees.{tree, row, spine_type, IsHeadTree, AreOver}
use Rattle.wh_order_trees.specs.TreeParts.{World, Over}
use Rattle.wh_order_known.specs.Plain.{Plain, a_bound, a_free, a_meta, a_symbol, a_mark, a_lam, a_spine, Plains, no_trees, more_trees, plain, plain_row, plains}
use Rattle.wh_order_trees.proofs.TreeLemmas.{row_of}

-- the tree that is stood for

abbrev mutual
  tree_by : ℕ → Plain → Tm
  tree_by n (a_bound i) = bound i
  tree_by n (a_free x a) = free x a
  tree_by n (a_meta z a ts) = meta z (tms_of (trees_by n ts))
  tree_by n (a_symbol f ts) = spine (fun f) (trees_by n ts)
  tree_by n (a_mark f ts) = spine (fun (n + f)) (trees_by n ts)
  tree_by n (a_lam a t) = lam a (tree_by n t)
  tree_by n (a_spine t ts) = spine (tree_by n t) (trees_by n ts)

  trees_by : ℕ → Plains → List Tm
  trees_by n no_trees = []
  trees_by n (more_trees t ts) = tree_by n t ∷ trees_by n ts

mutual
  tree_is : (n : ℕ) (t : Tree) → tree n t ≡ tree_by n (plain t)
  tree_is n (Bound i) = refl
  tree_is n (Free x a) = refl
  tree_is n (Meta' z a shape all) = ap (λ (us : List Tm). meta z (tms_of us)) (row_is n _ all)
  tree_is n (Sym' f shape all) = ap (spine (fun f)) (row_is n _ all)
  tree_is n (Mark' f shape all) = ap (spine (fun (n + f))) (row_is n _ all)
  tree_is n (Lam' a p t) = ap (lam (ty a)) (tree_is n t)
  tree_is n (Apply' p t shape all) = ap₂ spine (tree_is n t) (row_is n _ all)

  row_is : (n : ℕ) (m : _) (r : Row_of-Tree m) → row n r ≡ trees_by n (plain_row r)
  row_is n m end_of-Tree = refl
  row_is n m (more_of-Tree t rest) = ap₂ (λ (u : Tm) (us : List Tm). u ∷ us) (tree_is n t) (row_is n _ rest)

-- what it is over

abbrev IsHead : Plain → Type 0
IsHead (a_symbol f ts) = ⊥
IsHead (a_mark f ts) = ⊥
IsHead (a_spine t ts) = ⊥
IsHead _ = Unit {0}

head_is : (t : Tree) → IsHeadTree t → IsHead (plain t)
head_is (Bound i) h = tt
head_is (Free x a) h = tt
head_is (Meta' z a shape all) h = tt
head_is (Sym' f shape all) h = absurd h
head_is (Mark' f shape all) h = absurd h
head_is (Lam' a p t) h = tt
head_is (Apply' p t shape all) h = absurd h

is_head : (t : Tree) → IsHead (plain t) → IsHeadTree t
is_head (Bound i) h = tt
is_head (Free x a) h = tt
is_head (Meta' z a shape all) h = tt
is_head (Sym' f shape all) h = absurd h
is_head (Mark' f shape all) h = absurd h
is_head (Lam' a p t) h = tt
is_head (Apply' p t shape all) h = absurd h

abbrev mutual
  OverBy : ℕ → World → Plain → Type 0
  OverBy n w (a_bound i) = Unit {0}
  OverBy n w (a_free x a) = Unit {0}
  OverBy n w (a_meta z a ts) = (out_at w.metas z ≡ a) × AllOverBy n w ts
  OverBy n w (a_symbol f ts) = (f < n) × (spine_type (type_at w.symbols.funs f) (length (trees_by n ts)) ≡ sort 0) × AllOverBy n w ts
  OverBy n w (a_mark f ts) = (spine_type (type_at w.symbols.funs (n + f)) (length (trees_by n ts)) ≡ sort 0) × AllOverBy n w ts
  OverBy n w (a_lam a t) = OverBy n w t
  OverBy n w (a_spine t ts) = IsHead t × (0 < length (trees_by n ts)) × OverBy n w t × AllOverBy n w ts

  AllOverBy : ℕ → World → Plains → Type 0
  AllOverBy n w no_trees = Unit {0}
  AllOverBy n w (more_trees t ts) = OverBy n w t × AllOverBy n w ts

count_is : (n : ℕ) (m : _) (r : Row_of-Tree m) → length (row n r) ≡ length (trees_by n (plain_row r))
count_is n m r = ap length (row_is n m r)

mutual
  over_is : (n : ℕ) (w : World) (t : Tree) → Over n w t → OverBy n w (plain t)
  over_is n w (Bound i) o = tt
  over_is n w (Free x a) o = tt
  over_is n w (Meta' z a shape all) o = (o.0, each_is n w _ all o.1)
  over_is n w (Sym' f shape all) o = (o.0, subst (λ (k : ℕ). spine_type (type_at w.symbols.funs f) k ≡ sort 0) (count_is n _ all) o.1, each_is n w _ all o.2)
  over_is n w (Mark' f shape all) o = (subst (λ (k : ℕ). spine_type (type_at w.symbols.funs (n + f)) k ≡ sort 0) (count_is n _ all) o.0, each_is n w _ all o.1)
  over_is n w (Lam' a p t) o = over_is n w t o
  over_is n w (Apply' p t shape all) o = (head_is t o.0, subst (λ (k : ℕ). 0 < k) (count_is n _ all) o.1, over_is n w t o.2, each_is n w _ all o.3)

  each_is : (n : ℕ) (w : World) (m : _) (r : Row_of-Tree m) → AreOver n w.symbols w.metas r → AllOverBy n w (plain_row r)
  each_is n w m end_of-Tree o = tt
  each_is n w m (more_of-Tree t rest) o = (over_is n w t o.0, each_is n w _ rest o.1)

mutual
  is_over : (n : ℕ) (w : World) (t : Tree) → OverBy n w (plain t) → Over n w t
  is_over n w (Bound i) o = tt
  is_over n w (Free x a) o = tt
  is_over n w (Meta' z a shape all) o = (o.0, is_each n w _ all o.1)
  is_over n w (Sym' f shape all) o = (o.0, subst (λ (k : ℕ). spine_type (type_at w.symbols.funs f) k ≡ sort 0) (sym (count_is n _ all)) o.1, is_each n w _ all o.2)
  is_over n w (Mark' f shape all) o = (subst (λ (k : ℕ). spine_type (type_at w.symbols.funs (n + f)) k ≡ sort 0) (sym (count_is n _ all)) o.0, is_each n w _ all o.1)
  is_over n w (Lam' a p t) o = is_over n w t o
  is_over n w (Apply' p t shape all) o = (is_head t o.0, subst (λ (k : ℕ). 0 < k) (sym (count_is n _ all)) o.1, is_over n w t o.2, is_each n w _ all o.3)

  is_each : (n : ℕ) (w : World) (m : _) (r : Row_of-Tree m) → AllOverBy n w (plain_row r) → AreOver n w.symbols w.metas r
  is_each n w m end_of-Tree o = tt
  is_each n w m (more_of-Tree t rest) o = (is_over n w t o.0, is_each n w _ rest o.1)

-- so trees that are told apart by nothing stand for one tree, and are over the same

pub alike_tree : (n : ℕ) (s t : Tree) → plain s ≡ plain t → tree n s ≡ tree n t
alike_tree n s t e = tree_is n s ∙ ap (tree_by n) e ∙ sym (tree_is n t)

pub alike_over : (n : ℕ) (w : World) (s t : Tree) → plain s ≡ plain t → Over n w s → Over n w t
alike_over n w s t e o = is_over n w t (subst (OverBy n w) e (over_is n w s o))

-- trees with arguments

plain_items : (m : _) (r : Row_of-Tree m) → plain_row r ≡ plains (items-the_row-Tree m r)
plain_items m end_of-Tree = refl
plain_items m (more_of-Tree t rest) = ap (λ (us : Plains). more_trees (plain t) us) (plain_items _ rest)

pub plain_meta : (t : Tree) (z : ℕ) (a : SimpleType) (ts : List Tree) → t ≡ Meta z a ts → plain t ≡ a_meta z (ty a) (plains ts)
plain_meta t z a ts e = ap plain e ∙ ap (a_meta z (ty a)) (plain_items _ (row_of (Meta z a ts)).1 ∙ ap plains (items_hidden-the_row-Tree-0 ts))

pub plain_sym : (t : Tree) (f : ℕ) (ts : List Tree) → t ≡ Sym f ts → plain t ≡ a_symbol f (plains ts)
plain_sym t f ts e = ap plain e ∙ ap (a_symbol f) (plain_items _ (row_of (Sym f ts)).1 ∙ ap plains (items_hidden-the_row-Tree-0 ts))

pub plain_mark : (t : Tree) (f : ℕ) (ts : List Tree) → t ≡ Mark f ts → plain t ≡ a_mark f (plains ts)
plain_mark t f ts e = ap plain e ∙ ap (a_mark f) (plain_items _ (row_of (Mark f ts)).1 ∙ ap plains (items_hidden-the_row-Tree-0 ts))

pub plain_apply : (t : Tree) (h : Box Tree Global) (ts : List Tree) → t ≡ Apply h ts → plain t ≡ a_spine (plain h.value) (plains ts)
plain_apply t h ts e = ap plain e ∙ ap (a_spine (plain h.value)) (plain_items _ (row_of (Apply h ts)).1 ∙ ap plains (items_hidden-the_row-Tree-0 ts))

-- lists

pub plains_push : (ts us : List Tree) (t u : Tree) → plains ts ≡ plains us → plain t ≡ plain u → plains (ts ++ t ∷ []) ≡ plains (us ++ u ∷ [])
plains_push [] [] t u e f = ap (λ p. more_trees p no_trees) f
plains_push [] (y ∷ us) t u e f = absurd (cc)
plains_push (x ∷ ts) [] t u e f = absurd (cc)
plains_push (x ∷ ts) (y ∷ us) t u e f = ap₂ more_trees (first e) (plains_push ts us t u (behind e) f)
  where
    first : {p q : Plain} {ps qs : Plains} → more_trees p ps ≡ more_trees q qs → p ≡ q
    first e = cc

    behind : {p q : Plain} {ps qs : Plains} → more_trees p ps ≡ more_trees q qs → ps ≡ qs
    behind e = cc

take_whole : (ts : List Tree) (i : ℕ) → length ts ≤ i → take i ts ≡ ts
take_whole [] zero past = refl
take_whole [] (suc i) past = refl
take_whole (t ∷ ts) zero past = absurd (omega arith)
take_whole (t ∷ ts) (suc i) past = ap (λ (us : List Tree). t ∷ us) (take_whole ts i (omega arith))

-- a copy of each tree so far, and one more
pub copied_next : (old new ts : List Tree) (i : ℕ) (r t : Tree) → plains old ≡ plains (take i ts) → new ≡ old ++ r ∷ [] → plain r ≡ plain t → i < length ts → t ≡ get_or ts i t
    → plains new ≡ plains (take (i + 1) ts)
copied_next old new ts i r t before pushed same within here =
    ap plains pushed ∙ plains_push old (take i ts) r t before same ∙ ap plains (sym (take_more ts i t within ∙ ap (λ (x : Tree). take i ts ++ x ∷ []) (sym here)))

pub copied_all : (rs ts : List Tree) (i : ℕ) → plains rs ≡ plains (take i ts) → length ts ≤ i → plains rs ≡ plains ts
copied_all rs ts i h past = h ∙ ap plains (take_whole ts i past)

pub alike_next : (ts us : List Tree) (i : ℕ) (t u : Tree) → plains (take i ts) ≡ plains (take i us) → plain t ≡ plain u → i < length ts → i < length us → t ≡ get_or ts i t → u ≡ get_or us i u
    → plains (take (i + 1) ts) ≡ plains (take (i + 1) us)
alike_next ts us i t u before same within inside here there =
    ap plains (take_more ts i t within ∙ ap (λ (x : Tree). take i ts ++ x ∷ []) (sym here))
    ∙ plains_push (take i ts) (take i us) t u before same
    ∙ ap plains (sym (take_more us i u inside ∙ ap (λ (x : Tree). take i us ++ x ∷ []) (sym there)))

pub alike_all : (ts us : List Tree) (i : ℕ) → plains (take i ts) ≡ plains (take i us) → length ts ≤ i → length us ≤ i → plains ts ≡ plains us
alike_all ts us i h p q = sym (ap plains (take_whole ts i p)) ∙ h ∙ ap plains (take_whole us i q)

-- copies

pub copied_meta : (t : Tree) (z : ℕ) (a b : SimpleType) (ts rs : List Tree) → t ≡ Meta z a ts → ty b ≡ ty a → plains rs ≡ plains ts → plain (Meta z b rs) ≡ plain t
copied_meta t z a b ts rs e same h = plain_meta (Meta z b rs) z b rs refl ∙ ap₂ (a_meta z) same h ∙ sym (plain_meta t z a ts e)

pub copied_sym : (t : Tree) (f : ℕ) (ts rs : List Tree) → t ≡ Sym f ts → plains rs ≡ plains ts → plain (Sym f rs) ≡ plain t
copied_sym t f ts rs e h = plain_sym (Sym f rs) f rs refl ∙ ap (a_symbol f) h ∙ sym (plain_sym t f ts e)

pub copied_mark : (t : Tree) (f : ℕ) (ts rs : List Tree) → t ≡ Mark f ts → plains rs ≡ plains ts → plain (Mark f rs) ≡ plain t
copied_mark t f ts rs e h = plain_mark (Mark f rs) f rs refl ∙ ap (a_mark f) h ∙ sym (plain_mark t f ts e)

pub copied_apply : (t : Tree) (p q : Box Tree Global) (ts rs : List Tree) → t ≡ Apply p ts → plain q.value ≡ plain p.value → plains rs ≡ plains ts → plain (Apply q rs) ≡ plain t
copied_apply t p q ts rs e head h = plain_apply (Apply q rs) q rs refl ∙ ap₂ a_spine head h ∙ sym (plain_apply t p ts e)

-- trees that are alike

pub alike_meta : (s t : Tree) (z y : ℕ) (a b : SimpleType) (ts us : List Tree) → s ≡ Meta z a ts → t ≡ Meta y b us → z ≡ y → ty a ≡ ty b → plains ts ≡ plains us → plain s ≡ plain t
alike_meta s t z y a b ts us e f number same h =
    plain_meta s z a ts e ∙ ap (λ (x : ℕ). a_meta x (ty a) (plains ts)) number ∙ ap₂ (a_meta y) same h ∙ sym (plain_meta t y b us f)

pub alike_sym : (s t : Tree) (f g : ℕ) (ts us : List Tree) → s ≡ Sym f ts → t ≡ Sym g us → f ≡ g → plains ts ≡ plains us → plain s ≡ plain t
alike_sym s t f g ts us e d number h = plain_sym s f ts e ∙ ap₂ a_symbol number h ∙ sym (plain_sym t g us d)

pub alike_mark : (s t : Tree) (f g : ℕ) (ts us : List Tree) → s ≡ Mark f ts → t ≡ Mark g us → f ≡ g → plains ts ≡ plains us → plain s ≡ plain t
alike_mark s t f g ts us e d number h = plain_mark s f ts e ∙ ap₂ a_mark number h ∙ sym (plain_mark t g us d)

pub alike_lam : (s t : Tree) (a b : SimpleType) (p q : Box Tree Global) → s ≡ Lam a p → t ≡ Lam b q → ty a ≡ ty b → plain p.value ≡ plain q.value → plain s ≡ plain t
alike_lam s t a b p q e f same h = ap plain e ∙ ap₂ a_lam same h ∙ sym (ap plain f)

pub alike_apply : (s t : Tree) (p q : Box Tree Global) (ts us : List Tree) → s ≡ Apply p ts → t ≡ Apply q us → plain p.value ≡ plain q.value → plains ts ≡ plains us → plain s ≡ plain t
alike_apply s t p q ts us e f head h = plain_apply s p ts e ∙ ap₂ a_spine head h ∙ sym (plain_apply t q us f)
