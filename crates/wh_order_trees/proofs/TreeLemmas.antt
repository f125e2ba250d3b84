-- What a tree stands for, and what it is over, by the list of its arguments.
use mathlib.Core.Former.{Count}
use Rattle.std.proofs.Common.{◌≡◌, ℕ, zero, suc, ◌+◌, ◌<◌, List, [], ◌∷◌, ◌++◌, length, get_or, refl, ap, subst, sym, ◌∙◌, append-nil, append_assoc, Box, Global, arith}
use Rattle.wh_types.specs.declared.simple_type.SimpleType.{SimpleType}
use Rattle.wh_types.specs.Ty.{sort}
use Rattle.wh_types.specs.Erase.{ty}
use Rattle.wh_terms.specs.Tree.{Tm, fun, meta, app, tms_of, spine, head}
use Rattle.wh_terms.specs.Typing.{Symbols, Declared}
use Rattle.wh_order_extended.specs.Kinds.{type_at, out_at}
use Rattle.wh_order_path.specs.Heads.{arguments_of}
use Rattle.wh_order_trees.specs.declared.tree.Tree.{Tree, Meta, Sym, Mark, Apply, Row_of-Tree, end_of-Tree, more_of-Tree, items-the_row-Tree, items_hidden-the_row-Tree-0}
use Rattle.wh_order_trees.specs.declared.tree.Tree.TheVariants.{Bound, Free, Meta', Sym', Mark', Lam', Apply'}
use Rattle.wh_order_trees.specs.Trees.{tree, row, trees, spine_type, IsHeadTree, AreOver, EachOver}
use Rattle.wh_order_trees.specs.TreeParts.{World, Over, AllOver}

row-items : (n : ℕ) (m : _) (r : Row_of-Tree m) → row n r ≡ trees n (items-the_row-Tree m r)
row-items n m end_of-Tree = refl
row-items n m (more_of-Tree t rest) = ap (λ (ts : List Tm). tree n t ∷ ts) (row-items n _ rest)

abbrev pub row_of : Tree → (m : Count) × Row_of-Tree m
row_of (Meta' z a _ r) = (_, r)
row_of (Sym' f _ r) = (_, r)
row_of (Mark' f _ r) = (_, r)
row_of (Apply' p t _ r) = (_, r)
row_of _ = (_, end_of-Tree)

row_meta : (n z : ℕ) (a : SimpleType) (ts : List Tree) → row n (row_of (Meta z a ts)).1 ≡ trees n ts
row_meta n z a ts = row-items n _ (row_of (Meta z a ts)).1 ∙ ap (trees n) (items_hidden-the_row-Tree-0 ts)

row_sym : (n f : ℕ) (ts : List Tree) → row n (row_of (Sym f ts)).1 ≡ trees n ts
row_sym n f ts = row-items n _ (row_of (Sym f ts)).1 ∙ ap (trees n) (items_hidden-the_row-Tree-0 ts)

row_mark : (n f : ℕ) (ts : List Tree) → row n (row_of (Mark f ts)).1 ≡ trees n ts
row_mark n f ts = row-items n _ (row_of (Mark f ts)).1 ∙ ap (trees n) (items_hidden-the_row-Tree-0 ts)

row_apply : (n : ℕ) (h : Box Tree Global) (ts : List Tree) → row n (row_of (Apply h ts)).1 ≡ trees n ts
row_apply n h ts = row-items n _ (row_of (Apply h ts)).1 ∙ ap (trees n) (items_hidden-the_row-Tree-0 ts)

-- the trees

pub tree_of_meta : (n : ℕ) (t : Tree) (z : ℕ) (a : SimpleType) (ts : List Tree) → t ≡ Meta z a ts → tree n t ≡ meta z (tms_of (trees n ts))
tree_of_meta n t z a ts e = ap (tree n) e ∙ ap (λ (us : List Tm). meta z (tms_of us)) (row_meta n z a ts)

pub tree_of_sym : (n : ℕ) (t : Tree) (f : ℕ) (ts : List Tree) → t ≡ Sym f ts → tree n t ≡ spine (fun f) (trees n ts)
tree_of_sym n t f ts e = ap (tree n) e ∙ ap (spine (fun f)) (row_sym n f ts)

pub tree_of_mark : (n : ℕ) (t : Tree) (f : ℕ) (ts : List Tree) → t ≡ Mark f ts → tree n t ≡ spine (fun (n + f)) (trees n ts)
tree_of_mark n t f ts e = ap (tree n) e ∙ ap (spine (fun (n + f))) (row_mark n f ts)

pub tree_of_apply : (n : ℕ) (t : Tree) (h : Box Tree Global) (ts : List Tree) → t ≡ Apply h ts → tree n t ≡ spine (tree n h.value) (trees n ts)
tree_of_apply n t h ts e = ap (tree n) e ∙ ap (spine (tree n h.value)) (row_apply n h ts)

-- what they are over

module _ (n : ℕ) (F : Symbols) (M : List Declared) where
  are_each : (m : _) (r : Row_of-Tree m) → AreOver n F M r → EachOver n F M (items-the_row-Tree m r)
  are_each m end_of-Tree o = tt
  are_each m (more_of-Tree t rest) o = (o.0, are_each _ rest o.1)

  each_are : (m : _) (r : Row_of-Tree m) → EachOver n F M (items-the_row-Tree m r) → AreOver n F M r
  each_are m end_of-Tree o = tt
  each_are m (more_of-Tree t rest) o = (o.0, each_are _ rest o.1)

-- each tree of a list, by the row that it makes
each_of : (n : ℕ) (w : World) (m : Count) (r : Row_of-Tree m) (ts : List Tree) → items-the_row-Tree m r ≡ ts → AreOver n w.symbols w.metas r → AllOver n w ts
each_of n w m r ts e o = subst (AllOver n w) e (are_each n w.symbols w.metas m r o)

of_each : (n : ℕ) (w : World) (m : Count) (r : Row_of-Tree m) (ts : List Tree) → items-the_row-Tree m r ≡ ts → AllOver n w ts → AreOver n w.symbols w.metas r
of_each n w m r ts e o = each_are n w.symbols w.metas m r (subst (AllOver n w) (sym e) o)

abbrev HasWhole : ℕ → World → ℕ → ℕ → Type 0
HasWhole n w f k = spine_type (type_at w.symbols.funs f) k ≡ sort 0

pub trees-length : (n : ℕ) (ts : List Tree) → length (trees n ts) ≡ length ts
trees-length n [] = refl
trees-length n (t ∷ ts) = ap suc (trees-length n ts)

row_length : (n : ℕ) (us : List Tm) (ts : List Tree) → us ≡ trees n ts → length us ≡ length ts
row_length n us ts e = ap length e ∙ trees-length n ts

pub over_of_meta : (n : ℕ) (w : World) (t : Tree) (z : ℕ) (a : SimpleType) (ts : List Tree) → t ≡ Meta z a ts → Over n w t
    → (out_at w.metas z ≡ ty a) × AllOver n w ts
over_of_meta n w t z a ts e o =
    let p = subst (Over n w) e o in
    (p.0, each_of n w _ (row_of (Meta z a ts)).1 ts (items_hidden-the_row-Tree-0 ts) p.1)

pub over_of_sym : (n : ℕ) (w : World) (t : Tree) (f : ℕ) (ts : List Tree) → t ≡ Sym f ts → Over n w t
    → (f < n) × (spine_type (type_at w.symbols.funs f) (length ts) ≡ sort 0) × AllOver n w ts
over_of_sym n w t f ts e o =
    let p = subst (Over n w) e o in (
      p.0,
      subst (HasWhole n w f) (row_length n (row n (row_of (Sym f ts)).1) ts (row_sym n f ts)) p.1,
      each_of n w _ (row_of (Sym f ts)).1 ts (items_hidden-the_row-Tree-0 ts) p.2,
    )

pub over_of_mark : (n : ℕ) (w : World) (t : Tree) (f : ℕ) (ts : List Tree) → t ≡ Mark f ts → Over n w t
    → (spine_type (type_at w.symbols.funs (n + f)) (length ts) ≡ sort 0) × AllOver n w ts
over_of_mark n w t f ts e o =
    let p = subst (Over n w) e o in (
      subst (HasWhole n w (n + f)) (row_length n (row n (row_of (Mark f ts)).1) ts (row_mark n f ts)) p.0,
      each_of n w _ (row_of (Mark f ts)).1 ts (items_hidden-the_row-Tree-0 ts) p.1,
    )

pub over_of_apply : (n : ℕ) (w : World) (t : Tree) (h : Box Tree Global) (ts : List Tree) → t ≡ Apply h ts → Over n w t
    → IsHeadTree h.value × (0 < length ts) × Over n w h.value × AllOver n w ts
over_of_apply n w t h ts e o =
    let p = subst (Over n w) e o in (
      p.0,
      subst (λ (k : ℕ). 0 < k) (row_length n (row n (row_of (Apply h ts)).1) ts (row_apply n h ts)) p.1,
      p.2,
      each_of n w _ (row_of (Apply h ts)).1 ts (items_hidden-the_row-Tree-0 ts) p.3,
    )

-- and so made

pub meta_over : (n : ℕ) (w : World) (z : ℕ) (a : SimpleType) (ts : List Tree) → out_at w.metas z ≡ ty a → AllOver n w ts → Over n w (Meta z a ts)
meta_over n w z a ts e all = (e, of_each n w _ (row_of (Meta z a ts)).1 ts (items_hidden-the_row-Tree-0 ts) all)

pub sym_over : (n : ℕ) (w : World) (f : ℕ) (ts : List Tree) → f < n → spine_type (type_at w.symbols.funs f) (length ts) ≡ sort 0 → AllOver n w ts → Over n w (Sym f ts)
sym_over n w f ts low whole all = (
  low,
  subst (HasWhole n w f) (sym (row_length n (row n (row_of (Sym f ts)).1) ts (row_sym n f ts))) whole,
  of_each n w _ (row_of (Sym f ts)).1 ts (items_hidden-the_row-Tree-0 ts) all,
)

pub mark_over : (n : ℕ) (w : World) (f : ℕ) (ts : List Tree) → spine_type (type_at w.symbols.funs (n + f)) (length ts) ≡ sort 0 → AllOver n w ts → Over n w (Mark f ts)
mark_over n w f ts whole all = (
  subst (HasWhole n w (n + f)) (sym (row_length n (row n (row_of (Mark f ts)).1) ts (row_mark n f ts))) whole,
  of_each n w _ (row_of (Mark f ts)).1 ts (items_hidden-the_row-Tree-0 ts) all,
)

pub apply_over : (n : ℕ) (w : World) (h : Box Tree Global) (ts : List Tree) → IsHeadTree h.value → 0 < length ts → Over n w h.value → AllOver n w ts → Over n w (Apply h ts)
apply_over n w h ts form some over all = (
  form,
  subst (λ (k : ℕ). 0 < k) (sym (row_length n (row n (row_of (Apply h ts)).1) ts (row_apply n h ts))) some,
  over,
  of_each n w _ (row_of (Apply h ts)).1 ts (items_hidden-the_row-Tree-0 ts) all,
)

-- lists

pub all_get : (n : ℕ) (w : World) (ts : List Tree) (i : ℕ) (t : Tree) → AllOver n w ts → i < length ts → t ≡ get_or ts i t → Over n w t
all_get n w [] i t all within e = absurd (omega arith)
all_get n w (u ∷ ts) zero t all within e = subst (Over n w) (sym e) all.0
all_get n w (u ∷ ts) (suc i) t all within e = all_get n w ts i t all.1 (omega arith) e

-- spines

pub arguments-spine : (h : Tm) (ts : List Tm) → arguments_of (spine h ts) ≡ arguments_of h ++ ts
arguments-spine h [] = sym (append-nil (arguments_of h))
arguments-spine h (t ∷ ts) = arguments-spine (app h t) ts ∙ append_assoc (arguments_of h) (t ∷ []) ts

pub head-alone : (n : ℕ) (t : Tree) → IsHeadTree t → head (tree n t) ≡ tree n t
head-alone n (Bound i) h = refl
head-alone n (Free x a) h = refl
head-alone n (Meta' z a shape all) h = refl
head-alone n (Sym' f shape all) h = absurd h
head-alone n (Mark' f shape all) h = absurd h
head-alone n (Lam' a p t) h = refl
head-alone n (Apply' p t shape all) h = absurd h

pub arguments-alone : (n : ℕ) (t : Tree) → IsHeadTree t → arguments_of (tree n t) ≡ []
arguments-alone n (Bound i) h = refl
arguments-alone n (Free x a) h = refl
arguments-alone n (Meta' z a shape all) h = refl
arguments-alone n (Sym' f shape all) h = absurd h
arguments-alone n (Mark' f shape all) h = absurd h
arguments-alone n (Lam' a p t) h = refl
arguments-alone n (Apply' p t shape all) h = absurd h

-- the measure of a recursion over trees: a part has less weight than the whole

abbrev mutual
  pub weight : Tree → ℕ
  weight (Bound i) = 0
  weight (Free x a) = 0
  weight (Meta' z a shape all) = 1 + row_weight all
  weight (Sym' f shape all) = 1 + row_weight all
  weight (Mark' f shape all) = 1 + row_weight all
  weight (Lam' a p t) = 1 + weight t
  weight (Apply' p t shape all) = 1 + (weight t + row_weight all)

  pub row_weight : {m : _} → Row_of-Tree m → ℕ
  row_weight end_of-Tree = 0
  row_weight (more_of-Tree t rest) = 1 + (weight t + row_weight rest)

abbrev pub weights : List Tree → ℕ
weights [] = 0
weights (t ∷ ts) = 1 + (weight t + weights ts)

row_weight-items : (m : _) (r : Row_of-Tree m) → row_weight r ≡ weights (items-the_row-Tree m r)
row_weight-items m end_of-Tree = refl
row_weight-items m (more_of-Tree t rest) = omega (arith, row_weight-items _ rest)

pub weight_of_meta : (t : Tree) (z : ℕ) (a : SimpleType) (ts : List Tree) → t ≡ Meta z a ts → weight t ≡ 1 + weights ts
weight_of_meta t z a ts e = ap weight e ∙ ap (λ (k : ℕ). 1 + k) (row_weight-items _ (row_of (Meta z a ts)).1 ∙ ap weights (items_hidden-the_row-Tree-0 ts))

pub weight_of_sym : (t : Tree) (f : ℕ) (ts : List Tree) → t ≡ Sym f ts → weight t ≡ 1 + weights ts
weight_of_sym t f ts e = ap weight e ∙ ap (λ (k : ℕ). 1 + k) (row_weight-items _ (row_of (Sym f ts)).1 ∙ ap weights (items_hidden-the_row-Tree-0 ts))

pub weight_of_mark : (t : Tree) (f : ℕ) (ts : List Tree) → t ≡ Mark f ts → weight t ≡ 1 + weights ts
weight_of_mark t f ts e = ap weight e ∙ ap (λ (k : ℕ). 1 + k) (row_weight-items _ (row_of (Mark f ts)).1 ∙ ap weights (items_hidden-the_row-Tree-0 ts))

pub weight_of_apply : (t : Tree) (h : Box Tree Global) (ts : List Tree) → t ≡ Apply h ts → weight t ≡ 1 + (weight h.value + weights ts)
weight_of_apply t h ts e = ap weight e ∙ ap (λ (k : ℕ). 1 + (weight h.value + k)) (row_weight-items _ (row_of (Apply h ts)).1 ∙ ap weights (items_hidden-the_row-Tree-0 ts))

pub weight_in : (ts : List Tree) (i : ℕ) (t : Tree) → i < length ts → t ≡ get_or ts i t → weight t < weights ts
weight_in [] i t within e = absurd (omega arith)
weight_in (u ∷ ts) zero t within e = omega (arith, ap weight e)
weight_in (u ∷ ts) (suc i) t within e = omega (arith, weight_in ts i t (omega arith) e)
