-- What the code finds in a tree: arguments, bodies and heads.
use Rattle.std.proofs.Common.{◌≡◌, ℕ, zero, suc, ◌+◌, ◌-◌, ◌<◌, ◌≤◌, List, [], ◌∷◌, ◌++◌, length, get_or, Some, None, Box, Global, refl, ap, ap₂, subst, sym, ◌∙◌, arith}
use Rattle.std.specs.Prelude.{slice_get}
use Rattle.std.specs.Borrow.{Bor}
use Rattle.wh_types.specs.declared.simple_type.SimpleType.{SimpleType}
use Rattle.wh_types.specs.Erase.{ty}
use Rattle.wh_terms.specs.Tree.{Tm, bound, free, fun, meta, lam, app, tms_of, spine, head}
use Rattle.wh_step_laws.proofs.Candidates.{head-spine}
use Rattle.wh_order_path.specs.Heads.{arguments_of}
use Rattle.wh_order_trees.specs.declared.tree.Tree.{Tree, Meta, Sym, Mark, Lam, Apply}
use Rattle.wh_order_trees.specs.declared.tree.Tree.TheVariants.{Bound, Free, Meta', Sym', Mark', Lam', Apply'}
use Rattle.wh_order_trees.specs.Trees.{tree, row, trees, IsHeadTree}
use Rattle.wh_order_trees.specs.TreeParts.{World, Over, AllOver, HasArguments, item_at, IsArgument, body_in, IsBody, number_in, IsMeta, IsMetaApplication, IsOtherSpine, IsApplied, IsApplication}
use Rattle.wh_order_trees.proofs.TreeLemmas.{trees-length, tree_of_meta, tree_of_sym, tree_of_mark, tree_of_apply, over_of_meta, over_of_sym, over_of_mark, over_of_apply, all_get, arguments-spine, head-alone, arguments-alone}

-- arguments

pub has_sym : (t : Tree) (f : ℕ) (ts xs : List Tree) → t ≡ Sym f ts → xs ≡ ts → HasArguments t xs
has_sym t f ts xs e same n w o = (
  ap arguments_of (tree_of_sym n t f ts e) ∙ arguments-spine (fun f) (trees n ts) ∙ ap (trees n) (sym same),
  subst (AllOver n w) (sym same) (over_of_sym n w t f ts e o).2,
)

pub has_mark : (t : Tree) (f : ℕ) (ts xs : List Tree) → t ≡ Mark f ts → xs ≡ ts → HasArguments t xs
has_mark t f ts xs e same n w o = (
  ap arguments_of (tree_of_mark n t f ts e) ∙ arguments-spine (fun (n + f)) (trees n ts) ∙ ap (trees n) (sym same),
  subst (AllOver n w) (sym same) (over_of_mark n w t f ts e o).1,
)

pub has_apply : (t : Tree) (h : Box Tree Global) (ts xs : List Tree) → t ≡ Apply h ts → xs ≡ ts → HasArguments t xs
has_apply t h ts xs e same n w o =
    let p = over_of_apply n w t h ts e o in (
      ap arguments_of (tree_of_apply n t h ts e) ∙ arguments-spine (tree n h.value) (trees n ts)
          ∙ ap (λ (l : List Tm). l ++ trees n ts) (arguments-alone n h.value p.0) ∙ ap (trees n) (sym same),
      subst (AllOver n w) (sym same) p.3,
    )

-- the tree has no arguments behind it
abbrev pub IsBare : Tree → Type 0
IsBare (Sym' f shape all) = ⊥
IsBare (Mark' f shape all) = ⊥
IsBare (Apply' p t shape all) = ⊥
IsBare _ = Unit {0}

has_none : (t : Tree) → IsBare t → HasArguments t []
has_none (Bound i) b n w o = (refl, tt)
has_none (Free x a) b n w o = (refl, tt)
has_none (Meta' z a shape all) b n w o = (refl, tt)
has_none (Sym' f shape all) b n w o = absurd b
has_none (Mark' f shape all) b n w o = absurd b
has_none (Lam' a p t) b n w o = (refl, tt)
has_none (Apply' p t shape all) b n w o = absurd b

pub bare_has : (t : Tree) (xs : List Tree) → IsBare t → xs ≡ [] → HasArguments t xs
bare_has t xs b e = subst (HasArguments t) (sym e) (has_none t b)

read : (n : ℕ) (xs : List Tree) (k : ℕ) (u : Tree) → k < length xs → u ≡ get_or xs k u → slice_get (trees n xs) k ≡ Some (tree n u)
read n [] k u within e = absurd (omega arith)
read n (x ∷ xs) zero u within e = ap Some (ap (tree n) (sym e))
read n (x ∷ xs) (suc k) u within e = read n xs k u (omega arith) e

beyond : (n : ℕ) (xs : List Tree) (k : ℕ) → length xs ≤ k → slice_get (trees n xs) k ≡ None
beyond n [] k past = refl
beyond n (x ∷ xs) zero past = absurd (omega arith)
beyond n (x ∷ xs) (suc k) past = beyond n xs k (omega arith)

pub argument_is : (t : Tree) (xs : List Tree) (place : ℕ) (u : Tree) → HasArguments t xs → 0 < place → place ≤ length xs → u ≡ get_or xs (place - 1) u
    → (n : ℕ) (w : World) → Over n w t → (item_at (arguments_of (tree n t)) place ≡ Some (tree n u)) × Over n w u
argument_is t xs zero u has some within e n w o = absurd (omega arith)
argument_is t xs (suc k) u has some within given n w o =
    let e : u ≡ get_or xs k u = given ∙ ap (λ (i : ℕ). get_or xs i u) (omega arith) in (
      ap (λ (l : List Tm). slice_get l k) (has n w o).0 ∙ read n xs k u (omega arith) e,
      all_get n w xs k u (has n w o).1 (omega arith) e,
    )

pub no_place : (t : Tree) (place : ℕ) → place ≡ 0 → IsArgument t place None
no_place t zero e n w o = refl
no_place t (suc k) e n w o = absurd (omega (arith, e))

pub no_argument : (t : Tree) (xs : List Tree) (place : ℕ) → HasArguments t xs → length xs < place → IsArgument t place None
no_argument t xs zero has past n w o = absurd (omega arith)
no_argument t xs (suc k) has past n w o = ap (λ (l : List Tm). slice_get l k) (has n w o).0 ∙ beyond n xs k (omega arith)

-- bodies and variables

body-spine : (h : Tm) (ts : List Tm) → body_in h ≡ None → body_in (spine h ts) ≡ None
body-spine h [] e = e
body-spine h (t ∷ ts) e = body-spine (app h t) ts refl

body-some : (h : Tm) (ts : List Tm) → 0 < length ts → body_in (spine h ts) ≡ None
body-some h [] some = absurd (omega arith)
body-some h (t ∷ ts) some = body-spine (app h t) ts refl

pub no_body : (t : Tree) → ((a : SimpleType) (p : Box Tree Global) → t ≡ Lam a p → ⊥) → IsBody t None
no_body (Bound i) h n w o = refl
no_body (Free x a) h n w o = refl
no_body (Meta' z a shape all) h n w o = refl
no_body (Sym' f shape all) h n w o = body-spine (fun f) (row n all) refl
no_body (Mark' f shape all) h n w o = body-spine (fun (n + f)) (row n all) refl
no_body (Lam' a p t) h n w o = absurd (h a (record { ptr = p.ptr; alloc = p.alloc; value = t }) refl)
no_body (Apply' p t shape all) h n w o = body-some (tree n t) (row n all) o.1

pub a_body : (t : Tree) (a : SimpleType) (p : Box Tree Global) (x : Bor SimpleType) (y : Bor Tree) → t ≡ Lam a p → x.now ≡ a → y.now ≡ p.value
    → IsBody t (Some (x, y))
a_body t a p x y e ex ey n w o = (
  ap (tree n) e ∙ ap₂ (λ (b : SimpleType) (u : Tree). lam (ty b) (tree n u)) (sym ex) (sym ey),
  subst (Over n w) (sym ey) (subst (Over n w) e o),
)

number-spine : (h : Tm) (ts : List Tm) → number_in h ≡ None → number_in (spine h ts) ≡ None
number-spine h [] e = e
number-spine h (t ∷ ts) e = number-spine (app h t) ts refl

number-some : (h : Tm) (ts : List Tm) → 0 < length ts → number_in (spine h ts) ≡ None
number-some h [] some = absurd (omega arith)
number-some h (t ∷ ts) some = number-spine (app h t) ts refl

pub no_number : (t : Tree) → ((x : ℕ) (a : SimpleType) → t ≡ Free x a → ⊥) → (n : ℕ) (w : World) → Over n w t → number_in (tree n t) ≡ None
no_number (Bound i) h n w o = refl
no_number (Free x a) h n w o = absurd (h x a refl)
no_number (Meta' z a shape all) h n w o = refl
no_number (Sym' f shape all) h n w o = number-spine (fun f) (row n all) refl
no_number (Mark' f shape all) h n w o = number-spine (fun (n + f)) (row n all) refl
no_number (Lam' a p t) h n w o = refl
no_number (Apply' p t shape all) h n w o = number-some (tree n t) (row n all) o.1

pub a_number : (t : Tree) (x : ℕ) (a : SimpleType) → t ≡ Free x a → (n : ℕ) (w : World) → Over n w t → number_in (tree n t) ≡ Some x
a_number t x a e n w o = ap (λ (u : Tree). number_in (tree n u)) e

-- meta-variables

abbrev pub IsNoMeta : Tree → Type 0
IsNoMeta (Meta' z a shape all) = ⊥
IsNoMeta _ = Unit {0}

meta-spine : (h : Tm) (ts : List Tm) → IsMeta (spine h ts) → IsMeta h
meta-spine h [] m = m
meta-spine h (t ∷ ts) m = absurd (meta-spine (app h t) ts m)

meta-some : (h : Tm) (ts : List Tm) → 0 < length ts → IsMeta (spine h ts) → ⊥
meta-some h [] some m = absurd (omega arith)
meta-some h (t ∷ ts) some m = meta-spine (app h t) ts m

pub no_meta : (t : Tree) → IsNoMeta t → IsMetaApplication t None
no_meta (Bound i) h n w o m = m
no_meta (Free x a) h n w o m = m
no_meta (Meta' z a shape all) h n w o m = absurd h
no_meta (Sym' f shape all) h n w o m = meta-spine (fun f) (row n all) m
no_meta (Mark' f shape all) h n w o m = meta-spine (fun (n + f)) (row n all) m
no_meta (Lam' a p t) h n w o m = m
no_meta (Apply' p t shape all) h n w o m = meta-some (tree n t) (row n all) o.1 m

pub a_meta : (t : Tree) (z : ℕ) (a : SimpleType) (ts : List Tree) (xs : Bor (List Tree)) → t ≡ Meta z a ts → xs.now ≡ ts
    → IsMetaApplication t (Some (z, xs))
a_meta t z a ts xs e same n w o = (
  tree_of_meta n t z a ts e ∙ ap (λ (us : List Tree). meta z (tms_of (trees n us))) (sym same),
  subst (AllOver n w) (sym same) (over_of_meta n w t z a ts e o).1,
)

-- applications

abbrev pub IsNoApply : Tree → Type 0
IsNoApply (Apply' p t shape all) = ⊥
IsNoApply _ = Unit {0}

other_of : (u : Tm) → IsOtherSpine u → (f : ℕ) → head u ≡ fun f → ⊥
other_of (bound i) s f e = absurd s
other_of (free x a) s f e = absurd s
other_of (fun g) s f e = absurd s
other_of (meta z ts) s f e = absurd s
other_of (lam a t) s f e = absurd s
other_of (app t u) s f e = s f e

pub no_application : (t : Tree) → IsNoApply t → IsApplication t None
no_application (Bound i) h n w o m = m
no_application (Free x a) h n w o m = m
no_application (Meta' z a shape all) h n w o m = m
no_application (Sym' f shape all) h n w o m = other_of (spine (fun f) (row n all)) m f (head-spine (fun f) (row n all))
no_application (Mark' f shape all) h n w o m = other_of (spine (fun (n + f)) (row n all)) m (n + f) (head-spine (fun (n + f)) (row n all))
no_application (Lam' a p t) h n w o m = m
no_application (Apply' p t shape all) h n w o m = absurd h

spine_app : (h t : Tm) (ts : List Tm) → (u : Tm) × (v : Tm) × (spine h (t ∷ ts) ≡ app u v)
spine_app h t [] = (h, t, refl)
spine_app h t (u ∷ ts) = spine_app (app h t) u ts

pub some_app : (h : Tm) (ts : List Tm) → 0 < length ts → (u : Tm) × (v : Tm) × (spine h ts ≡ app u v)
some_app h [] some = absurd (omega arith)
some_app h (t ∷ ts) some = spine_app h t ts

head_others : (n : ℕ) (t : Tree) → IsHeadTree t → (f : ℕ) → tree n t ≡ fun f → ⊥
head_others n (Bound i) h f e = absurd (cc)
head_others n (Free x a) h f e = absurd (cc)
head_others n (Meta' z a shape all) h f e = absurd (cc)
head_others n (Sym' g shape all) h f e = absurd h
head_others n (Mark' g shape all) h f e = absurd h
head_others n (Lam' a p t) h f e = absurd (cc)
head_others n (Apply' p t shape all) h f e = absurd h

head_no_app : (n : ℕ) (t : Tree) → IsHeadTree t → (u v : Tm) → tree n t ≡ app u v → ⊥
head_no_app n (Bound i) h u v e = absurd (cc)
head_no_app n (Free x a) h u v e = absurd (cc)
head_no_app n (Meta' z a shape all) h u v e = absurd (cc)
head_no_app n (Sym' g shape all) h u v e = absurd h
head_no_app n (Mark' g shape all) h u v e = absurd h
head_no_app n (Lam' a p t) h u v e = absurd (cc)
head_no_app n (Apply' p t shape all) h u v e = absurd h

pub applied : (t : Tree) (h : Box Tree Global) (ts : List Tree) → t ≡ Apply h ts → (n : ℕ) (w : World) → Over n w t → IsApplied t h.value ts n w
applied t h ts e n w o =
    let p = over_of_apply n w t h ts e o in
    let (u, v, form) = some_app (tree n h.value) (trees n ts) (omega (arith, p.1, trees-length n ts)) in
    record {
      spine_of = (u, v, tree_of_apply n t h ts e ∙ form);
      head_of = ap head (tree_of_apply n t h ts e) ∙ head-spine (tree n h.value) (trees n ts) ∙ head-alone n h.value p.0;
      others = head_others n h.value p.0;
      alone = head_no_app n h.value p.0;
      items = (has_apply t h ts ts e refl n w o).0;
      head_over = p.2;
      items_over = p.3;
    }

pub an_application : (t : Tree) (h : Box Tree Global) (ts : List Tree) (x : Bor Tree) (xs : Bor (List Tree)) → t ≡ Apply h ts → x.now ≡ h.value → xs.now ≡ ts
    → IsApplication t (Some (x, xs))
an_application t h ts x xs e ex same n w o =
    subst (λ (us : List Tree). IsApplied t x.now us n w) (sym same) (subst (λ (u : Tree). IsApplied t u ts n w) (sym ex) (applied t h ts e n w o))

-- no symbol heads the tree
abbrev pub IsOtherTree : Tree → Type 0
IsOtherTree (Sym' f shape all) = ⊥
IsOtherTree (Mark' f shape all) = ⊥
IsOtherTree _ = Unit {0}

pub no_symbol : (n : ℕ) (t : Tree) → IsOtherTree t → (w : World) → Over n w t → (f : ℕ) → head (tree n t) ≡ fun f → ⊥
no_symbol n (Bound i) h w o f e = absurd (cc)
no_symbol n (Free x a) h w o f e = absurd (cc)
no_symbol n (Meta' z a shape all) h w o f e = absurd (cc)
no_symbol n (Sym' g shape all) h w o f e = absurd h
no_symbol n (Mark' g shape all) h w o f e = absurd h
no_symbol n (Lam' a p t) h w o f e = absurd (cc)
no_symbol n (Apply' p t shape all) h w o f e =
    head_others n t o.0 f (sym (head-alone n t o.0) ∙ sym (head-spine (tree n t) (row n all)) ∙ e)
