-- The walk that opens the body of an abstraction.
use Rattle.std.proofs.Common.{◌≡◌, ℕ, suc, ◌+◌, ◌-◌, ◌<◌, ◌≤◌, List, [], ◌∷◌, ◌++◌, length, map, take, get_or, Box, Global, refl, ap, ap₂, subst, sym, ◌∙◌, arith}
use Rattle.std.proofs.lemmas.List.{map-append}
use Rattle.wh_types.specs.declared.simple_type.SimpleType.{SimpleType}
use Rattle.wh_types.specs.Ty.{Ty}
use Rattle.wh_types.specs.Erase.{ty}
use Rattle.wh_terms.specs.Tree.{Tm, Tms, more, bound, free, fun, meta, lam, app, tms_of, spine}
use Rattle.wh_terms.specs.Substitution.{act, acts, cons, opened}
use Rattle.wh_terms.specs.Under.{ups, ups_free}
use Rattle.wh_terms.proofs.UnderLemmas.{ups_low, opened_here, opened_beyond, raised_free, ups_free_stays}
use Rattle.wh_terms.proofs.WalkLemmas.{act_at_lam}
use Rattle.wh_order_trees.specs.declared.tree.Tree.{Tree, Meta, Sym, Mark, Lam, Apply}
use Rattle.wh_order_trees.specs.Trees.{tree, trees, IsHeadTree, spine_type}
use Rattle.wh_order_trees.specs.TreeParts.{World, Over, AllOver}
use Rattle.wh_order_trees.proofs.TreeLemmas.{trees-length, tree_of_meta, tree_of_sym, tree_of_mark, tree_of_apply, over_of_meta, over_of_sym, over_of_mark, over_of_apply, meta_over, sym_over, mark_over, apply_over, all_get}
use Rattle.wh_order_trees.proofs.SameLemmas.{trees_take_next, take_past}

act-spine : (σ : ℕ → Tm) (φ : ℕ → Ty → Tm) (h : Tm) (ts : List Tm) → act σ φ (spine h ts) ≡ spine (act σ φ h) (map (act σ φ) ts)
unfolding act
act-spine σ φ h [] = refl
act-spine σ φ h (t ∷ ts) = act-spine σ φ (app h t) ts

acts-list : (σ : ℕ → Tm) (φ : ℕ → Ty → Tm) (ts : List Tm) → acts σ φ (tms_of ts) ≡ tms_of (map (act σ φ) ts)
unfolding acts
acts-list σ φ [] = refl
acts-list σ φ (t ∷ ts) = ap (more (act σ φ t)) (acts-list σ φ ts)

-- the walk with the variable x of type a, below k binders
abbrev pub opens : ℕ → Ty → ℕ → Tm → Tm
opens x a k = act (ups k (cons (free x a) bound)) (ups_free k free)

opens-fun : (x : ℕ) (a : Ty) (k f : ℕ) → opens x a k (fun f) ≡ fun f
unfolding act
opens-fun x a k f = refl

opens-meta : (x : ℕ) (a : Ty) (k z : ℕ) (ts : Tms) → opens x a k (meta z ts) ≡ meta z (acts (ups k (cons (free x a) bound)) (ups_free k free) ts)
unfolding act
opens-meta x a k z ts = refl

opens-free : (x : ℕ) (a : Ty) (k y : ℕ) (b : Ty) → opens x a k (free y b) ≡ free y b
unfolding act
opens-free x a k y b = ups_free_stays k y b

opens-bound : (x : ℕ) (a : Ty) (k i : ℕ) → opens x a k (bound i) ≡ ups k (cons (free x a) bound) i
unfolding act
opens-bound x a k i = refl

pub opens_top : (x : ℕ) (a : Ty) (t : Tm) → opens x a 0 t ≡ opened (free x a) t
unfolding ups ups_free opened
opens_top x a t = refl

-- the tree r of the program is t, opened
abbrev pub Opens : ℕ → Ty → ℕ → Tree → Tree → Type 0
Opens x a k t r = (n : ℕ) → tree n r ≡ opens x a k (tree n t)

abbrev pub KeepsOver : Tree → Tree → Type 0
KeepsOver t r = (n : ℕ) (w : World) → Over n w t → Over n w r

abbrev pub OpensAll : ℕ → Ty → ℕ → List Tree → List Tree → Type 0
OpensAll x a k ts rs = (n : ℕ) → trees n rs ≡ map (opens x a k) (trees n ts)

abbrev pub KeepsAllOver : List Tree → List Tree → Type 0
KeepsAllOver ts rs = (n : ℕ) (w : World) → AllOver n w ts → AllOver n w rs

same_count : (x : ℕ) (a : Ty) (k : ℕ) (ts rs : List Tree) → OpensAll x a k ts rs → length ts ≡ length rs
same_count x a k ts rs h =
    sym (trees-length 0 ts) ∙ sym (count (trees 0 ts)) ∙ sym (ap length (h 0)) ∙ trees-length 0 rs
  where
    count : (us : List Tm) → length (map (opens x a k) us) ≡ length us
    count [] = refl
    count (u ∷ us) = ap suc (count us)

-- variables

pub low_variable : (x : ℕ) (a : Ty) (k i : ℕ) → i < k → bound i ≡ ups k (cons (free x a) bound) i
low_variable x a k i low = sym (ups_low k (cons (free x a) bound) i low)

pub this_variable : (x : ℕ) (a b : Ty) (k i : ℕ) → i ≡ k → b ≡ a → free x b ≡ ups k (cons (free x a) bound) i
this_variable x a b k i here same =
    ap (free x) same ∙ sym (opened_here k (free x a) ∙ raised_free k x a) ∙ ap (ups k (cons (free x a) bound)) (sym here)

pub beyond_variable : (x : ℕ) (a : Ty) (k i : ℕ) → k < i → bound (i - 1) ≡ ups k (cons (free x a) bound) i
beyond_variable x a k i high = sym (opened_beyond k (free x a) i high)

pub variable_opens : (x : ℕ) (a : Ty) (k : ℕ) (t r : Tree) (i : ℕ) → ((n : ℕ) → tree n t ≡ bound i) → ((n : ℕ) → tree n r ≡ ups k (cons (free x a) bound) i) → Opens x a k t r
variable_opens x a k t r i is opened n = opened n ∙ sym (opens-bound x a k i) ∙ ap (opens x a k) (sym (is n))

pub free_opens : (x : ℕ) (a : Ty) (k : ℕ) (t r : Tree) (y : ℕ) (b c : Ty) → ((n : ℕ) → tree n t ≡ free y b) → ((n : ℕ) → tree n r ≡ free y c) → c ≡ b → Opens x a k t r
free_opens x a k t r y b c is made same n = made n ∙ ap (free y) same ∙ sym (opens-free x a k y b) ∙ ap (opens x a k) (sym (is n))

-- trees with arguments

pub meta_opens : (x : ℕ) (a : Ty) (k : ℕ) (t : Tree) (z : ℕ) (b c : SimpleType) (ts rs : List Tree) → t ≡ Meta z b ts → OpensAll x a k ts rs → Opens x a k t (Meta z c rs)
meta_opens x a k t z b c ts rs e h n =
    tree_of_meta n (Meta z c rs) z c rs refl ∙ ap (λ (us : List Tm). meta z (tms_of us)) (h n)
    ∙ ap (meta z) (sym (acts-list (ups k (cons (free x a) bound)) (ups_free k free) (trees n ts)))
    ∙ sym (opens-meta x a k z (tms_of (trees n ts))) ∙ ap (opens x a k) (sym (tree_of_meta n t z b ts e))

pub meta_keeps : (t : Tree) (z : ℕ) (b c : SimpleType) (ts rs : List Tree) → t ≡ Meta z b ts → ty c ≡ ty b → KeepsAllOver ts rs → KeepsOver t (Meta z c rs)
meta_keeps t z b c ts rs e same h n w o =
    let p = over_of_meta n w t z b ts e o in meta_over n w z c rs (p.0 ∙ sym same) (h n w p.1)

pub sym_opens : (x : ℕ) (a : Ty) (k : ℕ) (t : Tree) (f : ℕ) (ts rs : List Tree) → t ≡ Sym f ts → OpensAll x a k ts rs → Opens x a k t (Sym f rs)
sym_opens x a k t f ts rs e h n =
    tree_of_sym n (Sym f rs) f rs refl ∙ ap (spine (fun f)) (h n) ∙ ap (λ (u : Tm). spine u (map (opens x a k) (trees n ts))) (sym (opens-fun x a k f))
    ∙ sym (act-spine (ups k (cons (free x a) bound)) (ups_free k free) (fun f) (trees n ts)) ∙ ap (opens x a k) (sym (tree_of_sym n t f ts e))

pub sym_keeps : (x : ℕ) (a : Ty) (k : ℕ) (t : Tree) (f : ℕ) (ts rs : List Tree) → t ≡ Sym f ts → OpensAll x a k ts rs → KeepsAllOver ts rs → KeepsOver t (Sym f rs)
sym_keeps x a k t f ts rs e count h n w o =
    let p = over_of_sym n w t f ts e o in
    sym_over n w f rs p.0 (ap (spine_type _) (sym (same_count x a k ts rs count)) ∙ p.1) (h n w p.2)

pub mark_opens : (x : ℕ) (a : Ty) (k : ℕ) (t : Tree) (f : ℕ) (ts rs : List Tree) → t ≡ Mark f ts → OpensAll x a k ts rs → Opens x a k t (Mark f rs)
mark_opens x a k t f ts rs e h n =
    tree_of_mark n (Mark f rs) f rs refl ∙ ap (spine (fun (n + f))) (h n) ∙ ap (λ (u : Tm). spine u (map (opens x a k) (trees n ts))) (sym (opens-fun x a k (n + f)))
    ∙ sym (act-spine (ups k (cons (free x a) bound)) (ups_free k free) (fun (n + f)) (trees n ts)) ∙ ap (opens x a k) (sym (tree_of_mark n t f ts e))

pub mark_keeps : (x : ℕ) (a : Ty) (k : ℕ) (t : Tree) (f : ℕ) (ts rs : List Tree) → t ≡ Mark f ts → OpensAll x a k ts rs → KeepsAllOver ts rs → KeepsOver t (Mark f rs)
mark_keeps x a k t f ts rs e count h n w o =
    let p = over_of_mark n w t f ts e o in
    mark_over n w f rs (ap (spine_type _) (sym (same_count x a k ts rs count)) ∙ p.0) (h n w p.1)

pub lam_opens : (x : ℕ) (a : Ty) (k : ℕ) (t : Tree) (b c : SimpleType) (p q : Box Tree Global) → t ≡ Lam b p → ty c ≡ ty b → Opens x a (k + 1) p.value q.value → Opens x a k t (Lam c q)
lam_opens x a k t b c p q e same h n =
    ap₂ lam same (h n) ∙ sym (act_at_lam (cons (free x a) bound) free k (ty b) (tree n p.value)) ∙ ap (λ (u : Tree). opens x a k (tree n u)) (sym e)

pub lam_keeps : (t : Tree) (b c : SimpleType) (p q : Box Tree Global) → t ≡ Lam b p → KeepsOver p.value q.value → KeepsOver t (Lam c q)
lam_keeps t b c p q e h n w o = h n w (subst (Over n w) e o)

pub apply_opens : (x : ℕ) (a : Ty) (k : ℕ) (t : Tree) (p q : Box Tree Global) (ts rs : List Tree) → t ≡ Apply p ts → Opens x a k p.value q.value → OpensAll x a k ts rs → Opens x a k t (Apply q rs)
apply_opens x a k t p q ts rs e head h n =
    tree_of_apply n (Apply q rs) q rs refl ∙ ap₂ spine (head n) (h n)
    ∙ sym (act-spine (ups k (cons (free x a) bound)) (ups_free k free) (tree n p.value) (trees n ts)) ∙ ap (opens x a k) (sym (tree_of_apply n t p ts e))

pub apply_keeps : (x : ℕ) (a : Ty) (k : ℕ) (t : Tree) (p q : Box Tree Global) (ts rs : List Tree) → t ≡ Apply p ts → OpensAll x a k ts rs → (IsHeadTree p.value → IsHeadTree q.value) → KeepsOver p.value q.value → KeepsAllOver ts rs → KeepsOver t (Apply q rs)
apply_keeps x a k t p q ts rs e count form head h n w o =
    let l = over_of_apply n w t p ts e o in
    apply_over n w q rs (form l.0) (omega (arith, l.1, same_count x a k ts rs count)) (head n w l.2) (h n w l.3)

-- a tree with arguments stands at no head
pub no_head_sym : {A : Type 0} (t : Tree) (f : ℕ) (ts : List Tree) → t ≡ Sym f ts → IsHeadTree t → A
no_head_sym t f ts e h = absurd (subst IsHeadTree e h)

pub no_head_mark : {A : Type 0} (t : Tree) (f : ℕ) (ts : List Tree) → t ≡ Mark f ts → IsHeadTree t → A
no_head_mark t f ts e h = absurd (subst IsHeadTree e h)

pub no_head_apply : {A : Type 0} (t : Tree) (p : Box Tree Global) (ts : List Tree) → t ≡ Apply p ts → IsHeadTree t → A
no_head_apply t p ts e h = absurd (subst IsHeadTree e h)

-- lists

pub opens_none : (x : ℕ) (a : Ty) (k : ℕ) (ts rs : List Tree) → rs ≡ [] → OpensAll x a k (take 0 ts) rs
opens_none x a k ts rs e n = ap (trees n) e

pub opens_next : (x : ℕ) (a : Ty) (k : ℕ) (ts old new : List Tree) (i : ℕ) (t r : Tree) → OpensAll x a k (take i ts) old → new ≡ old ++ r ∷ [] → Opens x a k t r → i < length ts → t ≡ get_or ts i t
    → OpensAll x a k (take (i + 1) ts) new
opens_next x a k ts old new i t r before pushed opened within e n =
    ap (trees n) pushed ∙ map-append (tree n) old (r ∷ []) ∙ ap₂ (λ (l : List Tm) (u : Tm). l ++ u ∷ []) (before n) (opened n)
    ∙ sym (map-append (opens x a k) (trees n (take i ts)) (tree n t ∷ [])) ∙ ap (map (opens x a k)) (sym (trees_take_next n ts i t within e))

all_append : (n : ℕ) (w : World) (ts us : List Tree) → AllOver n w ts → AllOver n w us → AllOver n w (ts ++ us)
all_append n w [] us p q = q
all_append n w (t ∷ ts) us p q = (p.0, all_append n w ts us p.1 q)

-- as long as all trees of the whole list are over something, those so far are too
abbrev pub KeepsSoFar : List Tree → List Tree → Type 0
KeepsSoFar ts rs = (n : ℕ) (w : World) → AllOver n w ts → AllOver n w rs

pub keeps_next : (ts old new : List Tree) (i : ℕ) (t r : Tree) → KeepsSoFar ts old → new ≡ old ++ r ∷ [] → KeepsOver t r → i < length ts → t ≡ get_or ts i t → KeepsSoFar ts new
keeps_next ts old new i t r before pushed opened within e n w o =
    subst (AllOver n w) (sym pushed) (all_append n w old (r ∷ []) (before n w o) (opened n w (all_get n w ts i t o within e), tt))

pub opens_all : (x : ℕ) (a : Ty) (k : ℕ) (ts rs : List Tree) (i : ℕ) → OpensAll x a k (take i ts) rs → length ts ≤ i → OpensAll x a k ts rs
opens_all x a k ts rs i h past n = h n ∙ ap (λ (l : List Tree). map (opens x a k) (trees n l)) (take_past ts i past)
