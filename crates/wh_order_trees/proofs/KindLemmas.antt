-- The types of trees.
use Rattle.std.proofs.Common.{◌≡◌, ℕ, zero, suc, ◌+◌, ◌-◌, ◌<◌, ◌≤◌, List, [], ◌∷◌, ◌++◌, length, map, get_or, Bool, IsTrue, ◌↔◌, Box, Global, refl, ap, ap₂, subst, sym, ◌∙◌, arith}
use Rattle.std.proofs.lemmas.List.{reverse-append, length-append}
use Rattle.std.specs.Borrow.{Bor}
use Rattle.wh_types.specs.declared.simple_type.SimpleType.{SimpleType}
use Rattle.wh_types.specs.Ty.{Ty, sort, ◌⇒◌}
use Rattle.wh_types.specs.Erase.{ty}
use Rattle.wh_terms.specs.Tree.{Tm, fun, app, spine}
use Rattle.wh_terms.specs.Typing.{Symbols, Declared}
use Rattle.wh_terms.specs.Scope.{scope}
use Rattle.wh_order_extended.specs.Kinds.{type_at, kind}
use Rattle.wh_order_trees.specs.declared.tree.Tree.{Tree, Meta, Sym, Mark, Lam, Apply}
use Rattle.wh_order_trees.specs.Trees.{tree, trees, spine_type}
use Rattle.wh_order_trees.specs.TreeParts.{World, Over}
use Rattle.wh_order_trees.proofs.TreeLemmas.{trees-length, tree_of_meta, tree_of_sym, tree_of_mark, tree_of_apply, over_of_meta, over_of_sym, over_of_mark, over_of_apply}

pub kind-spine : (S : Symbols) (M : List Declared) (Γ : List Ty) (h : Tm) (ts : List Tm) → kind S M Γ (spine h ts) ≡ spine_type (kind S M Γ h) (length ts)
kind-spine S M Γ h [] = refl
kind-spine S M Γ h (t ∷ ts) = kind-spine S M Γ (app h t) ts

-- the types of a tree, below binders of the types
abbrev pub HasKind : List Ty → Tree → Ty → Type 0
HasKind Γ t a = (n : ℕ) (w : World) → Over n w t → a ≡ kind w.symbols w.metas Γ (tree n t)

pub meta_kind : (Γ : List Ty) (t : Tree) (z : ℕ) (k : SimpleType) (ts : List Tree) (a : Ty) → t ≡ Meta z k ts → a ≡ ty k → HasKind Γ t a
meta_kind Γ t z k ts a e is n w o = is ∙ sym (over_of_meta n w t z k ts e o).0 ∙ ap (kind w.symbols w.metas Γ) (sym (tree_of_meta n t z k ts e))

pub sym_kind : (Γ : List Ty) (t : Tree) (f : ℕ) (ts : List Tree) → t ≡ Sym f ts → HasKind Γ t (sort 0)
sym_kind Γ t f ts e n w o =
    sym (over_of_sym n w t f ts e o).1 ∙ ap (spine_type (type_at w.symbols.funs f)) (sym (trees-length n ts))
    ∙ sym (kind-spine w.symbols w.metas Γ (fun f) (trees n ts)) ∙ ap (kind w.symbols w.metas Γ) (sym (tree_of_sym n t f ts e))

pub mark_kind : (Γ : List Ty) (t : Tree) (f : ℕ) (ts : List Tree) → t ≡ Mark f ts → HasKind Γ t (sort 0)
mark_kind Γ t f ts e n w o =
    sym (over_of_mark n w t f ts e o).0 ∙ ap (spine_type (type_at w.symbols.funs (n + f))) (sym (trees-length n ts))
    ∙ sym (kind-spine w.symbols w.metas Γ (fun (n + f)) (trees n ts)) ∙ ap (kind w.symbols w.metas Γ) (sym (tree_of_mark n t f ts e))

pub lam_kind : (Γ Δ : List Ty) (t : Tree) (k : SimpleType) (p : Box Tree Global) (a b : Ty) → t ≡ Lam k p → Δ ≡ ty k ∷ Γ → a ≡ ty k → HasKind Δ p.value b → HasKind Γ t (a ⇒ b)
lam_kind Γ Δ t k p a b e scope is h n w o =
    ap₂ (λ (c d : Ty). c ⇒ d) is (h n w (subst (Over n w) e o) ∙ ap (λ (Θ : List Ty). kind w.symbols w.metas Θ (tree n p.value)) scope)
    ∙ ap (λ (u : Tree). kind w.symbols w.metas Γ (tree n u)) (sym e)

pub apply_kind : (Γ : List Ty) (t : Tree) (h : Box Tree Global) (ts xs : List Tree) (a b : Ty) → t ≡ Apply h ts → xs ≡ ts → HasKind Γ h.value a → b ≡ spine_type a (length xs) → HasKind Γ t b
apply_kind Γ t h ts xs a b e list k is n w o =
    let p = over_of_apply n w t h ts e o in
    is ∙ ap₂ spine_type (k n w p.2) (ap length list ∙ sym (trees-length n ts))
    ∙ sym (kind-spine w.symbols w.metas Γ (tree n h.value) (trees n ts)) ∙ ap (kind w.symbols w.metas Γ) (sym (tree_of_apply n t h ts e))

pub sort_behind : (s k : ℕ) → spine_type (sort s) k ≡ sort s
sort_behind s zero = refl
sort_behind s (suc k) = sort_behind s k

pub arrow_behind : (k : ℕ) (a b : Ty) → 0 < k → spine_type (a ⇒ b) k ≡ spine_type b (k - 1)
arrow_behind zero a b some = absurd (omega arith)
arrow_behind (suc k) a b some =
    let less : k ≡ suc k - 1 = omega arith in
    ap (spine_type b) less

-- the types of binders by their numbers

pub type_past : (Γ : List Ty) (i : ℕ) → length Γ ≤ i → type_at Γ i ≡ sort 0
type_past [] i past = refl
type_past (a ∷ Γ) zero past = absurd (omega arith)
type_past (a ∷ Γ) (suc i) past = type_past Γ i (omega arith)

pub type_read : (Γ : List Ty) (i : ℕ) (d : Ty) → i < length Γ → type_at Γ i ≡ get_or Γ i d
type_read [] i d within = absurd (omega arith)
type_read (a ∷ Γ) zero d within = refl
type_read (a ∷ Γ) (suc i) d within = type_read Γ i d (omega arith)

type_front : (Γ Δ : List Ty) (i : ℕ) → i < length Γ → type_at (Γ ++ Δ) i ≡ type_at Γ i
type_front [] Δ i within = absurd (omega arith)
type_front (a ∷ Γ) Δ zero within = refl
type_front (a ∷ Γ) Δ (suc i) within = type_front Γ Δ i (omega arith)

type_last : (Γ : List Ty) (a : Ty) (i : ℕ) → i ≡ length Γ → type_at (Γ ++ a ∷ []) i ≡ a
type_last [] a zero e = refl
type_last [] a (suc i) e = absurd (omega (arith, e))
type_last (b ∷ Γ) a zero e = absurd (omega (arith, e))
type_last (b ∷ Γ) a (suc i) e = type_last Γ a i (omega (arith, e))

scope_cons : (k : Bor SimpleType) (bs : List (Bor SimpleType)) → scope (k ∷ bs) ≡ scope bs ++ ty k.now ∷ []
scope_cons k bs = reverse-append (ty k.now ∷ []) (map (λ (r : Bor SimpleType). ty r.now) bs)

scope_length : (bs : List (Bor SimpleType)) → length (scope bs) ≡ length bs
scope_length [] = refl
scope_length (k ∷ bs) = ap length (scope_cons k bs) ∙ omega (arith, length-append (scope bs) (ty k.now ∷ []), scope_length bs)

pub binder_past : (bs : List (Bor SimpleType)) (i : ℕ) → length bs ≤ i → sort 0 ≡ type_at (scope bs) i
binder_past bs i past = sym (type_past (scope bs) i (omega (arith, past, scope_length bs)))

read_scope : (bs : List (Bor SimpleType)) (i j : ℕ) (k : Bor SimpleType) → i + j + 1 ≡ length bs → k ≡ get_or bs j k → ty k.now ≡ type_at (scope bs) i
read_scope [] i j k sum e = absurd (omega (arith, sum))
read_scope (b ∷ bs) i zero k sum e =
    ap (λ (r : Bor SimpleType). ty r.now) e ∙ sym (ap (λ (Γ : List Ty). type_at Γ i) (scope_cons b bs) ∙ type_last (scope bs) (ty b.now) i (omega (arith, sum, scope_length bs)))
read_scope (b ∷ bs) i (suc j) k sum e =
    read_scope bs i j k (omega (arith, sum)) e ∙ sym (ap (λ (Γ : List Ty). type_at Γ i) (scope_cons b bs) ∙ type_front (scope bs) (ty b.now ∷ []) i (omega (arith, sum, scope_length bs)))

pub binder_read : (bs : List (Bor SimpleType)) (i : ℕ) (k : Bor SimpleType) → i < length bs → k ≡ get_or bs (length bs - 1 - i) k → ty k.now ≡ type_at (scope bs) i
binder_read bs i k within e = read_scope bs i (length bs - 1 - i) k (omega (arith, within)) e

-- a test of two types is one of two others that are the same
pub decided_types : (c : Bool) (a b x y : Ty) → a ≡ x → b ≡ y → (IsTrue c ↔ (a ≡ b)) → IsTrue c ↔ (x ≡ y)
decided_types c a b x y e f decides = (λ so. sym e ∙ decides.0 so ∙ f, λ k. decides.1 (e ∙ k ∙ sym f))
