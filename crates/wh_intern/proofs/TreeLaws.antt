-- Laws of the trees that nodes stand for.
use Rattle.std.proofs.Common.{ℕ, zero, suc, ◌≡◌, ◌+◌, ◌<◌, List, [], ◌∷◌, ◌++◌, length, Contains, Some, slice_get, refl, sym, ap, ap₂, ◌∙◌, subst, arith}
use Rattle.std.proofs.lemmas.List.{length-append, get_or_append_left, get_or_at}
use Rattle.std.proofs.lemmas.List.Elements.{Contains-append_right}
use Rattle.std.proofs.lemmas.Option.{same_Some, none-some}
use Rattle.wh_terms.specs.Tree.{Tm, Tms, none, more}
use Rattle.wh_terms.specs.Tree as t
use Rattle.wh_intern.specs.Parts.{PartTree, bound, free, fun, meta, lam, app}
use Rattle.wh_intern.specs.Trees.{tree_at, trees_at, tree_of, numbers, Below, grown, AreFounded}

pub grown_append : (ts : List Tm) (ps qs : List PartTree) → grown ts (ps ++ qs) ≡ grown (grown ts ps) qs
grown_append ts [] qs = refl
grown_append ts (p ∷ ps) qs = grown_append (ts ++ tree_of ts p ∷ []) ps qs

pub grown_length : (ts : List Tm) (ps : List PartTree) → length (grown ts ps) ≡ length ts + length ps
grown_length ts [] = omega arith
grown_length ts (p ∷ ps) =
    omega (arith, grown_length (ts ++ tree_of ts p ∷ []) ps, length-append ts (tree_of ts p ∷ []))

pub grown_keeps : (ts : List Tm) (ps : List PartTree) (n : ℕ) → n < length ts → tree_at (grown ts ps) n ≡ tree_at ts n
grown_keeps ts [] n h = refl
grown_keeps ts (p ∷ ps) n h =
    grown_keeps (ts ++ tree_of ts p ∷ []) ps n (omega (arith, h, length-append ts (tree_of ts p ∷ [])))
    ∙ get_or_append_left ts (tree_of ts p ∷ []) (t.bound 0) n h

trees_at_same : (ts us : List Tm) (ns : List ℕ) → ((n : ℕ) → Contains ns n → tree_at ts n ≡ tree_at us n) → trees_at ts ns ≡ trees_at us ns
trees_at_same ts us [] h = refl
trees_at_same ts us (n ∷ ns) h =
    ap₂ more (h n (zero, omega arith, refl)) (trees_at_same ts us ns (λ m c. h m (Contains-append_right (n ∷ []) ns m c)))

-- a node says the same over lists that agree at its parts
pub tree_of_same : (ts us : List Tm) (p : PartTree) → ((n : ℕ) → Contains (numbers p) n → tree_at ts n ≡ tree_at us n) → tree_of ts p ≡ tree_of us p
tree_of_same ts us (bound i) h = refl
tree_of_same ts us (free x a) h = refl
tree_of_same ts us (fun f) h = refl
tree_of_same ts us (meta z ns) h = ap (t.meta z) (trees_at_same ts us ns h)
tree_of_same ts us (lam a n) h = ap (t.lam a) (h n (zero, omega arith, refl))
tree_of_same ts us (app m n) h =
    ap₂ t.app (h m (zero, omega arith, refl)) (h n (Contains-append_right (m ∷ []) (n ∷ []) n (zero, omega arith, refl)))

founded_tree : (ts : List Tm) (ps : List PartTree) → ((k : ℕ) (p : PartTree) → slice_get ps k ≡ Some p → Below (length ts + k) p)
    → (k : ℕ) (p : PartTree) → slice_get ps k ≡ Some p → tree_at (grown ts ps) (length ts + k) ≡ tree_of (grown ts ps) p
founded_tree ts [] f k p e = absurd (none-some p e)
founded_tree ts (q ∷ qs) f zero p e =
    let us = ts ++ tree_of ts q ∷ [] in
    let within : length ts < length us = omega (arith, length-append ts (tree_of ts q ∷ [])) in
    let keeps : (n : ℕ) → Contains (numbers q) n → tree_at (grown us qs) n ≡ tree_at ts n =
    λ n c. (let low : n < length ts = omega (arith, f zero q refl n c) in
    grown_keeps us qs n (omega (arith, low, within)) ∙ get_or_append_left ts (tree_of ts q ∷ []) (t.bound 0) n low) in
    subst (λ n. tree_at (grown us qs) n ≡ tree_of (grown us qs) p) (omega arith)
    (grown_keeps us qs (length ts) within ∙ get_or_at ts (tree_of ts q) [] (t.bound 0) (length ts) refl
    ∙ sym (tree_of_same (grown us qs) ts q keeps) ∙ ap (tree_of (grown us qs)) (same_Some q p e))
founded_tree ts (q ∷ qs) f (suc k) p e =
    let us = ts ++ tree_of ts q ∷ [] in
    let longer : length us ≡ length ts + 1 = length-append ts (tree_of ts q ∷ []) in
    subst (λ n. tree_at (grown us qs) n ≡ tree_of (grown us qs) p) (omega (arith, longer))
    (founded_tree us qs (λ j r g n c. omega (arith, longer, f (suc j) r g n c)) k p e)

-- the tree at the number of a node is that of the node
pub node_tree : (ps : List PartTree) → AreFounded ps → (k : ℕ) (p : PartTree) → slice_get ps k ≡ Some p
    → tree_at (grown [] ps) k ≡ tree_of (grown [] ps) p
node_tree ps f k p e =
    subst (λ n. tree_at (grown [] ps) n ≡ tree_of (grown [] ps) p) (omega arith)
    (founded_tree [] ps (λ j r g n c. omega (arith, f j r g n c)) k p e)

-- what a node is whose tree is given

pub bound_node : (ts : List Tm) (p : PartTree) (i : ℕ) → tree_of ts p ≡ t.bound i → p ≡ bound i
bound_node ts (bound j) i e = cc
bound_node ts (free x a) i e = absurd (cc)
bound_node ts (fun f) i e = absurd (cc)
bound_node ts (meta z ns) i e = absurd (cc)
bound_node ts (lam a n) i e = absurd (cc)
bound_node ts (app m n) i e = absurd (cc)

pub free_node : (ts : List Tm) (p : PartTree) (y : ℕ) (b : _) → tree_of ts p ≡ t.free y b → p ≡ free y b
free_node ts (bound j) y b e = absurd (cc)
free_node ts (free x a) y b e = cc
free_node ts (fun f) y b e = absurd (cc)
free_node ts (meta z ns) y b e = absurd (cc)
free_node ts (lam a n) y b e = absurd (cc)
free_node ts (app m n) y b e = absurd (cc)

pub fun_node : (ts : List Tm) (p : PartTree) (g : ℕ) → tree_of ts p ≡ t.fun g → p ≡ fun g
fun_node ts (bound j) g e = absurd (cc)
fun_node ts (free x a) g e = absurd (cc)
fun_node ts (fun f) g e = cc
fun_node ts (meta z ns) g e = absurd (cc)
fun_node ts (lam a n) g e = absurd (cc)
fun_node ts (app m n) g e = absurd (cc)

pub meta_node : (ts : List Tm) (p : PartTree) (y : ℕ) (us : Tms) → tree_of ts p ≡ t.meta y us
    → (ns : List ℕ) × (p ≡ meta y ns) × (trees_at ts ns ≡ us)
meta_node ts (bound j) y us e = absurd (cc)
meta_node ts (free x a) y us e = absurd (cc)
meta_node ts (fun f) y us e = absurd (cc)
meta_node ts (meta z ns) y us e = (ns, cc, cc)
meta_node ts (lam a n) y us e = absurd (cc)
meta_node ts (app m n) y us e = absurd (cc)

pub lam_node : (ts : List Tm) (p : PartTree) (b : _) (u : Tm) → tree_of ts p ≡ t.lam b u → (n : ℕ) × (p ≡ lam b n) × (tree_at ts n ≡ u)
lam_node ts (bound j) b u e = absurd (cc)
lam_node ts (free x a) b u e = absurd (cc)
lam_node ts (fun f) b u e = absurd (cc)
lam_node ts (meta z ns) b u e = absurd (cc)
lam_node ts (lam a n) b u e = (n, cc, cc)
lam_node ts (app m n) b u e = absurd (cc)

pub app_node : (ts : List Tm) (p : PartTree) (u v : Tm) → tree_of ts p ≡ t.app u v
    → (m : ℕ) × (n : ℕ) × (p ≡ app m n) × (tree_at ts m ≡ u) × (tree_at ts n ≡ v)
app_node ts (bound j) u v e = absurd (cc)
app_node ts (free x a) u v e = absurd (cc)
app_node ts (fun f) u v e = absurd (cc)
app_node ts (meta z ns) u v e = absurd (cc)
app_node ts (lam a n) u v e = absurd (cc)
app_node ts (app m n) u v e = (m, n, cc, cc, cc)

-- no node stands at two numbers
abbrev pub AreApart : List PartTree → Type 0
AreApart ps = (i j : ℕ) (p : PartTree) → slice_get ps i ≡ Some p → slice_get ps j ≡ Some p → i ≡ j
