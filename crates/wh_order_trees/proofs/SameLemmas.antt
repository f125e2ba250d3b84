-- When two trees stand for the same tree.
use Rattle.std.proofs.Common.{◌≡◌, ℕ, zero, suc, ◌+◌, ◌<◌, ◌≤◌, List, [], ◌∷◌, ◌++◌, length, take, get_or, Bool, true, false, IsTrue, ◌↔◌, Some, None, Box, Global, refl, ap, ap₂, subst, sym, ◌∙◌, add-one, arith}
use Rattle.std.proofs.Math.Seq.{take-suc}
use Rattle.std.proofs.lemmas.List.{map-append}
use Rattle.std.specs.Borrow.{Bor}
use Rattle.wh_types.specs.declared.simple_type.SimpleType.{SimpleType}
use Rattle.wh_types.specs.Ty.{Ty}
use Rattle.wh_types.specs.Erase.{ty}
use Rattle.wh_terms.specs.Tree.{Tm, bound, free, fun, meta, lam, app, Tms, tms_of, spine, head}
use Rattle.wh_step_laws.proofs.Candidates.{head-spine}
use Rattle.wh_order_path.specs.Heads.{arguments_of, list_of}
use Rattle.wh_order_path.proofs.AskedTasks.{spine_whole}
use Rattle.wh_order_trees.specs.declared.tree.Tree.{Tree, Meta, Sym, Mark, Lam, Apply}
use Rattle.wh_order_trees.specs.declared.tree.Tree.TheVariants.{Bound, Free, Meta', Sym', Mark', Lam', Apply'}
use Rattle.wh_order_trees.specs.Trees.{tree, row, trees}
use Rattle.wh_order_trees.specs.TreeParts.{World, Over, AllOver, HasArguments, body_in, IsBody, IsMeta, IsMetaApplication, IsOtherSpine, IsApplication}
use Rattle.wh_order_trees.proofs.TreeLemmas.{tree_of_meta, tree_of_sym, tree_of_mark, over_of_meta, over_of_sym, all_get}
use Rattle.wh_order_trees.proofs.PartLemmas.{applied, some_app}
use Rattle.wh_order_path.proofs.SameTreeLaws.{some_none}

pub never : {P : Type 0} → (P → ⊥) → IsTrue false ↔ P
never refuted = (λ e. absurd (cc), λ p. absurd (refuted p))

-- a test that decides whether two trees are the same
abbrev pub Decided : Tree → Tree → Bool → Type 0
Decided a b r = (n : ℕ) (w : World) → Over n w a → Over n w b → IsTrue r ↔ (tree n a ≡ tree n b)

abbrev pub AllDecided : List Tree → List Tree → Bool → Type 0
AllDecided ss bs r = (n : ℕ) (w : World) → AllOver n w ss → AllOver n w bs → IsTrue r ↔ (trees n ss ≡ trees n bs)

-- variables

bound-spine : (k f : ℕ) (ts : List Tm) → bound k ≡ spine (fun f) ts → ⊥
bound-spine k f ts e = absurd (refuted (ap head e ∙ head-spine (fun f) ts))
  where
    refuted : bound k ≡ fun f → ⊥
    refuted e = cc

free-spine : (x : ℕ) (a : Ty) (f : ℕ) (ts : List Tm) → free x a ≡ spine (fun f) ts → ⊥
free-spine x a f ts e = absurd (refuted (ap head e ∙ head-spine (fun f) ts))
  where
    refuted : free x a ≡ fun f → ⊥
    refuted e = cc

bound-some : (k : ℕ) (h : Tm) (ts : List Tm) → 0 < length ts → bound k ≡ spine h ts → ⊥
bound-some k h ts some e = let (u, v, form) = some_app h ts some in refuted u v (e ∙ form)
  where
    refuted : (u v : Tm) → bound k ≡ app u v → ⊥
    refuted u v e = cc

free-some : (x : ℕ) (a : Ty) (h : Tm) (ts : List Tm) → 0 < length ts → free x a ≡ spine h ts → ⊥
free-some x a h ts some e = let (u, v, form) = some_app h ts some in refuted u v (e ∙ form)
  where
    refuted : (u v : Tm) → free x a ≡ app u v → ⊥
    refuted u v e = cc

pub other_bound : (t : Tree) (k : ℕ) → ((i : ℕ) → t ≡ Bound i → ⊥) → (n : ℕ) (w : World) → Over n w t → IsTrue false ↔ (bound k ≡ tree n t)
other_bound (Bound i) k h n w o = absurd (h i refl)
other_bound (Free x a) k h n w o = never (λ e. cc)
other_bound (Meta' z a shape all) k h n w o = never (λ e. cc)
other_bound (Sym' f shape all) k h n w o = never (bound-spine k f (row n all))
other_bound (Mark' f shape all) k h n w o = never (bound-spine k (n + f) (row n all))
other_bound (Lam' a p t) k h n w o = never (λ e. cc)
other_bound (Apply' p t shape all) k h n w o = never (bound-some k (tree n t) (row n all) o.1)

pub other_free : (t : Tree) (x : ℕ) (a : Ty) → ((y : ℕ) (b : SimpleType) → t ≡ Free y b → ⊥) → (n : ℕ) (w : World) → Over n w t → IsTrue false ↔ (free x a ≡ tree n t)
other_free (Bound i) x a h n w o = never (λ e. cc)
other_free (Free y b) x a h n w o = absurd (h y b refl)
other_free (Meta' z b shape all) x a h n w o = never (λ e. cc)
other_free (Sym' f shape all) x a h n w o = never (free-spine x a f (row n all))
other_free (Mark' f shape all) x a h n w o = never (free-spine x a (n + f) (row n all))
other_free (Lam' b p t) x a h n w o = never (λ e. cc)
other_free (Apply' p t shape all) x a h n w o = never (free-some x a (tree n t) (row n all) o.1)

pub bound_arm : (a b : Tree) (k : ℕ) (r : Bool) → a ≡ Bound k → ((n : ℕ) (w : World) → Over n w b → IsTrue r ↔ (bound k ≡ tree n b)) → Decided a b r
bound_arm a b k r e h n w o u =
    let d = h n w u in (λ y. ap (tree n) e ∙ d.0 y, λ s. d.1 (sym (ap (tree n) e) ∙ s))

pub free_arm : (a b : Tree) (x : ℕ) (k : SimpleType) (r : Bool) → a ≡ Free x k → ((n : ℕ) (w : World) → Over n w b → IsTrue r ↔ (free x (ty k) ≡ tree n b)) → Decided a b r
free_arm a b x k r e h n w o u =
    let d = h n w u in (λ y. ap (tree n) e ∙ d.0 y, λ s. d.1 (sym (ap (tree n) e) ∙ s))

-- symbols

fun_one : {f g : ℕ} → fun f ≡ fun g → f ≡ g
fun_one e = cc

pub sym_head : (n : ℕ) (t : Tree) (f : ℕ) (ts : List Tree) → t ≡ Sym f ts → head (tree n t) ≡ fun f
sym_head n t f ts e = ap head (tree_of_sym n t f ts e) ∙ head-spine (fun f) (trees n ts)

pub mark_head : (n : ℕ) (t : Tree) (f : ℕ) (ts : List Tree) → t ≡ Mark f ts → head (tree n t) ≡ fun (n + f)
mark_head n t f ts e = ap head (tree_of_mark n t f ts e) ∙ head-spine (fun (n + f)) (trees n ts)

pub symbol_same : (r : Bool) (t : Tree) (f g : ℕ) (ts : List Tree) → t ≡ Sym g ts → (IsTrue r ↔ (g ≡ f)) → (n : ℕ) → IsTrue r ↔ (fun f ≡ head (tree n t))
symbol_same r t f g ts e h n = (λ y. ap fun (sym (h.0 y)) ∙ sym (sym_head n t g ts e), λ k. h.1 (sym (fun_one (k ∙ sym_head n t g ts e))))

pub mark_same : (r : Bool) (t : Tree) (f g : ℕ) (ts : List Tree) → t ≡ Mark g ts → (IsTrue r ↔ (g ≡ f)) → (n : ℕ) → IsTrue r ↔ (fun (n + f) ≡ head (tree n t))
mark_same r t f g ts e h n =
    (λ y. ap (λ k. fun (n + k)) (sym (h.0 y)) ∙ sym (mark_head n t g ts e), λ k. h.1 (omega (arith, fun_one (k ∙ mark_head n t g ts e))))

pub symbol_no_mark : (t : Tree) (f g : ℕ) (ts : List Tree) → t ≡ Mark g ts → (n : ℕ) → f < n → IsTrue false ↔ (fun f ≡ head (tree n t))
symbol_no_mark t f g ts e n low = never (λ k. absurd (omega (arith, low, fun_one (k ∙ mark_head n t g ts e))))

pub mark_no_symbol : (t : Tree) (f g : ℕ) (ts : List Tree) → t ≡ Sym g ts → (n : ℕ) (w : World) → Over n w t → IsTrue false ↔ (fun (n + f) ≡ head (tree n t))
mark_no_symbol t f g ts e n w o = never (λ k. absurd (omega (arith, (over_of_sym n w t g ts e o).0, fun_one (k ∙ sym_head n t g ts e))))

-- spines

spine_one : (t u : Tm) → head t ≡ head u → arguments_of t ≡ arguments_of u → t ≡ u
spine_one t u e l = spine_whole t ∙ ap₂ spine e l ∙ sym (spine_whole u)

pub spines_same : (r : Bool) (a b : Tree) (ss bs : List Tree) → HasArguments a ss → HasArguments b bs
    → ((n : ℕ) (w : World) → Over n w a → Over n w b → head (tree n a) ≡ head (tree n b)) → AllDecided ss bs r → Decided a b r
spines_same r a b ss bs p q heads h n w o u =
    let same = h n w (p n w o).1 (q n w u).1 in (
      λ y. spine_one (tree n a) (tree n b) (heads n w o u) ((p n w o).0 ∙ same.0 y ∙ sym (q n w u).0),
      λ e. same.1 (sym (p n w o).0 ∙ ap arguments_of e ∙ (q n w u).0),
    )

pub spines_other : (a b : Tree) → ((n : ℕ) (w : World) → Over n w a → Over n w b → head (tree n a) ≡ head (tree n b) → ⊥) → Decided a b false
spines_other a b refuted n w o u = never (λ e. refuted n w o u (ap head e))

-- abstractions

lam_type : {a b : Ty} {t u : Tm} → lam a t ≡ lam b u → a ≡ b
lam_type e = cc

lam_body : {a b : Ty} {t u : Tm} → lam a t ≡ lam b u → t ≡ u
lam_body e = cc

lam_is : (a : Tree) (k : SimpleType) (p : Box Tree Global) → a ≡ Lam k p → (n : ℕ) → tree n a ≡ lam (ty k) (tree n p.value)
lam_is a k p e n = ap (tree n) e

pub lams_other : (a b : Tree) (k : SimpleType) (p : Box Tree Global) → a ≡ Lam k p → IsBody b None → Decided a b false
lams_other a b k p e h n w o u = never (λ s. some_none (sym (ap body_in (lam_is a k p e n)) ∙ ap body_in s ∙ h n w u))

pub lams_of_types : (a b : Tree) (k : SimpleType) (p : Box Tree Global) (x : Bor SimpleType) (y : Bor Tree) → a ≡ Lam k p → IsBody b (Some (x, y)) → (ty k ≡ ty x.now → ⊥) → Decided a b false
lams_of_types a b k p x y e h refuted n w o u = never (λ s. refuted (lam_type (sym (lam_is a k p e n) ∙ s ∙ (h n w u).0)))

pub lams_same : (r : Bool) (a b : Tree) (k : SimpleType) (p : Box Tree Global) (x : Bor SimpleType) (y : Bor Tree) → a ≡ Lam k p → IsBody b (Some (x, y)) → ty k ≡ ty x.now
    → Decided p.value y.now r → Decided a b r
lams_same r a b k p x y e h types d n w o u =
    let same = d n w (subst (Over n w) e o) (h n w u).1 in (
      λ t. lam_is a k p e n ∙ ap₂ lam types (same.0 t) ∙ sym (h n w u).0,
      λ s. same.1 (lam_body (sym (lam_is a k p e n) ∙ s ∙ (h n w u).0)),
    )

-- meta-variables

meta_number : {y z : ℕ} {ts us : Tms} → meta y ts ≡ meta z us → y ≡ z
meta_number e = cc

meta_items : {y z : ℕ} {ts us : Tms} → meta y ts ≡ meta z us → ts ≡ us
meta_items e = cc

list_back : (ts : List Tm) → list_of (tms_of ts) ≡ ts
list_back [] = refl
list_back (t ∷ ts) = ap (λ (us : List Tm). t ∷ us) (list_back ts)

pub metas_other : (a b : Tree) (z : ℕ) (k : SimpleType) (ts : List Tree) → a ≡ Meta z k ts → IsMetaApplication b None → Decided a b false
metas_other a b z k ts e h n w o u = never (λ s. h n w u (subst IsMeta (sym (tree_of_meta n a z k ts e) ∙ s) tt))

pub metas_of_numbers : (a b : Tree) (z y : ℕ) (k : SimpleType) (ts : List Tree) (xs : Bor (List Tree)) → a ≡ Meta z k ts → IsMetaApplication b (Some (y, xs)) → (z ≡ y → ⊥) → Decided a b false
metas_of_numbers a b z y k ts xs e h refuted n w o u = never (λ s. refuted (meta_number (sym (tree_of_meta n a z k ts e) ∙ s ∙ (h n w u).0)))

pub metas_same : (r : Bool) (a b : Tree) (z y : ℕ) (k : SimpleType) (ts ss : List Tree) (xs : Bor (List Tree)) → a ≡ Meta z k ts → ss ≡ ts → IsMetaApplication b (Some (y, xs)) → z ≡ y
    → AllDecided ss xs.now r → Decided a b r
metas_same r a b z y k ts ss xs e list h numbers d n w o u =
    let is = tree_of_meta n a z k ts e ∙ ap (λ (l : List Tree). meta z (tms_of (trees n l))) (sym list) in
    let same = d n w (subst (AllOver n w) (sym list) (over_of_meta n w a z k ts e o).1) (h n w u).1 in (
      λ t. is ∙ ap₂ (λ (v : ℕ) (l : List Tm). meta v (tms_of l)) numbers (same.0 t) ∙ sym (h n w u).0,
      λ s. same.1 (sym (list_back (trees n ss)) ∙ ap list_of (meta_items (sym is ∙ s ∙ (h n w u).0)) ∙ list_back (trees n xs.now)),
    )

-- applications

pub applies_other : (a b : Tree) (g : Box Tree Global) (ts : List Tree) → a ≡ Apply g ts → IsApplication b None → Decided a b false
applies_other a b g ts e h n w o u =
    let p = applied a g ts e n w o in
    never (λ s. h n w u (other p.spine_of.0 p.spine_of.1 (sym s ∙ p.spine_of.2) (λ f k. p.others f (sym p.head_of ∙ ap head s ∙ k))))
  where
    other : (x y : Tm) → tree n b ≡ app x y → ((f : ℕ) → head (tree n b) ≡ fun f → ⊥) → IsOtherSpine (tree n b)
    other x y form refuted = subst IsOtherSpine (sym form) (λ f k. refuted f (ap head form ∙ k))

pub applies_of_heads : (a b : Tree) (g : Box Tree Global) (ts : List Tree) (x : Bor Tree) (xs : Bor (List Tree)) (r : Bool) → a ≡ Apply g ts → IsApplication b (Some (x, xs))
    → Decided g.value x.now r → r ≡ false → Decided a b false
applies_of_heads a b g ts x xs r e h d not n w o u =
    let p = applied a g ts e n w o in
    let q = h n w u in
    never (λ s. refuted (sym ((d n w p.head_over q.head_over).1 (sym p.head_of ∙ ap head s ∙ q.head_of)) ∙ not))
  where
    refuted : true ≡ false → ⊥
    refuted e = cc

pub applies_same : (a b : Tree) (g : Box Tree Global) (ts ss : List Tree) (x : Bor Tree) (xs : Bor (List Tree)) (r v : Bool) → a ≡ Apply g ts → ss ≡ ts → IsApplication b (Some (x, xs))
    → Decided g.value x.now r → r ≡ true → AllDecided ss xs.now v → Decided a b v
applies_same a b g ts ss x xs r v e list h d so all n w o u =
    let p = applied a g ts e n w o in
    let q = h n w u in
    let same = all n w (subst (AllOver n w) (sym list) p.items_over) q.items_over in
    let items = p.items ∙ ap (trees n) (sym list) in (
      λ t. spine_one (tree n a) (tree n b) (p.head_of ∙ (d n w p.head_over q.head_over).0 so ∙ sym q.head_of) (items ∙ same.0 t ∙ sym q.items),
      λ s. same.1 (sym items ∙ ap arguments_of s ∙ q.items),
    )

-- lists

pub trees_take_next : (n : ℕ) (xs : List Tree) (i : ℕ) (t : Tree) → i < length xs → t ≡ get_or xs i t → trees n (take (i + 1) xs) ≡ trees n (take i xs) ++ tree n t ∷ []
trees_take_next n xs i t within e =
    rw (add-one, take-suc xs i t within) (map-append (tree n) (take i xs) (get_or xs i t ∷ [])
    ∙ ap (λ (u : Tree). trees n (take i xs) ++ tree n u ∷ []) (sym e))

pub take_past : (ts : List Tree) (i : ℕ) → length ts ≤ i → take i ts ≡ ts
take_past [] zero past = refl
take_past [] (suc i) past = refl
take_past (t ∷ ts) zero past = absurd (omega arith)
take_past (t ∷ ts) (suc i) past = ap (λ (us : List Tree). t ∷ us) (take_past ts i (omega arith))

pub all_length : (ss bs : List Tree) → (length ss ≡ length bs → ⊥) → AllDecided ss bs false
all_length ss bs refuted n w o u = never (λ e. refuted (sym (count n ss) ∙ ap length e ∙ count n bs))
  where
    count : (n : ℕ) (ts : List Tree) → length (trees n ts) ≡ length ts
    count n [] = refl
    count n (t ∷ ts) = ap suc (count n ts)

-- the trees before the place are the same
abbrev pub SameBefore : List Tree → List Tree → ℕ → Type 0
SameBefore ss bs i = (n : ℕ) (w : World) → AllOver n w ss → AllOver n w bs → trees n (take i ss) ≡ trees n (take i bs)

pub same_next : (ss bs : List Tree) (i : ℕ) (a b : Tree) (r : Bool) → SameBefore ss bs i → i < length ss → length ss ≡ length bs → a ≡ get_or ss i a → b ≡ get_or bs i b
    → Decided a b r → r ≡ true → SameBefore ss bs (i + 1)
same_next ss bs i a b r before within long ea eb d so n w o u =
    trees_take_next n ss i a within ea
    ∙ ap₂ (λ (l : List Tm) (t : Tm). l ++ t ∷ []) (before n w o u) ((d n w (all_get n w ss i a o within ea) (all_get n w bs i b u (omega arith) eb)).0 so)
    ∙ sym (trees_take_next n bs i b (omega arith) eb)

at_place : (n : ℕ) (ss bs : List Tree) (i : ℕ) (a b : Tree) → trees n ss ≡ trees n bs → i < length ss → i < length bs → a ≡ get_or ss i a → b ≡ get_or bs i b → tree n a ≡ tree n b
at_place n [] bs i a b e within inside ea eb = absurd (omega arith)
at_place n (x ∷ ss) [] i a b e within inside ea eb = absurd (omega arith)
at_place n (x ∷ ss) (y ∷ bs) zero a b e within inside ea eb = ap (tree n) ea ∙ first e ∙ sym (ap (tree n) eb)
  where
    first : {t u : Tm} {ts us : List Tm} → t ∷ ts ≡ u ∷ us → t ≡ u
    first e = cc
at_place n (x ∷ ss) (y ∷ bs) (suc i) a b e within inside ea eb = at_place n ss bs i a b (rest e) (omega arith) (omega arith) ea eb
  where
    rest : {t u : Tm} {ts us : List Tm} → t ∷ ts ≡ u ∷ us → ts ≡ us
    rest e = cc

pub differs : (ss bs : List Tree) (i : ℕ) (a b : Tree) (r : Bool) → i < length ss → length ss ≡ length bs → a ≡ get_or ss i a → b ≡ get_or bs i b
    → Decided a b r → r ≡ false → AllDecided ss bs false
differs ss bs i a b r within long ea eb d not n w o u =
    never (λ e. refuted (sym ((d n w (all_get n w ss i a o within ea) (all_get n w bs i b u (omega arith) eb)).1 (at_place n ss bs i a b e within (omega arith) ea eb)) ∙ not))
  where
    refuted : true ≡ false → ⊥
    refuted e = cc

pub same_all : (ss bs : List Tree) (i : ℕ) → length ss ≡ length bs → SameBefore ss bs i → length ss ≤ i → AllDecided ss bs true
same_all ss bs i long before past n w o u =
    (λ y. sym (ap (trees n) (take_past ss i past)) ∙ before n w o u ∙ ap (trees n) (take_past bs i (omega (arith, long, past))), λ e. refl)

-- the front of a list

pub all_take : (n : ℕ) (w : World) (xs : List Tree) (k : ℕ) → AllOver n w xs → AllOver n w (take k xs)
all_take n w [] zero o = tt
all_take n w [] (suc k) o = tt
all_take n w (x ∷ xs) zero o = tt
all_take n w (x ∷ xs) (suc k) o = (o.0, all_take n w xs k o.1)

-- a test that decides whether the first j trees of two lists are the same
abbrev pub FrontsDecided : ℕ → List Tree → List Tree → Bool → Type 0
FrontsDecided j ss bs r = (n : ℕ) (w : World) → AllOver n w ss → AllOver n w bs → IsTrue r ↔ (trees n (take j ss) ≡ trees n (take j bs))

pub fronts_decided : (j : ℕ) (ss bs : List Tree) (r : Bool) → AllDecided (take j ss) (take j bs) r → FrontsDecided j ss bs r
fronts_decided j ss bs r d n w o u = d n w (all_take n w ss j o) (all_take n w bs j u)
