-- Trees that join a table part by part.
use Rattle.std.proofs.Common.{ℕ, zero, suc, ◌≡◌, ◌+◌, ◌<◌, ◌≤◌, ◌⊎◌, inl, inr, List, [], ◌∷◌, ◌++◌, length, get_or, take, Contains, Some, slice_get, Result, Ok, Err, IfOk, refl, sym, ap, ap₂, ◌∙◌, subst, arith, rules}
use Rattle.std.proofs.lemmas.List.{length-append, append_assoc}
use Rattle.std.proofs.lemmas.List.Elements.{All-append, All-weaker, Contains-push_cases}
use Rattle.std.proofs.lemmas.Option.{slice_get_within, get_or_from_slice_get}
use Rattle.wh_types.specs.Ty.{Ty}
use Rattle.wh_terms.specs.Tree.{Tm, Tms, none, more}
use Rattle.wh_terms.specs.Tree as t
use Rattle.wh_terms.specs.Measures.{size, sizes}
use Rattle.wh_terms.specs.Erase.{tm, tms}
use Rattle.wh_terms.specs.declared.term.Term.{Term}
use Rattle.wh_terms.proofs.TermLemmas.{join, tms_take_next}
use Rattle.wh_terms.proofs.MeasureLemmas.{size_here}
use Rattle.wh_intern.specs.Parts.{lam, app, meta}
use Rattle.wh_intern.specs.Trees.{tree_at, trees_at, tree_of, IsPart, IsPartOfSome, Adds, Grows}
use Rattle.wh_intern.proofs.TableLaws.{adds_keeps}

pub adds_length : (old new : List Tm) (P : Tm → Type 0) (n : ℕ) → Adds old new P n → (length old ≤ length new) × (length new ≤ length old + n)
adds_length old new P n a =
    let long = ap length a.behind ∙ length-append old a.parts in (omega (arith, long), omega (arith, long, a.few))

pub adds_then : (a b c : List Tm) (P Q R : Tm → Type 0) (k l n : ℕ) → Adds a b P k → Adds b c Q l → ((s : Tm) → P s → R s)
    → ((s : Tm) → Q s → R s) → k + l ≤ n → Adds a c R n
adds_then a b c P Q R k l n x y f g h = record {
  parts = x.parts ++ y.parts;
  behind = y.behind ∙ ap (λ us. us ++ y.parts) x.behind ∙ append_assoc a x.parts y.parts;
  all = All-append R x.parts y.parts (All-weaker P R f x.parts x.all) (All-weaker Q R g y.parts y.all);
  few = omega (arith, length-append x.parts y.parts, x.few, y.few, h);
}

-- the tree of a number
pub tree_found : (ts : List Tm) (n : ℕ) (u : Tm) → slice_get ts n ≡ Some u → tree_at ts n ≡ u
tree_found ts n u e = get_or_from_slice_get ts n u (t.bound 0) e

-- an abstraction
pub lam_tree : (b : List Tm) (a : Ty) (n : ℕ) (u w : Tm) → slice_get b n ≡ Some u → w ≡ t.lam a u → tree_of b (lam a n) ≡ w
lam_tree b a n u w e is = ap (t.lam a) (tree_found b n u e) ∙ sym is

pub grows_lam_front : (a b : List Tm) (c : Ty) (u w : Tm) → w ≡ t.lam c u → Grows a b u → Grows a b w
grows_lam_front a b c u w is g = subst (Grows a b) (sym is) (record {
  parts = g.parts;
  behind = g.behind;
  all = All-weaker (λ s. IsPart s u) (λ s. IsPart s (t.lam c u)) (λ s h. inr h) g.parts g.all;
  few = omega (arith, g.few);
})

pub grows_lam : (a b d : List Tm) (c : Ty) (n : ℕ) (u w : Tm) → w ≡ t.lam c u → Grows a b u → slice_get b n ≡ Some u
    → Adds b d (λ s. s ≡ tree_of b (lam c n)) 1 → Grows a d w
grows_lam a b d c n u w is g e p = subst (Grows a d) (sym is)
    (adds_then a b d (λ s. IsPart s u) (λ s. s ≡ tree_of b (lam c n)) (λ s. IsPart s (t.lam c u)) (size u) 1 (1 + size u) g p (λ s h. inr h)
    (λ s h. inl (h ∙ lam_tree b c n u (t.lam c u) e refl)) (omega arith))

pub below_lam : (b : List Tm) (n : ℕ) (u : Tm) → slice_get b n ≡ Some u → (k : ℕ) → Contains (n ∷ []) k → k < length b
below_lam b n u e k (zero, h, f) = omega (arith, slice_get_within b n u e, f)
below_lam b n u e k (suc i, h, f) = absurd (omega (arith, h))

-- an application
pub app_tree : (b c : List Tm) (m n : ℕ) (u v w : Tm) → slice_get b m ≡ Some u → Grows b c v → slice_get c n ≡ Some v → w ≡ t.app u v
    → tree_of c (app m n) ≡ w
app_tree b c m n u v w e g f is =
    ap₂ t.app (adds_keeps b c (λ s. IsPart s v) (size v) m g (slice_get_within b m u e) ∙ tree_found b m u e) (tree_found c n v f) ∙ sym is

pub grows_app_front : (a b c : List Tm) (u v w : Tm) → w ≡ t.app u v → Grows a b u → Grows b c v → Grows a c w
grows_app_front a b c u v w is g h = subst (Grows a c) (sym is)
    (adds_then a b c (λ s. IsPart s u) (λ s. IsPart s v) (λ s. IsPart s (t.app u v)) (size u) (size v) (1 + size u + size v) g h
    (λ s i. inr (inl i)) (λ s i. inr (inr i)) (omega arith))

pub grows_app_first : (a b : List Tm) (u v w : Tm) → w ≡ t.app u v → Grows a b u → Grows a b w
grows_app_first a b u v w is g = subst (Grows a b) (sym is) (record {
  parts = g.parts;
  behind = g.behind;
  all = All-weaker (λ s. IsPart s u) (λ s. IsPart s (t.app u v)) (λ s h. inr (inl h)) g.parts g.all;
  few = omega (arith, g.few);
})

pub grows_app : (a b c d : List Tm) (m n : ℕ) (u v w : Tm) → w ≡ t.app u v → Grows a b u → slice_get b m ≡ Some u → Grows b c v
    → slice_get c n ≡ Some v → Adds c d (λ s. s ≡ tree_of c (app m n)) 1 → Grows a d w
grows_app a b c d m n u v w is g e h f p = subst (Grows a d) (sym is)
    (let front : Adds a c (λ s. IsPart s (t.app u v)) (size u + size v) =
    adds_then a b c (λ s. IsPart s u) (λ s. IsPart s v) (λ s. IsPart s (t.app u v)) (size u) (size v) (size u + size v) g h
    (λ s i. inr (inl i)) (λ s i. inr (inr i)) (omega arith) in
    adds_then a c d (λ s. IsPart s (t.app u v)) (λ s. s ≡ tree_of c (app m n)) (λ s. IsPart s (t.app u v)) (size u + size v) 1 (1 + size u + size v)
    front p (λ s i. i) (λ s i. inl (i ∙ app_tree b c m n u v (t.app u v) e h f refl)) (omega arith))

pub below_app : (b c : List Tm) (m n : ℕ) (u v : Tm) → slice_get b m ≡ Some u → Grows b c v → slice_get c n ≡ Some v → (k : ℕ)
    → Contains (m ∷ n ∷ []) k → k < length c
below_app b c m n u v e g f k (zero, h, i) =
    let long = adds_length b c (λ s. IsPart s v) (size v) g in omega (arith, slice_get_within b m u e, i, long.0)
below_app b c m n u v e g f k (suc zero, h, i) = omega (arith, slice_get_within c n v f, i)
below_app b c m n u v e g f k (suc (suc j), h, i) = absurd (omega (arith, h))

-- the number of the node is that of the tree
pub number_of_tree : {E : Type 0} (r : Result ℕ E) (new : List Tm) (u w : Tm) → u ≡ w → IfOk r (λ n. slice_get new n ≡ Some u)
    → IfOk r (λ n. slice_get new n ≡ Some w)
number_of_tree (Ok n) new u w e h = h ∙ ap Some e
number_of_tree (Err x) new u w e h = h

-- the arguments of a meta-variable, up to one of them

pub record Gathered (start now : List Tm) (ns : List ℕ) (done : Tms) : Type 0 where
  pub adds : Adds start now (λ s. IsPartOfSome s done) (sizes done)
  pub says : trees_at now ns ≡ done
  pub below : (n : ℕ) → Contains ns n → n < length now

pub gathered_none : (start : List Tm) → Gathered start start [] none
gathered_none start = record {
  adds = record { parts = []; behind = search rules; all = λ k d h. absurd (omega (arith, h)); few = omega arith };
  says = refl;
  below = λ n c. absurd (omega (arith, c.1));
}

in_join_left : (s : Tm) (us vs : Tms) → IsPartOfSome s us → IsPartOfSome s (join us vs)
in_join_left s none vs h = absurd h
in_join_left s (more u us) vs (inl h) = inl h
in_join_left s (more u us) vs (inr h) = inr (in_join_left s us vs h)

in_join_right : (s : Tm) (us vs : Tms) → IsPartOfSome s vs → IsPartOfSome s (join us vs)
in_join_right s none vs h = h
in_join_right s (more u us) vs h = inr (in_join_right s us vs h)

sizes_join : (us vs : Tms) → sizes (join us vs) ≡ sizes us + sizes vs
sizes_join none vs = omega arith
sizes_join (more u us) vs = omega (arith, sizes_join us vs)

pub trees_at_push : (ts : List Tm) (ns : List ℕ) (n : ℕ) → trees_at ts (ns ++ n ∷ []) ≡ join (trees_at ts ns) (more (tree_at ts n) none)
trees_at_push ts [] n = refl
trees_at_push ts (m ∷ ns) n = ap (more (tree_at ts m)) (trees_at_push ts ns n)

trees_at_kept : (old new : List Tm) (P : Tm → Type 0) (k : ℕ) (ns : List ℕ) → Adds old new P k → ((n : ℕ) → Contains ns n → n < length old)
    → trees_at new ns ≡ trees_at old ns
trees_at_kept old new P k [] a b = refl
trees_at_kept old new P k (n ∷ ns) a b =
    ap₂ more (adds_keeps old new P k n a (b n (zero, omega arith, refl)))
    (trees_at_kept old new P k ns a (λ m c. b m (suc (c.0), omega (arith, c.1), c.2)))

gathered_more : (a b c : List Tm) (ns : List ℕ) (n : ℕ) (done : Tms) (u : Tm) → Gathered a b ns done → Grows b c u → slice_get c n ≡ Some u
    → Gathered a c (ns ++ n ∷ []) (join done (more u none))
gathered_more a b c ns n done u g h e = record {
  adds = adds_then a b c (λ s. IsPartOfSome s done) (λ s. IsPart s u) (λ s. IsPartOfSome s (join done (more u none))) (sizes done) (size u)
      (sizes (join done (more u none))) g.adds h (λ s i. in_join_left s done (more u none) i)
      (λ s i. in_join_right s done (more u none) (inl i)) (omega (arith, sizes_join done (more u none)));
  says = trees_at_push c ns n ∙ ap₂ (λ us v. join us (more v none)) (trees_at_kept b c (λ s. IsPart s u) (size u) ns h g.below ∙ g.says) (tree_found c n u e);
  below = λ k m. go k (Contains-push_cases ns n k m);
}
  where
    long : length b ≤ length c
    long = let both = adds_length b c (λ s. IsPart s u) (size u) h in both.0

    go : (k : ℕ) → Contains ns k ⊎ (n ≡ k) → k < length c
    go k (inl i) = omega (arith, g.below k i, long)
    go k (inr i) = omega (arith, slice_get_within c n u e, i)

pub gathered_next : (a b c : List Tm) (ns ms : List ℕ) (n : ℕ) (xs : List Term) (i : ℕ) (u : Term) → Gathered a b ns (tms (take i xs))
    → Grows b c (tm u) → slice_get c n ≡ Some (tm u) → i < length xs → u ≡ get_or xs i u → ms ≡ ns ++ n ∷ [] → Gathered a c ms (tms (take (i + 1) xs))
gathered_next a b c ns ms n xs i u g h e within is pushed =
    subst (Gathered a c ms) (sym (tms_take_next xs i u within is))
    (subst (λ ks. Gathered a c ks (join (tms (take i xs)) (more (tm u) none))) (sym pushed) (gathered_more a b c ns n (tms (take i xs)) (tm u) g h e))

pub grows_meta_front : (a b : List Tm) (z : ℕ) (ns : List ℕ) (done us : Tms) → Gathered a b ns done → ((s : Tm) → IsPartOfSome s done → IsPartOfSome s us)
    → sizes done ≤ sizes us → Grows a b (t.meta z us)
grows_meta_front a b z ns done us g f h = record {
  parts = g.adds.parts;
  behind = g.adds.behind;
  all = All-weaker (λ s. IsPartOfSome s done) (λ s. IsPart s (t.meta z us)) (λ s i. inr (f s i)) g.adds.parts g.adds.all;
  few = omega (arith, g.adds.few, h);
}

pub grows_meta : (a b c : List Tm) (z : ℕ) (ns : List ℕ) (us : Tms) → Gathered a b ns us → Adds b c (λ s. s ≡ tree_of b (meta z ns)) 1
    → Grows a c (t.meta z us)
grows_meta a b c z ns us g p =
    adds_then a b c (λ s. IsPartOfSome s us) (λ s. s ≡ tree_of b (meta z ns)) (λ s. IsPart s (t.meta z us)) (sizes us) 1 (1 + sizes us) g.adds p
    (λ s i. inr i) (λ s i. inl (i ∙ ap (t.meta z) g.says)) (omega arith)

-- a front part of arguments
pub in_front : (s : Tm) (xs : List Term) (k : ℕ) → IsPartOfSome s (tms (take k xs)) → IsPartOfSome s (tms xs)
in_front s [] zero h = absurd h
in_front s [] (suc k) h = absurd h
in_front s (x ∷ xs) zero h = absurd h
in_front s (x ∷ xs) (suc k) (inl h) = inl h
in_front s (x ∷ xs) (suc k) (inr h) = inr (in_front s xs k h)

in_item : (s : Tm) (xs : List Term) (i : ℕ) (u : Term) → i < length xs → u ≡ get_or xs i u → IsPart s (tm u) → IsPartOfSome s (tms xs)
in_item s xs i u within is h =
    in_front s xs (i + 1) (subst (IsPartOfSome s) (sym (tms_take_next xs i u within is)) (in_join_right s (tms (take i xs)) (more (tm u) none) (inl h)))

-- the table where one of the arguments could not be added whole
pub grows_meta_stop : (a b c : List Tm) (z : ℕ) (ns : List ℕ) (xs items : List Term) (i : ℕ) (u : Term) → Gathered a b ns (tms (take i xs))
    → Grows b c (tm u) → i < length xs → u ≡ get_or xs i u → xs ≡ items → Grows a c (t.meta z (tms items))
grows_meta_stop a b c z ns xs items i u g h within is e =
    subst (λ us. Grows a c (t.meta z (tms us))) e
    (adds_then a b c (λ s. IsPartOfSome s (tms (take i xs))) (λ s. IsPart s (tm u)) (λ s. IsPart s (t.meta z (tms xs))) (sizes (tms (take i xs))) (size (tm u))
    (1 + sizes (tms xs)) g.adds h (λ s k. inr (in_front s xs i k)) (λ s k. inr (in_item s xs i u within is k))
    (omega (arith, size_here xs i u within is)))
