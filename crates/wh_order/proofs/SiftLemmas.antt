-- Terms behind filters, shape by shape.
use Rattle.std.proofs.Common.{◌≡◌, ℕ, zero, suc, ◌+◌, ◌<◌, ◌≤◌, List, [], ◌∷◌, ◌++◌, length, map, take, drop, reverse, get_or, Some, slice_get, refl, ap, ap₂, subst, sym, ◌∙◌, arith}
use Rattle.std.proofs.Math.Seq.{drop-cons}
use Rattle.std.proofs.lemmas.List.{length-map, map-append, map_more, reverse-append, take_all}
use Rattle.wh_types.specs.Ty.{Ty, sort, arguments}
use Rattle.wh_types.specs.Erase.{ty}
use Rattle.wh_types.specs.declared.simple_type.SimpleType.{SimpleType}
use Rattle.wh_terms.specs.Tree.{Tm, bound, free, fun, meta, lam, app, more, tms_of, spine}
use Rattle.wh_terms.specs.Typing.{Symbols, Declared, AllTyped}
use Rattle.wh_terms.specs.Rules.{RewriteRule}
use Rattle.wh_terms.specs.Erase.{tm, tms, declared_metas}
use Rattle.wh_terms.specs.declared.term.Term.{Term}
use Rattle.wh_terms.specs.declared.rule.MetaDecl.{MetaDecl}
use Rattle.wh_pairs.proofs.AlikeLemmas.{tms_of_map}
use Rattle.wh_polycheck.specs.Marks.{marked_types}
use Rattle.wh_order_inference.specs.Filters.{Filter}
use Rattle.wh_order_inference.specs.FilterText.{WrittenFilter, filter_of}
use Rattle.wh_order_extended.specs.Kinds.{type_at, out_at}
use Rattle.wh_order_extended.specs.Long.{long}
use Rattle.wh_order_extended.specs.Filtered.{collapse, collapsed, filtered, sift, sifts}
use Rattle.wh_order_extended.proofs.CallSides.{filtered_arguments, call_is}
use Rattle.wh_order_extended.proofs.TypeLists.{typed_length}
use Rattle.wh_order_path.specs.Lines.{filtered_call}
use Rattle.wh_order_node.specs.Filterings.{FilteringData, IsProperAsWritten, filters_of, filtered_signature, mark_among}
use Rattle.wh_order_trees.specs.declared.tree.Tree.{Tree, Meta}
use Rattle.wh_order_trees.specs.Trees.{tree, trees, IsHeadTree}
use Rattle.wh_order_trees.specs.TreeParts.{World, Over, AllOver}
use Rattle.wh_order_trees.proofs.TreeLemmas.{trees-length, tree_of_meta, meta_over}
use Rattle.wh_order.specs.TreeSides.{AreFilters, IsTreeOf}
use Rattle.wh_order.specs.Kept.{HasProperMark, IsFiltered, IsSpineOf}
use Rattle.wh_order.specs.Sifted.{IsWhole, AreWhole, AreOverFiltered, AreTreesOf, IsSifted, AreSifted}
use Rattle.wh_order.proofs.FilterLemmas.{type_there, filter_there, symbol_filter, symbol_type, mark_filter_of, mark_type, proper_marks}

-- what filtered trees are over
world : Symbols → List RewriteRule → FilteringData → List Declared → World
world S rules D M = record { symbols = filtered_signature S rules D; metas = collapsed M }

module _ (S : Symbols) (rules : List RewriteRule) (D : FilteringData) (M : List Declared) where
  -- a head that is no symbol stays, and its arguments stand behind it
  head_sifted : (t : Tm) (qs : List Tree) (h u : Tree) → ((ps : List Tm) → sift (filters_of S D) t ps ≡ spine (tree (length S.funs) h) ps) → IsHeadTree h
      → Over (length S.funs) (world S rules D M) h → AreOverFiltered S rules D M qs → IsSpineOf h qs u → IsTreeOf S rules D M (sift (filters_of S D) t (trees (length S.funs) qs)) u
  unfolding world
  head_sifted t qs h u e head over all is = record {
    same_tree = is.same (length S.funs) ∙ sym (e (trees (length S.funs) qs));
    over = is.over (length S.funs) (world S rules D M) head over all;
  }

sift-list : (Φ : ℕ → Filter) (ts : List Tm) → tms_of (map (λ t. sift Φ t []) ts) ≡ sifts Φ (tms_of ts)
unfolding sifts
sift-list Φ [] = refl
sift-list Φ (t ∷ ts) = ap (more (sift Φ t [])) (sift-list Φ ts)

module _ (D : FilteringData) (M : List Declared) where
  pub bound_sifted : (t : Tm) (i : ℕ) (qs : List Tree) (h u : Tree) → t ≡ bound i → ((n : ℕ) → tree n h ≡ bound i) → IsHeadTree h → ((n : ℕ) (w : World) → Over n w h)
      → IsSpineOf h qs u → IsSifted D M t qs u
  unfolding sift
  bound_sifted t i qs h u e form head over is S rules filters whole all =
      subst (λ s. IsTreeOf S rules D M (sift (filters_of S D) s (trees (length S.funs) qs)) u) (sym e)
      (head_sifted S rules D M (bound i) qs h u (λ ps. ap (λ s. spine s ps) (sym (form (length S.funs)))) head (over (length S.funs) (world S rules D M)) all is)

  pub free_sifted : (t : Tm) (x : ℕ) (a : Ty) (qs : List Tree) (h u : Tree) → t ≡ free x a → ((n : ℕ) → tree n h ≡ free x (collapse a)) → IsHeadTree h
      → ((n : ℕ) (w : World) → Over n w h) → IsSpineOf h qs u → IsSifted D M t qs u
  unfolding sift
  free_sifted t x a qs h u e form head over is S rules filters whole all =
      subst (λ s. IsTreeOf S rules D M (sift (filters_of S D) s (trees (length S.funs) qs)) u) (sym e)
      (head_sifted S rules D M (free x a) qs h u (λ ps. ap (λ s. spine s ps) (sym (form (length S.funs)))) head (over (length S.funs) (world S rules D M)) all is)

  pub lam_sifted : (t : Tm) (a : Ty) (b : Tm) (qs : List Tree) (h body u : Tree) → t ≡ lam a b → ((n : ℕ) → tree n h ≡ lam (collapse a) (tree n body)) → IsHeadTree h
      → ((n : ℕ) (w : World) → Over n w body → Over n w h) → IsSifted D M b [] body → IsSpineOf h qs u → IsSifted D M t qs u
  unfolding sift world
  lam_sifted t a b qs h body u e form head over inner is S rules filters whole all =
      let part = inner S rules filters (subst (IsWhole S (length qs)) e whole) tt in
      subst (λ s. IsTreeOf S rules D M (sift (filters_of S D) s (trees (length S.funs) qs)) u) (sym e)
      (head_sifted S rules D M (lam a b) qs h u
      (λ ps. ap (λ v. spine (lam (collapse a) v) ps) (sym part.same_tree) ∙ ap (λ s. spine s ps) (sym (form (length S.funs))))
      head (over (length S.funs) (world S rules D M) part.over) all is)

  pub meta_sifted : (t : Tm) (z : ℕ) (xs : List Term) (qs : List Tree) (k : SimpleType) (items : List Tree) (u : Tree) → t ≡ meta z (tms xs)
      → ty k ≡ out_at (collapsed M) z → AreSifted D M (map tm xs) items → IsSpineOf (Meta z k items) qs u → IsSifted D M t qs u
  unfolding sift world
  meta_sifted t z xs qs k items u e kind inner is S rules filters whole all =
      let parts = inner S rules filters (subst (AreWhole S) (sym (tms_of_map xs)) (subst (IsWhole S (length qs)) e whole)) in
      let same : tms_of (trees (length S.funs) items) ≡ sifts (filters_of S D) (tms xs) =
      ap tms_of parts.same_trees ∙ sift-list (filters_of S D) (map tm xs) ∙ ap (sifts (filters_of S D)) (tms_of_map xs) in
      let form : tree (length S.funs) (Meta z k items) ≡ meta z (sifts (filters_of S D) (tms xs)) = tree_of_meta (length S.funs) (Meta z k items) z k items refl ∙ ap (meta z) same in
      subst (λ s. IsTreeOf S rules D M (sift (filters_of S D) s (trees (length S.funs) qs)) u) (sym e)
      (head_sifted S rules D M (meta z (tms xs)) qs (Meta z k items) u (λ ps. ap (λ s. spine s ps) (sym form)) tt
      (meta_over (length S.funs) (world S rules D M) z k items (sym kind) parts.over) all is)

  -- an argument is filtered first, and then stands nearest behind its function
  pub app_sifted : (t f a : Tm) (qs : List Tree) (last u : Tree) → t ≡ app f a → IsSifted D M a [] last → IsSifted D M f (last ∷ qs) u → IsSifted D M t qs u
  unfolding sift
  app_sifted t f a qs last u e argument function S rules filters whole all =
      let parts = subst (IsWhole S (length qs)) e whole in
      let one = argument S rules filters parts.1 tt in
      let rest = function S rules filters parts.0 (one.over, all) in
      let here : IsTreeOf S rules D M (sift (filters_of S D) (app f a) (trees (length S.funs) qs)) u =
      subst (λ p. IsTreeOf S rules D M (sift (filters_of S D) f (p ∷ trees (length S.funs) qs)) u) one.same_tree rest in
      subst (λ s. IsTreeOf S rules D M (sift (filters_of S D) s (trees (length S.funs) qs)) u) (sym e) here

  -- a symbol goes behind its filter
  pub fun_sifted : (t : Tm) (f : ℕ) (qs : List Tree) (u : Tree) → t ≡ fun f
      → ((cs : List Ty) (w : WrittenFilter) → slice_get D.symbols f ≡ Some w → IsProperAsWritten cs w → length qs ≡ length cs → IsFiltered (length D.symbols) f cs (filter_of w) qs u)
      → IsSifted D M t qs u
  unfolding sift world
  fun_sifted t f qs u e behind S rules filters whole all =
      let parts = subst (IsWhole S (length qs)) e whole in
      let a = type_at S.funs f in
      let at : slice_get S.funs f ≡ Some a = type_there S.funs f parts.0 in
      let given = filter_there D.symbols f (omega (arith, parts.0, filters.each_symbol)) in
      let w = given.0 in
      let left : IsFiltered (length S.funs) f (arguments a) (filter_of w) qs u =
      subst (λ n. IsFiltered n f (arguments a) (filter_of w) qs u) filters.each_symbol (behind (arguments a) w given.1 (filters.symbols f a w at given.1) parts.1) in
      let is : filters_of S D f ≡ filter_of w = symbol_filter S D f w parts.0 given.1 in
      let here : IsTreeOf S rules D M (sift (filters_of S D) (fun f) (trees (length S.funs) qs)) u = record {
        same_tree = left.same ∙ ap (λ F. filtered F f (trees (length S.funs) qs)) (sym is);
        over = left.over (world S rules D M) (symbol_type S rules D f a w at given.1) all;
      } in
      subst (λ s. IsTreeOf S rules D M (sift (filters_of S D) s (trees (length S.funs) qs)) u) (sym e) here

  -- and so does a marked symbol whose arguments are filtered
  pub call_sifted : (S : Symbols) (rules : List RewriteRule) (f : ℕ) (ts : List Tm) (qs : List Tree) (u : Tree) → AreFilters S rules D
      → AllTyped S M [] (tms_of ts) (marked_types S rules f) → AreTreesOf S rules D M (map (λ t. sift (filters_of S D) t []) (map (long S M []) ts)) qs
      → ((n : ℕ) (cs : List Ty) → HasProperMark D.marks f cs → length qs ≡ length cs → IsFiltered n (n + f) cs (mark_among D.marks f) qs u)
      → IsTreeOf S rules D M (filtered_call S (filters_of S D) M f ts) u
  unfolding filtered_arguments world
  call_sifted S rules f ts qs u filters typed each behind =
      let n = length S.funs in
      let cs = marked_types S rules f in
      let proper = proper_marks S rules D filters f in
      let listed : trees n qs ≡ filtered_arguments S (filters_of S D) M ts = each.same_trees ∙ twice ts in
      let count : length qs ≡ length cs =
      sym (trees-length n qs) ∙ ap length listed ∙ length-map ts (λ t. sift (filters_of S D) (long S M [] t) []) ∙ typed_length ts cs typed in
      let left = behind n cs proper count in record {
        same_tree = left.same ∙ ap₂ (λ F ps. filtered F (n + f) ps) (sym (mark_filter_of S D f)) listed ∙ sym (call_is S (filters_of S D) M f ts);
        over = left.over (world S rules D M) (mark_type S rules D f proper) each.over;
      }
    where
      twice : (ts : List Tm) → map (λ t. sift (filters_of S D) t []) (map (long S M []) ts) ≡ map (λ t. sift (filters_of S D) (long S M [] t) []) ts
      twice [] = refl
      twice (t ∷ ts) = ap (λ l. sift (filters_of S D) (long S M [] t) [] ∷ l) (twice ts)

  -- by what the walk has in hand

  pub inner_sifted : (x y : Term) (qs : List Tree) (u v : Tree) → x ≡ y → qs ≡ [] → v ≡ u → IsSifted D M (tm x) (reverse qs) u → IsSifted D M (tm y) [] v
  inner_sifted x y qs u v same empty made h =
      subst (λ (z : Term). IsSifted D M (tm z) [] v) same
      (subst (λ (ps : List Tree). IsSifted D M (tm x) (reverse ps) v) empty (subst (IsSifted D M (tm x) (reverse qs)) (sym made) h))

  pub behind_sifted : (x y : Term) (qs new : List Tree) (last u : Tree) → x ≡ y → new ≡ qs ++ last ∷ [] → IsSifted D M (tm x) (reverse new) u
      → IsSifted D M (tm y) (last ∷ reverse qs) u
  behind_sifted x y qs new last u same pushed h =
      subst (λ (z : Term). IsSifted D M (tm z) (last ∷ reverse qs) u) same
      (subst (λ (ps : List Tree). IsSifted D M (tm x) ps u) (ap reverse pushed ∙ reverse-append qs (last ∷ [])) h)

  -- lists, from the front

  pub sifted_none : (us : List Tree) → us ≡ [] → AreSifted D M [] us
  sifted_none us e = subst (AreSifted D M []) (sym e) (λ S rules filters whole. record { same_trees = refl; over = tt })

  whole_front : (S : Symbols) (ts : List Tm) (t : Tm) → AreWhole S (tms_of (ts ++ t ∷ [])) → AreWhole S (tms_of ts) × IsWhole S 0 t
  whole_front S [] t w = (tt, w.0)
  whole_front S (s ∷ ts) t w = let p = whole_front S ts t w.1 in ((w.0, p.0), p.1)

  over_append : (n : ℕ) (w : World) (us : List Tree) (u : Tree) → AllOver n w us → Over n w u → AllOver n w (us ++ u ∷ [])
  over_append n w [] u all o = (o, tt)
  over_append n w (v ∷ us) u all o = (all.0, over_append n w us u all.1 o)

  sifted_append : (ts : List Tm) (t : Tm) (us : List Tree) (u : Tree) → AreSifted D M ts us → IsSifted D M t [] u → AreSifted D M (ts ++ t ∷ []) (us ++ u ∷ [])
  unfolding world
  sifted_append ts t us u front last S rules filters whole =
      let w = whole_front S ts t whole in
      let p = front S rules filters w.0 in
      let q = last S rules filters w.1 tt in record {
        same_trees = map-append (tree (length S.funs)) us (u ∷ []) ∙ ap₂ (λ (l : List Tm) (v : Tm). l ++ v ∷ []) p.same_trees q.same_tree
            ∙ sym (map-append (λ t. sift (filters_of S D) t []) ts (t ∷ []));
        over = over_append (length S.funs) (world S rules D M) us u p.over q.over;
      }

  pub sifted_next : (xs : List Term) (i : ℕ) (x : Term) (us new : List Tree) (u : Tree) → AreSifted D M (map tm (take i xs)) us → IsSifted D M (tm x) [] u → new ≡ us ++ u ∷ []
      → i < length xs → x ≡ get_or xs i x → AreSifted D M (map tm (take (i + 1) xs)) new
  sifted_next xs i x us new u front last pushed within e =
      subst (AreSifted D M (map tm (take (i + 1) xs))) (sym pushed)
      (subst (λ (ts : List Tm). AreSifted D M ts (us ++ u ∷ [])) (sym (map_more tm xs i x within ∙ ap (λ y. map tm (take i xs) ++ tm y ∷ []) (sym e))) (sifted_append (map tm (take i xs)) (tm x) us u front last))

  pub sifted_all : (xs ts : List Term) (i : ℕ) (us : List Tree) → xs ≡ ts → length xs ≤ i → AreSifted D M (map tm (take i xs)) us → AreSifted D M (map tm ts) us
  sifted_all xs ts i us from past front =
      subst (λ (ys : List Term). AreSifted D M (map tm ys) us) (take_all i xs past ∙ from) front

  -- and from the back

  drop-end : (xs : List Term) (i : ℕ) → length xs ≤ i → drop i xs ≡ []
  drop-end [] zero past = refl
  drop-end [] (suc i) past = refl
  drop-end (x ∷ xs) zero past = absurd (omega (arith, past))
  drop-end (x ∷ xs) (suc i) past = drop-end xs i (omega (arith, past))

  pub sifted_behind : (xs : List Term) (i : ℕ) (us : List Tree) → length xs ≤ i → us ≡ [] → AreSifted D M (map tm (drop i xs)) (reverse us)
  sifted_behind xs i us past e =
      subst (λ (ys : List Term). AreSifted D M (map tm ys) (reverse us)) (sym (drop-end xs i past)) (sifted_none (reverse us) (ap reverse e))

  sifted_cons : (t : Tm) (ts : List Tm) (u : Tree) (us : List Tree) → IsSifted D M t [] u → AreSifted D M ts us → AreSifted D M (t ∷ ts) (u ∷ us)
  sifted_cons t ts u us first rest S rules filters whole =
      let p = first S rules filters whole.0 tt in
      let q = rest S rules filters whole.1 in
      record { same_trees = ap₂ (λ (v : Tm) (l : List Tm). v ∷ l) p.same_tree q.same_trees; over = (p.over, q.over) }

  pub sifted_before : (xs : List Term) (i j : ℕ) (x : Term) (us new : List Tree) (u : Tree) → AreSifted D M (map tm (drop i xs)) (reverse us) → j + 1 ≡ i → j < length xs
      → x ≡ get_or xs j x → IsSifted D M (tm x) [] u → new ≡ us ++ u ∷ [] → AreSifted D M (map tm (drop j xs)) (reverse new)
  sifted_before xs i j x us new u rest count within e first pushed =
      let next : i ≡ suc j = omega (arith, count) in
      let cons : drop j xs ≡ x ∷ drop i xs = drop-cons xs j x within ∙ ap₂ (λ (y : Term) (k : ℕ). y ∷ drop k xs) (sym e) (sym next) in
      let turned : reverse new ≡ u ∷ reverse us = ap reverse pushed ∙ reverse-append us (u ∷ []) in
      subst (λ (ys : List Term). AreSifted D M (map tm ys) (reverse new)) (sym cons)
      (subst (AreSifted D M (tm x ∷ map tm (drop i xs))) (sym turned) (sifted_cons (tm x) (map tm (drop i xs)) u (reverse us) first rest))

-- the types of meta-variables, read so that there is one sort

pub kind_there : (xs : List MetaDecl) (z : ℕ) (d : MetaDecl) → z < length xs → collapse (ty (get_or xs z d).result) ≡ out_at (collapsed (declared_metas xs)) z
kind_there [] z d within = absurd (omega (arith, within))
kind_there (x ∷ xs) zero d within = refl
kind_there (x ∷ xs) (suc z) d within = kind_there xs z d (omega (arith, within))

pub kind_past : (xs : List MetaDecl) (z : ℕ) → length xs ≤ z → sort 0 ≡ out_at (collapsed (declared_metas xs)) z
kind_past [] z past = refl
kind_past (x ∷ xs) zero past = absurd (omega (arith, past))
kind_past (x ∷ xs) (suc z) past = kind_past xs z (omega (arith, past))
