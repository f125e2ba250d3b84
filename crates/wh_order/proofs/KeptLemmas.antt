-- What filters leave of symbols with arguments.
use Rattle.std.proofs.Common.{◌≡◌, ◌≢◌, ℕ, zero, suc, ◌+◌, ◌-◌, ◌<◌, ◌≤◌, ◌==◌, ◌↔◌, IsTrue, Bool, true, false, cond, List, [], ◌∷◌, ◌++◌, length, map, drop, reverse, get_or, Some, slice_get, All, Box, Global, refl, ap, ap₂, subst, sym, ◌∙◌, append-nil, append_assoc, arith}
use Rattle.std.proofs.Math.Path.{subst₂}
use Rattle.std.proofs.Math.Seq.{drop-cons}
use Rattle.std.proofs.lemmas.Bool.{eqb-true, eqb-false, eq-eqb, ne_eqb}
use Rattle.std.proofs.lemmas.List.{nil_from_length, length-map, reverse-append, length-reverse, get_or-reverse}
use Rattle.std.proofs.lemmas.List.Elements.{All-head, All-tail}
use Rattle.std.proofs.lemmas.Option.{none-some, same_Some, get_or_from_slice_get, slice_get_within, slice_get-get_or}
use Rattle.wh_types.specs.Ty.{Ty, sort}
use Rattle.wh_terms.specs.Tree.{fun, spine}
use Rattle.wh_order_inference.specs.FilterText.{WrittenFilter, keeps, picks, filter_of}
use Rattle.wh_order_inference.specs.Said.{written_filter}
use Rattle.wh_order_inference.specs.declared.filter.Filter as code
use Rattle.wh_order_inference.specs.declared.filter.Filter.TheVariants.{Keep, Pick}
use Rattle.wh_pairs.proofs.ByPlace.{read_map, some_one}
use Rattle.wh_order_extended.specs.Kinds.{type_at, arrows}
use Rattle.wh_order_extended.specs.Filtered.{collapse, chosen, IncreasingFrom}
use Rattle.wh_order_node.specs.declared.filters.MarkFilter.{MarkFilter}
use Rattle.wh_order_node.specs.FilteringView.{mark_filter}
use Rattle.wh_order_node.specs.Filterings.{IsProperAsWritten, mark_among, unfiltered}
use Rattle.wh_order_trees.specs.declared.tree.Tree.{Tree, Sym, Mark, Apply}
use Rattle.wh_order_trees.specs.Trees.{tree, trees, spine_type, IsHeadTree}
use Rattle.wh_order_trees.specs.TreeParts.{World, Over, AllOver}
use Rattle.wh_order_trees.proofs.TreeLemmas.{tree_of_sym, tree_of_mark, tree_of_apply, sym_over, mark_over, apply_over}
use Rattle.wh_order.specs.declared.kept.Kept.{Kept}
use Rattle.wh_order.specs.declared.kept.Kept.TheVariants.{Arguments, Instead}
use Rattle.wh_order.specs.Kept.{AreAt, HasProperMark, IsLeft, IsFiltered, IsSpineOf}

-- the last of the trees comes first in turn
pub turned : (xs ys : List Tree) (t : Tree) → xs ≡ ys ++ t ∷ [] → reverse xs ≡ t ∷ reverse ys
turned xs ys t e = ap reverse e ∙ reverse-append ys (t ∷ [])

-- what stands at a place

get_tree : (n : ℕ) (qs : List Tree) (i : ℕ) (t : Tree) → slice_get qs i ≡ Some t → get_or (trees n qs) i (fun 0) ≡ tree n t
get_tree n [] i t e = absurd (none-some t e)
get_tree n (q ∷ qs) zero t e = ap (tree n) (same_Some q t e)
get_tree n (q ∷ qs) (suc i) t e = get_tree n qs i t e

get_over : (n : ℕ) (w : World) (qs : List Tree) (i : ℕ) (t : Tree) → slice_get qs i ≡ Some t → AllOver n w qs → Over n w t
get_over n w [] i t e all = absurd (none-some t e)
get_over n w (q ∷ qs) zero t e all = subst (Over n w) (same_Some q t e) all.0
get_over n w (q ∷ qs) (suc i) t e all = get_over n w qs i t e all.1

chosen_trees : (n : ℕ) (is : List ℕ) (qs ts : List Tree) → AreAt is qs ts → trees n ts ≡ chosen is (trees n qs)
chosen_trees n [] qs [] at = refl
chosen_trees n [] qs (t ∷ ts) at = absurd at
chosen_trees n (i ∷ is) qs [] at = absurd at
chosen_trees n (i ∷ is) qs (t ∷ ts) at = ap₂ (λ u us. u ∷ us) (sym (get_tree n qs i t at.0)) (chosen_trees n is qs ts at.1)

chosen_over : (n : ℕ) (w : World) (is : List ℕ) (qs ts : List Tree) → AreAt is qs ts → AllOver n w qs → AllOver n w ts
chosen_over n w [] qs [] at all = tt
chosen_over n w [] qs (t ∷ ts) at all = absurd at
chosen_over n w (i ∷ is) qs [] at all = absurd at
chosen_over n w (i ∷ is) qs (t ∷ ts) at all = (get_over n w qs i t at.0 all, chosen_over n w is qs ts at.1 all)

chosen_whole : (c : ℕ → Ty) (is : List ℕ) (qs ts : List Tree) → AreAt is qs ts → spine_type (arrows (map c is) (sort 0)) (length ts) ≡ sort 0
chosen_whole c [] qs [] at = refl
chosen_whole c [] qs (t ∷ ts) at = absurd at
chosen_whole c (i ∷ is) qs [] at = absurd at
chosen_whole c (i ∷ is) qs (t ∷ ts) at = chosen_whole c is qs ts at.1

-- symbols with what is left of their arguments

pub symbol_kept : (n f : ℕ) (cs : List Ty) (w : WrittenFilter) (qs : List Tree) (k : Kept) (ts : List Tree) → k ≡ Arguments ts → f < n → IsLeft w qs k
    → IsFiltered n f cs (filter_of w) qs (Sym f ts)
symbol_kept n f cs (picks place) qs k ts e low left = absurd (subst (IsLeft (picks place) qs) e left)
symbol_kept n f cs (keeps p places) qs k ts e low left =
    let is : List ℕ = map (λ n. n - 1) places in
    let at : AreAt is qs ts = subst (IsLeft (keeps p places) qs) e left in record {
      same = tree_of_sym n (Sym f ts) f ts refl ∙ ap (spine (fun f)) (chosen_trees n is qs ts at);
      over = λ w fits all. sym_over n w f ts low (ap (λ a. spine_type a (length ts)) fits ∙ chosen_whole (λ i. collapse (type_at cs i)) is qs ts at) (chosen_over n w is qs ts at all);
    }

pub mark_kept : (n f : ℕ) (cs : List Ty) (w : WrittenFilter) (qs : List Tree) (k : Kept) (ts : List Tree) → k ≡ Arguments ts → IsLeft w qs k
    → IsFiltered n (n + f) cs (filter_of w) qs (Mark f ts)
mark_kept n f cs (picks place) qs k ts e left = absurd (subst (IsLeft (picks place) qs) e left)
mark_kept n f cs (keeps p places) qs k ts e left =
    let is : List ℕ = map (λ n. n - 1) places in
    let at : AreAt is qs ts = subst (IsLeft (keeps p places) qs) e left in record {
      same = tree_of_mark n (Mark f ts) f ts refl ∙ ap (spine (fun (n + f))) (chosen_trees n is qs ts at);
      over = λ w fits all. mark_over n w f ts (ap (λ a. spine_type a (length ts)) fits ∙ chosen_whole (λ i. collapse (type_at cs i)) is qs ts at) (chosen_over n w is qs ts at all);
    }

pub mark_alone : (n f : ℕ) (cs : List Ty) (qs ts : List Tree) → ts ≡ [] → IsFiltered n (n + f) cs unfiltered qs (Mark f ts)
mark_alone n f cs qs ts e = subst (λ (us : List Tree). IsFiltered n (n + f) cs unfiltered qs (Mark f us)) (sym e) alone
  where
    alone : IsFiltered n (n + f) cs unfiltered qs (Mark f [])
    alone = record { same = tree_of_mark n (Mark f []) f [] refl; over = λ w fits all. mark_over n w f [] fits tt }

pub instead_kept : (n f : ℕ) (cs : List Ty) (w : WrittenFilter) (qs : List Tree) (k : Kept) (t : Tree) → k ≡ Instead t → IsLeft w qs k
    → IsFiltered n f cs (filter_of w) qs t
instead_kept n f cs (keeps p places) qs k t e left = absurd (subst (IsLeft (keeps p places) qs) e left)
instead_kept n f cs (picks place) qs k t e left =
    let at : slice_get qs (place - 1) ≡ Some t = subst (IsLeft (picks place) qs) e left in
    record { same = sym (get_tree n qs (place - 1) t at); over = λ w fits all. get_over n w qs (place - 1) t at all }

-- heads that are no symbols

pub alone_spine : (h : Tree) (items : List Tree) → length items ≡ 0 → IsSpineOf h (reverse items) h
alone_spine h items e = subst (λ (qs : List Tree). IsSpineOf h (reverse qs) h) (sym (nil_from_length items e)) (record { same = λ n. refl; over = λ n w head over all. over })

pub apply_spine : (h : Tree) (items ts : List Tree) (p : Box Tree Global) → p.value ≡ h → ts ≡ reverse items → 0 < length items → IsSpineOf h (reverse items) (Apply p ts)
apply_spine h items ts p here turned some = record {
  same = λ n. tree_of_apply n (Apply p ts) p ts refl ∙ ap₂ (λ u us. spine (tree n u) (trees n us)) here turned;
  over = λ n w head over all. apply_over n w p ts (subst IsHeadTree (sym here) head) (omega (arith, ap length turned, length-reverse items, some)) (subst (Over n w) (sym here) over) (subst (AllOver n w) (sym turned) all);
}

-- marks, one after another

pub mark_start : (ms : List MarkFilter) (f : ℕ) → mark_among (map mark_filter ms) f ≡ mark_among (map mark_filter (drop 0 ms)) f
mark_start ms f = refl

pub mark_here : (ms : List MarkFilter) (i f : ℕ) (m : MarkFilter) → i < length ms → m ≡ get_or ms i m → m.symbol ≡ f
    → mark_among (map mark_filter ms) f ≡ mark_among (map mark_filter (drop i ms)) f → mark_among (map mark_filter ms) f ≡ filter_of (written_filter m.filter)
mark_here ms i f m within e is before =
    before ∙ ap (λ (xs : List MarkFilter). mark_among (map mark_filter xs) f) (drop-cons ms i m within ∙ ap (λ x. x ∷ drop (suc i) ms) (sym e))
    ∙ ap (λ b. cond b (filter_of (written_filter m.filter)) (mark_among (map mark_filter (drop (suc i) ms)) f)) (eq-eqb m.symbol f is)

pub mark_next : (ms : List MarkFilter) (i f : ℕ) (m : MarkFilter) → i < length ms → m ≡ get_or ms i m → m.symbol ≢ f
    → mark_among (map mark_filter ms) f ≡ mark_among (map mark_filter (drop i ms)) f → mark_among (map mark_filter ms) f ≡ mark_among (map mark_filter (drop (i + 1) ms)) f
mark_next ms i f m within e other before =
    let next : suc i ≡ i + 1 = omega arith in
    before ∙ ap (λ (xs : List MarkFilter). mark_among (map mark_filter xs) f) (drop-cons ms i m within ∙ ap (λ x. x ∷ drop (suc i) ms) (sym e))
    ∙ ap (λ b. cond b (filter_of (written_filter m.filter)) (mark_among (map mark_filter (drop (suc i) ms)) f)) (ne_eqb m.symbol f other)
    ∙ ap (λ k. mark_among (map mark_filter (drop k ms)) f) next

drop_past : {A : Type 0} (xs : List A) (i : ℕ) → length xs ≤ i → drop i xs ≡ []
drop_past [] zero past = refl
drop_past [] (suc i) past = refl
drop_past (x ∷ xs) zero past = absurd (omega (arith, past))
drop_past (x ∷ xs) (suc i) past = drop_past xs i (omega (arith, past))

pub mark_end : (ms : List MarkFilter) (i f : ℕ) → length ms ≤ i
    → mark_among (map mark_filter ms) f ≡ mark_among (map mark_filter (drop i ms)) f → mark_among (map mark_filter ms) f ≡ unfiltered
mark_end ms i f past before = before ∙ ap (λ (xs : List MarkFilter). mark_among (map mark_filter xs) f) (drop_past ms i past)

-- the trees of a list at some places, counted from 1, where k trees and the places up to k have passed

abbrev pub merged : ℕ → List ℕ → List Tree → List Tree
merged k [] qs = []
merged k (p ∷ ps) [] = []
merged k (p ∷ ps) (q ∷ qs) = cond (p == suc k) (q ∷ merged (suc k) ps qs) (merged (suc k) (p ∷ ps) qs)

merged_here : (places : List ℕ) (j k : ℕ) (t : Tree) (qs : List Tree) → slice_get places j ≡ Some (suc k)
    → merged k (drop j places) (t ∷ qs) ≡ t ∷ merged (suc k) (drop (suc j) places) qs
merged_here [] j k t qs e = absurd (none-some (suc k) e)
merged_here (p ∷ ps) zero k t qs e =
    ap (λ b. cond b (t ∷ merged (suc k) ps qs) (merged (suc k) (p ∷ ps) qs)) (eq-eqb p (suc k) (same_Some p (suc k) e))
merged_here (p ∷ ps) (suc j) k t qs e = merged_here ps j k t qs e

merged_past : (places : List ℕ) (j k : ℕ) (t : Tree) (qs : List Tree) → (slice_get places j ≡ Some (suc k) → ⊥)
    → merged k (drop j places) (t ∷ qs) ≡ merged (suc k) (drop j places) qs
merged_past [] zero k t qs other = refl
merged_past [] (suc j) k t qs other = refl
merged_past (p ∷ ps) zero k t qs other =
    ap (λ b. cond b (t ∷ merged (suc k) ps qs) (merged (suc k) (p ∷ ps) qs)) (ne_eqb p (suc k) (λ e. other (ap Some e)))
merged_past (p ∷ ps) (suc j) k t qs other = merged_past ps j k t qs other

merged_none : (k : ℕ) (ps : List ℕ) → merged k ps [] ≡ []
merged_none k [] = refl
merged_none k (p ∷ ps) = refl

merged_at : (all : List Tree) (k : ℕ) (ps : List ℕ) (qs : List Tree) → ((i : ℕ) → slice_get all (k + i) ≡ slice_get qs i) → All (λ p. 0 < p) ps
    → IncreasingFrom k (k + length qs) (map (λ p. p - 1) ps) → AreAt (map (λ p. p - 1) ps) all (merged k ps qs)
merged_at all k [] qs h some inc = tt
merged_at all k (p ∷ ps) [] h some inc = absurd (omega (arith, inc.0, inc.1))
merged_at all k (p ∷ ps) (q ∷ qs) h some inc =
    by (p == suc k) refl (λ i. merged_at all (suc k) ps qs shift (All-tail (λ p. 0 < p) p ps some) i) (λ i. merged_at all (suc k) (p ∷ ps) qs shift some i)
  where
    shift : (i : ℕ) → slice_get all (suc k + i) ≡ slice_get qs i
    shift i = let moved : suc k + i ≡ k + suc i = omega arith in ap (slice_get all) moved ∙ h (suc i)

    count : k + length (q ∷ qs) ≡ suc k + length qs
    count = omega arith

    by : (b : Bool) → b ≡ (p == suc k)
        → (IncreasingFrom (suc k) (suc k + length qs) (map (λ p. p - 1) ps) → AreAt (map (λ p. p - 1) ps) all (merged (suc k) ps qs))
        → (IncreasingFrom (suc k) (suc k + length qs) (map (λ p. p - 1) (p ∷ ps)) → AreAt (map (λ p. p - 1) (p ∷ ps)) all (merged (suc k) (p ∷ ps) qs))
        → AreAt (map (λ p. p - 1) (p ∷ ps)) all (cond b (q ∷ merged (suc k) ps qs) (merged (suc k) (p ∷ ps) qs))
    by true e taken left =
        let is : p ≡ suc k = eqb-true p (suc k) (sym e) in
        let here : p - 1 ≡ k + 0 = omega (arith, is) in
        let next : suc (p - 1) ≡ suc k = omega (arith, is) in
        (ap (slice_get all) here ∙ h 0, taken (subst₂ (λ (a b : ℕ). IncreasingFrom a b (map (λ p. p - 1) ps)) next count inc.2))
    by false e taken left =
        let other : p ≢ suc k = eqb-false p (suc k) (sym e) in
        let positive : 0 < p = All-head (λ p. 0 < p) p ps some in
        let high : suc k < suc (p - 1) = omega (arith, other, positive, inc.0) in
        let low : p - 1 < suc k + length qs = omega (arith, inc.1, count) in
        left (high, low, subst (λ (b : ℕ). IncreasingFrom (suc (p - 1)) b (map (λ p. p - 1) ps)) count inc.2)

pub stands_within : (xs : List ℕ) (i p : ℕ) → i < length xs → IsTrue (get_or xs i 0 == p) ↔ (slice_get xs i ≡ Some p)
stands_within xs i p low = (λ e. slice_get-get_or xs i 0 low ∙ ap Some (eqb-true (get_or xs i 0) p e), λ at. eq-eqb (get_or xs i 0) p (get_or_from_slice_get xs i p 0 at))

pub stands_past : (xs : List ℕ) (i p : ℕ) → length xs ≤ i → IsTrue false ↔ (slice_get xs i ≡ Some p)
stands_past xs i p past = (λ e. absurd (cc), λ at. absurd (omega (arith, slice_get_within xs i p at, past)))

pub chosen_start : (places : List ℕ) (items behind : List Tree) → items ≡ [] → items ++ merged 0 (drop 0 places) (reverse behind) ≡ merged 0 places (reverse behind)
chosen_start places items behind e = ap (λ (l : List Tree). l ++ merged 0 (drop 0 places) (reverse behind)) e

pub chosen_here : (places : List ℕ) (j k l : ℕ) (items new left rest whole : List Tree) (t : Tree) → items ++ merged k (drop j places) (reverse left) ≡ whole
    → left ≡ rest ++ t ∷ [] → l ≡ k + 1 → slice_get places j ≡ Some l → new ≡ items ++ t ∷ [] → new ++ merged l (drop (j + 1) places) (reverse rest) ≡ whole
chosen_here places j k l items new left rest whole t so popped count at pushed =
    let next : l ≡ suc k = omega (arith, count) in
    let more : j + 1 ≡ suc j = omega arith in
    ap (λ (us : List Tree). us ++ merged l (drop (j + 1) places) (reverse rest)) pushed
    ∙ append_assoc items (t ∷ []) (merged l (drop (j + 1) places) (reverse rest))
    ∙ ap₂ (λ a b. items ++ (t ∷ merged a (drop b places) (reverse rest))) next more
    ∙ ap (λ (us : List Tree). items ++ us) (sym (merged_here places j k t (reverse rest) (at ∙ ap Some next)))
    ∙ ap (λ (us : List Tree). items ++ merged k (drop j places) us) (sym (turned left rest t popped)) ∙ so

pub chosen_other : (places : List ℕ) (j k l : ℕ) (items left rest whole : List Tree) (t : Tree) → items ++ merged k (drop j places) (reverse left) ≡ whole
    → left ≡ rest ++ t ∷ [] → l ≡ k + 1 → (slice_get places j ≡ Some l → ⊥) → items ++ merged l (drop j places) (reverse rest) ≡ whole
chosen_other places j k l items left rest whole t so popped count other =
    let next : l ≡ suc k = omega (arith, count) in
    ap (λ a. items ++ merged a (drop j places) (reverse rest)) next
    ∙ ap (λ (us : List Tree). items ++ us) (sym (merged_past places j k t (reverse rest) (λ e. other (e ∙ ap Some (sym next)))))
    ∙ ap (λ (us : List Tree). items ++ merged k (drop j places) us) (sym (turned left rest t popped)) ∙ so

pub chosen_end : (places : List ℕ) (j k : ℕ) (items left qs : List Tree) → items ++ merged k (drop j places) (reverse left) ≡ merged 0 places qs → length left ≡ 0
    → All (λ p. 0 < p) places → IncreasingFrom 0 (length qs) (map (λ p. p - 1) places) → AreAt (map (λ p. p - 1) places) qs items
chosen_end places j k items left qs so none some inc =
    let done : items ≡ merged 0 places qs =
    sym (append-nil items) ∙ ap (λ (us : List Tree). items ++ us) (sym (merged_none k (drop j places)))
    ∙ ap (λ (us : List Tree). items ++ merged k (drop j places) (reverse us)) (sym (nil_from_length left none)) ∙ so in
    let count : length qs ≡ 0 + length qs = omega arith in
    subst (AreAt (map (λ p. p - 1) places) qs) (sym done)
    (merged_at qs 0 places qs (λ i. let same : 0 + i ≡ i = omega arith in ap (slice_get qs) same) some (subst (λ b. IncreasingFrom 0 b (map (λ p. p - 1) places)) count inc))

pub picked_at : (xs : List Tree) (place at : ℕ) (t : Tree) → at ≡ length xs - place → t ≡ get_or xs at t → 0 < place → place ≤ length xs
    → slice_get (reverse xs) (place - 1) ≡ Some t
picked_at xs place at t split e some within =
    let long = length-reverse xs in
    let index : length xs - 1 - (place - 1) ≡ at = omega (arith, split, some, within, long) in
    slice_get-get_or (reverse xs) (place - 1) t (omega (arith, some, within, long))
    ∙ ap Some (get_or-reverse xs (place - 1) t (omega (arith, some, within, long)) ∙ ap (λ i. get_or xs i t) index ∙ sym e)

-- a list that is turned, tree by tree

pub nearest_next : (items new left rest whole : List Tree) (t : Tree) → items ++ reverse left ≡ whole → left ≡ rest ++ t ∷ [] → new ≡ items ++ t ∷ []
    → new ++ reverse rest ≡ whole
nearest_next items new left rest whole t so popped pushed =
    ap (λ (us : List Tree). us ++ reverse rest) pushed ∙ append_assoc items (t ∷ []) (reverse rest)
    ∙ ap (λ (us : List Tree). items ++ us) (sym (turned left rest t popped)) ∙ so

pub nearest_end : (items left whole : List Tree) → items ++ reverse left ≡ whole → length left ≡ 0 → items ≡ whole
nearest_end items left whole so none = sym (append-nil items) ∙ ap (λ (us : List Tree). items ++ reverse us) (sym (nil_from_length left none)) ∙ so

-- filters as the program has them

pub no_filter : (fs gs : List code.Filter) (f : ℕ) (w : WrittenFilter) → fs ≡ gs → length fs ≤ f → slice_get (map written_filter gs) f ≡ Some w → ⊥
no_filter fs gs f w same past at = absurd (omega (arith, slice_get_within (map written_filter gs) f w at, length-map gs written_filter, ap length same, past))

pub symbol_given : (fs gs : List code.Filter) (f : ℕ) (x : code.Filter) (w : WrittenFilter) → fs ≡ gs → f < length fs → x ≡ get_or fs f x
    → slice_get (map written_filter gs) f ≡ Some w → (written_filter x ≡ w) × (f < length (map written_filter gs))
symbol_given fs gs f x w same low e at = (
  some_one (subst (λ (hs : List code.Filter). slice_get (map written_filter hs) f ≡ Some (written_filter x)) same (read_map written_filter fs f x low e)) at,
  slice_get_within (map written_filter gs) f w at,
)

pub mark_given : (ms ns : List MarkFilter) (i f : ℕ) (m : MarkFilter) (cs : List Ty) → ms ≡ ns → i < length ms → m ≡ get_or ms i m → m.symbol ≡ f
    → mark_among (map mark_filter ms) f ≡ mark_among (map mark_filter (drop i ms)) f → HasProperMark (map mark_filter ns) f cs
    → IsProperAsWritten cs (written_filter m.filter) × (filter_of (written_filter m.filter) ≡ mark_among (map mark_filter ns) f)
mark_given ms ns i f m cs same within e is before proper = (
  proper i (mark_filter m) (subst (λ (xs : List MarkFilter). slice_get (map mark_filter xs) i ≡ Some (mark_filter m)) same (read_map mark_filter ms i m within e)) is,
  sym (mark_here ms i f m within e is before) ∙ ap (λ (xs : List MarkFilter). mark_among (map mark_filter xs) f) same,
)

pub keep_left : (F : code.Filter) (p : ℕ) (ns ps : List ℕ) (cs : List Ty) (qs ts : List Tree) → F ≡ Keep p ns → ps ≡ ns
    → (All (λ n. 0 < n) ps → IncreasingFrom 0 (length qs) (map (λ n. n - 1) ps) → AreAt (map (λ n. n - 1) ps) qs ts)
    → IsProperAsWritten cs (written_filter F) → length qs ≡ length cs → IsLeft (written_filter F) qs (Arguments ts)
keep_left F p ns ps cs qs ts e same left proper count =
    let here : IsProperAsWritten cs (keeps p ns) = subst (λ (G : code.Filter). IsProperAsWritten cs (written_filter G)) e proper in
    let some : All (λ n. 0 < n) ps = subst (All (λ n. 0 < n)) (sym same) here.counted in
    let inc : IncreasingFrom 0 (length qs) (map (λ n. n - 1) ps) =
    subst₂ (λ (b : ℕ) (ms : List ℕ). IncreasingFrom 0 b (map (λ n. n - 1) ms)) (sym count) (sym same) here.proper in
    subst (λ (G : code.Filter). IsLeft (written_filter G) qs (Arguments ts)) (sym e) (subst (λ (ms : List ℕ). AreAt (map (λ n. n - 1) ms) qs ts) same (left some inc))

pub pick_left : (F : code.Filter) (place : ℕ) (cs : List Ty) (items : List Tree) (t : Tree) → F ≡ Pick place
    → (0 < place → place ≤ length items → slice_get (reverse items) (place - 1) ≡ Some t)
    → IsProperAsWritten cs (written_filter F) → length (reverse items) ≡ length cs → IsLeft (written_filter F) (reverse items) (Instead t)
pick_left F place cs items t e left proper count =
    let here : IsProperAsWritten cs (picks place) = subst (λ (G : code.Filter). IsProperAsWritten cs (written_filter G)) e proper in
    let within = slice_get_within cs (place - 1) (sort here.proper.0) here.proper.1 in
    subst (λ (G : code.Filter). IsLeft (written_filter G) (reverse items) (Instead t)) (sym e) (left here.counted (omega (arith, within, here.counted, count, length-reverse items)))
