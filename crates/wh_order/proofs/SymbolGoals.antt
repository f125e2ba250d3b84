-- What the goals of the code stand for where a symbol heads the left tree, letter by letter.
use Rattle.std.proofs.Common.{◌≡◌, ℕ, zero, suc, ◌+◌, ◌-◌, ◌<◌, ◌≤◌, List, [], ◌∷◌, length, take, get_or, Bool, true, false, ◌&&◌, Option, Some, None, refl, ap, ap₂, subst, sym, ◌∙◌, arith}
use Rattle.std.proofs.lemmas.List.{take-map}
use Rattle.std.proofs.lemmas.Bool.{eq-eqb}
use Rattle.std.specs.Prelude.{◌==◌}
use Rattle.std.specs.Global.{Vec}
use Rattle.wh_types.specs.Ty.{same_ty}
use Rattle.wh_types.specs.Erase.{ty}
use Rattle.wh_types.specs.declared.simple_type.SimpleType.{SimpleType}
use Rattle.wh_terms.specs.Tree.{Tm, bound, free, fun, meta, lam, app, Tms, none, more, tms_of, head}
use Rattle.wh_terms.specs.Substitution.{opened}
use Rattle.wh_terms.proofs.TypeTests.{same_ty-self}
use Rattle.wh_order_inference.specs.Inferences.{Letter, lower, first_less, spine_parts, body, meta_part}
use Rattle.wh_order_path.specs.Heads.{arguments_of, list_of}
use Rattle.wh_order_path.specs.SameTrees.{same, all_same, same_list}
use Rattle.wh_order_path.specs.Verdict.{greater, above, each, is_abstracted, symbol_tasks, above_tasks}
use Rattle.wh_order_path.proofs.SameTreeLaws.{list_equal}
use Rattle.wh_order_node.specs.Filterings.{FilteringData}
use Rattle.wh_order_trees.specs.declared.tree.Tree.{Tree}
use Rattle.wh_order_trees.specs.Trees.{tree, trees}
use Rattle.wh_order_trees.specs.TreeParts.{World, Over, AllOver, item_at, IsMetaApplication, IsApplied, IsApplication, IsArgument, IsBody, HasArguments}
use Rattle.wh_order_trees.proofs.TreeLemmas.{trees-length}
use Rattle.wh_order_trees.proofs.PartLemmas.{no_argument, argument_is}
use Rattle.wh_order_trees.proofs.SameLemmas.{FrontsDecided}
use Rattle.wh_order.specs.declared.goals.Goal.{Goal}
use Rattle.wh_order.specs.Precedences.{order_of, HeadOrder}
use Rattle.wh_order.specs.Claims.{HoldsGoals, AreSymbolGoals, AreAboveGoals}
use Rattle.wh_order.proofs.LetterTasks.{lower_other, lower_not, lower_is, less_other, less_not, less_short_left, less_short_right, less_differ, less_is, spine_none, spine_is, body_none, body_is, meta_none, meta_no_item, meta_other, meta_is, above_none, above_symbol}
use Rattle.wh_order.proofs.LetterLemmas.{may, asks_nothing, asks, other_head, items_back}

-- the precedence of the symbol that heads a tree, under the filters
abbrev pub HasOrder : FilteringData → Tree → Option ℕ → Type 0
HasOrder D t r = (w : World) → Over (length D.symbols) w t → HeadOrder D (tree (length D.symbols) t) r

not_below : (a b low high : ℕ) → a ≡ high → b ≡ low → high ≤ low → a ≤ b
not_below a b low high e f not = omega arith

below : (a b low high : ℕ) → a ≡ high → b ≡ low → low < high → b < a
below a b low high e f less = omega arith

-- p

pub lower_refused : (D : FilteringData) (f from next place low high : ℕ) (s t : Tree) → HasOrder D t (Some low) → high ≤ low → order_of D f ≡ high
    → AreSymbolGoals (length D.symbols) (order_of D) f from next s t lower place None
lower_refused D f from next place low high s t has not high_of =
    asks_nothing (length D.symbols) (order_of D) f from next s t lower place
    (λ w o u. let (g, e, low_of) = has w u in
    lower_not w.symbols (order_of D) w.metas f g from next (tree (length D.symbols) s) (tree (length D.symbols) t) (head (tree (length D.symbols) t)) place e
    (not_below (order_of D f) (order_of D g) low high high_of low_of not))

pub lower_unheaded : (D : FilteringData) (f from next place : ℕ) (s t : Tree) → HasOrder D t None
    → AreSymbolGoals (length D.symbols) (order_of D) f from next s t lower place None
lower_unheaded D f from next place s t has =
    asks_nothing (length D.symbols) (order_of D) f from next s t lower place
    (λ w o u. lower_other w.symbols (order_of D) w.metas f from next (tree (length D.symbols) s) (tree (length D.symbols) t) (head (tree (length D.symbols) t)) place (has w u))

pub lower_goals : (D : FilteringData) (f from next place low high : ℕ) (s t : Tree) (r : Option (Vec Goal)) → HasOrder D t (Some low) → place ≡ 0 → low < high → order_of D f ≡ high
    → ((n : ℕ) (w : World) → Over n w s → Over n w t → HoldsGoals n w r (each (above from) next (tree n s) (arguments_of (tree n t))))
    → AreSymbolGoals (length D.symbols) (order_of D) f from next s t lower place r
lower_goals D f from next place low high s t r has first less high_of holds =
    asks (length D.symbols) (order_of D) f from next s t lower place r
    (λ w. each (above from) next (tree (length D.symbols) s) (arguments_of (tree (length D.symbols) t)))
    (λ w o u. let (g, e, low_of) = has w u in
    lower_is w.symbols (order_of D) w.metas f g from next (tree (length D.symbols) s) (tree (length D.symbols) t) (head (tree (length D.symbols) t)) place first e
    (below (order_of D f) (order_of D g) low high high_of low_of less))
    (λ w o u. holds (length D.symbols) w o u)

-- x

pub less_refused : (D : FilteringData) (f from next place low high : ℕ) (s t : Tree) → HasOrder D t (Some low) → (low ≡ high → ⊥) → order_of D f ≡ high
    → AreSymbolGoals (length D.symbols) (order_of D) f from next s t first_less place None
less_refused D f from next place low high s t has differ high_of =
    asks_nothing (length D.symbols) (order_of D) f from next s t first_less place
    (λ w o u. let (g, e, low_of) = has w u in
    less_not w.symbols (order_of D) w.metas f g from next (tree (length D.symbols) s) (tree (length D.symbols) t) (head (tree (length D.symbols) t)) place e
    (λ k. differ (sym low_of ∙ k ∙ high_of)))

pub less_unheaded : (D : FilteringData) (f from next place : ℕ) (s t : Tree) → HasOrder D t None
    → AreSymbolGoals (length D.symbols) (order_of D) f from next s t first_less place None
less_unheaded D f from next place s t has =
    asks_nothing (length D.symbols) (order_of D) f from next s t first_less place
    (λ w o u. less_other w.symbols (order_of D) w.metas f from next (tree (length D.symbols) s) (tree (length D.symbols) t) (head (tree (length D.symbols) t)) place (has w u))

pub less_by_place : (D : FilteringData) (f from next place low high : ℕ) (s t : Tree) (r : Option (Vec Goal)) → HasOrder D t (Some low) → low ≡ high → order_of D f ≡ high
    → ((n f g : ℕ) (prec : ℕ → ℕ) → head (tree n t) ≡ fun g → prec g ≡ prec f → AreSymbolGoals n prec f from next s t first_less place r)
    → AreSymbolGoals (length D.symbols) (order_of D) f from next s t first_less place r
less_by_place D f from next place low high s t r has equal high_of holds w o u =
    let (g, e, low_of) = has w u in
    holds (length D.symbols) f g (order_of D) e (low_of ∙ equal ∙ sym high_of) w o u

pub less_short : (n f g from next place : ℕ) (prec : ℕ → ℕ) (s t : Tree) (xs : List Tree) → HasArguments s xs → head (tree n t) ≡ fun g → length xs < place
    → AreSymbolGoals n prec f from next s t first_less place None
less_short n f g from next zero prec s t xs has e past = absurd (omega arith)
less_short n f g from next (suc k) prec s t xs has e past =
    asks_nothing n prec f from next s t first_less (suc k)
    (λ w o u. less_short_left w.symbols prec w.metas f g from next (tree n s) (tree n t) (head (tree n t)) k e (no_argument s xs (suc k) has past n w o))

pub less_short_other : (n f g from next place : ℕ) (prec : ℕ → ℕ) (s t : Tree) (ys : List Tree) → HasArguments t ys → head (tree n t) ≡ fun g → length ys < place
    → AreSymbolGoals n prec f from next s t first_less place None
less_short_other n f g from next zero prec s t ys has e past = absurd (omega arith)
less_short_other n f g from next (suc k) prec s t ys has e past =
    asks_nothing n prec f from next s t first_less (suc k)
    (λ w o u. less_short_right w.symbols prec w.metas f g from next (tree n s) (tree n t) (head (tree n t)) k e (no_argument t ys (suc k) has past n w u))

same_list_false : (ts us : List Tm) → (ts ≡ us → ⊥) → same_list ts us ≡ false
same_list_false ts us refuted = on (same_list ts us) refl
  where
    on : (b : Bool) → same_list ts us ≡ b → same_list ts us ≡ false
    on true e = absurd (refuted (list_equal ts us e))
    on false e = e

both_true : (b c : Bool) → b ≡ true → c ≡ true → (b && c) ≡ true
both_true true c e f = f
both_true false c e f = absurd (cc)

mutual
  pub same-self : (t : Tm) → same t t ≡ true
  same-self (bound i) = eq-eqb i i refl
  same-self (free x a) = both_true (x == x) (same_ty a a) (eq-eqb x x refl) (same_ty-self a)
  same-self (fun f) = eq-eqb f f refl
  same-self (meta z ts) = both_true (z == z) (all_same ts ts) (eq-eqb z z refl) (all_same-self ts)
  same-self (lam a t) = both_true (same_ty a a) (same t t) (same_ty-self a) (same-self t)
  same-self (app t u) = both_true (same t t) (same u u) (same-self t) (same-self u)

  all_same-self : (ts : Tms) → all_same ts ts ≡ true
  all_same-self none = refl
  all_same-self (more t ts) = both_true (same t t) (all_same ts ts) (same-self t) (all_same-self ts)

same_list-self : (ts : List Tm) → same_list ts ts ≡ true
same_list-self [] = refl
same_list-self (t ∷ ts) = both_true (same t t) (same_list ts ts) (same-self t) (same_list-self ts)

front_is : (n : ℕ) (ts : List Tm) (xs : List Tree) (k : ℕ) → ts ≡ trees n xs → take k ts ≡ trees n (take k xs)
front_is n ts xs k e = ap (take k) e ∙ take-map (tree n) k xs

-- the arguments before the place differ
pub less_differs : (n f g from next place j : ℕ) (prec : ℕ → ℕ) (s t : Tree) (xs ys : List Tree) (r : Bool) → HasArguments s xs → HasArguments t ys → head (tree n t) ≡ fun g
    → j + 1 ≡ place → FrontsDecided j xs ys r → r ≡ false → AreSymbolGoals n prec f from next s t first_less place None
less_differs n f g from next zero j prec s t xs ys r has has_other e step decides not = absurd (omega (arith, step))
less_differs n f g from next (suc k) j prec s t xs ys r has has_other e step decides not =
    let place_of : j ≡ k = omega (arith, step) in
    asks_nothing n prec f from next s t first_less (suc k)
    (λ w o u. less_differ w.symbols prec w.metas f g from next (tree n s) (tree n t) (head (tree n t)) k e
    (subst (λ (i : ℕ). same_list (take i (arguments_of (tree n s))) (take i (arguments_of (tree n t))) ≡ false) place_of
    (same_list_false (take j (arguments_of (tree n s))) (take j (arguments_of (tree n t)))
    (λ same_fronts. refuted (sym ((decides n w (has n w o).1 (has_other n w u).1).1
    (sym (front_is n (arguments_of (tree n s)) xs j (has n w o).0) ∙ same_fronts ∙ front_is n (arguments_of (tree n t)) ys j (has_other n w u).0)) ∙ not)))))
  where
    refuted : true ≡ false → ⊥
    refuted e = cc

-- they are the same, and so the trees at the place are compared
pub less_goals : (n f g from next place j : ℕ) (prec : ℕ → ℕ) (s t : Tree) (xs ys : List Tree) (x y : Tree) (r : Bool) (gs : Option (Vec Goal)) → HasArguments s xs → HasArguments t ys
    → head (tree n t) ≡ fun g → prec g ≡ prec f → j + 1 ≡ place → place ≤ length xs → place ≤ length ys → FrontsDecided j xs ys r → r ≡ true
    → x ≡ get_or xs j x → y ≡ get_or ys j y
    → ((w : World) → Over n w s → AllOver n w ys → Over n w x → Over n w y
    → HoldsGoals n w gs (record { claim = greater; next = next; left = tree n x; right = tree n y } ∷ each (above from) next (tree n s) (trees n ys)))
    → AreSymbolGoals n prec f from next s t first_less place gs
less_goals n f g from next zero j prec s t xs ys x y r gs has has_other e equal step within inside decides so ex ey holds = absurd (omega (arith, step))
less_goals n f g from next (suc k) j prec s t xs ys x y r gs has has_other e equal step within inside decides so ex ey holds =
    let place_of : j ≡ k = omega (arith, step) in
    let at_x : x ≡ get_or xs (suc k - 1) x = ex ∙ ap (λ (i : ℕ). get_or xs i x) (omega (arith, step)) in
    let at_y : y ≡ get_or ys (suc k - 1) y = ey ∙ ap (λ (i : ℕ). get_or ys i y) (omega (arith, step)) in
    asks n prec f from next s t first_less (suc k) gs
    (λ w. record { claim = greater; next = next; left = tree n x; right = tree n y } ∷ each (above from) next (tree n s) (trees n ys))
    (λ w o u. less_is w.symbols prec w.metas f g from next (tree n s) (tree n t) (head (tree n t)) (tree n x) (tree n y) k e equal
    (subst (λ (i : ℕ). same_list (take i (arguments_of (tree n s))) (take i (arguments_of (tree n t))) ≡ true) place_of
    (ap₂ same_list (front_is n (arguments_of (tree n s)) xs j (has n w o).0)
    (front_is n (arguments_of (tree n t)) ys j (has_other n w u).0
    ∙ sym ((decides n w (has n w o).1 (has_other n w u).1).0 so))
    ∙ same_list-self (trees n (take j xs))))
    (argument_is s xs (suc k) x has (omega arith) within at_x n w o).0
    (argument_is t ys (suc k) y has_other (omega arith) inside at_y n w u).0
    ∙ ap (λ (l : List Tm). Some (record { claim = greater; next = next; left = tree n x; right = tree n y } ∷ each (above from) next (tree n s) l)) (has_other n w u).0)
    (λ w o u. holds w o (has_other n w u).1 (argument_is s xs (suc k) x has (omega arith) within at_x n w o).1 (argument_is t ys (suc k) y has_other (omega arith) inside at_y n w u).1)

-- a

pub spine_refused : (n f from next place : ℕ) (prec : ℕ → ℕ) (s t : Tree) → IsApplication t None → AreSymbolGoals n prec f from next s t spine_parts place None
spine_refused n f from next place prec s t has =
    asks_nothing n prec f from next s t spine_parts place (λ w o u. spine_none w.symbols prec w.metas f from next (tree n s) (tree n t) place (has n w u))

pub spine_goals : (n f from next place : ℕ) (prec : ℕ → ℕ) (s t h : Tree) (xs : List Tree) (gs : Option (Vec Goal)) → place ≡ 0
    → ((n : ℕ) (w : World) → Over n w t → IsApplied t h xs n w)
    → ((w : World) → Over n w s → Over n w h → AllOver n w xs → HoldsGoals n w gs (each (above from) next (tree n s) (tree n h ∷ trees n xs)))
    → AreSymbolGoals n prec f from next s t spine_parts place gs
spine_goals n f from next place prec s t h xs gs first has holds =
    asks n prec f from next s t spine_parts place gs
    (λ w. each (above from) next (tree n s) (tree n h ∷ trees n xs))
    (λ w o u. let p = has n w u in
    let (a, b, shape) = p.spine_of in
    spine_is w.symbols prec w.metas f from next (tree n s) (tree n t) a b (tree n h) place first shape p.head_of (other_head (tree n h) p.others p.alone)
    ∙ ap (λ (l : List Tm). Some (each (above from) next (tree n s) (tree n h ∷ l))) p.items)
    (λ w o u. let p = has n w u in holds w o p.head_over p.items_over)

-- b

pub body_refused : (n f from next place : ℕ) (prec : ℕ → ℕ) (s t : Tree) → IsBody t None → AreSymbolGoals n prec f from next s t body place None
body_refused n f from next place prec s t has =
    asks_nothing n prec f from next s t body place
    (λ w o u. body_none w.symbols prec w.metas f from next (tree n s) (tree n t) (head (tree n t)) place (has n w u))

pub body_goals : (n f from next further place : ℕ) (prec : ℕ → ℕ) (s t x y : Tree) (a : SimpleType) (gs : Option (Vec Goal)) → place ≡ 0 → further ≡ next + 1
    → ((n : ℕ) (w : World) → Over n w t → (tree n t ≡ lam (ty a) (tree n x)) × Over n w x)
    → ((n : ℕ) → tree n y ≡ opened (free next (ty a)) (tree n x)) → ((n : ℕ) (w : World) → Over n w x → Over n w y)
    → ((w : World) → Over n w s → Over n w y → HoldsGoals n w gs (record { claim = above from; next = further; left = tree n s; right = tree n y } ∷ []))
    → AreSymbolGoals n prec f from next s t body place gs
body_goals n f from next further place prec s t x y a gs first step has opens opens_over holds =
    let step_of : further ≡ suc next = omega (arith, step) in
    asks n prec f from next s t body place gs
    (λ w. record { claim = above from; next = further; left = tree n s; right = tree n y } ∷ [])
    (λ w o u. body_is w.symbols prec w.metas f from next (tree n s) (tree n t) (head (tree n t)) (tree n x) (ty a) place first (has n w u).0
    ∙ ap₂ (λ (k : ℕ) (v : Tm). Some (record { claim = above from; next = k; left = tree n s; right = v } ∷ [])) (sym step_of) (sym (opens n)))
    (λ w o u. holds w o (opens_over n w (has n w u).1))

-- z

pub meta_refused : (n f from next place : ℕ) (prec : ℕ → ℕ) (s t : Tree) → IsMetaApplication t None → AreSymbolGoals n prec f from next s t meta_part place None
meta_refused n f from next place prec s t has =
    asks_nothing n prec f from next s t meta_part place
    (λ w o u. meta_none w.symbols prec w.metas f from next (tree n s) (tree n t) (head (tree n t)) place (has n w u))

-- the tree is the meta-variable z and has these arguments
abbrev pub IsMetaOf : Tree → ℕ → List Tree → Type 0
IsMetaOf t z xs = (n : ℕ) (w : World) → Over n w t → (tree n t ≡ meta z (tms_of (trees n xs))) × AllOver n w xs

pub meta_without : (n f from next place z : ℕ) (prec : ℕ → ℕ) (s t : Tree) (xs : List Tree) → IsMetaOf t z xs → IsArgument s place None
    → AreSymbolGoals n prec f from next s t meta_part place None
meta_without n f from next place z prec s t xs has lacks =
    asks_nothing n prec f from next s t meta_part place
    (λ w o u. meta_no_item w.symbols prec w.metas f from next (tree n s) (tree n t) (head (tree n t)) z place (tms_of (trees n xs)) (has n w u).0 (lacks n w o))

-- the test on the argument on the left
abbrev pub TestsMeta : ℕ → List Tree → Tree → Bool → Type 0
TestsMeta z xs x r = (n k : ℕ) (w : World) → k + length xs ≡ length xs → Over n w x → r ≡ is_abstracted z (length xs) k (tree n x)

tests_meta : (n : ℕ) (w : World) (z : ℕ) (xs : List Tree) (x : Tree) (r b : Bool) → TestsMeta z xs x r → r ≡ b → Over n w x
    → is_abstracted z (length (list_of (tms_of (trees n xs)))) 0 (tree n x) ≡ b
tests_meta n w z xs x r b tests e o =
    ap (λ (k : ℕ). is_abstracted z k 0 (tree n x)) (ap length (items_back (trees n xs)) ∙ trees-length n xs) ∙ sym (tests n 0 w (omega arith) o) ∙ e

abbrev pub IsItem : Tree → ℕ → Tree → Type 0
IsItem s place x = (n : ℕ) (w : World) → Over n w s → (item_at (arguments_of (tree n s)) place ≡ Some (tree n x)) × Over n w x

pub meta_differs : (n f from next place z : ℕ) (prec : ℕ → ℕ) (s t x : Tree) (xs : List Tree) (r : Bool) → IsMetaOf t z xs → IsItem s place x → TestsMeta z xs x r → r ≡ false
    → AreSymbolGoals n prec f from next s t meta_part place None
meta_differs n f from next place z prec s t x xs r has at tests not =
    asks_nothing n prec f from next s t meta_part place
    (λ w o u. meta_other w.symbols prec w.metas f from next (tree n s) (tree n t) (head (tree n t)) (tree n x) z place (tms_of (trees n xs)) (has n w u).0 (at n w o).0
    (tests_meta n w z xs x r false tests not (at n w o).1))

pub meta_goals : (n f from next place z : ℕ) (prec : ℕ → ℕ) (s t x : Tree) (xs : List Tree) (r : Bool) (gs : Option (Vec Goal)) → IsMetaOf t z xs → IsItem s place x → TestsMeta z xs x r
    → r ≡ true → ((w : World) → Over n w s → AllOver n w xs → HoldsGoals n w gs (each (above from) next (tree n s) (trees n xs)))
    → AreSymbolGoals n prec f from next s t meta_part place gs
meta_goals n f from next place z prec s t x xs r gs has at tests so holds =
    asks n prec f from next s t meta_part place gs
    (λ w. each (above from) next (tree n s) (trees n xs))
    (λ w o u. meta_is w.symbols prec w.metas f from next (tree n s) (tree n t) (head (tree n t)) (tree n x) z place (tms_of (trees n xs)) (has n w u).0 (at n w o).0
    (tests_meta n w z xs x r true tests so (at n w o).1)
    ∙ ap (λ (l : List Tm). Some (each (above from) next (tree n s) l)) (items_back (trees n xs)))
    (λ w o u. holds w o (has n w u).1)

-- any letter

pub symbol_above : (D : FilteringData) (from next place high : ℕ) (s t : Tree) (l m : Letter) (r : Option (Vec Goal)) → HasOrder D s (Some high) → l ≡ m
    → ((f : ℕ) → order_of D f ≡ high → AreSymbolGoals (length D.symbols) (order_of D) f from next s t m place r)
    → AreAboveGoals (length D.symbols) (order_of D) from next s t l place r
symbol_above D from next place high s t l m r has same_letter holds =
    subst (λ (k : Letter). AreAboveGoals (length D.symbols) (order_of D) from next s t k place r) (sym same_letter)
    (λ w o u. let (f, e, high_of) = has w o in
    may (length D.symbols) w r
    (above_tasks w.symbols (order_of D) w.metas from next (tree (length D.symbols) s) (tree (length D.symbols) t) m place)
    (symbol_tasks w.symbols (order_of D) w.metas f from next (tree (length D.symbols) s) (tree (length D.symbols) t) m place (head (tree (length D.symbols) t)))
    (above_symbol w.symbols (order_of D) w.metas f from next (tree (length D.symbols) s) (tree (length D.symbols) t) m place e)
    (holds f high_of w o u))

pub above_unheaded : (D : FilteringData) (from next place : ℕ) (s t : Tree) (l : Letter) → HasOrder D s None
    → AreAboveGoals (length D.symbols) (order_of D) from next s t l place None
above_unheaded D from next place s t l has w o u =
    may (length D.symbols) w None
    (above_tasks w.symbols (order_of D) w.metas from next (tree (length D.symbols) s) (tree (length D.symbols) t) l place) None
    (above_none w.symbols (order_of D) w.metas from next (tree (length D.symbols) s) (tree (length D.symbols) t) l place (has w o)) refl
