-- The best ways to show goals of the program.
use Rattle.std.proofs.Common.{◌≡◌, ◌⊎◌, ℕ, zero, suc, ◌+◌, ◌-◌, ◌<◌, ◌≤◌, inl, inr, List, [], ◌∷◌, length, map, drop, get_or, Option, Some, None, refl, ap, subst, sym, ◌∙◌, arith}
use Rattle.std.specs.Prelude.{◌^◌}
use Rattle.std.specs.Global.{Vec}
use Rattle.wh_terms.specs.Typing.{Symbols, Declared}
use Rattle.wh_order_inference.specs.Inferences as m
use Rattle.wh_order_inference.specs.Said.{letter}
use Rattle.wh_order_inference.specs.declared.inference.Letter.{Letter}
use Rattle.wh_order_inference.specs.declared.inference.Letter.TheVariants.{Same, Lam, Mono, Sub, Prec, Lex, App, Bind, Var, Meta}
use Rattle.wh_order_path.specs.Verdict.{Task}
use Rattle.wh_order_node.specs.Filterings.{FilteringData}
use Rattle.wh_order_trees.specs.declared.tree.Tree.{Tree}
use Rattle.wh_order_trees.specs.TreeParts.{World, HasArguments}
use Rattle.wh_order_trees.proofs.TreeLemmas.{trees-length}
use Rattle.wh_order.specs.declared.goals.Goal.{Goal}
use Rattle.wh_order.specs.Precedences.{order_of}
use Rattle.wh_order.specs.Claims.{task, side_tree, IsGoalOver, AreGoalsOver, StandFor, MayStandFor}
use Rattle.wh_order.proofs.CheckLemmas.{drop_here, drop_end}
use Rattle.wh_order_known.specs.declared.choice.Choice.{Choice}
use Rattle.wh_order_known.specs.Least.{IsLeast, own}
use Rattle.wh_order_known.specs.Ways.{IsShown, AreShown, tasks_by}
use Rattle.wh_order_known.specs.Counts.{IsLeastCount, IsLesser, count_of}
use Rattle.wh_order_infer.specs.Bests.{letter_with, IsBy, AreGoalsBy, IsBestOf, IsBest, IsBestBy, IsBestAt, IsLeastTotal, IsOneMore, IsSum}
use Rattle.wh_order_infer.proofs.LeastLemmas.{least_same, least_or}
use Rattle.wh_order_path.proofs.SameTreeLaws.{none_some, some_none}
use Rattle.wh_order_infer.proofs.WayLemmas.{way_within, shown_by, none_shown, by_shown, nothing_shown, sum_none, sum_over, sum_some, none_behind}
use Rattle.wh_order.proofs.JudgedLemmas.{nothing_asked}

letter_back : (l : m.Letter) → (L : Letter) × (letter L ≡ l)
letter_back m.same_trees = (Same, refl)
letter_back m.bodies = (Lam, refl)
letter_back m.arguments = (Mono, refl)
letter_back m.part = (Sub, refl)
letter_back m.lower = (Prec, refl)
letter_back m.first_less = (Lex, refl)
letter_back m.spine_parts = (App, refl)
letter_back m.body = (Bind, refl)
letter_back m.variable = (Var, refl)
letter_back m.meta_part = (Meta, refl)

pub letter_number : (L : Letter) → (j : ℕ) × (j < 10) × (L ≡ letter_with j)
letter_number Same = (0, omega arith, refl)
letter_number Lam = (1, omega arith, refl)
letter_number Mono = (2, omega arith, refl)
letter_number Sub = (3, omega arith, refl)
letter_number Prec = (4, omega arith, refl)
letter_number Lex = (5, omega arith, refl)
letter_number App = (6, omega arith, refl)
letter_number Bind = (7, omega arith, refl)
letter_number Var = (8, omega arith, refl)
letter_number Meta = (9, omega arith, refl)

module _ (F : Symbols) (prec : ℕ → ℕ) (M : List Declared) where
  pub way_shown : (room : ℕ) (k : Task) (c : Choice) → IsBy F prec M room k c → IsShown F prec M room k c.count
  way_shown room k c (d, b, ks, deep, asked, shown, count) =
      subst (λ r. IsShown F prec M r k c.count) (sym deep)
      (subst (λ x. IsShown F prec M (suc d) k x) (sym count) (by_shown F prec M d k (letter c.letter) c.place b ks asked shown))

  pub way_some : (room : ℕ) (k : Task) (n : ℕ) → IsShown F prec M room k n → (c : Choice) × IsBy F prec M room k c × (c.count ≡ n)
  way_some zero k n shown = absurd (none_shown F prec M k n shown)
  way_some (suc d) k n shown =
      let (l, place, b, ks, asked, all, count) = shown_by F prec M d k n shown in
      let (L, same) = letter_back l in
      (record { letter = L; place = place; count = n }, (d, b, ks, refl, subst (λ x. tasks_by F prec M k x place ≡ Some ks) (sym same) asked, all, count), refl)

  by_count : (room : ℕ) (k : Task) (r : Option Choice) → IsLeast (λ c. c.count) (λ c. IsBy F prec M room k c × Unit {0}) r → IsLeast own (IsShown F prec M room k) (count_of r)
  by_count room k None h = λ n shown. let (c, by, same) = way_some room k n shown in subst (λ x. 2 ^ 32 ≤ x) same (h c (by, tt))
  by_count room k (Some b) h = (
    h.0,
    way_shown room k b h.1.0,
    λ n shown. let (c, by, same) = way_some room k n shown in subst (λ x. b.count ≤ x) same (h.2 c (by, tt)),
  )

pub best_counted : (D : FilteringData) (room : ℕ) (g : Goal) (r : Option Choice) → IsBest D room g r → IsLeastCount D room g (count_of r)
best_counted D room g r h w over = by_count w.symbols (order_of D) w.metas room (task (length D.symbols) g) r (h w over)

-- choices among more and more

pub best_none : (C : Choice → Type 0) (D : FilteringData) (room : ℕ) (g : Goal) → ((c : Choice) → C c → ⊥) → IsBestOf C D room g None
best_none C D room g never w over c x = absurd (never c x.1)

pub best_more : (C B E : Choice → Type 0) (D : FilteringData) (room : ℕ) (g : Goal) (f s r : Option Choice) → IsLesser f s r
    → ((c : Choice) → E c → C c ⊎ B c) → ((c : Choice) → C c → E c) → ((c : Choice) → B c → E c) → IsBestOf C D room g f → IsBestOf B D room g s → IsBestOf E D room g r
best_more C B E D room g f s r is split left right p q w over =
    let Way : Choice → Type 0 = λ c. IsBy w.symbols (order_of D) w.metas room (task (length D.symbols) g) c in
    least_or (λ c. Way c × C c) (λ c. Way c × B c) (λ c. Way c × E c) f s r is (p w over) (q w over)
    (λ c x. elim (split c x.1) [ inl h ↦ inl (x.0, h) | inr h ↦ inr (x.0, h) ]) (λ c x. (x.0, left c x.1)) (λ c x. (x.0, right c x.1))

pub best_all : (C E : Choice → Type 0) (D : FilteringData) (room : ℕ) (g : Goal) (r : Option Choice)
    → ((w : World) → IsGoalOver (length D.symbols) w g → (c : Choice) → IsBy w.symbols (order_of D) w.metas room (task (length D.symbols) g) c → E c → C c)
    → ((c : Choice) → C c → E c) → IsBestOf C D room g r → IsBestOf E D room g r
best_all C E D room g r from to h w over =
    let Way : Choice → Type 0 = λ c. IsBy w.symbols (order_of D) w.metas room (task (length D.symbols) g) c in
    least_same (λ (c : Choice). c.count) (λ c. Way c × C c) (λ c. Way c × E c) r (λ c x. (x.0, to c x.1)) (λ c x. (x.0, from w over c x.0 x.1)) (h w over)

-- by letters

abbrev pub ByLetters : ℕ → Choice → Type 0
ByLetters i c = (j : ℕ) × (j < i) × (c.letter ≡ letter_with j)

pub letters_first : (D : FilteringData) (room : ℕ) (g : Goal) → IsBestOf (ByLetters 0) D room g None
letters_first D room g = best_none (ByLetters 0) D room g (λ c x. omega (arith, x.1))

at_or_below : (j i : ℕ) → j < i + 1 → (j < i) ⊎ (j ≡ i)
at_or_below zero zero h = inr refl
at_or_below zero (suc i) h = inl (omega arith)
at_or_below (suc j) zero h = absurd (omega arith)
at_or_below (suc j) (suc i) h = elim (at_or_below j i (omega arith)) [ inl l ↦ inl (omega (arith, l)) | inr e ↦ inr (ap suc e) ]

pub letters_next : (D : FilteringData) (room : ℕ) (g : Goal) (i : ℕ) (l : Letter) (f s r : Option Choice) → l ≡ letter_with i → IsLesser f s r
    → IsBestOf (ByLetters i) D room g f → IsBestBy D room g l s → IsBestOf (ByLetters (i + 1)) D room g r
letters_next D room g i l f s r e is p q =
    best_more (ByLetters i) (λ c. c.letter ≡ l) (ByLetters (i + 1)) D room g f s r is
    (λ c x. elim (at_or_below x.0 i x.1) [ inl h ↦ inl (x.0, h, x.2) | inr h ↦ inr (x.2 ∙ ap letter_with h ∙ sym e) ])
    (λ c x. (x.0, omega (arith, x.1), x.2)) (λ c x. (i, omega arith, x ∙ e)) p q

pub letters_all : (D : FilteringData) (room : ℕ) (g : Goal) (i : ℕ) (r : Option Choice) → 10 ≤ i → IsBestOf (ByLetters i) D room g r → IsBest D room g r
letters_all D room g i r past h =
    best_all (ByLetters i) (λ c. Unit {0}) D room g r
    (λ w over c by u. let (j, less, e) = letter_number c.letter in (j, omega (arith, less, past), e)) (λ c x. tt) h

-- a choice with one entry: none has fewer
pub best_one : (C : Choice → Type 0) (D : FilteringData) (room : ℕ) (g : Goal) (r : Option Choice) → count_of r ≡ Some 1 → IsBestOf C D room g r → IsBest D room g r
best_one C D room g None one h w over = absurd (none_some one)
best_one C D room g (Some b) one h w over =
    let few : b.count ≡ 1 = some_of one in
    ((h w over).0, ((h w over).1.0, tt), λ c x. omega (arith, few, x.0.6))
  where
    some_of : {A : Type 0} {a b : A} → Some a ≡ Some b → a ≡ b
    some_of e = cc

-- by places

abbrev pub ByPlaces : Letter → ℕ → Choice → Type 0
ByPlaces l i c = (c.letter ≡ l) × (c.place < i)

pub places_first : (D : FilteringData) (room : ℕ) (g : Goal) (l : Letter) → IsBestOf (ByPlaces l 0) D room g None
places_first D room g l = best_none (ByPlaces l 0) D room g (λ c x. omega (arith, x.1))

pub places_next : (D : FilteringData) (room : ℕ) (g : Goal) (l : Letter) (i : ℕ) (f s r : Option Choice) → IsLesser f s r
    → IsBestOf (ByPlaces l i) D room g f → IsBestAt D room g l i s → IsBestOf (ByPlaces l (i + 1)) D room g r
places_next D room g l i f s r is p q =
    best_more (ByPlaces l i) (λ c. (c.letter ≡ l) × (c.place ≡ i)) (ByPlaces l (i + 1)) D room g f s r is
    (λ c x. elim (at_or_below c.place i x.1) [ inl h ↦ inl (x.0, h) | inr h ↦ inr (x.0, h) ])
    (λ c x. (x.0, omega (arith, x.1))) (λ c x. (x.0, omega (arith, x.1))) p q

pub places_all : (D : FilteringData) (room : ℕ) (g : Goal) (l : Letter) (i : ℕ) (r : Option Choice) (s : Tree) (items : List Tree) → s ≡ side_tree g.left → HasArguments s items
    → length items < i → IsBestOf (ByPlaces l i) D room g r → IsBestBy D room g l r
places_all D room g l i r s items is has past h =
    best_all (ByPlaces l i) (λ c. c.letter ≡ l) D room g r
    (λ w over c by e. (
      e,
      omega (
        arith,
        past,
        trees-length (length D.symbols) items,
        ap length ((subst (λ t. HasArguments t items) is has) (length D.symbols) w over.0).0,
        way_within w.symbols (order_of D) w.metas (task (length D.symbols) g) (letter c.letter) c.place by.2 by.4,
      ),
    ))
    (λ c x. x.0) h

-- by one letter at one place

pub at_no_room : (D : FilteringData) (room : ℕ) (g : Goal) (l : Letter) (place : ℕ) → room ≡ 0 → IsBestAt D room g l place None
at_no_room D room g l place none w over c x = absurd (omega (arith, x.0.3, none))

pub asked : (n : ℕ) (w : World) (gs : Vec Goal) (o : Option (List Task)) (ks : List Task) → MayStandFor n w (Some gs) o → o ≡ Some ks → StandFor n w gs.items ks
asked n w gs None ks h e = absurd (none_some e)
asked n w gs (Some js) ks h e = subst (StandFor n w gs.items) (some_of e) h
  where
    some_of : {A : Type 0} {a b : A} → Some a ≡ Some b → a ≡ b
    some_of e = cc

-- what is asked for by a choice, at a letter and a place that are the choice's
tasks_at : (D : FilteringData) (g : Goal) (w : World) (c : Choice) (l : Letter) (place : ℕ) (ks : List Task) → c.letter ≡ l → c.place ≡ place
    → tasks_by w.symbols (order_of D) w.metas (task (length D.symbols) g) (letter c.letter) c.place ≡ Some ks
    → tasks_by w.symbols (order_of D) w.metas (task (length D.symbols) g) (letter l) place ≡ Some ks
tasks_at D g w c l place ks e f h =
    sym (ap (λ (x : Letter). tasks_by w.symbols (order_of D) w.metas (task (length D.symbols) g) (letter x) place) e)
    ∙ sym (ap (λ (x : ℕ). tasks_by w.symbols (order_of D) w.metas (task (length D.symbols) g) (letter c.letter) x) f) ∙ h

pub at_no_goals : (D : FilteringData) (room : ℕ) (g : Goal) (l : Letter) (place : ℕ) → AreGoalsBy D g (letter l) place None → IsBestAt D room g l place None
at_no_goals D room g l place none w over c ((d, b, ks, deep, by, shown, count), (e, f)) =
    absurd (none_some (sym (nothing_asked (length D.symbols) w (tasks_by w.symbols (order_of D) w.metas (task (length D.symbols) g) (letter l) place) (none w over))
    ∙ tasks_at D g w c l place ks e f by))

-- the tasks of a choice are those that the goals stand for
goals_of_choice : (D : FilteringData) (g : Goal) (w : World) (c : Choice) (l : Letter) (place : ℕ) (ks : List Task) (gs : Vec Goal) → c.letter ≡ l → c.place ≡ place
    → tasks_by w.symbols (order_of D) w.metas (task (length D.symbols) g) (letter c.letter) c.place ≡ Some ks → AreGoalsBy D g (letter l) place (Some gs)
    → IsGoalOver (length D.symbols) w g → StandFor (length D.symbols) w gs.items ks
goals_of_choice D g w c l place ks gs e f by goals over =
    asked (length D.symbols) w gs (tasks_by w.symbols (order_of D) w.metas (task (length D.symbols) g) (letter l) place) ks (goals w over) (tasks_at D g w c l place ks e f by)

one_less : (room d e : ℕ) → room ≡ suc d → e ≡ room - 1 → e ≡ d
one_less room d e p q = omega (arith, p, q)

-- where the parts have too many entries
too_many : (D : FilteringData) (room less : ℕ) (g : Goal) (w : World) (c : Choice) (l : Letter) (place : ℕ) (gs : Vec Goal) (hs : List Goal) (n : ℕ) → hs ≡ gs.items → less ≡ room - 1
    → AreGoalsBy D g (letter l) place (Some gs) → IsGoalOver (length D.symbols) w g
    → IsBy w.symbols (order_of D) w.metas room (task (length D.symbols) g) c → c.letter ≡ l → c.place ≡ place
    → ((w : World) → AreGoalsOver (length D.symbols) w hs → (b : ℕ) → AreShown w.symbols (order_of D) w.metas less (map (task (length D.symbols)) hs) b → n ≤ b) → n + 1 ≤ c.count
too_many D room less g w c l place gs hs n items step goals over (d, b, ks, deep, by, shown, count) e f few =
    let st = goals_of_choice D g w c l place ks gs e f by goals over in
    let js : map (task (length D.symbols)) hs ≡ ks = ap (map (task (length D.symbols))) items ∙ st.same_tasks in
    let here : AreShown w.symbols (order_of D) w.metas less (map (task (length D.symbols)) hs) b =
    subst (λ k. AreShown w.symbols (order_of D) w.metas k (map (task (length D.symbols)) hs) b) (sym (one_less room d less deep step))
    (subst (λ k. AreShown w.symbols (order_of D) w.metas d k b) (sym js) shown) in
    omega (arith, few w (subst (AreGoalsOver (length D.symbols) w) (sym items) st.over) b here, count)

pub at_no_total : (D : FilteringData) (room less : ℕ) (g : Goal) (l : Letter) (place : ℕ) (gs : Vec Goal) (hs : List Goal) → hs ≡ gs.items → less ≡ room - 1
    → AreGoalsBy D g (letter l) place (Some gs) → IsLeastTotal D less hs None → IsBestAt D room g l place None
at_no_total D room less g l place gs hs items step goals total w over c (by, (e, f)) =
    omega (arith, too_many D room less g w c l place gs hs (2 ^ 32) items step goals over by e f total)

pub at_over : (D : FilteringData) (room less : ℕ) (g : Goal) (l : Letter) (place : ℕ) (gs : Vec Goal) (hs : List Goal) (n : ℕ) → hs ≡ gs.items → less ≡ room - 1
    → AreGoalsBy D g (letter l) place (Some gs) → IsLeastTotal D less hs (Some n) → 2 ^ 32 ≤ n + 1 → IsBestAt D room g l place None
at_over D room less g l place gs hs n items step goals total over_full w over c (by, (e, f)) =
    omega (arith, over_full, too_many D room less g w c l place gs hs n items step goals over by e f (λ w over. (total w over).2))

pub at_some : (D : FilteringData) (room less : ℕ) (g : Goal) (l : Letter) (place : ℕ) (gs : Vec Goal) (hs : List Goal) (n : ℕ) (c : Choice) → hs ≡ gs.items → less + 1 ≡ room
    → AreGoalsBy D g (letter l) place (Some gs) → IsLeastTotal D less hs (Some n) → c.letter ≡ l → c.place ≡ place → c.count ≡ n + 1 → c.count < 2 ^ 32
    → IsBestAt D room g l place (Some c)
at_some D room less g l place gs hs n c items step goals total e f count few w over = on (tasks_by w.symbols (order_of D) w.metas (task (length D.symbols) g) (letter l) place) refl (goals w over)
  where
    on : (o : Option (List Task)) → tasks_by w.symbols (order_of D) w.metas (task (length D.symbols) g) (letter l) place ≡ o → MayStandFor (length D.symbols) w (Some gs) o
        → IsLeast (λ c. c.count) (λ c. IsBy w.symbols (order_of D) w.metas room (task (length D.symbols) g) c × ((c.letter ≡ l) × (c.place ≡ place))) (Some c)
    on None d h = absurd (some_none h)
    on (Some ks) d h =
        let js : map (task (length D.symbols)) hs ≡ ks = ap (map (task (length D.symbols))) items ∙ h.same_tasks in
        let least = total w (subst (AreGoalsOver (length D.symbols) w) (sym items) h.over) in
        let deep : room ≡ suc less = omega (arith, step) in
        let number : c.count ≡ suc n = omega (arith, count) in
        let by : tasks_by w.symbols (order_of D) w.metas (task (length D.symbols) g) (letter c.letter) c.place ≡ Some ks =
        ap (λ (x : Letter). tasks_by w.symbols (order_of D) w.metas (task (length D.symbols) g) (letter x) c.place) e
        ∙ ap (λ (x : ℕ). tasks_by w.symbols (order_of D) w.metas (task (length D.symbols) g) (letter l) x) f ∙ d in (
          few,
          ((less, n, ks, deep, by, subst (λ k. AreShown w.symbols (order_of D) w.metas less k n) js least.1, number), (e, f)),
          λ b x. omega (arith, count, too_many D room less g w b l place gs hs n items (omega (arith, step)) goals over x.0 x.1.0 x.1.1 (λ w over. (total w over).2)),
        )

pub at_choice : (D : FilteringData) (room less : ℕ) (g : Goal) (l : Letter) (place : ℕ) (gs : Vec Goal) (hs : List Goal) (o : Option ℕ) (r : Option Choice) → hs ≡ gs.items → less + 1 ≡ room
    → AreGoalsBy D g (letter l) place (Some gs) → IsLeastTotal D less hs o → IsOneMore l place o r → IsBestAt D room g l place r
at_choice D room less g l place gs hs None r items step goals total is =
    subst (IsBestAt D room g l place) (sym is) (at_no_total D room less g l place gs hs items (omega (arith, step)) goals total)
at_choice D room less g l place gs hs (Some n) r items step goals total (inl is) =
    subst (IsBestAt D room g l place) (sym is.1)
    (at_some D room less g l place gs hs n (record { letter = l; place = place; count = n + 1 }) items step goals total refl refl refl is.0)
at_choice D room less g l place gs hs (Some n) r items step goals total (inr is) =
    subst (IsBestAt D room g l place) (sym is.1) (at_over D room less g l place gs hs n items (omega (arith, step)) goals total is.0)

-- sums over goals

pub total_first : (D : FilteringData) (room : ℕ) (gs : List Goal) (i : ℕ) → length gs ≤ i → IsLeastTotal D room (drop i gs) (Some 0)
total_first D room gs i past = subst (λ (hs : List Goal). IsLeastTotal D room hs (Some 0)) (sym (drop_end gs i past)) (λ w over. nothing_shown w.symbols (order_of D) w.metas room)

pub total_none_from : (D : FilteringData) (room n : ℕ) (gs : List Goal) → IsLeastTotal D room (drop n gs) None → IsLeastTotal D room gs None
total_none_from D room zero gs h = h
total_none_from D room (suc n) [] h = h
total_none_from D room (suc n) (g ∷ gs) h = λ w over.
    none_behind w.symbols (order_of D) w.metas room (task (length D.symbols) g) (map (task (length D.symbols)) gs) (total_none_from D room n gs h w over.1)

pub total_none : (D : FilteringData) (room : ℕ) (gs : List Goal) (i : ℕ) (g : Goal) → i < length gs → g ≡ get_or gs i g → IsLeastCount D room g None → IsLeastTotal D room gs None
total_none D room gs i g within is count =
    total_none_from D room i gs (subst (λ (hs : List Goal). IsLeastTotal D room hs None) (sym (drop_here gs i g within is))
    (λ w over. sum_none w.symbols (order_of D) w.metas room (task (length D.symbols) g) (map (task (length D.symbols)) (drop (i + 1) gs)) (count w over.0)))

pub total_over : (D : FilteringData) (room : ℕ) (gs : List Goal) (i : ℕ) (g : Goal) (a b : ℕ) → i < length gs → g ≡ get_or gs i g → IsLeastCount D room g (Some a)
    → IsLeastTotal D room (drop (i + 1) gs) (Some b) → 2 ^ 32 ≤ a + b → IsLeastTotal D room gs None
total_over D room gs i g a b within is count rest full =
    total_none_from D room i gs (subst (λ (hs : List Goal). IsLeastTotal D room hs None) (sym (drop_here gs i g within is))
    (λ w over. sum_over w.symbols (order_of D) w.metas room (task (length D.symbols) g) (map (task (length D.symbols)) (drop (i + 1) gs)) a b (count w over.0) (rest w over.1) full))

pub total_more : (D : FilteringData) (room : ℕ) (gs : List Goal) (i : ℕ) (g : Goal) (a b s : ℕ) → i < length gs → g ≡ get_or gs i g → IsLeastCount D room g (Some a)
    → IsLeastTotal D room (drop (i + 1) gs) (Some b) → s ≡ a + b → s < 2 ^ 32 → IsLeastTotal D room (drop i gs) (Some s)
total_more D room gs i g a b s within is count rest sum few =
    subst (λ (hs : List Goal). IsLeastTotal D room hs (Some s)) (sym (drop_here gs i g within is))
    (λ w over. sum_some w.symbols (order_of D) w.metas room (task (length D.symbols) g) (map (task (length D.symbols)) (drop (i + 1) gs)) a b s (count w over.0) (rest w over.1) sum few)

pub total_next : (D : FilteringData) (room : ℕ) (gs : List Goal) (i j : ℕ) (g : Goal) (o : Option ℕ) (b s : ℕ) → j + 1 ≡ i → j < length gs → g ≡ get_or gs j g → IsLeastCount D room g o
    → IsLeastTotal D room (drop i gs) (Some b) → IsSum o b (Some s) → IsLeastTotal D room (drop j gs) (Some s)
total_next D room gs i j g None b s step within is count rest sum = absurd (some_none sum)
total_next D room gs i j g (Some a) b s step within is count rest (inl sum) =
    total_more D room gs j g a b s within is count (subst (λ (k : ℕ). IsLeastTotal D room (drop k gs) (Some b)) (sym step) rest) (same sum.1) (omega (arith, sum.0, same sum.1))
  where
    same : {m n : ℕ} → Some m ≡ Some n → m ≡ n
    same e = cc
total_next D room gs i j g (Some a) b s step within is count rest (inr sum) = absurd (some_none sum.1)

pub total_stop : (D : FilteringData) (room : ℕ) (gs : List Goal) (i j : ℕ) (g : Goal) (o : Option ℕ) (b : ℕ) → j + 1 ≡ i → j < length gs → g ≡ get_or gs j g → IsLeastCount D room g o
    → IsLeastTotal D room (drop i gs) (Some b) → IsSum o b None → IsLeastTotal D room gs None
total_stop D room gs i j g None b step within is count rest sum = total_none D room gs j g within is count
total_stop D room gs i j g (Some a) b step within is count rest (inl sum) = absurd (none_some sum.1)
total_stop D room gs i j g (Some a) b step within is count rest (inr sum) =
    total_over D room gs j g a b within is count (subst (λ (k : ℕ). IsLeastTotal D room (drop k gs) (Some b)) (sym step) rest) sum.0
