-- Inferences with the fewest entries.
use Rattle.std.proofs.Common.{◌≡◌, ℕ, zero, suc, ◌+◌, ◌-◌, ◌<◌, ◌≤◌, List, [], ◌∷◌, ◌++◌, length, map, take, get_or, Option, Some, None, refl, ap, ap₂, subst, sym, ◌∙◌, arith}
use Rattle.std.specs.Prelude.{◌^◌, nat_lt, cond, MatchOption}
use Rattle.std.specs.Option.{option_map}
use Rattle.std.specs.Global.{Vec}
use Rattle.std.proofs.lemmas.List.{take_more}
use Rattle.wh_terms.specs.Tree.{Tm}
use Rattle.wh_terms.specs.Typing.{Symbols, Declared}
use Rattle.wh_order_inference.specs.Inferences as m
use Rattle.wh_order_inference.specs.Inferences.{infer, no_parts, more_parts, entries, all_entries}
use Rattle.wh_order_inference.specs.InferenceLimits.{depth, deepest, deepest_inference}
use Rattle.wh_order_inference.specs.Said.{letter, inference, inferences}
use Rattle.wh_order_inference.specs.declared.inference.Letter.{Letter}
use Rattle.wh_order_inference.specs.declared.inference.Letter.TheVariants.{Same, Lam, Mono, Sub, Prec, Lex, App, Bind, Var, Meta}
use Rattle.wh_order_inference.specs.declared.inference.Inference.{Inference}
use Rattle.wh_order_extended.specs.Filtered.{precedences}
use Rattle.wh_order_path.specs.Verdict.{Claim, Task, verdict, verdicts}
use Rattle.wh_order_path.proofs.AskedTasks.{first_part}
use Rattle.wh_order_node.specs.Filterings.{FilteringData, filter_among, mark_among, filtered_signature}
use Rattle.wh_order_trees.specs.declared.tree.Tree.{Tree}
use Rattle.wh_order_trees.specs.Trees.{tree}
use Rattle.wh_order_trees.specs.TreeParts.{World, Over}
use Rattle.wh_order.specs.declared.goals.Goal.{Goal}
use Rattle.wh_order.specs.Precedences.{order_of}
use Rattle.wh_order.specs.Claims.{task, side_tree, IsGoalOver, AreGoalsOver}
use Rattle.wh_order_known.specs.declared.choice.Choice.{Choice}
use Rattle.wh_order_known.specs.Least.{IsLeast}
use Rattle.wh_order_known.specs.LineGoals.{IsLineGoal}
use Rattle.wh_order_known.specs.Ways.{IsGood, AreGood, tasks_by}
use Rattle.wh_order_infer.specs.Bests.{IsBy, AreGoalsBy, IsBest, IsLeastInference, AreLeastInferences, IsMadeWith, written_place}
use Rattle.wh_order_infer.specs.Lines.{Shows, IsFound}
use Rattle.wh_order_infer.proofs.TaskLemmas.{both_none}
use Rattle.wh_order_path.proofs.SameTreeLaws.{none_some, some_none}
use Rattle.wh_order_infer.proofs.WayLemmas.{place_by, good_by, none_shown}
use Rattle.wh_order_infer.proofs.BestLemmas.{way_some, asked, total_none}
use Rattle.wh_order.proofs.JudgedLemmas.{nothing_asked}

-- the place that is written with a choice

pub written_is : (c : Choice) → written_place c ≡ place_by (letter c.letter) c.place
written_is c = on c.letter
  where
    on : (l : Letter) → elim l as (λ x. ℕ) [ Mono ↦ 0 | _ ↦ c.place ] ≡ place_by (letter l) c.place
    on Same = refl
    on Lam = refl
    on Mono = refl
    on Sub = refl
    on Prec = refl
    on Lex = refl
    on App = refl
    on Bind = refl
    on Var = refl
    on Meta = refl

-- none is left

-- what shows the goal has at least as many entries as the best choice
no_fewer : (D : FilteringData) (room : ℕ) (g : Goal) (w : World) (n : ℕ) → ((c : Choice) → IsBy w.symbols (order_of D) w.metas room (task (length D.symbols) g) c → n ≤ c.count)
    → (i : m.Inference) → IsGood w.symbols (order_of D) w.metas room (task (length D.symbols) g) i → n ≤ entries i
no_fewer D room g w n h i good =
    let (c, by, same) = way_some w.symbols (order_of D) w.metas room (task (length D.symbols) g) (entries i) (i, good, refl) in
    subst (λ x. n ≤ x) same (h c by)

pub no_best : (D : FilteringData) (room : ℕ) (g : Goal) → IsBest D room g None → IsLeastInference D room g None
no_best D room g h w over i good = no_fewer D room g w (2 ^ 32) (λ c by. h w over c (by, tt)) i good

pub no_room : (D : FilteringData) (room : ℕ) (g : Goal) → room ≡ 0 → IsLeastInference D room g None
no_room D room g none w over i good =
    absurd (none_shown w.symbols (order_of D) w.metas (task (length D.symbols) g) (entries i)
    (i, subst (λ r. IsGood w.symbols (order_of D) w.metas r (task (length D.symbols) g) i) none good, refl))

pub no_goals : (D : FilteringData) (room : ℕ) (g : Goal) (c : Choice) → IsBest D room g (Some c) → AreGoalsBy D g (letter c.letter) c.place None → IsLeastInference D room g None
no_goals D room g c best none w over i good =
    let (d, b, ks, deep, by, shown, count) = (best w over).1.0 in
    absurd (none_some (sym (nothing_asked (length D.symbols) w (tasks_by w.symbols (order_of D) w.metas (task (length D.symbols) g) (letter c.letter) c.place) (none w over)) ∙ by))

pub no_parts_left : (D : FilteringData) (room less : ℕ) (g : Goal) (c : Choice) (gs : Vec Goal) (hs : List Goal) → hs ≡ gs.items → less + 1 ≡ room → IsBest D room g (Some c)
    → AreGoalsBy D g (letter c.letter) c.place (Some gs) → AreLeastInferences D less hs None → IsLeastInference D room g None
no_parts_left D room less g c gs hs items step best goals none w over i good =
    let (d, b, ks, deep, by, (is, fine, all), count) = (best w over).1.0 in
    let st = asked (length D.symbols) w gs (tasks_by w.symbols (order_of D) w.metas (task (length D.symbols) g) (letter c.letter) c.place) ks (goals w over) by in
    let js : map (task (length D.symbols)) hs ≡ ks = ap (map (task (length D.symbols))) items ∙ st.same_tasks in
    let depth_is : less ≡ d = omega (arith, step, deep) in
    let fine_here : AreGood w.symbols (order_of D) w.metas less (map (task (length D.symbols)) hs) is =
    subst (λ k. AreGood w.symbols (order_of D) w.metas k (map (task (length D.symbols)) hs) is) (sym depth_is) (subst (λ k. AreGood w.symbols (order_of D) w.metas d k is) (sym js) fine) in
    absurd (omega (arith, none w (subst (AreGoalsOver (length D.symbols) w) (sym items) st.over) is fine_here, all, count, (best w over).0))

pub built : (D : FilteringData) (room less : ℕ) (g : Goal) (c : Choice) (gs : Vec Goal) (hs : List Goal) (parts : List Inference) (i : Inference) → hs ≡ gs.items → less + 1 ≡ room
    → IsBest D room g (Some c) → AreGoalsBy D g (letter c.letter) c.place (Some gs) → AreLeastInferences D less hs (Some parts)
    → inference i ≡ infer (letter c.letter) (written_place c) (inferences parts) → IsLeastInference D room g (Some i)
built D room less g c gs hs parts i items step best goals least shape w over =
    let (d, b, ks, deep, by, (is, fine, all), count) = (best w over).1.0 in
    let st = asked (length D.symbols) w gs (tasks_by w.symbols (order_of D) w.metas (task (length D.symbols) g) (letter c.letter) c.place) ks (goals w over) by in
    let js : map (task (length D.symbols)) hs ≡ ks = ap (map (task (length D.symbols))) items ∙ st.same_tasks in
    let depth_is : less ≡ d = omega (arith, step, deep) in
    let fine_here : AreGood w.symbols (order_of D) w.metas less (map (task (length D.symbols)) hs) is =
    subst (λ k. AreGood w.symbols (order_of D) w.metas k (map (task (length D.symbols)) hs) is) (sym depth_is) (subst (λ k. AreGood w.symbols (order_of D) w.metas d k is) (sym js) fine) in
    let l = least w (subst (AreGoalsOver (length D.symbols) w) (sym items) st.over) in
    let few : all_entries (inferences parts) ≤ all_entries is = l.1 is fine_here in
    let verdicts_none : verdicts w.symbols (order_of D) w.metas ks (inferences parts) ≡ None = subst (λ k. verdicts w.symbols (order_of D) w.metas k (inferences parts) ≡ None) js l.0.0 in
    let made : infer (letter c.letter) (place_by (letter c.letter) c.place) (inferences parts) ≡ inference i =
    ap (λ (n : ℕ). infer (letter c.letter) n (inferences parts)) (sym (written_is c)) ∙ sym shape in
    let size : entries (inference i) ≡ 1 + all_entries (inferences parts) = ap entries shape in
    let nested : depth (inference i) ≡ suc (deepest (inferences parts)) = ap depth shape in (
      omega (arith, size, few, all, count, (best w over).0),
      (
        subst (λ (x : m.Inference). verdict w.symbols (order_of D) w.metas (task (length D.symbols) g) x ≡ None) made
            (good_by w.symbols (order_of D) w.metas (task (length D.symbols) g) (letter c.letter) c.place ks (inferences parts) by verdicts_none),
        omega (arith, nested, l.0.1, step),
      ),
      λ j good. omega (arith, size, few, all, count, no_fewer D room g w c.count (λ b x. (best w over).2 b (x, tt)) j good),
    )

pub built_with : (D : FilteringData) (room less : ℕ) (g : Goal) (c : Choice) (gs : Vec Goal) (hs : List Goal) (o : Option (List Inference)) (r : Option Inference) → hs ≡ gs.items → less + 1 ≡ room
    → IsBest D room g (Some c) → AreGoalsBy D g (letter c.letter) c.place (Some gs) → AreLeastInferences D less hs o → IsMadeWith c o r → IsLeastInference D room g r
built_with D room less g c gs hs None r items step best goals none is =
    subst (IsLeastInference D room g) (sym is) (no_parts_left D room less g c gs hs items step best goals none)
built_with D room less g c gs hs (Some parts) r items step best goals least (i, is, shape) =
    subst (IsLeastInference D room g) (sym is) (built D room less g c gs hs parts i items step best goals least shape)

-- one inference after another

abbrev pub EachLeast : FilteringData → ℕ → List Goal → List Inference → Type 0
EachLeast D room [] [] = Unit {0}
EachLeast D room (g ∷ gs) (i ∷ is) = IsLeastInference D room g (Some i) × EachLeast D room gs is
EachLeast D room _ _ = ⊥

pub each_none : (D : FilteringData) (room : ℕ) (is : List Inference) → is ≡ [] → EachLeast D room [] is
each_none D room is e = subst (EachLeast D room []) (sym e) tt

each_push : (D : FilteringData) (room : ℕ) (gs : List Goal) (is : List Inference) (g : Goal) (i : Inference) → EachLeast D room gs is → IsLeastInference D room g (Some i)
    → EachLeast D room (gs ++ g ∷ []) (is ++ i ∷ [])
each_push D room [] [] g i h l = (l, tt)
each_push D room [] (j ∷ is) g i h l = absurd h
each_push D room (f ∷ gs) [] g i h l = absurd h
each_push D room (f ∷ gs) (j ∷ is) g i h l = (h.0, each_push D room gs is g i h.1 l)

pub each_next : (D : FilteringData) (room : ℕ) (gs : List Goal) (k : ℕ) (is js : List Inference) (g : Goal) (i : Inference) → EachLeast D room (take k gs) is → IsLeastInference D room g (Some i)
    → k < length gs → g ≡ get_or gs k g → js ≡ is ++ i ∷ [] → EachLeast D room (take (k + 1) gs) js
each_next D room gs k is js g i h l within here pushed =
    subst (EachLeast D room (take (k + 1) gs)) (sym pushed)
    (subst (λ (hs : List Goal). EachLeast D room hs (is ++ i ∷ [])) (sym (take_more gs k g within ∙ ap (λ (x : Goal). take k gs ++ x ∷ []) (sym here)))
    (each_push D room (take k gs) is g i h l))

each_least : (D : FilteringData) (room : ℕ) (gs : List Goal) (is : List Inference) → EachLeast D room gs is → (w : World) → AreGoalsOver (length D.symbols) w gs
    → AreGood w.symbols (order_of D) w.metas room (map (task (length D.symbols)) gs) (inferences is)
    × ((js : m.Inferences) → AreGood w.symbols (order_of D) w.metas room (map (task (length D.symbols)) gs) js → all_entries (inferences is) ≤ all_entries js)
each_least D room [] [] h w over = ((refl, omega arith), λ js good. omega arith)
each_least D room [] (i ∷ is) h w over = absurd h
each_least D room (g ∷ gs) [] h w over = absurd h
each_least D room (g ∷ gs) (i ∷ is) h w over =
    let here = h.0 w over.0 in
    let (good, fewest) = each_least D room gs is h.1 w over.1 in (
      (
        both_none w.symbols (order_of D) w.metas (verdict w.symbols (order_of D) w.metas (task (length D.symbols) g) (inference i))
            (verdicts w.symbols (order_of D) w.metas (map (task (length D.symbols)) gs) (inferences is)) (entries (inference i)) here.1.0 good.0,
        omega (arith, here.1.1, good.1),
      ),
      λ js all. fewer js all here.2 fewest,
    )
  where
    fewer : (js : m.Inferences) → AreGood w.symbols (order_of D) w.metas room (task (length D.symbols) g ∷ map (task (length D.symbols)) gs) js
        → ((j : m.Inference) → IsGood w.symbols (order_of D) w.metas room (task (length D.symbols) g) j → entries (inference i) ≤ entries j)
        → ((ks : m.Inferences) → AreGood w.symbols (order_of D) w.metas room (map (task (length D.symbols)) gs) ks → all_entries (inferences is) ≤ all_entries ks)
        → entries (inference i) + all_entries (inferences is) ≤ all_entries js
    fewer no_parts all one more = absurd (some_none all.0)
    fewer (more_parts j ks) all one more =
        let (p, q) = first_part w.symbols (order_of D) w.metas (task (length D.symbols) g) (map (task (length D.symbols)) gs) j ks all.0 in
        omega (arith, one j (p, omega (arith, all.1)), more ks (q, omega (arith, all.1)))

take_all : {A : Type 0} (xs : List A) (k : ℕ) → length xs ≤ k → take k xs ≡ xs
take_all [] zero past = refl
take_all [] (suc k) past = refl
take_all (x ∷ xs) zero past = absurd (omega arith)
take_all (x ∷ xs) (suc k) past = ap (λ ys. x ∷ ys) (take_all xs k (omega arith))

pub each_built : (D : FilteringData) (room : ℕ) (gs : List Goal) (k : ℕ) (is : List Inference) → EachLeast D room (take k gs) is → length gs ≤ k → AreLeastInferences D room gs (Some is)
each_built D room gs k is h past w over = each_least D room gs is (subst (λ (hs : List Goal). EachLeast D room hs is) (take_all gs k past) h) w over

pub one_missing : (D : FilteringData) (room : ℕ) (gs : List Goal) (k : ℕ) (g : Goal) → k < length gs → g ≡ get_or gs k g → IsLeastInference D room g None → AreLeastInferences D room gs None
one_missing D room gs k g within here none w over js good =
    total_none D room gs k g within here (λ v above n shown. subst (λ x. 2 ^ 32 ≤ x) shown.2 (none v above shown.0 shown.1)) w over (all_entries js) (js, good, refl)

-- lines

abbrev pub claim_verdict : FilteringData → Symbols → List Declared → Claim → Tree → Tree → m.Inference → ℕ → Option ℕ
claim_verdict D F M c s t i n =
    verdict F (precedences (λ f. cond (nat_lt f n) (filter_among D.symbols f) (mark_among D.marks (f - n)))) M
    (record { claim = c; next = 0; left = tree n s; right = tree n t }) i

pub line_found : (D : FilteringData) (c : Claim) (s t : Tree) (g : Goal) (r : Option Inference) → ((n : ℕ) → task n g ≡ record { claim = c; next = 0; left = tree n s; right = tree n t })
    → ((n : ℕ) (w : World) → Over n w s → Over n w t → IsGoalOver n w g) → IsLeastInference D deepest_inference g r → IsFound D c s t r
line_found D c s t g r is over least S rules M sides = on r (least w (over (length D.symbols) w left right))
  where
    w : World
    w = record { symbols = filtered_signature S rules D; metas = M }

    left : Over (length D.symbols) w s
    left = subst (λ (n : ℕ). Over n w s) (sym sides.each_symbol) sides.left

    right : Over (length D.symbols) w t
    right = subst (λ (n : ℕ). Over n w t) (sym sides.each_symbol) sides.right

    there : (i : m.Inference) → verdict w.symbols (order_of D) M (task (length D.symbols) g) i ≡ claim_verdict D w.symbols M c s t i (length S.funs)
    there i = ap (λ (k : Task). verdict w.symbols (order_of D) M k i) (is (length D.symbols)) ∙ ap (claim_verdict D w.symbols M c s t i) sides.each_symbol

    on : (r : Option Inference) → IsLeast entries (IsGood w.symbols (order_of D) w.metas deepest_inference (task (length D.symbols) g)) (option_map inference r)
        → MatchOption r ((i : m.Inference) → Shows S rules D M c s t i → ⊥)
        (λ i. Shows S rules D M c s t (inference i) × ((j : m.Inference) → Shows S rules D M c s t j → entries (inference i) ≤ entries j))
    on None h = λ i shows. omega (arith, h i (there i ∙ shows.good, shows.nested), shows.few)
    on (Some i) h = (
      record { good = sym (there (inference i)) ∙ h.1.0; nested = h.1.1; few = h.0 },
      λ j shows. h.2 j (there j ∙ shows.good, shows.nested),
    )

pub line_task : (c : Claim) (s t : Tree) (g : Goal) → IsLineGoal c s t g → (n : ℕ) → task n g ≡ record { claim = c; next = 0; left = tree n s; right = tree n t }
line_task c s t g is n =
    ap₂ (λ (x : Claim) (y : ℕ). task_with x y (tree n (side_tree g.left)) (tree n (side_tree g.right))) is.same_claim is.same_next
    ∙ ap₂ (λ (x y : Tree). task_with c 0 (tree n x) (tree n y)) is.same_left is.same_right
  where
    task_with : Claim → ℕ → Tm → Tm → Task
    task_with c next s t = record { claim = c; next = next; left = s; right = t }

pub line_over : (c : Claim) (s t : Tree) (g : Goal) → IsLineGoal c s t g → (n : ℕ) (w : World) → Over n w s → Over n w t → IsGoalOver n w g
line_over c s t g is n w o p = (subst (Over n w) (sym is.same_left) o, subst (Over n w) (sym is.same_right) p)
