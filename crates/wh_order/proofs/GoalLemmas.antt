-- Lists of goals, and the tasks that they stand for.
use Rattle.std.proofs.Common.{◌≡◌, ℕ, zero, suc, ◌+◌, ◌<◌, ◌≤◌, List, [], ◌∷◌, ◌++◌, length, map, take, get_or, refl, ap, ap₂, subst, sym, ◌∙◌, append-nil, append_assoc, arith}
use Rattle.std.proofs.lemmas.List.{map-append}
use Rattle.wh_terms.specs.Tree.{Tm}
use Rattle.wh_order_path.specs.Verdict as v
use Rattle.wh_order_path.specs.Verdict.{Task, each, pairwise}
use Rattle.wh_order_trees.specs.declared.tree.Tree.{Tree}
use Rattle.wh_order_trees.specs.Trees.{tree, trees}
use Rattle.wh_order_trees.specs.TreeParts.{World, Over, AllOver}
use Rattle.wh_order_trees.proofs.TreeLemmas.{all_get}
use Rattle.wh_order_trees.proofs.SameLemmas.{trees_take_next, take_past}
use Rattle.wh_order.specs.declared.goals.Goal.{Goal}
use Rattle.wh_order.specs.Claims.{task, IsGoalOver, AreGoalsOver, StandFor}

goals_append : (n : ℕ) (w : World) (gs hs : List Goal) → AreGoalsOver n w gs → AreGoalsOver n w hs → AreGoalsOver n w (gs ++ hs)
goals_append n w [] hs p q = q
goals_append n w (g ∷ gs) hs p q = (p.0, goals_append n w gs hs p.1 q)

pub stand_none : (n : ℕ) (w : World) (gs : List Goal) → gs ≡ [] → StandFor n w gs []
stand_none n w gs e = record { same_tasks = ap (map (task n)) e; over = subst (AreGoalsOver n w) (sym e) tt }

pub stand_push : (n : ℕ) (w : World) (gs hs : List Goal) (g : Goal) (ks ls : List Task) → StandFor n w gs ks → hs ≡ gs ++ g ∷ [] → IsGoalOver n w g → ls ≡ ks ++ task n g ∷ [] → StandFor n w hs ls
stand_push n w gs hs g ks ls s pushed over is = record {
  same_tasks = ap (map (task n)) pushed ∙ map-append (task n) gs (g ∷ []) ∙ ap (λ (l : List Task). l ++ task n g ∷ []) s.same_tasks ∙ sym is;
  over = subst (AreGoalsOver n w) (sym pushed) (goals_append n w gs (g ∷ []) s.over (over, tt));
}

pub stand_one : (n : ℕ) (w : World) (gs hs : List Goal) (g : Goal) → gs ≡ [] → hs ≡ gs ++ g ∷ [] → IsGoalOver n w g → StandFor n w hs (task n g ∷ [])
stand_one n w gs hs g e pushed over = stand_push n w gs hs g [] (task n g ∷ []) (stand_none n w gs e) pushed over refl

-- the claims for each of the first trees stand at the end
each-append : (c : v.Claim) (next : ℕ) (s : Tm) (ts us : List Tm) → each c next s (ts ++ us) ≡ each c next s ts ++ each c next s us
each-append c next s ts us = map-append (λ (t : Tm). record { claim = c; next = next; left = s; right = t }) ts us

-- what the loop over the right trees has pushed
abbrev pub PushedEach : v.Claim → ℕ → Tree → List Tree → List Goal → List Goal → ℕ → Type 0
PushedEach c next s ts old new i = (n : ℕ) (w : World) (l : List Task) → Over n w s → AllOver n w ts → StandFor n w old l
    → StandFor n w new (l ++ each c next (tree n s) (trees n (take i ts)))

pub each_none : (c : v.Claim) (next : ℕ) (s : Tree) (ts : List Tree) (old : List Goal) → PushedEach c next s ts old old 0
each_none c next s ts old n w l o all st = subst (StandFor n w old) (sym (append-nil l)) st

pub each_next : (c : v.Claim) (next : ℕ) (s : Tree) (ts : List Tree) (start old new : List Goal) (g : Goal) (i : ℕ) (t : Tree) → PushedEach c next s ts start old i → new ≡ old ++ g ∷ []
    → ((n : ℕ) → task n g ≡ record { claim = c; next = next; left = tree n s; right = tree n t }) → ((n : ℕ) (w : World) → Over n w s → Over n w t → IsGoalOver n w g)
    → i < length ts → t ≡ get_or ts i t → PushedEach c next s ts start new (i + 1)
each_next c next s ts start old new g i t before pushed is over within e n w l o all st =
    stand_push n w old new g (l ++ each c next (tree n s) (trees n (take i ts))) (l ++ each c next (tree n s) (trees n (take (i + 1) ts)))
    (before n w l o all st) pushed (over n w o (all_get n w ts i t all within e))
    (ap (λ (us : List Tm). l ++ each c next (tree n s) us) (trees_take_next n ts i t within e)
    ∙ ap (λ (ks : List Task). l ++ ks) (each-append c next (tree n s) (trees n (take i ts)) (tree n t ∷ []))
    ∙ sym (append_assoc l (each c next (tree n s) (trees n (take i ts))) (each c next (tree n s) (tree n t ∷ [])))
    ∙ ap (λ (k : Task). (l ++ each c next (tree n s) (trees n (take i ts))) ++ k ∷ []) (sym (is n)))

pub each_all : (c : v.Claim) (next : ℕ) (s : Tree) (ts : List Tree) (old new : List Goal) (i : ℕ) → PushedEach c next s ts old new i → length ts ≤ i
    → (n : ℕ) (w : World) (l : List Task) → Over n w s → AllOver n w ts → StandFor n w old l → StandFor n w new (l ++ each c next (tree n s) (trees n ts))
each_all c next s ts old new i h past n w l o all st =
    subst (λ (us : List Tree). StandFor n w new (l ++ each c next (tree n s) (trees n us))) (take_past ts i past) (h n w l o all st)

-- pairs of trees

pairwise-append : (next : ℕ) (ss ts : List Tm) (s t : Tm) → length ss ≡ length ts
    → pairwise next (ss ++ s ∷ []) (ts ++ t ∷ []) ≡ pairwise next ss ts ++ record { claim = v.at_least; next = next; left = s; right = t } ∷ []
pairwise-append next [] [] s t long = refl
pairwise-append next [] (u ∷ ts) s t long = absurd (omega (arith, long))
pairwise-append next (u ∷ ss) [] s t long = absurd (omega (arith, long))
pairwise-append next (u ∷ ss) (x ∷ ts) s t long =
    ap (λ (l : List Task). record { claim = v.at_least; next = next; left = u; right = x } ∷ l) (pairwise-append next ss ts s t (omega (arith, long)))

abbrev pub PushedPairs : ℕ → List Tree → List Tree → List Goal → List Goal → ℕ → Type 0
PushedPairs next ss ts old new i = (n : ℕ) (w : World) (l : List Task) → AllOver n w ss → AllOver n w ts → StandFor n w old l
    → StandFor n w new (l ++ pairwise next (trees n (take i ss)) (trees n (take i ts)))

take_count : (n : ℕ) (ts : List Tree) (i : ℕ) → i < length ts → length (trees n (take i ts)) ≡ i
take_count n [] i within = absurd (omega arith)
take_count n (t ∷ ts) zero within = refl
take_count n (t ∷ ts) (suc i) within = ap suc (take_count n ts i (omega arith))

pub pairs_none : (next : ℕ) (ss ts : List Tree) (old : List Goal) → PushedPairs next ss ts old old 0
pairs_none next ss ts old n w l p q st = subst (StandFor n w old) (sym (append-nil l)) st

pub pairs_next : (next : ℕ) (ss ts : List Tree) (start old new : List Goal) (g : Goal) (i : ℕ) (s t : Tree) → PushedPairs next ss ts start old i → new ≡ old ++ g ∷ []
    → ((n : ℕ) → task n g ≡ record { claim = v.at_least; next = next; left = tree n s; right = tree n t }) → ((n : ℕ) (w : World) → Over n w s → Over n w t → IsGoalOver n w g)
    → i < length ss → length ss ≡ length ts → s ≡ get_or ss i s → t ≡ get_or ts i t → PushedPairs next ss ts start new (i + 1)
pairs_next next ss ts start old new g i s t before pushed is over within long es et n w l p q st =
    let inside : i < length ts = omega (arith, within, long) in
    stand_push n w old new g (l ++ pairwise next (trees n (take i ss)) (trees n (take i ts))) (l ++ pairwise next (trees n (take (i + 1) ss)) (trees n (take (i + 1) ts)))
    (before n w l p q st) pushed (over n w (all_get n w ss i s p within es) (all_get n w ts i t q inside et))
    (ap₂ (λ (us vs : List Tm). l ++ pairwise next us vs) (trees_take_next n ss i s within es) (trees_take_next n ts i t inside et)
    ∙ ap (λ (ks : List Task). l ++ ks) (pairwise-append next (trees n (take i ss)) (trees n (take i ts)) (tree n s) (tree n t) (take_count n ss i within ∙ sym (take_count n ts i inside)))
    ∙ sym (append_assoc l (pairwise next (trees n (take i ss)) (trees n (take i ts))) (record { claim = v.at_least; next = next; left = tree n s; right = tree n t } ∷ []))
    ∙ ap (λ (k : Task). (l ++ pairwise next (trees n (take i ss)) (trees n (take i ts))) ++ k ∷ []) (sym (is n)))

pub pairs_all : (next : ℕ) (ss ts : List Tree) (old new : List Goal) (i : ℕ) → length ss ≡ length ts → PushedPairs next ss ts old new i → length ss ≤ i
    → (n : ℕ) (w : World) (l : List Task) → AllOver n w ss → AllOver n w ts → StandFor n w old l → StandFor n w new (l ++ pairwise next (trees n ss) (trees n ts))
pairs_all next ss ts old new i long h past n w l p q st =
    subst (λ (us : List Tree). StandFor n w new (l ++ pairwise next (trees n ss) (trees n us))) (take_past ts i (omega (arith, long, past)))
    (subst (λ (us : List Tree). StandFor n w new (l ++ pairwise next (trees n us) (trees n (take i ts)))) (take_past ss i past) (h n w l p q st))
