-- The judgement of an inference from those of its parts.
use Rattle.std.proofs.Common.{◌≡◌, ℕ, zero, suc, ◌+◌, ◌*◌, ◌<◌, ◌≤◌, List, [], ◌∷◌, length, map, get_or, Option, Some, None, Result, Err, refl, ap, subst, sym, ◌∙◌, arith}
use Rattle.std.specs.Global.{Vec}
use Rattle.wh_types.specs.declared.want.Or.{Or}
use Rattle.wh_types.specs.declared.want.Or.TheVariants.{Because}
use Rattle.wh_order_inference.specs.Inferences as m
use Rattle.wh_order_inference.specs.Inferences.{infer, entries, all_entries, count_parts}
use Rattle.wh_order_inference.specs.Said.{letter, inference, inferences}
use Rattle.wh_order_inference.specs.declared.inference.Inference.{Inference, out-Inference}
use Rattle.wh_order_path.specs.Verdict.{Task, tasks, verdict, verdicts}
use Rattle.wh_order_trees.specs.TreeParts.{World}
use Rattle.wh_order.specs.declared.goals.Goal.{Goal}
use Rattle.wh_order.specs.Claims.{task, IsGoalOver, AreGoalsOver, StandFor, MayStandFor, AreGoals, moved, Judged}
use Rattle.wh_order.proofs.CheckLemmas.{inference_is, count_is, bad_alone, bad_count, by_parts, judged_whole, judged_bad}
use Rattle.wh_order_path.proofs.SameTreeLaws.{some_none}

pub nothing_asked : (n : ℕ) (w : World) (o : Option (List Task)) → MayStandFor n w None o → o ≡ None
nothing_asked n w None h = refl
nothing_asked n w (Some ks) h = absurd h

asked : (n : ℕ) (w : World) (gs : Vec Goal) (o : Option (List Task)) → MayStandFor n w (Some gs) o → (ks : List Task) × (o ≡ Some ks) × StandFor n w gs.items ks
asked n w gs None h = absurd (some_none h)
asked n w gs (Some ks) h = (ks, refl, h)

count_map : (n : ℕ) (gs : List Goal) → length (map (task n) gs) ≡ length gs
count_map n [] = refl
count_map n (g ∷ gs) = ap suc (count_map n gs)

pub goal_bad : {E : Type 0} (number : E → ℕ) (n : ℕ) (prec : ℕ → ℕ) (g : Goal) (i : Inference) (l : m.Letter) (place : ℕ) (is : List Inference) (at : ℕ) (e : E)
    → inference i ≡ infer l place (inferences is) → AreGoals n prec g l place (inferences is) None → number e ≡ at
    → (w : World) → IsGoalOver n w g → Judged number at (verdict w.symbols prec w.metas (task n g) (inference i)) (entries (inference i)) (Err (Because e))
goal_bad number n prec g i l place is at e shape h here w over =
    judged_bad number at (verdict w.symbols prec w.metas (task n g) (inference i)) (entries (inference i)) e
    (ap (verdict w.symbols prec w.metas (task n g)) shape
    ∙ bad_alone w.symbols prec w.metas (task n g) l place (inferences is) (nothing_asked n w (tasks w.symbols prec w.metas (task n g) l place (inferences is)) (h w over))) here

pub count_bad : {E : Type 0} (number : E → ℕ) (n : ℕ) (prec : ℕ → ℕ) (g : Goal) (i : Inference) (l : m.Letter) (place : ℕ) (is : List Inference) (gs : Vec Goal) (at : ℕ) (e : E)
    → inference i ≡ infer l place (inferences is) → AreGoals n prec g l place (inferences is) (Some gs) → (length gs.items ≡ length is → ⊥) → number e ≡ at
    → (w : World) → IsGoalOver n w g → Judged number at (verdict w.symbols prec w.metas (task n g) (inference i)) (entries (inference i)) (Err (Because e))
count_bad number n prec g i l place is gs at e shape h differ here w over =
    let (ks, tasks_are, stand) = asked n w gs (tasks w.symbols prec w.metas (task n g) l place (inferences is)) (h w over) in
    judged_bad number at (verdict w.symbols prec w.metas (task n g) (inference i)) (entries (inference i)) e
    (ap (verdict w.symbols prec w.metas (task n g)) shape
    ∙ bad_count w.symbols prec w.metas (task n g) l place (inferences is) ks tasks_are
    (λ long. differ (sym (count_map n gs.items) ∙ ap length stand.same_tasks ∙ long ∙ count_is is))) here

pub goal_judged : {E : Type 0} (number : E → ℕ) (n : ℕ) (prec : ℕ → ℕ) (g : Goal) (i : Inference) (l : m.Letter) (place : ℕ) (is : List Inference) (gs : Vec Goal) (hs : List Goal) (at next : ℕ) (r : Result ℕ (Or E)) → hs ≡ gs.items
    → inference i ≡ infer l place (inferences is) → AreGoals n prec g l place (inferences is) (Some gs) → length gs.items ≡ length is → next ≡ at + 1
    → ((w : World) → AreGoalsOver n w hs → Judged number next (verdicts w.symbols prec w.metas (map (task n) hs) (inferences is)) (all_entries (inferences is)) r)
    → (w : World) → IsGoalOver n w g → Judged number at (verdict w.symbols prec w.metas (task n g) (inference i)) (entries (inference i)) r
goal_judged number n prec g i l place is gs hs at next r items shape h long step judged w over =
    let (ks, tasks_are, stand) = asked n w gs (tasks w.symbols prec w.metas (task n g) l place (inferences is)) (h w over) in
    subst (λ (k : ℕ). Judged number at (verdict w.symbols prec w.metas (task n g) (inference i)) k r) (sym (ap entries shape))
    (judged_whole number at next (verdict w.symbols prec w.metas (task n g) (inference i)) (verdicts w.symbols prec w.metas (map (task n) gs.items) (inferences is)) (all_entries (inferences is)) r step
    (ap (verdict w.symbols prec w.metas (task n g)) shape
    ∙ by_parts w.symbols prec w.metas (task n g) l place (inferences is) ks tasks_are (sym (ap length stand.same_tasks) ∙ count_map n gs.items ∙ long ∙ sym (count_is is))
    ∙ ap (λ (js : List Task). moved 1 (verdicts w.symbols prec w.metas js (inferences is))) (sym stand.same_tasks))
    (subst (λ (ks : List Goal). AreGoalsOver n w ks → Judged number next (verdicts w.symbols prec w.metas (map (task n) ks) (inferences is)) (all_entries (inferences is)) r) items (judged w) stand.over))

-- an inference by the list of its parts
pub shape_of : (i : Inference) (is : List Inference) → is ≡ (out-Inference i).parts → inference i ≡ infer (letter (out-Inference i).letter) (out-Inference i).place (inferences is)
shape_of i is e = inference_is i ∙ ap (λ (js : List Inference). infer (letter (out-Inference i).letter) (out-Inference i).place (inferences js)) (sym e)

-- measures

pub entry_in : (is : List Inference) (k : ℕ) (i : Inference) → k < length is → i ≡ get_or is k i → entries (inference i) ≤ all_entries (inferences is)
entry_in [] k i within e = absurd (omega arith)
entry_in (j ∷ is) zero i within e = omega (arith, ap (λ (x : Inference). entries (inference x)) e)
entry_in (j ∷ is) (suc k) i within e = omega (arith, entry_in is k i (omega arith) e)

pub entries_in : (i : Inference) (l : m.Letter) (place : ℕ) (is : List Inference) → inference i ≡ infer l place (inferences is) → 2 * all_entries (inferences is) + 1 < 2 * entries (inference i)
entries_in i l place is shape = omega (arith, ap entries shape)
