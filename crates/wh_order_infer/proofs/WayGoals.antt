-- The goals of the ways by `m`.
use Rattle.std.proofs.Common.{◌≡◌, ℕ, zero, suc, ◌<◌, ◌≤◌, List, [], ◌∷◌, length, map, set, get_or, Option, Some, None, refl, ap, subst, sym, ◌∙◌, arith}
use Rattle.std.specs.Global.{Vec}
use Rattle.wh_order_inference.specs.Inferences as m
use Rattle.wh_order_inference.specs.Inferences.{arguments, variable, infer, no_parts, more_parts}
use Rattle.wh_order_inference.specs.Said.{inference, inferences}
use Rattle.wh_order_inference.specs.declared.inference.Inference.{Inference}
use Rattle.wh_order_path.specs.Verdict.{Task, tasks}
use Rattle.wh_order_path.specs.Verdict as v
use Rattle.wh_order_node.specs.Filterings.{FilteringData}
use Rattle.wh_order_trees.specs.TreeParts.{World}
use Rattle.wh_order.specs.declared.goals.Goal.{Goal}
use Rattle.wh_order.specs.declared.goals.Claim.TheVariants.{Greater}
use Rattle.wh_order.specs.Precedences.{order_of}
use Rattle.wh_order.specs.Claims.{task, IsGoalOver, AreGoalsOver, MayStandFor, AreGoals}
use Rattle.wh_order_known.specs.Ways.{strict_part, sharpened, tasks_by}
use Rattle.wh_order_infer.specs.Bests.{AreGoalsBy}
use Rattle.wh_order_infer.proofs.TaskLemmas.{claimed}
use Rattle.wh_order.proofs.JudgedLemmas.{nothing_asked}

-- the goal with the stricter claim
abbrev pub stricter : Goal → Goal
stricter g = record { claim = Greater; next = g.next; left = g.left; right = g.right }

sharp_past : (n : ℕ) (ks : List Task) → length ks ≤ n → sharpened n ks ≡ None
sharp_past zero [] past = refl
sharp_past (suc n) [] past = refl
sharp_past zero (k ∷ ks) past = absurd (omega arith)
sharp_past (suc n) (k ∷ ks) past =
    ap (λ o. elim o as (λ x. Option (List Task)) [ None ↦ None | Some ls ↦ Some (k ∷ ls) ]) (sharp_past n ks (omega arith))

sharp_map : (n k : ℕ) (gs : List Goal) (g : Goal) → k < length gs → g ≡ get_or gs k g → sharpened k (map (task n) gs) ≡ Some (map (task n) (set gs k (stricter g)))
sharp_map n k [] g within e = absurd (omega arith)
sharp_map n zero (x ∷ gs) g within e = ap (λ (y : Goal). Some (claimed v.greater (task n y) ∷ map (task n) gs)) (sym e)
sharp_map n (suc k) (x ∷ gs) g within e =
    ap (λ o. elim o as (λ x. Option (List Task)) [ None ↦ None | Some ls ↦ Some (task n x ∷ ls) ]) (sharp_map n k gs g (omega arith) e)

over_set : (n : ℕ) (w : World) (k : ℕ) (gs : List Goal) (g : Goal) → AreGoalsOver n w gs → k < length gs → g ≡ get_or gs k g → AreGoalsOver n w (set gs k (stricter g))
over_set n w k [] g o within e = absurd (omega arith)
over_set n w zero (x ∷ gs) g o within e = (subst (IsGoalOver n w) (sym e) o.0, o.1)
over_set n w (suc k) (x ∷ gs) g o within e = (o.0, over_set n w k gs g o.1 (omega arith) e)

-- what `m` asks for with a part that is strict
abbrev Pairs : FilteringData → Goal → World → Option (List Task)
Pairs D g w = tasks w.symbols (order_of D) w.metas (task (length D.symbols) g) arguments 0 strict_part

abbrev picked : ℕ → Option (List Task) → Option (List Task)
picked n o = elim o as (λ x. Option (List Task)) [ None ↦ None | Some ks ↦ sharpened n ks ]

with_strict : (D : FilteringData) (g : Goal) (i : Inference) (r : Option (Vec Goal)) → inference i ≡ infer variable 0 no_parts
    → AreGoals (length D.symbols) (order_of D) g arguments 0 (inferences (i ∷ [])) r → (w : World) → IsGoalOver (length D.symbols) w g → MayStandFor (length D.symbols) w r (Pairs D g w)
with_strict D g i r e h w over =
    subst (λ (is : m.Inferences). MayStandFor (length D.symbols) w r (tasks w.symbols (order_of D) w.metas (task (length D.symbols) g) arguments 0 is))
    (ap (λ (x : m.Inference). more_parts x no_parts) e) (h w over)

pub pairs_none : (D : FilteringData) (g : Goal) (i : Inference) (place : ℕ) → inference i ≡ infer variable 0 no_parts
    → AreGoals (length D.symbols) (order_of D) g arguments 0 (inferences (i ∷ [])) None → AreGoalsBy D g arguments place None
pairs_none D g i zero e h w over = refl
pairs_none D g i (suc n) e h w over =
    subst (MayStandFor (length D.symbols) w None)
    (sym (ap (picked n) (nothing_asked (length D.symbols) w (Pairs D g w) (with_strict D g i None e h w over)))) refl

pub pairs_past : (D : FilteringData) (g : Goal) (i : Inference) (place : ℕ) (gs : Vec Goal) → inference i ≡ infer variable 0 no_parts
    → AreGoals (length D.symbols) (order_of D) g arguments 0 (inferences (i ∷ [])) (Some gs) → length gs.items < place → AreGoalsBy D g arguments place None
pairs_past D g i zero gs e h past w over = refl
pairs_past D g i (suc n) gs e h past w over = on (Pairs D g w) (with_strict D g i (Some gs) e h w over)
  where
    count_map : (gs : List Goal) → length (map (task (length D.symbols)) gs) ≡ length gs
    count_map [] = refl
    count_map (g ∷ gs) = ap suc (count_map gs)

    on : (o : Option (List Task)) → MayStandFor (length D.symbols) w (Some gs) o → MayStandFor (length D.symbols) w None (picked n o)
    on None h = refl
    on (Some ks) h =
        subst (MayStandFor (length D.symbols) w None) (sym (sharp_past n ks (omega (arith, past, count_map gs.items, ap length h.same_tasks)))) refl

pub pairs_some : (D : FilteringData) (g : Goal) (i : Inference) (place k : ℕ) (gs hs : Vec Goal) (x : Goal) → inference i ≡ infer variable 0 no_parts
    → AreGoals (length D.symbols) (order_of D) g arguments 0 (inferences (i ∷ [])) (Some gs) → place ≡ suc k → k < length gs.items → x ≡ get_or gs.items k x
    → hs.items ≡ set gs.items k (stricter x) → AreGoalsBy D g arguments place (Some hs)
pairs_some D g i place k gs hs x e h step within here written w over =
    subst (λ (p : ℕ). MayStandFor (length D.symbols) w (Some hs) (tasks_by w.symbols (order_of D) w.metas (task (length D.symbols) g) arguments p)) (sym step)
    (on (Pairs D g w) (with_strict D g i (Some gs) e h w over))
  where
    on : (o : Option (List Task)) → MayStandFor (length D.symbols) w (Some gs) o → MayStandFor (length D.symbols) w (Some hs) (picked k o)
    on None h = absurd (cc)
    on (Some ks) h =
        let sharp : sharpened k ks ≡ Some (map (task (length D.symbols)) (set gs.items k (stricter x))) =
        ap (sharpened k) (sym h.same_tasks) ∙ sharp_map (length D.symbols) k gs.items x within here in
        subst (MayStandFor (length D.symbols) w (Some hs)) (sym sharp) (record {
          same_tasks = ap (map (task (length D.symbols))) written;
          over = subst (AreGoalsOver (length D.symbols) w) (sym written) (over_set (length D.symbols) w k gs.items x h.over within here);
        })
