-- The least numbers of entries of inferences for the goals of the program.
use Rattle.std.specs.Prelude.{ℕ, suc, ◌+◌, ◌≡◌, ◌<◌, ◌≤◌, ◌^◌, ◌==◌, ◌⊎◌, if◌then◌else◌, List, map, length, Option, None, Some}
use Rattle.std.specs.Option.{option_map}
use Rattle.wh_terms.specs.Typing.{Symbols, Declared}
use Rattle.wh_order_inference.specs.Inferences as m
use Rattle.wh_order_inference.specs.Inferences.{infer, entries, all_entries}
use Rattle.wh_order_inference.specs.Said.{letter, inference, inferences}
use Rattle.wh_order_inference.specs.declared.inference.Letter.{Letter}
use Rattle.wh_order_inference.specs.declared.inference.Letter.TheVariants.{Same, Lam, Mono, Sub, Prec, Lex, App, Bind, Var, Meta}
use Rattle.wh_order_inference.specs.declared.inference.Inference.{Inference}
use Rattle.wh_order_path.specs.Verdict.{Task}
use Rattle.wh_order_node.specs.Filterings.{FilteringData}
use Rattle.wh_order_trees.specs.TreeParts.{World}
use Rattle.wh_order.specs.declared.goals.Goal.{Goal}
use Rattle.wh_order.specs.Precedences.{order_of}
use Rattle.wh_order.specs.Claims.{task, IsGoalOver, AreGoalsOver, MayStandFor}
use Rattle.std.specs.Global.{Vec}
use Rattle.wh_order_known.specs.declared.choice.Choice.{Choice}
use Rattle.wh_order_known.specs.Least.{IsLeast, own}
use Rattle.wh_order_known.specs.Ways.{IsGood, AreGood, AreShown, tasks_by}

-- the letters, numbered from 0
abbrev pub letter_with : ℕ → Letter
letter_with n =
    if n == 0 then Same
    else if n == 1 then Lam
    else if n == 2 then Mono
    else if n == 3 then Sub
    else if n == 4 then Prec
    else if n == 5 then Lex
    else if n == 6 then App
    else if n == 7 then Bind
    else if n == 8 then Var
    else Meta

module _ (F : Symbols) (prec : ℕ → ℕ) (M : List Declared) where
  -- by this letter at this place an inference shows the task, with the choice's count of entries, nested at most `room`
  -- deep
  abbrev pub IsBy : ℕ → Task → Choice → Type 0
  IsBy room k c = (d : ℕ) × (b : ℕ) × (ks : List Task) × (room ≡ suc d) × (tasks_by F prec M k (letter c.letter) c.place ≡ Some ks)
      × AreShown F prec M d ks b × (c.count ≡ suc b)

-- the goals stand for what the way by this letter at this place asks for
abbrev pub AreGoalsBy : FilteringData → Goal → m.Letter → ℕ → Option (Vec Goal) → Type 0
AreGoalsBy D g l place r = (w : World) → IsGoalOver (length D.symbols) w g
    → MayStandFor (length D.symbols) w r (tasks_by w.symbols (order_of D) w.metas (task (length D.symbols) g) l place)

-- the choice is the best of those that C holds of
abbrev pub IsBestOf : (Choice → Type 0) → FilteringData → ℕ → Goal → Option Choice → Type 0
IsBestOf C D room g r = (w : World) → IsGoalOver (length D.symbols) w g
    → IsLeast (λ c. c.count) (λ c. IsBy w.symbols (order_of D) w.metas room (task (length D.symbols) g) c × C c) r

-- the best choice for the goal
abbrev pub IsBest : FilteringData → ℕ → Goal → Option Choice → Type 0
IsBest D room g r = IsBestOf (λ c. Unit {0}) D room g r

-- the best choice by this letter
abbrev pub IsBestBy : FilteringData → ℕ → Goal → Letter → Option Choice → Type 0
IsBestBy D room g l r = IsBestOf (λ c. c.letter ≡ l) D room g r

-- the best choice by this letter at this place
abbrev pub IsBestAt : FilteringData → ℕ → Goal → Letter → ℕ → Option Choice → Type 0
IsBestAt D room g l place r = IsBestOf (λ c. (c.letter ≡ l) × (c.place ≡ place)) D room g r

-- the least number of entries that shows all goals of a list, nested at most `room` deep
abbrev pub IsLeastTotal : FilteringData → ℕ → List Goal → Option ℕ → Type 0
IsLeastTotal D room gs r = (w : World) → AreGoalsOver (length D.symbols) w gs
    → IsLeast own (AreShown w.symbols (order_of D) w.metas room (map (task (length D.symbols)) gs)) r

-- an inference with the least number of entries that shows the goal
abbrev pub IsLeastInference : FilteringData → ℕ → Goal → Option Inference → Type 0
IsLeastInference D room g r = (w : World) → IsGoalOver (length D.symbols) w g
    → IsLeast entries (IsGood w.symbols (order_of D) w.metas room (task (length D.symbols) g)) (option_map inference r)

-- inferences for the goals of a list that have the least number of entries together
abbrev pub AreLeastInferences : FilteringData → ℕ → List Goal → Option (List Inference) → Type 0
AreLeastInferences D room gs None = (w : World) → AreGoalsOver (length D.symbols) w gs
    → (js : m.Inferences) → AreGood w.symbols (order_of D) w.metas room (map (task (length D.symbols)) gs) js → 2 ^ 32 ≤ all_entries js
AreLeastInferences D room gs (Some is) = (w : World) → AreGoalsOver (length D.symbols) w gs
    → AreGood w.symbols (order_of D) w.metas room (map (task (length D.symbols)) gs) (inferences is)
    × ((js : m.Inferences) → AreGood w.symbols (order_of D) w.metas room (map (task (length D.symbols)) gs) js → all_entries (inferences is) ≤ all_entries js)

-- the place that is written with the letter of a choice: none with `m`
abbrev pub written_place : Choice → ℕ
written_place c = elim c.letter [ Mono ↦ 0 | _ ↦ c.place ]

-- the choice by this letter at this place whose parts have n entries; None where n + 1 is not below 2^32
abbrev pub IsOneMore : Letter → ℕ → Option ℕ → Option Choice → Type 0
IsOneMore l place None r = r ≡ None
IsOneMore l place (Some n) r =
    ((n + 1 < 2 ^ 32) × (r ≡ Some (record { letter = l; place = place; count = n + 1 }))) ⊎ ((2 ^ 32 ≤ n + 1) × (r ≡ None))

-- the sum of two numbers, where the first one is there and it is below 2^32
abbrev pub IsSum : Option ℕ → ℕ → Option ℕ → Type 0
IsSum None n r = r ≡ None
IsSum (Some m) n r = ((m + n < 2 ^ 32) × (r ≡ Some (m + n))) ⊎ ((2 ^ 32 ≤ m + n) × (r ≡ None))

-- the inference by the choice with these parts, where they are there
abbrev pub IsMadeWith : Choice → Option (List Inference) → Option Inference → Type 0
IsMadeWith c None r = r ≡ None
IsMadeWith c (Some parts) r =
    (i : Inference) × (r ≡ Some i) × (inference i ≡ infer (letter c.letter) (written_place c) (inferences parts))
