-- The check of one inference after another.
use Rattle.std.proofs.Common.{◌≡◌, ℕ, zero, suc, ◌+◌, ◌<◌, ◌≤◌, List, [], ◌∷◌, length, map, drop, get_or, cond, Option, Some, None, Result, Ok, Err, refl, ap, ap₂, subst, sym, ◌∙◌, arith}
use Rattle.std.specs.Prelude.{◌==◌, IsErrAnd}
use Rattle.std.proofs.lemmas.Bool.{eq-eqb, ne_eqb}
use Rattle.wh_types.specs.declared.want.Or.{Or}
use Rattle.wh_types.specs.declared.want.Or.TheVariants.{NoMemory, Because}
use Rattle.wh_terms.specs.Typing.{Symbols, Declared}
use Rattle.wh_order_inference.specs.Inferences as m
use Rattle.wh_order_inference.specs.Inferences.{infer, no_parts, more_parts, entries, all_entries, count_parts}
use Rattle.wh_order_inference.specs.Said.{letter, inference, inferences, parts_row}
use Rattle.wh_order_inference.specs.declared.inference.Inference.{Inference, Inference', out-Inference, outs-Inference', Row_of-Inference, end_of-Inference, more_of-Inference, items-the_row-Inference, items_shown-the_row-Inference-0}
use Rattle.wh_order_path.specs.Verdict.{Task, tasks, or_later, verdict, verdicts}
use Rattle.wh_order_trees.specs.TreeParts.{World}
use Rattle.wh_order.specs.declared.goals.Goal.{Goal}
use Rattle.wh_order.specs.Claims.{task, IsGoalOver, AreGoalsOver, moved, Judged}

-- an inference of the program, by its letter, its place and its parts

pub parts_row-items : (n : _) (r : Row_of-Inference n) → parts_row r ≡ inferences (items-the_row-Inference n r)
parts_row-items n end_of-Inference = refl
parts_row-items n (more_of-Inference i rest) = ap (λ (is : m.Inferences). more_parts (inference i) is) (parts_row-items _ rest)

pub inference_is : (i : Inference) → inference i ≡ infer (letter (out-Inference i).letter) (out-Inference i).place (inferences (out-Inference i).parts)
inference_is (Inference' l n shape all) =
    rw (outs-Inference' l n shape all) (ap (λ (is : m.Inferences). infer (letter l) n is) (parts_row-items _ all ∙ ap inferences (sym (items_shown-the_row-Inference-0 shape all))))

pub count_is : (is : List Inference) → count_parts (inferences is) ≡ length is
count_is [] = refl
count_is (i ∷ is) = omega (arith, count_is is)

-- numbers of inferences

moved-moved : (a b : ℕ) (o : Option ℕ) → moved a (moved b o) ≡ moved (a + b) o
moved-moved a b None = refl
moved-moved a b (Some k) = ap Some (omega arith)

module _ (F : Symbols) (prec : ℕ → ℕ) (M : List Declared) where
  or_later-none : (k : ℕ) (o : Option ℕ) → or_later F prec M None k o ≡ moved k o
  or_later-none k None = refl
  or_later-none k (Some j) = refl

  -- where the parts are for other tasks than are there, or for none, the inference itself is bad
  pub bad_alone : (k : Task) (l : m.Letter) (place : ℕ) (is : m.Inferences) → tasks F prec M k l place is ≡ None → verdict F prec M k (infer l place is) ≡ Some 0
  bad_alone k l place is e =
      ap (λ (o : Option (List Task)). elim o as (λ x. Option ℕ) [ None ↦ Some 0 | Some ks ↦ cond (length ks == count_parts is) (or_later F prec M None 1 (verdicts F prec M ks is)) (Some 0) ]) e

  asked : (k : Task) (l : m.Letter) (place : ℕ) (is : m.Inferences) (ks : List Task) → tasks F prec M k l place is ≡ Some ks
      → verdict F prec M k (infer l place is) ≡ cond (length ks == count_parts is) (or_later F prec M None 1 (verdicts F prec M ks is)) (Some 0)
  asked k l place is ks e =
      ap (λ (o : Option (List Task)). elim o as (λ x. Option ℕ) [ None ↦ Some 0 | Some ks ↦ cond (length ks == count_parts is) (or_later F prec M None 1 (verdicts F prec M ks is)) (Some 0) ]) e

  pub bad_count : (k : Task) (l : m.Letter) (place : ℕ) (is : m.Inferences) (ks : List Task) → tasks F prec M k l place is ≡ Some ks → (length ks ≡ count_parts is → ⊥)
      → verdict F prec M k (infer l place is) ≡ Some 0
  bad_count k l place is ks e refuted =
      asked k l place is ks e ∙ ap (λ b. cond b (or_later F prec M None 1 (verdicts F prec M ks is)) (Some 0)) (ne_eqb (length ks) (count_parts is) refuted)

  pub by_parts : (k : Task) (l : m.Letter) (place : ℕ) (is : m.Inferences) (ks : List Task) → tasks F prec M k l place is ≡ Some ks → length ks ≡ count_parts is
      → verdict F prec M k (infer l place is) ≡ moved 1 (verdicts F prec M ks is)
  by_parts k l place is ks e same =
      asked k l place is ks e ∙ ap (λ b. cond b (or_later F prec M None 1 (verdicts F prec M ks is)) (Some 0)) (eq-eqb (length ks) (count_parts is) same)
      ∙ or_later-none 1 (verdicts F prec M ks is)

-- what was judged from the next number on, one earlier
pub judged_whole : {E : Type 0} (number : E → ℕ) (at next : ℕ) (v o : Option ℕ) (count : ℕ) (r : Result ℕ (Or E)) → next ≡ at + 1 → v ≡ moved 1 o
    → Judged number next o count r → Judged number at v (1 + count) r
judged_whole number at next v o count (Ok end) step is (none, ends) = (is ∙ ap (moved 1) none, omega (arith, step, ends))
judged_whole number at next v o count (Err NoMemory) step is h = tt
judged_whole number at next v o count (Err (Because e)) step is h =
    ap (moved at) is ∙ moved-moved at 1 o ∙ ap (λ (k : ℕ). moved k o) (sym step) ∙ h

pub judged_bad : {E : Type 0} (number : E → ℕ) (at : ℕ) (v : Option ℕ) (count : ℕ) (e : E) → v ≡ Some 0 → number e ≡ at → Judged number at v count (Err (Because e))
judged_bad number at v count e is here = ap (moved at) is ∙ ap Some (omega (arith, here))

-- one after another

pub drop_here : {A : Type 0} (xs : List A) (i : ℕ) (x : A) → i < length xs → x ≡ get_or xs i x → drop i xs ≡ x ∷ drop (i + 1) xs
drop_here [] i x within e = absurd (omega arith)
drop_here (y ∷ xs) zero x within e = ap (λ z. z ∷ xs) (sym e)
drop_here (y ∷ xs) (suc i) x within e =
    let next : suc (i + 1) ≡ suc i + 1 = omega arith in
    drop_here xs i x (omega arith) e ∙ ap (λ (k : ℕ). x ∷ drop k (y ∷ xs)) next

pub drop_end : {A : Type 0} (xs : List A) (i : ℕ) → length xs ≤ i → drop i xs ≡ []
drop_end [] zero past = refl
drop_end [] (suc i) past = refl
drop_end (x ∷ xs) zero past = absurd (omega arith)
drop_end (x ∷ xs) (suc i) past = drop_end xs i (omega arith)

pub goal_at : (n : ℕ) (w : World) (gs : List Goal) (i : ℕ) (g : Goal) → AreGoalsOver n w gs → i < length gs → g ≡ get_or gs i g → IsGoalOver n w g
goal_at n w [] i g over within e = absurd (omega arith)
goal_at n w (h ∷ gs) zero g over within e = subst (IsGoalOver n w) (sym e) over.0
goal_at n w (h ∷ gs) (suc i) g over within e = goal_at n w gs i g over.1 (omega arith) e

moved_none : (k : ℕ) (o : Option ℕ) → moved k o ≡ None → o ≡ None
moved_none k None e = refl
moved_none k (Some j) e = absurd (cc)

module _ (F : Symbols) (prec : ℕ → ℕ) (M : List Declared) where
  -- what is left from the place on, where `next` is the number of the inference there
  abbrev pub RestOf : ℕ → List Goal → List Inference → (at next i : ℕ) → Type 0
  RestOf n gs is at next i =
      (moved at (verdicts F prec M (map (task n) gs) (inferences is)) ≡ moved next (verdicts F prec M (map (task n) (drop i gs)) (inferences (drop i is))))
      × (next + all_entries (inferences (drop i is)) ≡ at + all_entries (inferences is))

  step_none : (k : Task) (ks : List Task) (j : m.Inference) (js : m.Inferences) (next : ℕ) → verdict F prec M k j ≡ None
      → moved next (verdicts F prec M (k ∷ ks) (more_parts j js)) ≡ moved (next + entries j) (verdicts F prec M ks js)
  step_none k ks j js next e =
      ap (λ (o : Option ℕ). moved next (or_later F prec M o (entries j) (verdicts F prec M ks js))) e
      ∙ ap (moved next) (or_later-none F prec M (entries j) (verdicts F prec M ks js)) ∙ moved-moved next (entries j) (verdicts F prec M ks js)

  step_some : (k : Task) (ks : List Task) (j : m.Inference) (js : m.Inferences) (next e : ℕ) → moved next (verdict F prec M k j) ≡ Some e
      → moved next (verdicts F prec M (k ∷ ks) (more_parts j js)) ≡ Some e
  step_some k ks j js next e h = on (verdict F prec M k j) h
    where
      on : (o : Option ℕ) → moved next o ≡ Some e → moved next (or_later F prec M o (entries j) (verdicts F prec M ks js)) ≡ Some e
      on None h = absurd (cc)
      on (Some k) h = h

  pub rest_first : (n : ℕ) (gs : List Goal) (is : List Inference) (at : ℕ) → RestOf n gs is at at 0
  rest_first n gs is at = (refl, refl)

  pub rest_next : (n : ℕ) (gs : List Goal) (is : List Inference) (at next end i : ℕ) (g : Goal) (j : Inference) → RestOf n gs is at next i → i < length gs → i < length is
      → g ≡ get_or gs i g → j ≡ get_or is i j → verdict F prec M (task n g) (inference j) ≡ None → end ≡ next + entries (inference j) → RestOf n gs is at end (i + 1)
  rest_next n gs is at next end i g j rest inside within eg ej none ends = (
    rest.0 ∙ ap₂ (λ (hs : List Goal) (js : List Inference). moved next (verdicts F prec M (map (task n) hs) (inferences js))) (drop_here gs i g inside eg) (drop_here is i j within ej)
        ∙ step_none (task n g) (map (task n) (drop (i + 1) gs)) (inference j) (inferences (drop (i + 1) is)) next none
        ∙ ap (λ (k : ℕ). moved k (verdicts F prec M (map (task n) (drop (i + 1) gs)) (inferences (drop (i + 1) is)))) (sym ends),
    omega (arith, rest.1, ends, ap (λ (js : List Inference). all_entries (inferences js)) (drop_here is i j within ej)),
  )

  pub rest_bad : (n : ℕ) (gs : List Goal) (is : List Inference) (at next e i : ℕ) (g : Goal) (j : Inference) → RestOf n gs is at next i → i < length gs → i < length is
      → g ≡ get_or gs i g → j ≡ get_or is i j → moved next (verdict F prec M (task n g) (inference j)) ≡ Some e
      → moved at (verdicts F prec M (map (task n) gs) (inferences is)) ≡ Some e
  rest_bad n gs is at next e i g j rest inside within eg ej bad =
      rest.0 ∙ ap₂ (λ (hs : List Goal) (js : List Inference). moved next (verdicts F prec M (map (task n) hs) (inferences js))) (drop_here gs i g inside eg) (drop_here is i j within ej)
      ∙ step_some (task n g) (map (task n) (drop (i + 1) gs)) (inference j) (inferences (drop (i + 1) is)) next e bad

  pub rest_end : (n : ℕ) (gs : List Goal) (is : List Inference) (at next i : ℕ) → RestOf n gs is at next i → length gs ≤ i → length is ≤ i
      → (verdicts F prec M (map (task n) gs) (inferences is) ≡ None) × (next ≡ at + all_entries (inferences is))
  rest_end n gs is at next i rest inside within = (
    moved_none at (verdicts F prec M (map (task n) gs) (inferences is))
        (rest.0 ∙ ap₂ (λ (hs : List Goal) (js : List Inference). moved next (verdicts F prec M (map (task n) hs) (inferences js))) (drop_end gs i inside) (drop_end is i within)),
    omega (arith, rest.1, ap (λ (js : List Inference). all_entries (inferences js)) (drop_end is i within)),
  )

-- the judgement of the first bad part is that of all
pub judged_error : {E : Type 0} (number : E → ℕ) (next at : ℕ) (v o : Option ℕ) (count all : ℕ) (e : Or E) → Judged number next v count (Err e)
    → ((k : ℕ) → moved next v ≡ Some k → moved at o ≡ Some k) → Judged number at o all (Err e)
judged_error number next at v o count all NoMemory h f = tt
judged_error number next at v o count all (Because e) h f = f (number e) h

-- what a line of the program is judged as, from the number 0 on
pub moved_zero : (o : Option ℕ) → moved 0 o ≡ o
moved_zero None = refl
moved_zero (Some k) = ap Some (omega arith)

-- the same where the error is passed on
pub judged_passed : {E : Type 0} (number : E → ℕ) (next at : ℕ) (v o : Option ℕ) (count all : ℕ) (e : Or E) (r : Result ℕ (Or E)) → IsErrAnd r (λ f. f ≡ e) → Judged number next v count (Err e)
    → ((k : ℕ) → moved next v ≡ Some k → moved at o ≡ Some k) → Judged number at o all r
judged_passed number next at v o count all e (Ok x) err h f = absurd err
judged_passed {E} number next at v o count all e (Err g) err h f =
    judged_error number next at v o count all g (subst (λ (x : Or E). Judged number next v count (Err x)) (sym err) h) f
