-- The first true variable, found one after the other, and the choices of rows.
use Rattle.std.proofs.Common.{◌≡◌, ℕ, zero, suc, ◌+◌, ◌-◌, ◌<◌, ◌≤◌, Bool, true, false, List, [], ◌∷◌, ◌++◌, length, get_or, map, take, sym, ap, ◌∙◌, arith}
use Rattle.std.proofs.lemmas.Bool.{cond-true, cond-false}
use Rattle.std.proofs.lemmas.List.{map-append, take_more}
use Rattle.wh_subterm.specs.declared.projection.Choice as code
use Rattle.wh_subterm.specs.SubtermRows.{chosen}
use Rattle.wh_find_subterm.specs.declared.rows.Row.{Row}
use Rattle.wh_find_subterm.specs.Reading.{choice_by, chosen_by, first_true}

next : (v : ℕ → Bool) (x n : ℕ) → 0 < n → v x ≡ false → first_true v x n ≡ suc (first_true v (x + 1) (n - 1))
next v x zero some is = absurd (omega arith)
next v x (suc n) some is =
    let one : n ≡ suc n - 1 = omega arith in
    cond-false (v x) 0 (suc (first_true v (x + 1) n)) is ∙ ap (λ m. suc (first_true v (x + 1) m)) one

stop : (v : ℕ → Bool) (x n : ℕ) → 0 < n → v x ≡ true → first_true v x n ≡ 0
stop v x zero some is = absurd (omega arith)
stop v x (suc n) some is = cond-true (v x) 0 (suc (first_true v (x + 1) n)) is

-- those before the place are false
abbrev pub FalseBefore : (ℕ → Bool) → ℕ → ℕ → ℕ → Type 0
FalseBefore v first count place = first_true v first count ≡ place + first_true v (first + place) (count - place)

pub before_none : (v : ℕ → Bool) (first count : ℕ) → FalseBefore v first count 0
before_none v first count =
    let same : first ≡ first + 0 = omega arith in
    let also : count ≡ count - 0 = omega arith in
    let whole : first_true v first count ≡ first_true v (first + 0) (count - 0) = ap (λ x. first_true v x count) same ∙ ap (first_true v (first + 0)) also in
    omega (arith, whole)

pub before_more : (v : ℕ → Bool) (first count place : ℕ) → place < count → FalseBefore v first count place → v (first + place) ≡ false → FalseBefore v first count (place + 1)
before_more v first count place less before is =
    let step = next v (first + place) (count - place) (omega arith) is in
    let x : first + place + 1 ≡ first + (place + 1) = omega arith in
    let n : count - place - 1 ≡ count - (place + 1) = omega arith in
    let moved = ap (λ y. first_true v y (count - place - 1)) x ∙ ap (first_true v (first + (place + 1))) n in
    omega (arith, before, step, moved)

pub before_stop : (v : ℕ → Bool) (first count place : ℕ) → place < count → FalseBefore v first count place → v (first + place) ≡ true → place ≡ first_true v first count
before_stop v first count place less before is =
    let here = stop v (first + place) (count - place) (omega arith) is in omega (arith, before, here)

pub before_end : (v : ℕ → Bool) (first count place : ℕ) → count ≤ place → place ≤ count → FalseBefore v first count place → count ≡ first_true v first count
before_end v first count place past most before =
    let none : count - place ≡ 0 = omega arith in
    let last : first_true v (first + place) (count - place) ≡ 0 = ap (first_true v (first + place)) none in
    omega (arith, before, last)

pub choices_more : (v : ℕ → Bool) (rows : List Row) (i : ℕ) (d : Row) (args after : List code.Choice) (c : code.Choice) → i < length rows → map chosen args ≡ chosen_by v (take i rows)
    → after ≡ args ++ c ∷ [] → chosen c ≡ choice_by v (get_or rows i d) → map chosen after ≡ chosen_by v (take (i + 1) rows)
choices_more v rows i d args after c within before is same =
    ap (map chosen) is ∙ map-append chosen args (c ∷ []) ∙ ap (λ cs. cs ++ chosen c ∷ []) before ∙ ap (λ e. chosen_by v (take i rows) ++ e ∷ []) same
    ∙ sym (ap (chosen_by v) (take_more rows i d within) ∙ map-append (choice_by v) (take i rows) (get_or rows i d ∷ []))
