-- The search for the mark of a symbol, mark by mark.
use Rattle.std.proofs.Common.{◌≡◌, ◌<◌, ◌≤◌, ◌+◌, ℕ, zero, suc, List, [], ◌∷◌, length, drop, get_or, ap, sym, ◌∙◌, arith, Some, slice_get}
use Rattle.std.proofs.lemmas.List.{length-map}
use Rattle.std.proofs.lemmas.Option.{slice_get_within}
use Rattle.wh_polycheck.specs.declared.marks.MarkedSymbol.{MarkedSymbol}
use Rattle.wh_polycheck.specs.Marks.{place_of, HasMark}
use Rattle.wh_polycheck.specs.SideResults.{mark, marks_of}
use Rattle.wh_polycheck.proofs.MoreInterpretations.{mark_at}

place_here : (xs : List MarkedSymbol) (i : ℕ) (x : MarkedSymbol) (f : ℕ) → i < length xs → x ≡ get_or xs i x → x.symbol ≡ f
    → place_of (marks_of (drop i xs)) f ≡ 0
place_here [] i x f within there same = absurd (omega arith)
place_here (y ∷ xs) zero x f within there same =
    let h : y.symbol ≡ f = ap (λ m. m.symbol) (sym there) ∙ same in grind (arith, h)
place_here (y ∷ xs) (suc i) x f within there same = place_here xs i x f (omega arith) there same

place_behind : (xs : List MarkedSymbol) (i : ℕ) (x : MarkedSymbol) (f : ℕ) → i < length xs → x ≡ get_or xs i x → (x.symbol ≡ f → ⊥)
    → place_of (marks_of (drop i xs)) f ≡ suc (place_of (marks_of (drop (suc i) xs)) f)
place_behind [] i x f within there other = absurd (omega arith)
place_behind (y ∷ xs) zero x f within there other =
    let h : y.symbol ≡ f → ⊥ = λ e. other (ap (λ m. m.symbol) there ∙ e) in grind (arith, h)
place_behind (y ∷ xs) (suc i) x f within there other = place_behind xs i x f (omega arith) there other

-- the first i marks are passed: none of them is of f
abbrev pub Passed : List MarkedSymbol → ℕ → ℕ → Type 0
Passed xs f i = place_of (marks_of xs) f ≡ i + place_of (marks_of (drop i xs)) f

pub none_passed : (xs : List MarkedSymbol) (f : ℕ) → Passed xs f 0
none_passed xs f = omega arith

pub one_passed : (xs : List MarkedSymbol) (f i : ℕ) (x : MarkedSymbol) → Passed xs f i → i < length xs → x ≡ get_or xs i x
    → (x.symbol ≡ f → ⊥) → Passed xs f (i + 1)
one_passed xs f i x passed within there other =
    let e = place_behind xs i x f within there other in
    let s : suc i ≡ i + 1 = omega arith in
    let g = ap (λ j. place_of (marks_of (drop j xs)) f) s in
    omega (arith, e, g, passed)

mark_there : (xs : List MarkedSymbol) (i : ℕ) (x : MarkedSymbol) → i < length xs → x ≡ get_or xs i x
    → slice_get (marks_of xs) i ≡ Some (mark x)
mark_there [] i x within there = absurd (omega arith)
mark_there (y ∷ xs) zero x within there = ap (λ m. Some (mark m)) (sym there)
mark_there (y ∷ xs) (suc i) x within there = mark_there xs i x (omega arith) there

pub mark_found : (xs : List MarkedSymbol) (f i : ℕ) (x : MarkedSymbol) → Passed xs f i → i < length xs → x ≡ get_or xs i x → x.symbol ≡ f
    → slice_get (marks_of xs) (place_of (marks_of xs) f) ≡ Some (mark x)
mark_found xs f i x passed within there same =
    let here = place_here xs i x f within there same in
    let e : place_of (marks_of xs) f ≡ i = omega (arith, here, passed) in
    ap (slice_get (marks_of xs)) e ∙ mark_there xs i x within there

pub mark_missed : (xs : List MarkedSymbol) (f i : ℕ) → Passed xs f i → length xs ≤ i → HasMark (marks_of xs) f → ⊥
mark_missed xs f i passed past has =
    let (m, e, k) = mark_at (marks_of xs) f has in
    let within = slice_get_within (marks_of xs) (place_of (marks_of xs) f) m e in
    omega (arith, within, length-map xs mark, passed)
