-- A set of pairs has one formula.
use Rattle.std.proofs.Common.{◌≡◌, ℕ, ◌<◌, inl, inr, List, [], ◌∷◌, length, refl, sym, ap, subst, ◌∙◌, arith}
use Rattle.wh_pairs.specs.PairData.{PairData, IsIncreasing}
use Rattle.wh_pairs.specs.Marked.{AreMarked}
use Rattle.wh_subterm.specs.Relations.{Relates}
use Rattle.wh_subterm.specs.declared.relation.Relation.{Relation}
use Rattle.wh_subterm.specs.declared.relation.Relation.TheVariants as kind
use Rattle.wh_find_subterm.specs.declared.cases.Case.{Case}
use Rattle.wh_find_subterm.specs.Rows.{end_from, rows_from}
use Rattle.wh_find_subterm.specs.Cases.{AreCases, IsCase, Spot, spots}
use Rattle.wh_find_subterm.specs.Clauses.{clauses_of}
use Rattle.wh_find_subterm.specs.Formula.{IsFormula}
use Rattle.wh_find_subterm.specs.Laws.{FormulaIsOne}
use Rattle.wh_find_subterm.proofs.Members.{In, contains_in, in_contains}
use Rattle.wh_find_subterm.proofs.Chosen.{not_both_at}

-- increasing lists with the same members

above : (x : ℕ) (xs : List ℕ) (f : ℕ) → IsIncreasing (x ∷ xs) → In f xs → x < f
above x [] f up is = absurd is
above x (y ∷ xs) f up (inl here) = omega (arith, up.0, here)
above x (y ∷ xs) f up (inr later) = let rest = above y xs f up.1 later in omega (arith, up.0, rest)

rest_rising : (x : ℕ) (xs : List ℕ) → IsIncreasing (x ∷ xs) → IsIncreasing xs
rest_rising x [] up = tt
rest_rising x (y ∷ xs) up = up.1

least : (x y : ℕ) (xs ys : List ℕ) → IsIncreasing (x ∷ xs) → IsIncreasing (y ∷ ys) → In x (y ∷ ys) → In y (x ∷ xs) → x ≡ y
least x y xs ys up also (inl here) there = sym here
least x y xs ys up also (inr later) (inl here) = here
least x y xs ys up also (inr later) (inr further) =
    let less = above y ys x also later in
    let more = above x xs y up further in absurd (omega (arith, less, more))

behind : (x y : ℕ) (xs ys : List ℕ) → IsIncreasing (x ∷ xs) → x ≡ y → ((f : ℕ) → In f (x ∷ xs) → In f (y ∷ ys)) → (f : ℕ) → In f xs → In f ys
behind x y xs ys up same within f is = elim (within f (inr is)) [
  | inl here ↦ let less = above x xs f up is in absurd (omega (arith, less, same, here))
  | inr later ↦ later
]

same_members : (xs ys : List ℕ) → IsIncreasing xs → IsIncreasing ys → ((f : ℕ) → In f xs → In f ys) → ((f : ℕ) → In f ys → In f xs) → xs ≡ ys
same_members [] [] up also to from = refl
same_members [] (y ∷ ys) up also to from = absurd (from y (inl refl))
same_members (x ∷ xs) [] up also to from = absurd (to x (inl refl))
same_members (x ∷ xs) (y ∷ ys) up also to from =
    let same = least x y xs ys up also (to x (inl refl)) (from y (inl refl)) in
    let rest = same_members xs ys (rest_rising x xs up) (rest_rising y ys also) (behind x y xs ys up same to) (behind y x ys xs also (sym same) from) in
    ap (λ z. z ∷ xs) same ∙ ap (λ zs. y ∷ zs) rest

one_list : (pairs : List PairData) (set fs gs : List ℕ) → AreMarked pairs set fs → AreMarked pairs set gs → fs ≡ gs
one_list pairs set fs gs left right =
    same_members fs gs left.in_order right.in_order (λ f is. contains_in gs f ((right.each f).1 ((left.each f).0 (in_contains fs f is))))
    (λ f is. contains_in fs f ((left.each f).1 ((right.each f).0 (in_contains gs f is))))

-- a choice has one case

one_relation : (a : PairData) (i j : ℕ) (r q : Relation) → Relates a i j r → Relates a i j q → r ≡ q
one_relation a i j kind.Equal kind.Equal left right = refl
one_relation a i j kind.Equal kind.Below left right = absurd (not_both_at a i j left right)
one_relation a i j kind.Equal kind.Neither left right = absurd (right (inl left))
one_relation a i j kind.Below kind.Equal left right = absurd (not_both_at a i j right left)
one_relation a i j kind.Below kind.Below left right = refl
one_relation a i j kind.Below kind.Neither left right = absurd (right (inr left))
one_relation a i j kind.Neither kind.Equal left right = absurd (left (inl right))
one_relation a i j kind.Neither kind.Below left right = absurd (left (inr right))
one_relation a i j kind.Neither kind.Neither left right = refl

abbrev case_with : ℕ → ℕ → ℕ → Relation → Case
case_with l r o q = record { left = l; right = r; own = o; relation = q }

one_case : (s : Spot) (c d : Case) → IsCase s c → IsCase s d → c ≡ d
one_case s c d is also =
    ap (λ l. case_with l c.right c.own c.relation) (is.left ∙ sym also.left) ∙ ap (λ r. case_with d.left r c.own c.relation) (is.right ∙ sym also.right)
    ∙ ap (λ o. case_with d.left d.right o c.relation) (is.own ∙ sym also.own)
    ∙ ap (case_with d.left d.right d.own) (one_relation s.pair s.left_place s.right_place c.relation d.relation is.relates also.relates)

one_cases : (ss : List Spot) (cs ds : List Case) → AreCases ss cs → AreCases ss ds → cs ≡ ds
one_cases [] [] [] left right = refl
one_cases [] [] (d ∷ ds) left right = absurd right
one_cases [] (c ∷ cs) ds left right = absurd left
one_cases (s ∷ ss) [] ds left right = absurd left
one_cases (s ∷ ss) (c ∷ cs) [] left right = absurd right
one_cases (s ∷ ss) (c ∷ cs) (d ∷ ds) left right = ap (λ e. e ∷ cs) (one_case s c d left.0 right.0) ∙ ap (λ es. d ∷ es) (one_cases ss cs ds left.1 right.1)

pub formula_is_one : FormulaIsOne
formula_is_one rules pairs set n m clauses also left right =
    let fs = left.symbols in
    let gs = right.symbols in
    let same : gs ≡ fs = one_list pairs set gs fs right.marked left.marked in
    let moved : IsFormula (rows_from rules 0 fs) (end_from rules 0 fs) pairs set m also = subst (λ hs. IsFormula (rows_from rules 0 hs) (end_from rules 0 hs) pairs set m also) same right.formula in
    let cases = one_cases (spots (rows_from rules 0 fs) pairs (end_from rules 0 fs) set) left.formula.cases moved.cases left.formula.are_cases moved.are_cases in (
      left.formula.count ∙ sym moved.count,
      left.formula.are_clauses ∙ ap (λ cs. clauses_of (rows_from rules 0 fs) cs (end_from rules 0 fs) (length set)) cases ∙ sym moved.are_clauses,
    )
