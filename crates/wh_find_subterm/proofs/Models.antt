-- A model of the formula says a projection that drops a pair.
use Rattle.std.proofs.Common.{◌≡◌, ◌≢◌, ℕ, ◌+◌, ◌<◌, ◌⊎◌, inl, inr, Bool, true, List, [], ◌∷◌, ◌++◌, length, get_or, map, All, Contains, Some, slice_get, refl, sym, ap, subst, ◌∙◌, arith}
use Rattle.std.proofs.lemmas.Bool.{cases_order}
use Rattle.std.proofs.lemmas.Option.{slice_get_within}
use Rattle.wh_terms.specs.Rules.{RewriteRule}
use Rattle.wh_system.specs.Needs.{need_of}
use Rattle.wh_pairs.specs.PairData.{PairData, IsIncreasing}
use Rattle.wh_pairs.proofs.ByPlace.{contains_at, number_at, place_of}
use Rattle.wh_sat_trail.specs.declared.literal.Literal.{Literal}
use Rattle.wh_sat.specs.Solving.{Solves, clause_true}
use Rattle.wh_pairs.specs.Marked.{AreMarked}
use Rattle.wh_subterm.specs.Projections.{Below, Equal}
use Rattle.wh_subterm.specs.Relations.{BelowAt, EqualAt, Relates}
use Rattle.wh_subterm.specs.SubtermRows.{IsPlace, IsProjection, chosen_symbols}
use Rattle.wh_subterm.specs.declared.relation.Relation.{Relation}
use Rattle.wh_subterm.specs.declared.relation.Relation.TheVariants as kind
use Rattle.wh_subterm.proofs.ChoiceLemmas.{one_choice}
use Rattle.wh_find_subterm.specs.declared.rows.Row.{Row}
use Rattle.wh_find_subterm.specs.declared.cases.Case.{Case}
use Rattle.wh_find_subterm.specs.Rows.{choices_of, end_from, row_of, rows_from}
use Rattle.wh_find_subterm.specs.Cases.{AreCases, pair_at, spot, spots}
use Rattle.wh_find_subterm.specs.Clauses.{for_neither, for_not_below, no, not_both}
use Rattle.wh_find_subterm.specs.Formula.{IsProjections}
use Rattle.wh_find_subterm.specs.Laws.{ModelsAreProjections, Says}
use Rattle.wh_find_subterm.specs.Reading.{choice_by, chosen_by, first_true}
use Rattle.wh_find_subterm.proofs.Members.{In, contains_in, in_contains, in_map, in_map_from, place_in}
use Rattle.wh_find_subterm.proofs.Truth.{FirstTrue, both_false, some_first, three_false, two_in}
use Rattle.wh_find_subterm.proofs.RowLemmas.{row_in, row_is, row_need, row_symbol, row_symbols}
use Rattle.wh_find_subterm.proofs.SpotLemmas.{IsChoice, case_of, left_row, right_row, spot_in}
use Rattle.wh_find_subterm.proofs.Facts.{AreTrue, true_from}
use Rattle.wh_find_subterm.proofs.Chosen.{below_from, choice, equal_from, pair_is, read_pair, some_need}

-- what the relation under a choice leaves of its two clauses
by_relation : (v : ℕ → Bool) (x y own : ℕ) (a : PairData) (i j : ℕ) (r : Relation) → Relates a i j r → v x ≡ true → v y ≡ true
    → ((c : List Literal) → In c (for_neither x y r) → clause_true v c ≡ true) → ((c : List Literal) → In c (for_not_below x y own r) → clause_true v c ≡ true)
    → (EqualAt a i j ⊎ BelowAt a i j) × (v own ≡ true → BelowAt a i j)
by_relation v x y own a i j kind.Equal equal left right neither not_below = (inl equal, λ own_is. absurd (three_false v x y own left right own_is (not_below (not_both x y ++ no own ∷ []) (inl refl))))
by_relation v x y own a i j kind.Below below left right neither not_below = (inr below, λ _. below)
by_relation v x y own a i j kind.Neither never left right neither not_below = absurd (both_false v x y left right (neither (not_both x y) (inl refl)))

-- the symbols of a set of pairs with their rows, and the cases of its formula, whose clauses are true
pub record IsModel (rules : List RewriteRule) (pairs : List PairData) (set fs : List ℕ) (v : ℕ → Bool) : Type 0 where
  pub marked : AreMarked pairs set fs
  pub cases : List Case
  pub are : AreCases (spots (rows_from rules 0 fs) pairs (end_from rules 0 fs) set) cases
  pub true_ones : AreTrue v (rows_from rules 0 fs) cases (end_from rules 0 fs) (length set)

pub model_from : (rules : List RewriteRule) (pairs : List PairData) (set : List ℕ) (n : ℕ) (clauses : List (List Literal)) (v : ℕ → Bool) → (formula : IsProjections rules pairs set n clauses)
    → Solves v clauses → IsModel rules pairs set formula.symbols v
model_from rules pairs set n clauses v formula solves =
    let rows = rows_from rules 0 formula.symbols in
    let end = end_from rules 0 formula.symbols in
    record {
      marked = formula.marked;
      cases = formula.formula.cases;
      are = formula.formula.are_cases;
      true_ones = true_from v rows formula.formula.cases end (length set) clauses formula.formula.are_clauses solves;
    }

-- the argument that is chosen for a symbol
abbrev pub pick : (ℕ → Bool) → List Row → ℕ → ℕ
pick v rows f = first_true v (row_of rows f).first (row_of rows f).need

pick_true : (rules : List RewriteRule) (pairs : List PairData) (set fs : List ℕ) (v : ℕ → Bool) → IsModel rules pairs set fs v → (f : ℕ) → In f fs
    → FirstTrue v (row_of (rows_from rules 0 fs) f).first (row_of (rows_from rules 0 fs) f).need
pick_true rules pairs set fs v model f is =
    let r = row_of (rows_from rules 0 fs) f in
    some_first v r.first r.need (model.true_ones.chosen r (row_in rules 0 fs f is))

pick_in : (rules : List RewriteRule) (fs : List ℕ) (v : ℕ → Bool) (f : ℕ) → In f fs → Contains (chosen_by v (rows_from rules 0 fs)) (choice f (pick v (rows_from rules 0 fs) f))
pick_in rules fs v f is =
    let rows = rows_from rules 0 fs in
    let at = in_map (choice_by v) rows (row_of rows f) (row_in rules 0 fs f is) in
    in_contains (chosen_by v rows) (choice f (pick v rows f)) (subst (λ g. In (choice g (pick v rows f)) (chosen_by v rows)) (row_symbol rows f) at)

heads_left : (pairs : List PairData) (set fs : List ℕ) (k n : ℕ) → AreMarked pairs set fs → slice_get set k ≡ Some n → n < length pairs → In (pair_at pairs n).left_fun fs
heads_left pairs set fs k n marked at within =
    let a = pair_at pairs n in
    contains_in fs a.left_fun ((marked.each a.left_fun).1 (n, contains_at set k n at, (a, read_pair pairs n within, inl refl)))

heads_right : (pairs : List PairData) (set fs : List ℕ) (k n : ℕ) → AreMarked pairs set fs → slice_get set k ≡ Some n → n < length pairs → In (pair_at pairs n).right_fun fs
heads_right pairs set fs k n marked at within =
    let a = pair_at pairs n in
    contains_in fs a.right_fun ((marked.each a.right_fun).1 (n, contains_at set k n at, (a, read_pair pairs n within, inr refl)))

-- each pair is equal or below under what is chosen, and below where its own variable is true
pub picked : (rules : List RewriteRule) (pairs : List PairData) (set fs : List ℕ) (v : ℕ → Bool) (model : IsModel rules pairs set fs v) (k n : ℕ) → slice_get set k ≡ Some n → n < length pairs
    → (Equal (chosen_by v (rows_from rules 0 fs)) (pair_at pairs n) ⊎ Below (chosen_by v (rows_from rules 0 fs)) (pair_at pairs n))
    × (v (end_from rules 0 fs + k) ≡ true → Below (chosen_by v (rows_from rules 0 fs)) (pair_at pairs n))
picked rules pairs set fs v model k n at within =
    let rows = rows_from rules 0 fs in
    let end = end_from rules 0 fs in
    let args = chosen_by v rows in
    let a = pair_at pairs n in
    let l = left_row rows pairs n in
    let r = right_row rows pairs n in
    let i = pick v rows a.left_fun in
    let j = pick v rows a.right_fun in
    let marked_left = heads_left pairs set fs k n model.marked at within in
    let marked_right = heads_right pairs set fs k n model.marked at within in
    let left = pick_true rules pairs set fs v model a.left_fun marked_left in
    let right = pick_true rules pairs set fs v model a.right_fun marked_right in
    let free : IsChoice a l r i j = record { left = left.below; right = right.below; one = λ same. ap (pick v rows) same } in
    let (c, here, case) = case_of (spots rows pairs end set) model.cases (spot a l r (end + k) i j) model.are (spot_in rows pairs end set k n i j at free) in
    let said = by_relation v c.left c.right c.own a i j c.relation case.relates (ap v case.left ∙ left.is) (ap v case.right ∙ right.is)
    (λ d. model.true_ones.neither c d here) (λ d. model.true_ones.not_below c d here) in
    let left_in = pick_in rules fs v a.left_fun marked_left in
    let right_in = pick_in rules fs v a.right_fun marked_right in (
      elim said.0 [
        | inl equal ↦ inl (equal_from args a i j left_in right_in equal)
        | inr below ↦ inr (below_from args a i j left_in right_in below)
      ],
      λ own. below_from args a i j left_in right_in (said.1 (ap v case.own ∙ own)),
    )

-- some pair is below
pub some_picked : (rules : List RewriteRule) (pairs : List PairData) (set fs : List ℕ) (v : ℕ → Bool) (model : IsModel rules pairs set fs v) → All (λ n. n < length pairs) set
    → (n : ℕ) × Contains set n × Below (chosen_by v (rows_from rules 0 fs)) (pair_at pairs n)
some_picked rules pairs set fs v model within =
    let end = end_from rules 0 fs in
    let some = some_first v end (length set) model.true_ones.some in
    let k = first_true v end (length set) in
    let n = get_or set k 0 in
    let at = number_at set k some.below in
    (n, contains_at set k n at, (picked rules pairs set fs v model k n at (within k 0 some.below)).1 some.is)

-- the choices are for the marked symbols, each in its place

pub symbols_by : (v : ℕ → Bool) (rows : List Row) → chosen_symbols (chosen_by v rows) ≡ map (λ (r : Row). r.symbol) rows
symbols_by v [] = refl
symbols_by v (r ∷ rows) = ap (λ fs. r.symbol ∷ fs) (symbols_by v rows)

pub symbols_chosen : (rules : List RewriteRule) (fs : List ℕ) (v : ℕ → Bool) → chosen_symbols (chosen_by v (rows_from rules 0 fs)) ≡ fs
symbols_chosen rules fs v = symbols_by v (rows_from rules 0 fs) ∙ row_symbols rules 0 fs

placed : (rules : List RewriteRule) (pairs : List PairData) (set fs : List ℕ) (v : ℕ → Bool) (model : IsModel rules pairs set fs v) → All (IsPlace rules) (chosen_by v (rows_from rules 0 fs))
placed rules pairs set fs v model k d within =
    let rows = rows_from rules 0 fs in
    let args = chosen_by v rows in
    let from = in_map_from (choice_by v) rows (get_or args k d) (place_in args k d within) in
    let r = from.0 in
    let row = row_is rules 0 fs r from.1 in
    let some = some_first v r.first r.need (model.true_ones.chosen r from.1) in
    let below = some.below in
    let need : r.need ≡ choices_of rules r.symbol = row.need in
    subst (IsPlace rules) from.2 (choices_of rules r.symbol, some_need (need_of rules r.symbol) (omega (arith, below, need)), omega arith, omega (arith, below, need))

pub projection_from : (rules : List RewriteRule) (pairs : List PairData) (set fs : List ℕ) (v : ℕ → Bool) (drop : List ℕ) (model : IsModel rules pairs set fs v) → All (λ n. n < length pairs) set
    → drop ≢ [] → ((i j n : ℕ) → slice_get drop i ≡ Some n → slice_get drop j ≡ Some n → i ≡ j) → All (Contains set) drop
    → ((n : ℕ) → Contains drop n → Below (chosen_by v (rows_from rules 0 fs)) (pair_at pairs n))
    → IsProjection rules pairs set (chosen_by v (rows_from rules 0 fs)) drop
projection_from rules pairs set fs v drop model within some once inside below =
    let args = chosen_by v (rows_from rules 0 fs) in
    record {
      marked = subst (AreMarked pairs set) (sym (symbols_chosen rules fs v)) model.marked;
      places = placed rules pairs set fs v model;
      some_dropped = some;
      once = once;
      within = inside;
      decreasing = λ n a has at.
          let there = place_of set n has in
          let is = pair_is pairs n a at in
          subst (λ b. Equal args b ⊎ Below args b) is (picked rules pairs set fs v model there.0 n there.1 (slice_get_within pairs n a at)).0;
      below = λ n a has at. subst (Below args) (pair_is pairs n a at) (below n has);
    }

-- on the variables of the symbols the model says just these choices

says_to : (rules : List RewriteRule) (pairs : List PairData) (set fs : List ℕ) (v : ℕ → Bool) (model : IsModel rules pairs set fs v) (f i : ℕ) → In f fs → i < choices_of rules f
    → v ((row_of (rows_from rules 0 fs) f).first + i) ≡ true → i ≡ pick v (rows_from rules 0 fs) f
says_to rules pairs set fs v model f i is less true_one =
    let rows = rows_from rules 0 fs in
    let r = row_of rows f in
    let some = pick_true rules pairs set fs v model f is in
    let below = some.below in
    let need = row_need rules 0 fs f is in
    let only : (x y : ℕ) → x < y → y < r.need → clause_true v (not_both (r.first + x) (r.first + y)) ≡ true = λ x y order inside. model.true_ones.only r (not_both (r.first + x) (r.first + y)) (row_in rules 0 fs f is) (two_in r.first r.need x y order inside) in
    elim (cases_order i (pick v rows f)) [
      | inl same ↦ same
      | inr (inl before) ↦ absurd (both_false v (r.first + i) (r.first + pick v rows f) true_one some.is (only i (pick v rows f) before below))
      | inr (inr behind) ↦ absurd (both_false v (r.first + pick v rows f) (r.first + i) some.is true_one (only (pick v rows f) i behind (omega (arith, less, need))))
    ]

pub says : (rules : List RewriteRule) (pairs : List PairData) (set fs : List ℕ) (v : ℕ → Bool) (model : IsModel rules pairs set fs v) → Says rules fs v (chosen_by v (rows_from rules 0 fs))
says rules pairs set fs v model f i has less =
    let rows = rows_from rules 0 fs in
    let args = chosen_by v rows in
    let is = contains_in fs f has in
    let some = pick_true rules pairs set fs v model f is in
    let up : IsIncreasing (chosen_symbols args) = subst IsIncreasing (sym (symbols_chosen rules fs v)) model.marked.in_order in (
      λ true_one. subst (λ k. Contains args (choice f k)) (sym (says_to rules pairs set fs v model f i is less true_one)) (pick_in rules fs v f is),
      λ chosen.
          let one = one_choice args f (i + 1) (pick v rows f + 1) up chosen (pick_in rules fs v f is) in
          let same : i ≡ pick v rows f = omega arith in
          ap (λ k. v ((row_of rows f).first + k)) same ∙ some.is,
    )

only_one : (m i j n : ℕ) → slice_get (m ∷ []) i ≡ Some n → slice_get (m ∷ []) j ≡ Some n → i ≡ j
only_one m i j n left right =
    let inside = slice_get_within (m ∷ []) i n left in
    let beside = slice_get_within (m ∷ []) j n right in omega arith

only_member : (m n : ℕ) → Contains (m ∷ []) n → m ≡ n
only_member m n has = elim (contains_in (m ∷ []) n has) [
  | inl same ↦ same
  | inr never ↦ absurd never
]

pub models_are_projections : ModelsAreProjections
models_are_projections rules pairs set n clauses v within formula solves =
    let model = model_from rules pairs set n clauses v formula solves in
    let (m, has, below) = some_picked rules pairs set formula.symbols v model within in
    let args = chosen_by v (rows_from rules 0 formula.symbols) in (
      args,
      m ∷ [],
      projection_from rules pairs set formula.symbols v (m ∷ []) model within (λ empty. cc) (only_one m)
          (λ k d inside. elim (place_in (m ∷ []) k d inside) [ inl same ↦ subst (Contains set) same has | inr never ↦ absurd never ])
          (λ k at. subst (λ q. Below args (pair_at pairs q)) (only_member m k at) below),
      says rules pairs set formula.symbols v model,
    )
