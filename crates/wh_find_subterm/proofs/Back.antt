-- A projection that drops a pair is said by a model of the formula.
use Rattle.std.proofs.Common.{◌≡◌, ◌↔◌, ℕ, ◌+◌, ◌-◌, ◌<◌, ◌⊎◌, inl, inr, Bool, true, List, [], ◌∷◌, length, get_or, All, Contains, Some, slice_get, refl, sym, ap, subst, ◌∙◌, arith}
use Rattle.std.proofs.lemmas.Option.{get_or_from_slice_get, slice_get_within}
use Rattle.wh_terms.specs.Rules.{RewriteRule}
use Rattle.wh_pairs.specs.PairData.{PairData, IsIncreasing}
use Rattle.wh_pairs.proofs.ByPlace.{contains_at, place_of, unmap}
use Rattle.wh_sat_trail.specs.declared.literal.Literal.{Literal}
use Rattle.wh_sat.specs.Solving.{clause_true}
use Rattle.wh_subterm.specs.Projections.{Chosen}
use Rattle.wh_subterm.specs.Relations.{BelowAt, EqualAt, Relates}
use Rattle.wh_subterm.specs.SubtermRows.{IsPlace, IsProjection, chosen_symbols}
use Rattle.wh_subterm.specs.declared.relation.Relation.{Relation}
use Rattle.wh_subterm.specs.declared.relation.Relation.TheVariants as kind
use Rattle.wh_subterm.proofs.ChoiceLemmas.{one_choice}
use Rattle.wh_find_subterm.specs.declared.rows.Row.{Row}
use Rattle.wh_find_subterm.specs.declared.cases.Case.{Case}
use Rattle.wh_find_subterm.specs.Rows.{choices_of, end_from, or_zero, row_of, rows_from}
use Rattle.wh_find_subterm.specs.Cases.{AreCases, Spot, pair_at, spots}
use Rattle.wh_find_subterm.specs.Clauses.{for_neither, for_not_below, one_chosen, only_one_chosen, some_of}
use Rattle.wh_find_subterm.specs.Formula.{IsProjections}
use Rattle.wh_find_subterm.specs.Laws.{ProjectionsAreModels}
use Rattle.wh_find_subterm.proofs.Members.{In, contains_in, in_contains}
use Rattle.wh_find_subterm.proofs.Truth.{both_when, some_by, three_when, two_from}
use Rattle.wh_find_subterm.proofs.RowLemmas.{row_is, row_need}
use Rattle.wh_find_subterm.proofs.SpotLemmas.{left_row, right_row, spot_from, spot_of}
use Rattle.wh_find_subterm.proofs.Facts.{AreTrue, solves_from}
use Rattle.wh_find_subterm.proofs.Chosen.{below_at, choice, equal_at, not_both_at, read_pair}
use Rattle.wh_find_subterm.proofs.Values.{chosen_in, chosen_with, in_chosen, in_member, is_member, member_in, row_only, value_of, value_pair, value_symbol}

-- a projection of a set of pairs whose marked symbols are listed
pub record Projects (rules : List RewriteRule) (pairs : List PairData) (set fs : List ℕ) (args : List Chosen) (drop : List ℕ) : Type 0 where
  pub within : All (λ n. n < length pairs) set
  pub rising : IsIncreasing fs
  pub symbols : (f : ℕ) → In f fs → Contains (chosen_symbols args) f
  pub listed : (n : ℕ) → Contains set n → In (pair_at pairs n).left_fun fs × In (pair_at pairs n).right_fun fs
  pub projection : IsProjection rules pairs set args drop

up_in : {rules : List RewriteRule} {pairs : List PairData} {set fs : List ℕ} {args : List Chosen} {drop : List ℕ} → Projects rules pairs set fs args drop → IsIncreasing (chosen_symbols args)
up_in p = p.projection.marked.in_order

symbol_value : (rules : List RewriteRule) (args : List Chosen) (drop set fs : List ℕ) (f i : ℕ) → In f fs → i < choices_of rules f
    → (value_of rules args drop set fs ((row_of (rows_from rules 0 fs) f).first + i) ≡ true) ↔ Contains args (choice f i)
symbol_value rules args drop set fs f i is less =
    let at = value_symbol rules args drop set fs f i is less in
    (λ true_one. in_contains args (choice f i) (chosen_in args f (i + 1) (sym at ∙ true_one)), λ has. at ∙ in_chosen args f (i + 1) (contains_in args (choice f i) has))

-- the argument that is chosen for a symbol
choice_of : (rules : List RewriteRule) (pairs : List PairData) (set fs : List ℕ) (args : List Chosen) (drop : List ℕ) → Projects rules pairs set fs args drop → (f : ℕ) → In f fs
    → (i : ℕ) × (i < choices_of rules f) × Contains args (choice f i)
choice_of rules pairs set fs args drop p f is =
    let at = place_of (chosen_symbols args) f (p.symbols f is) in
    let (c, there, symbol) = unmap (λ (d : Chosen). d.symbol) args at.0 f at.1 in
    let place = p.projection.places at.0 c (slice_get_within args at.0 c there) in
    let (need, needed, some, most) = subst (IsPlace rules) (get_or_from_slice_get args at.0 c c there) place in
    let count : choices_of rules c.symbol ≡ need = ap or_zero needed in
    let same : choices_of rules c.symbol ≡ choices_of rules f = ap (choices_of rules) symbol in
    let argument : c.argument ≡ (c.argument - 1) + 1 = omega (arith, some) in
    let is_choice : c ≡ choice f (c.argument - 1) =
    ap (λ g. chosen_with g c.argument) symbol ∙ ap (chosen_with f) argument in
    (c.argument - 1, omega (arith, some, most, count, same), subst (Contains args) is_choice (contains_at args at.0 c there))

one_true : (rules : List RewriteRule) (pairs : List PairData) (set fs : List ℕ) (args : List Chosen) (drop : List ℕ) → Projects rules pairs set fs args drop → (r : Row) → In r (rows_from rules 0 fs)
    → clause_true (value_of rules args drop set fs) (one_chosen r) ≡ true
one_true rules pairs set fs args drop p r is =
    let v = value_of rules args drop set fs in
    let row = row_is rules 0 fs r is in
    let (i, less, has) = choice_of rules pairs set fs args drop p r.symbol row.symbol in
    let need = row.need in
    let at = (symbol_value rules args drop set fs r.symbol i row.symbol less).1 has in
    some_by v r.first r.need i (omega (arith, less, need)) (ap (λ (s : Row). v (s.first + i)) (sym (row_only rules 0 fs r p.rising is)) ∙ at)

only_true : (rules : List RewriteRule) (pairs : List PairData) (set fs : List ℕ) (args : List Chosen) (drop : List ℕ) → Projects rules pairs set fs args drop → (r : Row) (c : List Literal) → In r (rows_from rules 0 fs)
    → In c (only_one_chosen r) → clause_true (value_of rules args drop set fs) c ≡ true
only_true rules pairs set fs args drop p r c is at =
    let v = value_of rules args drop set fs in
    let row = row_is rules 0 fs r is in
    let need = row.need in
    let two = two_from r.first r.need c at in
    let inside = two.within in
    let less = two.less in
    let moved = λ (i : ℕ). ap (λ (s : Row). v (s.first + i)) (row_only rules 0 fs r p.rising is) in
    let never : v (r.first + two.left) ≡ true → v (r.first + two.right) ≡ true → ⊥ = λ left right.
    let here = (symbol_value rules args drop set fs r.symbol two.left row.symbol (omega (arith, inside, less, need))).0 (moved two.left ∙ left) in
    let there = (symbol_value rules args drop set fs r.symbol two.right row.symbol (omega (arith, inside, need))).0 (moved two.right ∙ right) in
    let same = one_choice args r.symbol (two.left + 1) (two.right + 1) (up_in p) here there in
    omega (arith, same, less) in
    subst (λ d. clause_true v d ≡ true) (sym two.is) (both_when v (r.first + two.left) (r.first + two.right) never)

-- what is true of a case, by its relation

neither_true : (v : ℕ → Bool) (x y : ℕ) (a : PairData) (i j : ℕ) (r : Relation) (c : List Literal) → Relates a i j r → (v x ≡ true → v y ≡ true → EqualAt a i j ⊎ BelowAt a i j)
    → In c (for_neither x y r) → clause_true v c ≡ true
neither_true v x y a i j kind.Equal c rel one at = absurd at
neither_true v x y a i j kind.Below c rel one at = absurd at
neither_true v x y a i j kind.Neither c rel one (inl here) = subst (λ d. clause_true v d ≡ true) here (both_when v x y (λ left right. rel (one left right)))
neither_true v x y a i j kind.Neither c rel one (inr never) = absurd never

below_true : (v : ℕ → Bool) (x y own : ℕ) (a : PairData) (i j : ℕ) (r : Relation) (c : List Literal) → Relates a i j r → (v x ≡ true → v y ≡ true → v own ≡ true → BelowAt a i j)
    → In c (for_not_below x y own r) → clause_true v c ≡ true
below_true v x y own a i j kind.Equal c rel one (inl here) = subst (λ d. clause_true v d ≡ true) here (three_when v x y own (λ left right last. not_both_at a i j rel (one left right last)))
below_true v x y own a i j kind.Equal c rel one (inr never) = absurd never
below_true v x y own a i j kind.Below c rel one at = absurd at
below_true v x y own a i j kind.Neither c rel one (inl here) = subst (λ d. clause_true v d ≡ true) here (three_when v x y own (λ left right last. rel (inr (one left right last))))
below_true v x y own a i j kind.Neither c rel one (inr never) = absurd never

-- a case of a pair under the projection
pub record UnderCase (v : ℕ → Bool) (d : Case) : Type 0 where
  pub pair : PairData
  pub left : ℕ
  pub right : ℕ
  pub relates : Relates pair left right d.relation
  pub decreases : v d.left ≡ true → v d.right ≡ true → EqualAt pair left right ⊎ BelowAt pair left right
  pub drops : v d.left ≡ true → v d.right ≡ true → v d.own ≡ true → BelowAt pair left right

under_case : (rules : List RewriteRule) (pairs : List PairData) (set fs : List ℕ) (args : List Chosen) (drop : List ℕ) → Projects rules pairs set fs args drop → (cases : List Case)
    → AreCases (spots (rows_from rules 0 fs) pairs (end_from rules 0 fs) set) cases → (d : Case) → In d cases → UnderCase (value_of rules args drop set fs) d
under_case rules pairs set fs args drop p cases are d is =
    let rows = rows_from rules 0 fs in
    let end = end_from rules 0 fs in
    let v = value_of rules args drop set fs in
    let (s, here, case) = spot_of (spots rows pairs end set) cases d are is in
    let at = spot_from rows pairs end set s here in
    let n = at.number in
    let a = pair_at pairs n in
    let l = left_row rows pairs n in
    let r = right_row rows pairs n in
    let from = at.from in
    let i = from.left in
    let j = from.right in
    let has = contains_at set at.place n at.at in
    let listed = p.listed n has in
    let left_need = row_need rules 0 fs a.left_fun listed.0 in
    let right_need = row_need rules 0 fs a.right_fun listed.1 in
    let left_less : i < choices_of rules a.left_fun = let less = from.choice.left in omega (arith, less, left_need) in
    let right_less : j < choices_of rules a.right_fun = let less = from.choice.right in omega (arith, less, right_need) in
    let left_is : d.left ≡ l.first + i = case.left ∙ ap (λ (t : Spot). t.left) from.is in
    let right_is : d.right ≡ r.first + j = case.right ∙ ap (λ (t : Spot). t.right) from.is in
    let own_is : d.own ≡ end + at.place = case.own ∙ ap (λ (t : Spot). t.own) from.is in
    let left_in = λ (true_one : v d.left ≡ true). (symbol_value rules args drop set fs a.left_fun i listed.0 left_less).0 (ap v (sym left_is) ∙ true_one) in
    let right_in = λ (true_one : v d.right ≡ true). (symbol_value rules args drop set fs a.right_fun j listed.1 right_less).0 (ap v (sym right_is) ∙ true_one) in
    let inside : n < length pairs = subst (λ m. m < length pairs) (get_or_from_slice_get set at.place n 0 at.at) (p.within at.place 0 (slice_get_within set at.place n at.at)) in
    let read = read_pair pairs n inside in
    record {
      pair = a;
      left = i;
      right = j;
      relates = subst (λ (t : Spot). Relates t.pair t.left_place t.right_place d.relation) from.is case.relates;
      decreases = λ left right. elim (p.projection.decreasing n a has read) [
        | inl equal ↦ inl (equal_at args a i j (up_in p) (left_in left) (right_in right) equal)
        | inr below ↦ inr (below_at args a i j (up_in p) (left_in left) (right_in right) below)
      ];
      drops = λ left right own.
          let member = sym (value_pair rules args drop set fs at.place) ∙ (ap v (sym own_is) ∙ own) in
          let in_drop = subst (λ m. In m drop) (get_or_from_slice_get set at.place n 0 at.at) (member_in drop (get_or set at.place 0) member) in
          below_at args a i j (up_in p) (left_in left) (right_in right) (p.projection.below n a (in_contains drop n in_drop) read);
    }

first_of : (drop : List ℕ) → (drop ≡ [] → ⊥) → (n : ℕ) × Contains drop n
first_of [] some = absurd (some refl)
first_of (n ∷ drop) some = (n, in_contains (n ∷ drop) n (inl refl))

last_true : (rules : List RewriteRule) (pairs : List PairData) (set fs : List ℕ) (args : List Chosen) (drop : List ℕ) → Projects rules pairs set fs args drop
    → clause_true (value_of rules args drop set fs) (some_of (end_from rules 0 fs) (length set)) ≡ true
last_true rules pairs set fs args drop p =
    let v = value_of rules args drop set fs in
    let end = end_from rules 0 fs in
    let (n, has) = first_of drop p.projection.some_dropped in
    let dropped = place_of drop n has in
    let inside = p.projection.within dropped.0 n (slice_get_within drop dropped.0 n dropped.1) in
    let there = place_of set n (subst (Contains set) (get_or_from_slice_get drop dropped.0 n n dropped.1) inside) in
    let k = there.0 in
    let at = value_pair rules args drop set fs k ∙ ap (is_member drop) (get_or_from_slice_get set k n 0 there.1) ∙ in_member drop n (contains_in drop n has) in
    some_by v end (length set) k (slice_get_within set k n there.1) at

pub all_true : (rules : List RewriteRule) (pairs : List PairData) (set fs : List ℕ) (args : List Chosen) (drop : List ℕ) → Projects rules pairs set fs args drop → (cases : List Case)
    → AreCases (spots (rows_from rules 0 fs) pairs (end_from rules 0 fs) set) cases
    → AreTrue (value_of rules args drop set fs) (rows_from rules 0 fs) cases (end_from rules 0 fs) (length set)
all_true rules pairs set fs args drop p cases are =
    let v = value_of rules args drop set fs in
    record {
      chosen = one_true rules pairs set fs args drop p;
      only = only_true rules pairs set fs args drop p;
      neither = λ d c is at. let u = under_case rules pairs set fs args drop p cases are d is in neither_true v d.left d.right u.pair u.left u.right d.relation c u.relates u.decreases at;
      not_below = λ d c is at. let u = under_case rules pairs set fs args drop p cases are d is in below_true v d.left d.right d.own u.pair u.left u.right d.relation c u.relates u.drops at;
      some = last_true rules pairs set fs args drop p;
    }

pub projects_from : (rules : List RewriteRule) (pairs : List PairData) (set : List ℕ) (n : ℕ) (clauses : List (List Literal)) (args : List Chosen) (drop : List ℕ) → All (λ k. k < length pairs) set
    → (formula : IsProjections rules pairs set n clauses) → IsProjection rules pairs set args drop → Projects rules pairs set formula.symbols args drop
projects_from rules pairs set n clauses args drop within formula projection =
    let fs = formula.symbols in
    let marked = formula.marked in
    let read : (m : ℕ) → Contains set m → slice_get pairs m ≡ Some (pair_at pairs m) = λ m has.
    let at = place_of set m has in
    read_pair pairs m (subst (λ q. q < length pairs) (get_or_from_slice_get set at.0 m 0 at.1) (within at.0 0 (slice_get_within set at.0 m at.1))) in
    record {
      within = within;
      rising = marked.in_order;
      symbols = λ f is. (projection.marked.each f).1 ((marked.each f).0 (in_contains fs f is));
      listed = λ m has. (
        contains_in fs (pair_at pairs m).left_fun ((marked.each (pair_at pairs m).left_fun).1 (m, has, (pair_at pairs m, read m has, inl refl))),
        contains_in fs (pair_at pairs m).right_fun ((marked.each (pair_at pairs m).right_fun).1 (m, has, (pair_at pairs m, read m has, inr refl))),
      );
      projection = projection;
    }

pub projections_are_models : ProjectionsAreModels
projections_are_models rules pairs set n clauses args drop within formula projection =
    let fs = formula.symbols in
    let p = projects_from rules pairs set n clauses args drop within formula projection in
    let v = value_of rules args drop set fs in
    let rows = rows_from rules 0 fs in
    let end = end_from rules 0 fs in (
      v,
      solves_from v rows formula.formula.cases end (length set) clauses formula.formula.are_clauses (all_true rules pairs set fs args drop p formula.formula.cases formula.formula.are_cases),
      λ f i has less. symbol_value rules args drop set fs f i (contains_in fs f has) less,
    )
