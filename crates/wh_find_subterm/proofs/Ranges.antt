-- The variables of the formula are below their number.
use Rattle.std.proofs.Common.{◌≡◌, ℕ, ◌+◌, ◌<◌, ◌≤◌, inl, inr, cond, nat_eq, nat_lt, List, [], ◌∷◌, ◌++◌, length, get_or, sym, ap, subst, ◌∙◌, arith}
use Rattle.std.specs.List.{range_with_len}
use Rattle.std.proofs.lemmas.Bool.{cond_both}
use Rattle.std.proofs.lemmas.Option.{slice_get_within}
use Rattle.wh_terms.specs.Rules.{RewriteRule}
use Rattle.wh_pairs.specs.PairData.{PairData}
use Rattle.wh_sat_trail.specs.declared.literal.Literal.{Literal}
use Rattle.wh_sat_trail.specs.Propagation.{Within}
use Rattle.wh_subterm.specs.declared.relation.Relation.{Relation}
use Rattle.wh_subterm.specs.declared.relation.Relation.TheVariants as kind
use Rattle.wh_find_subterm.specs.declared.cases.Case.{Case}
use Rattle.wh_find_subterm.specs.Rows.{end_from, rows_from}
use Rattle.wh_find_subterm.specs.Cases.{AreCases, Spot, pair_at, spots}
use Rattle.wh_find_subterm.specs.Clauses.{for_neither, for_not_below, no, not_both, some_of, yes}
use Rattle.wh_find_subterm.specs.Formula.{IsFormula}
use Rattle.wh_find_subterm.proofs.Members.{In, in_either, in_map_from, in_range_from, place_in}
use Rattle.wh_find_subterm.proofs.Truth.{two_from}
use Rattle.wh_find_subterm.proofs.RowLemmas.{row_is, row_within}
use Rattle.wh_find_subterm.proofs.SpotLemmas.{spot_from, spot_of}
use Rattle.wh_find_subterm.proofs.Facts.{Groups, all_from}

abbrev pub Under : ℕ → List Literal → Type 0
Under m c = (l : Literal) → In l c → l.variable < m

some_under : (m first n : ℕ) → first + n ≤ m → Under m (some_of first n)
some_under m first n inside l is =
    let from = in_map_from yes (range_with_len first n) l is in
    let at = in_range_from first n from.0 from.1 in
    let variable : from.0 ≡ l.variable = ap (λ (k : Literal). k.variable) from.2 in
    let less = at.1 in
    let place = at.2 in omega (arith, variable, less, place, inside)

no_under : (m x : ℕ) → x < m → Under m (no x ∷ [])
no_under m x less l (inl here) = let variable : x ≡ l.variable = ap (λ (k : Literal). k.variable) here in omega (arith, variable, less)
no_under m x less l (inr never) = absurd never

two_under : (m x y : ℕ) → x < m → y < m → Under m (no x ∷ no y ∷ [])
two_under m x y left right l (inl here) = let variable : x ≡ l.variable = ap (λ (k : Literal). k.variable) here in omega (arith, variable, left)
two_under m x y left right l (inr later) = no_under m y right l later

both_under : (m x y : ℕ) → x < m → y < m → Under m (not_both x y)
both_under m x y left right =
    cond_both (nat_eq x y) (no x ∷ []) (cond (nat_lt x y) (no x ∷ no y ∷ []) (no y ∷ no x ∷ [])) (Under m) (λ _. no_under m x left)
    (λ _. cond_both (nat_lt x y) (no x ∷ no y ∷ []) (no y ∷ no x ∷ []) (Under m) (λ _. two_under m x y left right) (λ _. two_under m y x right left))

three_under : (m x y z : ℕ) → x < m → y < m → z < m → Under m (not_both x y ++ no z ∷ [])
three_under m x y z left right own l is = elim (in_either (not_both x y) (no z ∷ []) l is) [
  | inl both ↦ both_under m x y left right l both
  | inr last ↦ no_under m z own l last
]

neither_under : (m x y : ℕ) (r : Relation) (c : List Literal) → x < m → y < m → In c (for_neither x y r) → Under m c
neither_under m x y kind.Equal c left right at = absurd at
neither_under m x y kind.Below c left right at = absurd at
neither_under m x y kind.Neither c left right (inl here) = subst (Under m) here (both_under m x y left right)
neither_under m x y kind.Neither c left right (inr never) = absurd never

not_below_under : (m x y z : ℕ) (r : Relation) (c : List Literal) → x < m → y < m → z < m → In c (for_not_below x y z r) → Under m c
not_below_under m x y z kind.Equal c left right own (inl here) = subst (Under m) here (three_under m x y z left right own)
not_below_under m x y z kind.Equal c left right own (inr never) = absurd never
not_below_under m x y z kind.Below c left right own at = absurd at
not_below_under m x y z kind.Neither c left right own (inl here) = subst (Under m) here (three_under m x y z left right own)
not_below_under m x y z kind.Neither c left right own (inr never) = absurd never

record CaseUnder (m : ℕ) (d : Case) : Type 0 where
  left : d.left < m
  right : d.right < m
  own : d.own < m

case_under : (rules : List RewriteRule) (pairs : List PairData) (set fs : List ℕ) (cases : List Case) → AreCases (spots (rows_from rules 0 fs) pairs (end_from rules 0 fs) set) cases → (d : Case) → In d cases
    → CaseUnder (end_from rules 0 fs + length set) d
case_under rules pairs set fs cases are d is =
    let rows = rows_from rules 0 fs in
    let end = end_from rules 0 fs in
    let (s, here, case) = spot_of (spots rows pairs end set) cases d are is in
    let at = spot_from rows pairs end set s here in
    let from = at.from in
    let a = pair_at pairs at.number in
    let less_left = from.choice.left in
    let less_right = from.choice.right in
    let left_end = row_within rules 0 fs a.left_fun in
    let right_end = row_within rules 0 fs a.right_fun in
    let inside = slice_get_within set at.place at.number at.at in
    let left_is = case.left ∙ ap (λ (t : Spot). t.left) from.is in
    let right_is = case.right ∙ ap (λ (t : Spot). t.right) from.is in
    let own_is = case.own ∙ ap (λ (t : Spot). t.own) from.is in
    record { left = omega (arith, left_is, less_left, left_end); right = omega (arith, right_is, less_right, right_end); own = omega (arith, own_is, inside) }

groups_under : (rules : List RewriteRule) (pairs : List PairData) (set fs : List ℕ) (cases : List Case) → AreCases (spots (rows_from rules 0 fs) pairs (end_from rules 0 fs) set) cases
    → Groups (Under (end_from rules 0 fs + length set)) (rows_from rules 0 fs) cases (end_from rules 0 fs) (length set)
groups_under rules pairs set fs cases are =
    let m = end_from rules 0 fs + length set in
    record {
      chosen = λ r is. let row = row_is rules 0 fs r is in let inside = row.within in some_under m r.first r.need (omega (arith, inside));
      only = λ r c is at.
          let row = row_is rules 0 fs r is in
          let two = two_from r.first r.need c at in
          let inside = row.within in
          let less = two.less in
          let within = two.within in
          subst (Under m) (sym two.is) (both_under m (r.first + two.left) (r.first + two.right) (omega (arith, inside, less, within)) (omega (arith, inside, within)));
      neither = λ d c is at. let u = case_under rules pairs set fs cases are d is in neither_under m d.left d.right d.relation c u.left u.right at;
      not_below = λ d c is at. let u = case_under rules pairs set fs cases are d is in not_below_under m d.left d.right d.own d.relation c u.left u.right u.own at;
      some = some_under m (end_from rules 0 fs) (length set) (omega arith);
    }

pub formula_within : (rules : List RewriteRule) (pairs : List PairData) (set fs : List ℕ) (n : ℕ) (clauses : List (List Literal)) → IsFormula (rows_from rules 0 fs) (end_from rules 0 fs) pairs set n clauses → Within n clauses
formula_within rules pairs set fs n clauses formula k within i d inside =
    let rows = rows_from rules 0 fs in
    let end = end_from rules 0 fs in
    let m = end + length set in
    let all = all_from (Under m) rows formula.cases end (length set) (groups_under rules pairs set fs formula.cases formula.are_cases) in
    let c = get_or clauses k [] in
    let under = all c (subst (In c) formula.are_clauses (place_in clauses k [] within)) in
    subst (λ b. (get_or c i d).variable < b) (sym formula.count) (under (get_or c i d) (place_in c i d inside))
