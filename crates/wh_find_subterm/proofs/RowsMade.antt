-- What is known of the rows of some symbols, as the calls ask for it.
use Rattle.std.proofs.Common.{◌≡◌, ◌≢◌, ℕ, ◌+◌, ◌<◌, ◌≤◌, List, [], ◌∷◌, length, get_or, map, All, refl, sym, ap, subst, ◌∙◌, arith}
use Rattle.wh_terms.specs.Rules.{RewriteRule}
use Rattle.wh_pairs.specs.PairData.{PairData, IsIncreasing}
use Rattle.wh_sat_trail.specs.declared.literal.Literal.{Literal}
use Rattle.wh_pairs.specs.Marked.{AreMarked}
use Rattle.wh_find_subterm.specs.declared.rows.Row.{Row}
use Rattle.wh_find_subterm.specs.Rows.{end_from, row_of, rows_from}
use Rattle.wh_find_subterm.specs.Formula.{IsFormula, IsProjections}
use Rattle.wh_find_subterm.proofs.Members.{place_in}
use Rattle.wh_find_subterm.proofs.RowLemmas.{row_is, row_symbols, row_within}

-- what is known of the rows of some symbols
pub record AreRows (rules : List RewriteRule) (fs : List ℕ) (items : List Row) (end : ℕ) : Type 0 where
  pub items_are : items ≡ rows_from rules 0 fs
  pub end_is : end ≡ end_from rules 0 fs

pub each_within : {rules : List RewriteRule} {fs : List ℕ} {items : List Row} {end : ℕ} → AreRows rules fs items end → All (λ r. r.first + r.need ≤ end) items
each_within {rules = rules} {fs = fs} {items = items} {end = end} rows k d within =
    let all : All (λ (r : Row). r.first + r.need ≤ end_from rules 0 fs) (rows_from rules 0 fs) = λ j e inside.
    let row = row_is rules 0 fs (get_or (rows_from rules 0 fs) j e) (place_in (rows_from rules 0 fs) j e inside) in row.within in
    subst (λ m. (get_or items k d).first + (get_or items k d).need ≤ m) (sym rows.end_is) (subst (λ rs. All (λ (r : Row). r.first + r.need ≤ end_from rules 0 fs) rs) (sym rows.items_are) all k d within)

pub any_within : {rules : List RewriteRule} {fs : List ℕ} {items : List Row} {end : ℕ} → AreRows rules fs items end → (f : ℕ) → (row_of items f).first + (row_of items f).need ≤ end
any_within {rules = rules} {fs = fs} {items = items} {end = end} rows f =
    subst (λ m. (row_of items f).first + (row_of items f).need ≤ m) (sym rows.end_is)
    (subst (λ rs. (row_of rs f).first + (row_of rs f).need ≤ end_from rules 0 fs) (sym rows.items_are) (row_within rules 0 fs f))

some_long : (set : List ℕ) → set ≢ [] → 0 < length set
some_long [] some = absurd (some refl)
some_long (n ∷ set) some = omega arith

pub each_below : {rules : List RewriteRule} {fs : List ℕ} {items : List Row} {end : ℕ} (set : List ℕ) (count : ℕ) → AreRows rules fs items end → set ≢ [] → count ≡ end + length set → All (λ r. r.first + r.need < count) items
each_below set count rows some is k d within =
    let long = some_long set some in
    let inside = each_within rows k d within in omega (arith, long, inside, is)

pub symbols_rising : {rules : List RewriteRule} {fs : List ℕ} {items : List Row} {end : ℕ} → AreRows rules fs items end → IsIncreasing fs → IsIncreasing (map (λ (r : Row). r.symbol) items)
symbols_rising {rules = rules} {fs = fs} rows up = subst IsIncreasing (sym (ap (map (λ (r : Row). r.symbol)) rows.items_are ∙ row_symbols rules 0 fs)) up

abbrev pub projections_made : {rules : List RewriteRule} {fs : List ℕ} {items : List Row} {end : ℕ} (pairs : List PairData) (set : List ℕ) (n : ℕ) (clauses : List (List Literal)) → AreRows rules fs items end
    → AreMarked pairs set fs → IsFormula items end pairs set n clauses → IsProjections rules pairs set n clauses
projections_made {rules = rules} {fs = fs} {end = end} pairs set n clauses rows marked formula = record {
  symbols = fs;
  marked = marked;
  formula = subst (λ m. IsFormula (rows_from rules 0 fs) m pairs set n clauses) rows.end_is (subst (λ rs. IsFormula rs end pairs set n clauses) rows.items_are formula);
}
