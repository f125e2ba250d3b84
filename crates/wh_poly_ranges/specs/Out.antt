-- Ranges of coefficients in which no readings let a pair go, and cuts of ranges by which no such readings are lost.
use Rattle.std.specs.Prelude.{ℕ, ◌≡◌, Bool, false, true, List, Some, length, slice_get, Contains}
use Rattle.wh_terms.specs.Rules.{RewriteRule}
use Rattle.wh_pairs.specs.PairData.{PairData}
use Rattle.wh_reduction_pairs.specs.TaskData.{TaskData}
use Rattle.wh_reduction_pairs.specs.TaskView.{task_data}
use Rattle.wh_reduction_pairs.specs.declared.task.Task.{Task}
use Rattle.wh_polycheck.specs.Readings.{ReadingsData}
use Rattle.wh_polycheck.specs.Covering.{rule_run, pair_run}
use Rattle.wh_poly_growth.specs.Refuted.{IsRefuted}
use Rattle.wh_poly_ranges.specs.Excluded.{IsExcluded, AreKept}
use Rattle.wh_poly_ranges.specs.Bounds.{lists_in, lists_of}
use Rattle.wh_poly_ranges.specs.declared.bounds.Ranges.{Ranges}
use Rattle.wh_poly_ranges.specs.declared.bounds.Span.{Span}

-- no readings with coefficients in the ranges cover all, and the pair with this place in the set strictly
abbrev pub IsOut : Task → ℕ → Ranges → Type 0
IsOut t strict r = IsExcluded (task_data t) strict (lists_of r.low) (lists_of r.high)

-- no readings with coefficients in the ranges cover all, and the pair with this place strictly; the ranges are told by
-- their ends alone
abbrev pub IsSpanOut : Task → ℕ → Span → Type 0
IsSpanOut t strict s = IsExcluded (task_data t) strict (lists_in s.low.items) (lists_in s.high.items)

-- each of the ranges is out
abbrev pub AllOut : Task → ℕ → List Span → Type 0
AllOut t strict spans = (s : Span) → Contains spans s → IsSpanOut t strict s

-- all of those in the first ranges are in the second ones
abbrev pub KeepsAll : Task → ℕ → Ranges → Ranges → Type 0
KeepsAll t strict old new = AreKept (task_data t) strict (lists_of old.low) (lists_of old.high) (lists_of new.low) (lists_of new.high)

-- by numbers the left side of the rule under the upper readings is too small for its right side under the lower ones
abbrev pub IsRuleOut : ReadingsData → ReadingsData → RewriteRule → Type 0
IsRuleOut low high r = IsRefuted (length r.metas) (rule_run high r false).result (rule_run low r true).result false

-- by numbers the left side of the pair with this place in the set, under the upper readings, is too small for its right
-- side under the lower ones
abbrev pub IsPairOut : TaskData → ReadingsData → ReadingsData → ℕ → Bool → Type 0
IsPairOut T low high place strict =
    (n : ℕ) × (p : PairData) × (slice_get T.set place ≡ Some n) × (slice_get T.pairs n ≡ Some p)
    × IsRefuted (length p.metas) (pair_run T.symbols T.rules high p false).result (pair_run T.symbols T.rules low p true).result strict
