use Rattle.std.proofs.Common.{◌≡◌, ◌<◌, ℕ, Some, slice_get, length}
use Rattle.wh_terms.specs.Tree.{fun, head}
use Rattle.wh_terms.specs.Erase.{rewrite_rules}
use Rattle.wh_terms.specs.Rules.{RewriteRule}
use Rattle.wh_loop_steps.specs.Tables.{HasNumber}
use Rattle.wh_loop_steps.proofs.rule_table.table_of_rules.Given as goal

abbrev pub invariant-loop-number : goal.invariant-loop-number
invariant-loop-number l = (length l.table ≡ l.symbols) × ((k f : ℕ) (r : RewriteRule) → k < l.number → slice_get (rewrite_rules l.rules) k ≡ Some r → head r.left ≡ fun f → HasNumber l.table f k)
