-- What an order, and what a guess comes to: a node, or a condition that fails.
use Rattle.std.specs.Prelude.{ℕ, Bool, ◌+◌, All, length}
use Rattle.wh_system.specs.SystemView.{system_data}
use Rattle.wh_reduction_pairs.specs.TaskData.{TaskData}
use Rattle.wh_reduction_pairs.specs.TaskView.{task_data}
use Rattle.wh_reduction_pairs.specs.declared.task.Task.{Task}
use Rattle.wh_order_node.specs.Filterings.{FilteringData, AreFiltersFor, AreProperSymbols, AreProperMarks}
use Rattle.wh_cert.specs.Said.{said_order}
use Rattle.wh_poly_guesses.specs.Conditions.{Condition, IsCondition}
use Rattle.wh_find_order.specs.Answers.{IsOrder}
use Rattle.wh_order_space.specs.Space.{IsLow, Meets}
use Rattle.wh_find_order.specs.Tried.{FailsUnder, line}
use Rattle.wh_find_order.specs.Encodings.{HasNoFilter, system_in, task_in}
use Rattle.wh_find_order.specs.declared.encoding.Encoding.{Encoding}
use Rattle.wh_find_order.specs.declared.node.Weighing.{Weighing}
use Rattle.wh_find_order.specs.declared.node.Weighing.TheVariants as weighing
use Rattle.wh_find_order.specs.declared.blocking.Failing.{Failing}
use Rattle.wh_find_order.specs.declared.blocking.Failing.TheVariants as failing
use Rattle.wh_find_order.specs.declared.blocking.Looked.{Looked}
use Rattle.wh_find_order.specs.declared.blocking.Looked.TheVariants as looked

-- the order is one that is tried, but for the widths of sides: it has a proper filter for each symbol and each marked
-- symbol of the set, and a precedence below the number of these together
pub record IsTried (T : TaskData) (D : FilteringData) : Type 0 where
  pub filters : AreFiltersFor T D
  pub symbols : AreProperSymbols T.symbols D
  pub marks : AreProperMarks T.symbols T.rules D
  pub symbols_low : All (IsLow (length D.symbols + length D.marks)) D.symbols
  pub marks_low : All (λ m. IsLow (length D.symbols + length D.marks) m.filter) D.marks

-- the condition on lines with this number fails under the order
abbrev pub Fails : TaskData → FilteringData → ℕ → Type 0
Fails T D k = (c : Condition) × IsCondition T k c × (Meets T D c → ⊥)

-- a node of the order, or the number of a condition that fails
abbrev pub Weighs : Task → FilteringData → Weighing → Type 0
Weighs t D (weighing.Found node) = IsOrder (system_data t.system.now) (task_data t).pairs (task_data t).set (said_order node)
Weighs t D (weighing.Failing k) = Fails (task_data t) D k

-- the condition fails under the bits
abbrev pub HasFailed : Encoding → (ℕ → Bool) → Failing → Type 0
HasFailed e v (failing.Symbol n) = HasNoFilter e v n
HasFailed e v (failing.Line k) = (c : Condition) × IsCondition (task_in e) k c × FailsUnder (task_in e) e.marked.now v (line c)

-- a node of the order that the bits write, or a condition that fails under them
abbrev pub IsLooked : Encoding → (ℕ → Bool) → Looked → Type 0
IsLooked e v (looked.Found node) = IsOrder (system_in e) (task_in e).pairs (task_in e).set (said_order node)
IsLooked e v (looked.Failing f) = HasFailed e v f
