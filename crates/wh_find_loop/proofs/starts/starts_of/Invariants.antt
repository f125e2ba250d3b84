use Rattle.std.proofs.Common.{◌≡◌, ℕ, Some, slice_get, length}
use Rattle.wh_terms.specs.Erase.{tm}
use Rattle.wh_terms.specs.Typing.{WellTyped}
use Rattle.wh_terms.specs.declared.term.Term.{Term}
use Rattle.wh_system.specs.SystemView.{system_data}
use Rattle.wh_loop_starts.specs.Starts.{IsStart}
use Rattle.wh_find_loop.proofs.starts.starts_of.Given as goal

abbrev pub invariant-loop-number : goal.invariant-loop-number
invariant-loop-number l = (length l.starts.items ≡ l.number) × ((n : ℕ) (t : Term) → slice_get l.starts.items n ≡ Some t → IsStart (system_data l.system).rules n (tm t) × WellTyped (system_data l.system).symbols (tm t))
