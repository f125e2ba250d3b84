-- The pairs and the rules of a task are there.
use Rattle.std.proofs.Common.{◌≡◌, ℕ, ◌<◌, length, get_or, Some, slice_get, subst}
use Rattle.std.proofs.lemmas.List.{length-map}
use Rattle.std.proofs.lemmas.Option.{slice_get-get_or}
use Rattle.wh_pairs.specs.PairData.{pair_data}
use Rattle.wh_pairs.specs.declared.pair.Pair.{Pair}
use Rattle.wh_pairs.proofs.ByPlace.{remap}
use Rattle.wh_reduction_pairs.specs.TaskData.{IsTask}
use Rattle.wh_reduction_pairs.specs.TaskView.{task_data}
use Rattle.wh_reduction_pairs.specs.declared.task.Task.{Task}

-- a number of the set is that of a pair of the list
pub pair_number : (t : Task) → IsTask (task_data t) → (i : ℕ) → i < length t.set.now → get_or t.set.now i 0 < length t.pairs.now
pair_number t is i within = subst (λ n. get_or t.set.now i 0 < n) (length-map t.pairs.now pair_data) (is.within i 0 within)

pub pair_at : (t : Task) → IsTask (task_data t) → (i : ℕ) (d : Pair) → i < length t.set.now
    → slice_get (task_data t).pairs (get_or t.set.now i 0) ≡ Some (pair_data (get_or t.pairs.now (get_or t.set.now i 0) d))
pair_at t is i d within =
    let n = get_or t.set.now i 0 in
    remap pair_data t.pairs.now n (get_or t.pairs.now n d) (slice_get-get_or t.pairs.now n d (pair_number t is i within))
