-- There are fewer arguments behind the first one.
use Rattle.std.proofs.Common.{length}
use Rattle.wh_loop_starts.proofs.start.+function_type.Given as goal

abbrev pub decreases-function_type : goal.decreases-function_type
decreases-function_type l = length l.arguments.now
