use Rattle.std.proofs.Common.{List, take}
use Rattle.wh_sat_trail.specs.declared.literal.Literal.{Literal}
use Rattle.wh_refute.specs.Told.{Scanned, Tells}
use Rattle.wh_refute.proofs.look.look_at.Given as goal

abbrev pub invariant-loop-literal : goal.invariant-loop-literal
invariant-loop-literal l = (t : List Literal) → Tells l.variables l.truth t → Scanned t (take l.literal-index l.clause) l.left
