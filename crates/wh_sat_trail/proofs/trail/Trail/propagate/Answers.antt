use Rattle.std.proofs.Common.{ℕ, ◌<◌, length, get_or}
use Rattle.wh_sat_trail.specs.Watch.{no_stop}
use Rattle.wh_sat_trail.proofs.Visiting.{safe_at_last}
use Rattle.wh_sat_trail.proofs.Settling.{settled_none}
use Rattle.wh_sat_trail.proofs.trail.Trail.propagate.Goals as goal

pub cut-requires-clause-settling : goal.cut-requires-clause-settling
cut-requires-clause-settling c = let n = c.close.new.self in settled_none n.formula.clauses _ n.short.items

pub cut-requires-clause-safe : goal.cut-requires-clause-safe
cut-requires-clause-safe c =
    let s = c.args.self.now in
    let n = c.close.new.self in
    let early : (j : ℕ) → j < length n.stops.items → (get_or n.stops.items j no_stop).mark < c.len-before.result =
    rw (c.close.ensures.stops, c.len-before.ensures) s.ordered.marks_in in
    rw c.last_done-done.ensures (safe_at_last n.formula.clauses n.assignment.literals.items n.stops.items n.head n.lists.items n.pairs.items n.short.items c.len-before.result early n.guarded)
