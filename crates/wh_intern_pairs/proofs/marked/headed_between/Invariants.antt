use Rattle.std.proofs.Common.{ℕ, ◌≤◌, ◌<◌, map}
use Rattle.wh_intern_pairs.specs.Headed.{HeadsAt}
use Rattle.wh_intern_pairs.specs.SidesAsPairs.{heads_of}
use Rattle.wh_intern_pairs.proofs.marked.headed_between.Given as goal

abbrev pub invariant-loop-place : goal.invariant-loop-place
invariant-loop-place l = (k : ℕ) → l.from ≤ k → k < l.place → HeadsAt (map heads_of l.sides) l.set l.symbol k → ⊥
