-- A walk of one step more than the bound would be no longer than the bound.
use Rattle.std.proofs.Common.{◌+◌, ◌≤◌, length, arith}
use Rattle.wh_step.proofs.bounded_or_unbounded.Goals as goal

pub returns : goal.returns
returns c rules t (n, within) unbounded =
    let found = unbounded (n + 1) in
    let short : length found.0 ≤ n = within found.0 found.1 in
    let long = found.2 in
    absurd (omega arith)
