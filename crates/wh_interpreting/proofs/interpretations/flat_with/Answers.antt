use Rattle.std.proofs.Common.{◌<◌, ◌+◌, ℕ, List, length, subst}
use Rattle.wh_system.specs.SystemView.{system_data}
use Rattle.wh_pairs.specs.Views.{pairs_data}
use Rattle.wh_interpreting.specs.Lists.{most_covered}
use Rattle.wh_interpreting.proofs.InterpretedLemmas.{too_long_list, not_flat_list}
use Rattle.wh_interpreting.proofs.interpretations.flat_with.Goals as goal

pub returns-then-not-is_short : goal.returns-then-not-is_short
returns-then-not-is_short c =
    let long = c.is_short.ensures c.if-not-is_short.true in
    let over_set = subst (λ (l : List ℕ). most_covered < length c.as_slice.result.now + length l) c.as_slice-2.ensures.numbers long in
    too_long_list (system_data c.args.system.now) (pairs_data c.args.pairs.now) c.args.set.now c.args.listed c.requires.least
    (subst (λ (l : List ℕ). most_covered < length l + length c.args.set.now) c.as_slice.ensures over_set)

pub returns-else-branch : goal.returns-else-branch
returns-else-branch c =
    not_flat_list (system_data c.args.system.now) (pairs_data c.args.pairs.now) c.args.set.now c.args.listed c.in_ok-is_flat.field-0 c.requires.least
    c.in_ok-is_flat.ensures c.if-branch.false
