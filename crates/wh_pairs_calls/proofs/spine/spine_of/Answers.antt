use Rattle.std.proofs.Common.{reverse, ap, sym, ◌∙◌}
use Rattle.wh_terms.specs.Erase.{tm}
use Rattle.wh_pairs.specs.Spines.{spine_arguments}
use Rattle.wh_pairs_calls.specs.Views.{trees}
use Rattle.wh_pairs_calls.proofs.SpineLemmas.{head_alone, trees_end, trees-reverse}
use Rattle.wh_pairs_calls.proofs.spine.spine_of.Goals as goal

pub returns : goal.returns
returns c =
    let h = c.loop-head.head.now in record {
      head = sym (head_alone h c.in_default.not-App) ∙ c.loop-head.invariant.0;
      arguments = ap trees c.reverse.ensures.items ∙ trees-reverse c.loop-head.arguments.items
          ∙ sym (trees_end h (spine_arguments (tm c.args.term.now)) (reverse (trees c.loop-head.arguments.items)) c.in_default.not-App c.loop-head.invariant.1);
    }
