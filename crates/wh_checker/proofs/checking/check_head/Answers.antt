use Rattle.std.proofs.Common.{◌≡◌, ◌<◌, List, length, ap, sym, subst, ◌∙◌}
use Rattle.std.proofs.lemmas.List.{length-map}
use Rattle.wh_system.specs.SystemView.{system_data}
use Rattle.wh_pairs.specs.PairData.{pair_data}
use Rattle.wh_pairs.specs.declared.pair.Pair.{Pair}
use Rattle.wh_pairs.specs.Views.{pairs_data}
use Rattle.wh_pairs.specs.Sets.{IsSetOf}
use Rattle.wh_cert.specs.Written.{Node}
use Rattle.wh_polycheck.specs.Small.{with_limits}
use Rattle.wh_checker.specs.Faults.{IsFirstYesFault, pair_count}
use Rattle.wh_checker.specs.declared.rejected.CheckFault.TheVariants as check
use Rattle.wh_checker.specs.declared.rejected.Rejected.TheVariants.{PairCount}
use Rattle.wh_checker.proofs.YesLemmas.{or_passed, HasRankFault, rank_fault}
use Rattle.wh_checker.proofs.checking.check_head.Goals as goal

pub returns-in_err-check_passing : goal.returns-in_err-check_passing
returns-in_err-check_passing c =
    let d = system_data c.args.system.now in
    let ps = pairs_data c.args.pairs.now in
    let ranks = c.args.ranks.now in
    or_passed c.from_residual.result c.in_err-check_passing.field-0.0 _ _ (HasRankFault d ranks)
    (λ f. (lines : List Node) → IsFirstYesFault with_limits d ps ranks c.args.count lines f) c.from_residual.ensures.1
    c.in_err-check_passing.ensures (λ f fault lines. rank_fault d ps ranks c.args.count lines f fault)

pub returns-then-count-number : goal.returns-then-count-number
returns-then-count-number c = λ lines.
    let d = system_data c.args.system.now in
    let ps = pairs_data c.args.pairs.now in
    let passing = c.in_ok-check_passing.ensures in
    let count : length c.as_slice.result.now ≡ length ps = ap (λ (l : List Pair). length l) c.as_slice.ensures
    ∙ sym (length-map c.args.pairs.now pair_data) in
    subst (λ n. IsFirstYesFault with_limits d ps c.args.ranks.now c.args.count lines (check.Rejected (PairCount n))) (sym count)
    (pair_count passing.0 passing.1 (λ same. c.if-count-number.true (same ∙ sym count)))

pub returns : goal.returns
returns c =
    let count : length c.as_slice.result.now ≡ length (pairs_data c.args.pairs.now) = ap (λ (l : List Pair). length l) c.as_slice.ensures
    ∙ sym (length-map c.args.pairs.now pair_data) in
    record {
      passing = c.in_ok-check_passing.ensures;
      count = c.if-count-number.false ∙ count;
      whole = subst (λ n. IsSetOf (λ m. m < n) c.in_ok-whole.whole) count c.in_ok-whole.ensures;
    }
